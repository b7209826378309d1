use Rattle.std.proofs.Common.{Bool, filter, ap, ◌∙◌}
use Rattle.kg_tables.proofs.ListedLemmas.{listed_rows, none_listed}
use Rattle.kg_tables.specs.PlaceIndexes.{listed_in}
use Rattle.kg_tables.specs.References.{refers}
use Rattle.kg_tables.proofs.table.RowTable.of.Goals as goal

-- no row of the kind is named
pub returns-in_default : goal.returns-in_default
returns-in_default g c =
    let test : g.row.T.Denot → Bool = λ row. refers c.args.kind c.args.id (g.T.Row.references row) in
    none_listed test c.self.inside.rows.entries (listed_in c.self.inside.listing c.args.kind c.args.id) c.in_default.ensures.none (c.self.invariant.listed c.args.kind c.args.id)
    ∙ ap (filter test) c.self.view_is

-- the rows at the listed places are those that name it
pub returns : goal.returns
returns g c =
    let test : g.row.T.Denot → Bool = λ row. refers c.args.kind c.args.id (g.T.Row.references row) in
    listed_rows test c.self.inside.rows.entries (listed_in c.self.inside.listing c.args.kind c.args.id) c.self.inside.next c.in-Some.pairs
    c.self.invariant.order c.self.invariant.before (c.self.invariant.listed c.args.kind c.args.id) c.in-Some.ensures.some
    ∙ ap (filter test) c.self.view_is
