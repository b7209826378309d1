use Rattle.std.proofs.Common.{◌<◌, Bool, filter, length, not, nat_eq, option_copied, sym, ap, subst, ◌∙◌}
use Rattle.kg_tables.proofs.FirstLemmas.{all_stay, one_fewer, one_gone}
use Rattle.kg_tables.specs.References.{refers}
use Rattle.kg_tables.proofs.table.RowTable.first_id_of.Goals as goal

-- no other row goes with the first
pub returns-in-Some-clause-one : goal.returns-in-Some-clause-one
returns-in-Some-clause-one g c =
    let test : g.row.T.Denot → Bool = λ row. refers c.args.kind c.args.id (g.T.Row.references row) in
    ap (λ id. filter (λ row. not (test row)) (filter (λ row. not (nat_eq (g.T.Row.number row) id)) c.args.self.now)) c.id.ensures
    ∙ one_gone g.T.Row.number test c.in-Some.row.now c.args.self.now c.ids_differ.ensures (sym c.first_of.ensures ∙ ap option_copied c.in-Some.is)

pub returns-in-Some-clause-fewer : goal.returns-in-Some-clause-fewer
returns-in-Some-clause-fewer g c =
    let test : g.row.T.Denot → Bool = λ row. refers c.args.kind c.args.id (g.T.Row.references row) in
    subst (λ id. length (filter (λ row. not (nat_eq (g.T.Row.number row) id)) c.args.self.now) < length c.args.self.now) (sym c.id.ensures)
    (one_fewer g.T.Row.number test c.in-Some.row.now c.args.self.now (sym c.first_of.ensures ∙ ap option_copied c.in-Some.is))

pub returns-in-None-clause-none : goal.returns-in-None-clause-none
returns-in-None-clause-none g c =
    let test : g.row.T.Denot → Bool = λ row. refers c.args.kind c.args.id (g.T.Row.references row) in
    all_stay test c.args.self.now (sym c.first_of.ensures ∙ ap option_copied c.in-None.is)
