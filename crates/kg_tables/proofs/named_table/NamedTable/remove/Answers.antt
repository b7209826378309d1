use Rattle.std.proofs.Common.{◌≡◌, Bool, None, Some, find, is_some, sym, ap, subst, ◌∙◌}
use Rattle.kg_row_types.specs.Lookups.{is_text}
use Rattle.std.specs.Str.{bytes_eq}
use Rattle.kg_tables.specs.KeyIndexes.{IsIndex, forgotten, holder_of}
use Rattle.kg_tables.proofs.TableLemmas.{is_some-find}
use Rattle.kg_tables.proofs.KeyIndexLemmas.{all_left, has_id, index_removed}
use Rattle.kg_tables.proofs.named_table.NamedTable.remove.Goals as goal

-- no row has the id
pub invariant_of-self : goal.invariant_of-self
invariant_of-self g c =
    let number = g.T.Row.number in
    let rows = c.self.inside.table in
    let test : g.row.T.Denot → Bool = has_id number c.args.id in
    let none : find test rows ≡ None = sym c.remove.ensures.old ∙ c.in_default.is in
    let same : rows ≡ c.remove.new.self = all_left number c.args.id rows (sym (is_some-find number test rows) ∙ ap is_some none) ∙ sym c.remove.ensures.left in (
      subst (IsIndex number (λ text row. is_text text (g.T.Named.name row)) (holder_of bytes_eq c.self.inside.names)) same c.self.invariant.0,
      subst (IsIndex number (λ text row. is_text text (g.T.Named.alias row)) (holder_of bytes_eq c.self.inside.aliases)) same c.self.invariant.1,
    )

-- the row's texts go with it
pub invariant_of-self-2 : goal.invariant_of-self-2
invariant_of-self-2 g c =
    let number = g.T.Row.number in
    let old = c.in-Some.old in
    let rows = c.self.inside.table in
    let left = c.remove.new.self in
    let found : find (has_id number c.args.id) rows ≡ Some old = sym c.remove.ensures.old ∙ c.in-Some.is in (
      index_removed number (λ text row. is_text text (g.T.Named.name row)) (holder_of bytes_eq c.self.inside.names) (holder_of bytes_eq c.forget.new.self) old c.args.id rows left c.remove.ensures.left
          (λ text. c.forget.ensures.holders text ∙ ap (λ set. forgotten (is_text text set) c.args.id (holder_of bytes_eq c.self.inside.names text)) c.name.ensures) found c.self.invariant.0,
      index_removed number (λ text row. is_text text (g.T.Named.alias row)) (holder_of bytes_eq c.self.inside.aliases) (holder_of bytes_eq c.forget-2.new.self) old c.args.id rows left c.remove.ensures.left
          (λ text. c.forget-2.ensures.holders text ∙ ap (λ set. forgotten (is_text text set) c.args.id (holder_of bytes_eq c.self.inside.aliases text)) c.alias.ensures) found c.self.invariant.1,
    )
