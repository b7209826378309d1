use Rattle.std.proofs.Common.{◌≡◌, Bool, None, Some, find, is_some, sym, ap, subst, ◌∙◌}
use Rattle.std.specs.Str.{bytes_eq}
use Rattle.kg_row_types.specs.Lookups.{is_text}
use Rattle.kg_tables.specs.KeyIndexes.{IsIndex, holder_of}
use Rattle.kg_tables.proofs.TableLemmas.{is_some-find, not_replaced}
use Rattle.kg_tables.proofs.KeyIndexLemmas.{forgotten_alike, has_id, index_replaced, index_same, noted_alike}
use Rattle.kg_tables.proofs.named_table.NamedTable.replace.Goals as goal

-- no row has the id
pub invariant_of-self-in_default : goal.invariant_of-self-in_default
invariant_of-self-in_default g c =
    let number = g.T.Row.number in
    let rows = c.self.inside.table in
    let test : g.row.T.Denot → Bool = has_id number (number c.args.row) in
    let none : find test rows ≡ None = sym c.in_ok-old.ensures.old ∙ c.in_default.is in
    let same : rows ≡ c.replace.new.self = not_replaced number c.args.row test rows (sym (is_some-find number test rows) ∙ ap is_some none) ∙ sym c.in_ok-old.ensures.ok in (
      subst (IsIndex number (λ text row. is_text text (g.T.Named.name row)) (holder_of bytes_eq c.texts_for.new.names)) same (index_same number (λ text row. is_text text (g.T.Named.name row)) (holder_of bytes_eq c.self.inside.names) (holder_of bytes_eq c.texts_for.new.names) rows c.texts_for.ensures.names c.self.invariant.0),
      subst (IsIndex number (λ text row. is_text text (g.T.Named.alias row)) (holder_of bytes_eq c.texts_for.new.aliases)) same (index_same number (λ text row. is_text text (g.T.Named.alias row)) (holder_of bytes_eq c.self.inside.aliases) (holder_of bytes_eq c.texts_for.new.aliases) rows c.texts_for.ensures.aliases c.self.invariant.1),
    )

-- the row's texts take the place of those of the row with its id
pub invariant_of-self-2 : goal.invariant_of-self-2
invariant_of-self-2 g c =
    let number = g.T.Row.number in
    let row = c.args.row in
    let old = c.in-Some.old in
    let rows = c.self.inside.table in
    let found : find (has_id number (number row)) rows ≡ Some old = sym c.in_ok-old.ensures.old ∙ c.in-Some.is in (
      subst (IsIndex number (λ text row. is_text text (g.T.Named.name row)) (holder_of bytes_eq c.exchange.new.self)) (sym c.in_ok-old.ensures.ok)
          (index_replaced number (λ text row. is_text text (g.T.Named.name row)) (holder_of bytes_eq c.self.inside.names) (holder_of bytes_eq c.exchange.new.self) old row rows
          (λ text. c.exchange.ensures text ∙ noted_alike bytes_eq text c.in_ok-texts.ensures.texts.0 c.id-id.ensures
          (forgotten_alike bytes_eq text c.name.ensures c.id-id.ensures (c.texts_for.ensures.names text)))
          found c.ids_differ.ensures c.self.invariant.0),
      subst (IsIndex number (λ text row. is_text text (g.T.Named.alias row)) (holder_of bytes_eq c.exchange-2.new.self)) (sym c.in_ok-old.ensures.ok)
          (index_replaced number (λ text row. is_text text (g.T.Named.alias row)) (holder_of bytes_eq c.self.inside.aliases) (holder_of bytes_eq c.exchange-2.new.self) old row rows
          (λ text. c.exchange-2.ensures text ∙ noted_alike bytes_eq text c.in_ok-texts.ensures.texts.1 c.id-id.ensures
          (forgotten_alike bytes_eq text c.alias.ensures c.id-id.ensures (c.texts_for.ensures.aliases text)))
          found c.ids_differ.ensures c.self.invariant.1),
    )
