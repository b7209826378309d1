use Rattle.std.proofs.Common.{nat_eq, sym, ap, subst, ◌∙◌}
use Rattle.std.specs.List.{list_any}
use Rattle.std.specs.Str.{bytes_eq}
use Rattle.kg_row_types.specs.Lookups.{is_text}
use Rattle.kg_tables.specs.KeyIndexes.{IsIndex, holder_of}
use Rattle.kg_tables.proofs.KeyIndexLemmas.{index_push, noted_alike}
use Rattle.kg_tables.proofs.named_table.NamedTable.push.Goals as goal

-- the new row's texts are noted, and its id is new
pub invariant_of-self-2 : goal.invariant_of-self-2
invariant_of-self-2 g c =
    let number = g.T.Row.number in
    let row = c.args.row in
    let rows = c.self.inside.table in
    let free = ap (list_any (λ other. nat_eq (number other) (number row))) c.self.view_is ∙ c.requires.new in (
      subst (IsIndex number (λ text row. is_text text (g.T.Named.name row)) (holder_of bytes_eq c.note.new.self)) (sym c.in_ok-push.ensures.ok)
          (index_push number (λ text row. is_text text (g.T.Named.name row)) (holder_of bytes_eq c.self.inside.names) (holder_of bytes_eq c.note.new.self) row rows
          (λ text. c.note.ensures text ∙ noted_alike bytes_eq text c.in_ok-texts.ensures.texts.0 c.id-id.ensures (c.texts_for.ensures.names text))
          free c.self.invariant.0),
      subst (IsIndex number (λ text row. is_text text (g.T.Named.alias row)) (holder_of bytes_eq c.note-2.new.self)) (sym c.in_ok-push.ensures.ok)
          (index_push number (λ text row. is_text text (g.T.Named.alias row)) (holder_of bytes_eq c.self.inside.aliases) (holder_of bytes_eq c.note-2.new.self) row rows
          (λ text. c.note-2.ensures text ∙ noted_alike bytes_eq text c.in_ok-texts.ensures.texts.1 c.id-id.ensures (c.texts_for.ensures.aliases text))
          free c.self.invariant.1),
    )
