use Rattle.std.proofs.Common.{Some, find, ◌&&◌, option_copied, sym, ap, ◌∙◌}
use Rattle.std.specs.Str.{bytes_eq}
use Rattle.kg_row_types.specs.Lookups.{is_text}
use Rattle.kg_tables.specs.Others.{is_other}
use Rattle.kg_tables.specs.KeyIndexes.{holder_of}
use Rattle.kg_tables.proofs.KeyIndexLemmas.{other_none, other_only}
use Rattle.kg_tables.proofs.named_table.NamedTable.other_with_alias.Goals as goal

-- no row has the text
pub returns-in_err-id : goal.returns-in_err-id
returns-in_err-id g c =
    ap option_copied c.from_residual.ensures
    ∙ sym (other_none g.T.Row.number (λ text row. is_text text (g.T.Named.alias row)) (holder_of bytes_eq c.self.inside.aliases) c.args.text.now c.args.except c.self.inside.table c.self.invariant.1 (sym c.holder.ensures ∙ c.in_err-id.was))
    ∙ ap (find (λ row. is_other c.args.except (g.T.Row.number row) && is_text c.args.text.now (g.T.Named.alias row))) c.self.view_is

-- one row has it
pub returns-in-Only : goal.returns-in-Only
returns-in-Only g c =
    c.other.ensures
    ∙ other_only g.T.Row.number (λ text row. is_text text (g.T.Named.alias row)) (holder_of bytes_eq c.self.inside.aliases) c.args.text.now c.args.except c.in-Only.id c.self.inside.table c.self.invariant.1
    (sym c.holder.ensures ∙ c.in_ok-id.was ∙ ap Some c.in-Only.is)
    ∙ ap (find (λ row. is_other c.args.except (g.T.Row.number row) && is_text c.args.text.now (g.T.Named.alias row))) c.self.view_is
