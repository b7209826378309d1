use Rattle.std.proofs.Common.{ℕ, Some, find, ◌&&◌, option_copied, sym, ap, ◌∙◌}
use Rattle.kg_row_types.specs.ValidRows.{same_name_and_scope}
use Rattle.kg_row_types.specs.declared.plugin.PluginRow.{PluginRow}
use Rattle.kg_tables.specs.Others.{is_other}
use Rattle.kg_tables.specs.KeyIndexes.{holder_of}
use Rattle.kg_tables.specs.PluginKeys.{has_key, key_eq, key_of}
use Rattle.kg_tables.proofs.KeyIndexLemmas.{other_none, other_only}
use Rattle.kg_tables.proofs.PluginKeyLemmas.{same_keys}
use Rattle.kg_tables.proofs.plugin_table.PluginTable.other_like.Goals as goal

abbrev number : PluginRow → ℕ
number row = row.id

-- no plugin has the key
pub returns-in_err-id : goal.returns-in_err-id
returns-in_err-id c =
    ap option_copied c.from_residual.ensures
    ∙ sym (other_none number has_key (holder_of key_eq c.self.inside.keys) (key_of c.args.plugin.now) c.args.except c.self.inside.table c.self.invariant
    (ap (holder_of key_eq c.self.inside.keys) (sym c.key_of.ensures) ∙ sym c.holder.ensures ∙ c.in_err-id.was))
    ∙ (λ i. find (λ row. is_other c.args.except row.id && same_keys row c.args.plugin.now i) c.self.inside.table)
    ∙ ap (find (λ row. is_other c.args.except row.id && same_name_and_scope row c.args.plugin.now)) c.self.view_is

-- one plugin has it
pub returns-in-Only : goal.returns-in-Only
returns-in-Only c =
    c.other.ensures
    ∙ other_only number has_key (holder_of key_eq c.self.inside.keys) (key_of c.args.plugin.now) c.args.except c.in-Only.id c.self.inside.table c.self.invariant
    (ap (holder_of key_eq c.self.inside.keys) (sym c.key_of.ensures) ∙ sym c.holder.ensures ∙ c.in_ok-id.was ∙ ap Some c.in-Only.is)
    ∙ (λ i. find (λ row. is_other c.args.except row.id && same_keys row c.args.plugin.now i) c.self.inside.table)
    ∙ ap (find (λ row. is_other c.args.except row.id && same_name_and_scope row c.args.plugin.now)) c.self.view_is
