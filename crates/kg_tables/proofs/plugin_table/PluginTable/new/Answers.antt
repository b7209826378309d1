use Rattle.std.proofs.Common.{sym, subst}
use Rattle.kg_tables.specs.KeyIndexes.{IsIndex, holder_of}
use Rattle.kg_tables.specs.PluginKeys.{has_key, key_eq}
use Rattle.kg_tables.proofs.KeyIndexLemmas.{index_new}
use Rattle.kg_tables.proofs.plugin_table.PluginTable.new.Goals as goal

-- no plugin, no key
pub invariant_of-result : goal.invariant_of-result
invariant_of-result c =
    subst (IsIndex (λ row. row.id) has_key (holder_of key_eq c.new-2.result)) (sym c.new.ensures) (index_new (λ row. row.id) has_key (holder_of key_eq c.new-2.result) c.new-2.ensures)
