use Rattle.std.proofs.Common.{◌≡◌, ℕ, None, Some, find, is_some, sym, ap, subst, ◌∙◌}
use Rattle.kg_row_types.specs.declared.plugin.PluginRow.{PluginRow}
use Rattle.kg_tables.specs.KeyIndexes.{IsIndex, forgotten, holder_of, is_key}
use Rattle.kg_tables.specs.PluginKeys.{has_key, key_eq}
use Rattle.kg_tables.proofs.TableLemmas.{is_some-find}
use Rattle.kg_tables.proofs.KeyIndexLemmas.{all_left, has_id, index_removed}
use Rattle.kg_tables.proofs.plugin_table.PluginTable.remove.Goals as goal

abbrev number : PluginRow → ℕ
number row = row.id

-- no plugin has the id
pub invariant_of-self : goal.invariant_of-self
invariant_of-self c =
    let rows = c.self.inside.table in
    let none : find (has_id number c.args.id) rows ≡ None = sym c.remove.ensures.old ∙ c.in_default.is in
    let same : rows ≡ c.remove.new.self = all_left number c.args.id rows (sym (is_some-find number (has_id number c.args.id) rows) ∙ ap is_some none) ∙ sym c.remove.ensures.left in
    subst (IsIndex number has_key (holder_of key_eq c.self.inside.keys)) same c.self.invariant

-- the plugin's key goes with it
pub invariant_of-self-2 : goal.invariant_of-self-2
invariant_of-self-2 c =
    let old = c.in-Some.old in
    let rows = c.self.inside.table in
    let found : find (has_id number c.args.id) rows ≡ Some old = sym c.remove.ensures.old ∙ c.in-Some.is in
    index_removed number has_key (holder_of key_eq c.self.inside.keys) (holder_of key_eq c.forget.new.self) old c.args.id rows c.remove.new.self c.remove.ensures.left
    (λ key. c.forget.ensures.holders key ∙ ap (λ set. forgotten (is_key key_eq key (Some set)) c.args.id (holder_of key_eq c.self.inside.keys key)) c.key_of.ensures) found c.self.invariant
