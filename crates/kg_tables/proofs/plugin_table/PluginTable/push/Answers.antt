use Rattle.std.proofs.Common.{Some, ℕ, nat_eq, refl, sym, ap, subst, ◌∙◌}
use Rattle.std.specs.List.{list_any}
use Rattle.kg_row_types.specs.declared.plugin.PluginRow.{PluginRow}
use Rattle.kg_tables.specs.KeyIndexes.{IsIndex, holder_of}
use Rattle.kg_tables.specs.PluginKeys.{has_key, key_eq, key_of}
use Rattle.kg_tables.proofs.KeyIndexLemmas.{index_push, index_same, noted_alike}
use Rattle.kg_tables.proofs.plugin_table.PluginTable.push.Goals as goal

abbrev number : PluginRow → ℕ
number row = row.id

-- nothing is noted yet
pub invariant_of-self : goal.invariant_of-self
invariant_of-self c = index_same number has_key (holder_of key_eq c.self.inside.keys) (holder_of key_eq c.reserve.new.self) c.self.inside.table c.reserve.ensures.same c.self.invariant

pub invariant_of-self-in_err-push : goal.invariant_of-self-in_err-push
invariant_of-self-in_err-push c =
    subst (IsIndex number has_key (holder_of key_eq c.reserve.new.self)) (sym c.in_err-push.ensures.err)
    (index_same number has_key (holder_of key_eq c.self.inside.keys) (holder_of key_eq c.reserve.new.self) c.self.inside.table c.reserve.ensures.same c.self.invariant)

-- the new plugin's key is noted, and its id is new
pub invariant_of-self-2 : goal.invariant_of-self-2
invariant_of-self-2 c =
    subst (IsIndex number has_key (holder_of key_eq c.note.new.self)) (sym c.in_ok-push.ensures.ok)
    (index_push number has_key (holder_of key_eq c.self.inside.keys) (holder_of key_eq c.note.new.self) c.args.plugin c.self.inside.table
    (λ key. c.note.ensures key ∙ noted_alike key_eq key {set = Some c.key_of-key.result} {other = Some (key_of c.args.plugin)} (ap Some c.key_of-key.ensures) refl (c.reserve.ensures.same key))
    (ap (list_any (λ other. nat_eq other.id c.args.plugin.id)) c.self.view_is ∙ c.requires.new) c.self.invariant)
