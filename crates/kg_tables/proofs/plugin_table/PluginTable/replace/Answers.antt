use Rattle.std.proofs.Common.{◌≡◌, ℕ, None, Some, find, is_some, refl, sym, ap, subst, ◌∙◌}
use Rattle.kg_row_types.specs.declared.plugin.PluginRow.{PluginRow}
use Rattle.kg_tables.specs.KeyIndexes.{IsIndex, holder_of}
use Rattle.kg_tables.specs.PluginKeys.{has_key, key_eq, key_of}
use Rattle.kg_tables.proofs.TableLemmas.{is_some-find, not_replaced}
use Rattle.kg_tables.proofs.KeyIndexLemmas.{forgotten_alike, has_id, index_replaced, index_same, noted_alike}
use Rattle.kg_tables.proofs.plugin_table.PluginTable.replace.Goals as goal

abbrev number : PluginRow → ℕ
number row = row.id

-- nothing is noted yet
pub invariant_of-self : goal.invariant_of-self
invariant_of-self c = index_same number has_key (holder_of key_eq c.self.inside.keys) (holder_of key_eq c.reserve.new.self) c.self.inside.table c.reserve.ensures.same c.self.invariant

pub invariant_of-self-in_err-old : goal.invariant_of-self-in_err-old
invariant_of-self-in_err-old c =
    subst (IsIndex number has_key (holder_of key_eq c.reserve.new.self)) (sym c.in_err-old.ensures.err)
    (index_same number has_key (holder_of key_eq c.self.inside.keys) (holder_of key_eq c.reserve.new.self) c.self.inside.table c.reserve.ensures.same c.self.invariant)

-- no plugin has the id
pub invariant_of-self-in_default-2 : goal.invariant_of-self-in_default-2
invariant_of-self-in_default-2 c =
    let rows = c.self.inside.table in
    let test = has_id number c.args.plugin.id in
    let none : find test rows ≡ None = sym c.in_ok-old.ensures.old ∙ c.in_default-2.is in
    let same : rows ≡ c.replace.new.self = not_replaced number c.args.plugin test rows (sym (is_some-find number test rows) ∙ ap is_some none) ∙ sym c.in_ok-old.ensures.ok in
    subst (IsIndex number has_key (holder_of key_eq c.reserve.new.self)) same
    (index_same number has_key (holder_of key_eq c.self.inside.keys) (holder_of key_eq c.reserve.new.self) rows c.reserve.ensures.same c.self.invariant)

-- the plugin's key takes the place of that of the plugin with its id
pub invariant_of-self-2 : goal.invariant_of-self-2
invariant_of-self-2 c =
    let rows = c.self.inside.table in
    let found : find (has_id number c.args.plugin.id) rows ≡ Some c.in-Some.old = sym c.in_ok-old.ensures.old ∙ c.in-Some.is in
    subst (IsIndex number has_key (holder_of key_eq c.exchange.new.self)) (sym c.in_ok-old.ensures.ok)
    (index_replaced number has_key (holder_of key_eq c.self.inside.keys) (holder_of key_eq c.exchange.new.self) c.in-Some.old c.args.plugin rows
    (λ key. c.exchange.ensures key ∙ noted_alike key_eq key {set = Some c.key_of-key.result} {other = Some (key_of c.args.plugin)} (ap Some c.key_of-key.ensures) refl
    (forgotten_alike key_eq key {set = Some c.key_of.result} {other = Some (key_of c.in-Some.old)} (ap Some c.key_of.ensures) refl (c.reserve.ensures.same key)))
    found c.ids_differ.ensures c.self.invariant)
