-- Plugins have one key where they have one name and scope.
use Rattle.std.proofs.Common.{◌≡◌, ℕ, Bool, true, false, ◌&&◌, nat_eq, Option, Some, None, find, unwrap_or, refl, sym, ap, ◌∙◌}
use Rattle.std.proofs.lemmas.Bool.{eqb-true}
use Rattle.std.specs.Cmp.{both_ways}
use Rattle.std.specs.Option.{option_eq}
use Rattle.kg_text.specs.SameBytes.{same_bytes}
use Rattle.kg_row_types.specs.PluginNames.{plugin_named, plugin_of, plugin_text, plugins_in_order, priority, same_plugin}
use Rattle.kg_row_types.specs.ValidRows.{same_id, same_name_and_scope}
use Rattle.kg_row_types.specs.declared.plugin.PluginName.{PluginName}
use Rattle.kg_row_types.specs.declared.plugin.PluginName.TheVariants.{Cors, KeyAuth, BasicAuth, IpRestriction, RequestSizeLimiting, Acl, RateLimiting, RequestTransformer, ResponseTransformer, RequestTermination}
use Rattle.kg_row_types.specs.declared.plugin.PluginRow.{PluginRow}
use Rattle.kg_tables.proofs.KeyIndexLemmas.{same_number}
use Rattle.kg_tables.specs.PluginKeys.{key_eq, key_of}

-- the name with a priority
abbrev with_priority : ℕ → Option PluginName
with_priority n = find (λ name. nat_eq n (priority name)) plugins_in_order

by_priority : (a : PluginName) → with_priority (priority a) ≡ Some a
by_priority Cors = refl
by_priority KeyAuth = refl
by_priority BasicAuth = refl
by_priority IpRestriction = refl
by_priority RequestSizeLimiting = refl
by_priority Acl = refl
by_priority RateLimiting = refl
by_priority RequestTransformer = refl
by_priority ResponseTransformer = refl
by_priority RequestTermination = refl

by_text : (a : PluginName) → plugin_named (plugin_text a) ≡ Some a
by_text Cors = refl
by_text KeyAuth = refl
by_text BasicAuth = refl
by_text IpRestriction = refl
by_text RequestSizeLimiting = refl
by_text Acl = refl
by_text RateLimiting = refl
by_text RequestTransformer = refl
by_text ResponseTransformer = refl
by_text RequestTermination = refl

same_itself : (a : PluginName) → same_plugin a a ≡ true
same_itself Cors = refl
same_itself KeyAuth = refl
same_itself BasicAuth = refl
same_itself IpRestriction = refl
same_itself RequestSizeLimiting = refl
same_itself Acl = refl
same_itself RateLimiting = refl
same_itself RequestTransformer = refl
same_itself ResponseTransformer = refl
same_itself RequestTermination = refl

same_names : (a b : PluginName) → nat_eq (priority a) (priority b) ≡ same_plugin a b
same_names a b =
    both_ways (nat_eq (priority a) (priority b)) (same_plugin a b)
    (λ is. ap (same_plugin a) (sym (ap (λ o. unwrap_or o a) (sym (by_priority a) ∙ ap with_priority (eqb-true (priority a) (priority b) is) ∙ by_priority b))) ∙ same_itself a)
    (λ is. ap (λ n. nat_eq (priority a) (priority n)) (sym (ap (λ o. unwrap_or o a) (sym (by_text a) ∙ ap plugin_named (same_bytes (plugin_text a) (plugin_text b) is) ∙ by_text b))) ∙ same_number (priority a))

same_ids : (a b : Option ℕ) → option_eq nat_eq a b ≡ same_id a b
same_ids None None = refl
same_ids None (Some b) = refl
same_ids (Some a) None = refl
same_ids (Some a) (Some b) = refl

and_and : (a b c d : Bool) → (((a && b) && c) && d) ≡ (a && ((b && c) && d))
and_and true b c d = refl
and_and false b c d = refl

pub same_keys : (a b : PluginRow) → key_eq (key_of a) (key_of b) ≡ same_name_and_scope a b
same_keys a b =
    (λ i. ((same_names (plugin_of a.config) (plugin_of b.config) i && same_ids a.scope.service b.scope.service i) && same_ids a.scope.route b.scope.route i) && same_ids a.scope.consumer b.scope.consumer i)
    ∙ and_and (same_plugin (plugin_of a.config) (plugin_of b.config)) (same_id a.scope.service b.scope.service) (same_id a.scope.route b.scope.route) (same_id a.scope.consumer b.scope.consumer)
