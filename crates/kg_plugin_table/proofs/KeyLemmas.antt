-- A scope that has a precedence for a request is the request's own scope of the parts of that precedence.
use Rattle.std.proofs.Common.{◌≡◌, ℕ, Bool, true, false, ◌&&◌, not, nat_eq, cond, Option, Some, None, is_some, find, unwrap_or, refl, sym, ap, ◌∙◌, ⊎_elim, arith}
use Rattle.std.proofs.lemmas.Bool.{eqb-true}
use Rattle.std.proofs.lemmas.Bool.Decides.{eqb_tells}
use Rattle.std.specs.Cmp.{both_ways}
use Rattle.std.specs.Option.{option_eq, option_map_or}
use Rattle.kg_text.specs.SameBytes.{same_bytes}
use Rattle.kg_row_types.specs.PluginNames.{plugin_named, plugin_of, plugin_text, plugins_in_order, priority, same_plugin}
use Rattle.kg_row_types.specs.declared.plugin.PluginName.{PluginName}
use Rattle.kg_row_types.specs.declared.plugin.PluginName.TheVariants.{Cors, KeyAuth, BasicAuth, IpRestriction, RequestSizeLimiting, Acl, RateLimiting, RequestTransformer, ResponseTransformer, RequestTermination}
use Rattle.kg_row_types.specs.declared.plugin.PluginRow.{PluginRow}
use Rattle.kg_row_types.specs.declared.plugin.Scope.{Scope}
use Rattle.kg_plugin_table.specs.Keys.{has_key, kept_part, key_of, rank_of, scope_with, with_parts}
use Rattle.kg_plugin_table.specs.Precedence.{part_fits, precedence_of, rank, runs_with, scope_fits}
use Rattle.kg_plugin_table.specs.declared.precedence.Parts.{Parts}

-- ---- names by their priorities

-- the name with a priority
abbrev with_priority : ℕ → Option PluginName
with_priority n = find (λ name. nat_eq n (priority name)) plugins_in_order

by_priority : (a : PluginName) → with_priority (priority a) ≡ Some a
by_priority Cors = refl
by_priority KeyAuth = refl
by_priority BasicAuth = refl
by_priority IpRestriction = refl
by_priority RequestSizeLimiting = refl
by_priority Acl = refl
by_priority RateLimiting = refl
by_priority RequestTransformer = refl
by_priority ResponseTransformer = refl
by_priority RequestTermination = refl

by_text : (a : PluginName) → plugin_named (plugin_text a) ≡ Some a
by_text Cors = refl
by_text KeyAuth = refl
by_text BasicAuth = refl
by_text IpRestriction = refl
by_text RequestSizeLimiting = refl
by_text Acl = refl
by_text RateLimiting = refl
by_text RequestTransformer = refl
by_text ResponseTransformer = refl
by_text RequestTermination = refl

same_itself : (a : PluginName) → same_plugin a a ≡ true
same_itself Cors = refl
same_itself KeyAuth = refl
same_itself BasicAuth = refl
same_itself IpRestriction = refl
same_itself RequestSizeLimiting = refl
same_itself Acl = refl
same_itself RateLimiting = refl
same_itself RequestTransformer = refl
same_itself ResponseTransformer = refl
same_itself RequestTermination = refl

same_number : (n : ℕ) → nat_eq n n ≡ true
same_number n = ⊎_elim (λ yes. yes.0) (λ no. absurd (no.1 refl)) (eqb_tells n n)

pub same_names : (a b : PluginName) → nat_eq (priority a) (priority b) ≡ same_plugin a b
same_names a b =
    both_ways (nat_eq (priority a) (priority b)) (same_plugin a b)
    (λ is. ap (same_plugin a) (sym (ap (λ o. unwrap_or o a) (sym (by_priority a) ∙ ap with_priority (eqb-true (priority a) (priority b) is) ∙ by_priority b))) ∙ same_itself a)
    (λ is. ap (λ n. nat_eq (priority a) (priority n)) (sym (ap (λ o. unwrap_or o a) (sym (by_text a) ∙ ap plugin_named (same_bytes (plugin_text a) (plugin_text b) is) ∙ by_text b))) ∙ same_number (priority a))

-- ---- one part of a scope

flipped : (m n : ℕ) → nat_eq m n ≡ nat_eq n m
flipped m n = grind arith

and_false : (b : Bool) → (b && false) ≡ false
and_false true = refl
and_false false = refl

and_true : (b : Bool) → (b && true) ≡ b
and_true true = refl
and_true false = refl

-- both are set, or neither is
abbrev agree : Bool → Bool → Bool
agree true set = set
agree false set = not set

-- it is the part that is kept
abbrev is_kept : Option (Option ℕ) → Option ℕ → Bool
is_kept kept own = option_map_or (λ part. option_eq nat_eq own part) kept false

-- a part fits and is set as it should be, exactly where it is the part that is kept
part_is_kept : (set : Bool) (own known : Option ℕ) → (part_fits own known && agree set (is_some own)) ≡ is_kept (kept_part set known) own
part_is_kept false None known = refl
part_is_kept false (Some id) None = refl
part_is_kept false (Some id) (Some known) = and_false (nat_eq known id)
part_is_kept true None None = refl
part_is_kept true None (Some known) = refl
part_is_kept true (Some id) None = refl
part_is_kept true (Some id) (Some known) = and_true (nat_eq known id) ∙ flipped known id

-- ---- a precedence

-- two scopes have one rank where they set the same parts
rank_agrees : (p q r x y z : Bool) → nat_eq (rank p q r) (rank x y z) ≡ (agree x p && (agree y q && agree z r))
rank_agrees p q r x y z = grind arith

-- a scope has the precedence of some parts where it fits and sets just these
precedence_of_parts : (own request : Scope) (these : Parts) → option_eq nat_eq (precedence_of own request) (Some (rank_of these))
    ≡ (scope_fits own request && (agree these.consumer (is_some own.consumer) && (agree these.route (is_some own.route) && agree these.service (is_some own.service))))
precedence_of_parts own request these = by_fit (scope_fits own request)
  where
    by_fit : (fits : Bool) → option_eq nat_eq (cond fits (Some (rank (is_some own.consumer) (is_some own.route) (is_some own.service))) None) (Some (rank_of these))
        ≡ (fits && (agree these.consumer (is_some own.consumer) && (agree these.route (is_some own.route) && agree these.service (is_some own.service))))
    by_fit true = rank_agrees (is_some own.consumer) (is_some own.route) (is_some own.service) these.consumer these.route these.service
    by_fit false = refl

-- three tests and three others, pair by pair
paired : (a b c x y z : Bool) → (a && b && c && (x && (y && z))) ≡ ((a && x) && ((b && y) && (c && z)))
paired false b c x y z = refl
paired true false c x y z = sym (and_false x)
paired true true false x y z = sym (ap (λ t. x && t) (and_false y) ∙ and_false x)
paired true true true x y z = refl

-- a row has its key exactly where its name and each of its parts are the kept ones
kept_key : (name : PluginName) (row : PluginRow) (consumer route service : Option (Option ℕ))
    → (row.enabled && same_plugin (plugin_of row.config) name && (is_kept consumer row.scope.consumer && (is_kept route row.scope.route && is_kept service row.scope.service)))
    ≡ option_map_or (λ exact. has_key (key_of name exact) row) (with_parts consumer route service) false
kept_key name row (Some consumer) (Some route) (Some service) =
    let own = row.scope in
    (λ i. row.enabled && (sym (same_names (plugin_of row.config) name)) i && (option_eq nat_eq own.consumer consumer && (option_eq nat_eq own.route route && option_eq nat_eq own.service service)))
    ∙ regrouped row.enabled (nat_eq (priority (plugin_of row.config)) (priority name)) (option_eq nat_eq own.consumer consumer) (option_eq nat_eq own.route route) (option_eq nat_eq own.service service)
  where
    regrouped : (e n a b c : Bool) → (e && n && (a && (b && c))) ≡ (e && (n && a && b && c))
    regrouped false n a b c = refl
    regrouped true false a b c = refl
    regrouped true true false b c = refl
    regrouped true true true b c = refl
kept_key name row None route service = and_false (row.enabled && same_plugin (plugin_of row.config) name)
kept_key name row (Some consumer) None service =
    let named = row.enabled && same_plugin (plugin_of row.config) name in
    ap (λ t. named && t) (and_false (option_eq nat_eq row.scope.consumer consumer)) ∙ and_false named
kept_key name row (Some consumer) (Some route) None =
    let named = row.enabled && same_plugin (plugin_of row.config) name in
    let same_consumer = option_eq nat_eq row.scope.consumer consumer in
    ap (λ t. named && (same_consumer && t)) (and_false (option_eq nat_eq row.scope.route route)) ∙ ap (λ t. named && t) (and_false same_consumer) ∙ and_false named

-- a row runs with the precedence of some parts where it has the key of the request's scope of these parts
pub runs_by_key : (name : PluginName) (request : Scope) (these : Parts) (row : PluginRow)
    → runs_with name request (rank_of these) row ≡ option_map_or (λ exact. has_key (key_of name exact) row) (scope_with these request) false
runs_by_key name request these row =
    let own = row.scope in
    ap (λ t. row.enabled && same_plugin (plugin_of row.config) name && t)
    (precedence_of_parts own request these
    ∙ paired (part_fits own.consumer request.consumer) (part_fits own.route request.route) (part_fits own.service request.service)
    (agree these.consumer (is_some own.consumer)) (agree these.route (is_some own.route)) (agree these.service (is_some own.service))
    ∙ (λ i. part_is_kept these.consumer own.consumer request.consumer i
    && (part_is_kept these.route own.route request.route i && part_is_kept these.service own.service request.service i)))
    ∙ kept_key name row (kept_part these.consumer request.consumer) (kept_part these.route request.route) (kept_part these.service request.service)
