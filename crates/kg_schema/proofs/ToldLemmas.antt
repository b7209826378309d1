-- What told violations have at a path, and that their paths stand in order.
use Rattle.std.proofs.Common.{◌≡◌, ◌↔◌, ℕ, Bool, true, false, cond, List, [], ◌∷◌, fold, map, filter, Contains, Option, Some, None, Ordering, Less, Equal, Greater, is_eq, bytes_eq, nat_cmp, refl, sym, ap, ◌∙◌, true≢false}
use Rattle.std.proofs.lemmas.Cmp.{eq_by_cmp_equiv, nat_list_cmp_total}
use Rattle.std.proofs.lemmas.Map.Keys.{IsDistinct-from_sorted}
use Rattle.std.proofs.lemmas.Map.Lookups.{exact_bytes}
use Rattle.std.proofs.lemmas.Map.Text.{is_eq-slice_cmp}
use Rattle.std.proofs.lemmas.Map.Views.{Contains-from_lookup, lookup-from_Contains, tells_apart}
use Rattle.std.specs.BTreeMap.{insert_entry, is_at}
use Rattle.std.specs.Cmp.{IsTotalOrder}
use Rattle.std.specs.Cmp.Lexicographic.{slice_cmp}
use Rattle.std.specs.List.{AllByRecursion}
use Rattle.std.specs.List.Sorted.{IsStrictlySortedBy}
use Rattle.std.specs.Map.{keys_of, lookup}
use Rattle.std.specs.Option.{option_map_or}
use Rattle.std.specs.Ordering.{match_ordering, ordering_reverse}
use Rattle.kg_field_rules.proofs.RuleLemmas.{sooner_assoc, sooner_none}
use Rattle.kg_field_rules.specs.Rules.{BrokenRule, counted, first, first_by_rank, in_order, sooner, tell}
use Rattle.kg_field_rules.specs.declared.rule.Rule.{Rule}
use Rattle.kg_schema.specs.ToldRules.{rules_at}

-- ---- choices

chosen_twice : {A : Type 0} (b : Bool) (x y z : A) → cond b x z ≡ cond b x (cond b y z)
chosen_twice true x y z = refl
chosen_twice false x y z = refl

chosen_apart : {A : Type 0} (a b : Bool) (x y z : A) → (a ≡ true → b ≡ true → ⊥) → cond a x (cond b y z) ≡ cond b y (cond a x z)
chosen_apart true true x y z apart = absurd (apart refl refl)
chosen_apart true false x y z apart = refl
chosen_apart false b x y z apart = refl

-- ---- one more entry

module _ {K X : Type 0} {R : K → K → Ordering} (o : IsTotalOrder R) (exact : (x y : K) → R x y ≡ Equal → x ≡ y) where
  all_insert : (P : K → Type 0) (k : K) (v : X) → P k → (es : List (K × X)) → AllByRecursion P (keys_of es) → AllByRecursion P (keys_of (insert_entry R es k v))
  all_insert P k v own [] all = (own, tt {0})
  all_insert P k v own (e ∷ es) all = by (R k e.0) (all_insert P k v own es all.1)
    where
      by : (r : Ordering) → AllByRecursion P (keys_of (insert_entry R es k v))
          → AllByRecursion P (keys_of (match_ordering r ((k, v) ∷ e ∷ es) ((e.0, v) ∷ es) (e ∷ insert_entry R es k v)))
      by Less rest = (own, all)
      by Equal rest = all
      by Greater rest = (all.0, rest)

  all_above : (k x : K) → R k x ≡ Less → (es : List (K × X)) → AllByRecursion (λ y. R x y ≡ Less) (keys_of es) → AllByRecursion (λ y. R k y ≡ Less) (keys_of es)
  all_above k x less [] all = tt {0}
  all_above k x less (e ∷ es) all = (o.trans k x e.0 less all.0, all_above k x less es all.1)

  sorted_insert : (k : K) (v : X) (es : List (K × X)) → IsStrictlySortedBy R (keys_of es) → IsStrictlySortedBy R (keys_of (insert_entry R es k v))
  unfolding IsStrictlySortedBy
  sorted_insert k v [] sorted = (tt {0}, tt {0})
  sorted_insert k v (e ∷ es) sorted = by (R k e.0) refl (sorted_insert k v es sorted.1)
    where
      by : (r : Ordering) → R k e.0 ≡ r → IsStrictlySortedBy R (keys_of (insert_entry R es k v))
          → IsStrictlySortedBy R (keys_of (match_ordering r ((k, v) ∷ e ∷ es) ((e.0, v) ∷ es) (e ∷ insert_entry R es k v)))
      by Less is rest = ((is, all_above k e.0 is es sorted.0), sorted)
      by Equal is rest = sorted
      by Greater is rest = (all_insert (λ y. R e.0 y ≡ Less) k v (o.antisymm e.0 k ∙ ap ordering_reverse is) es sorted.0, rest)

  lookup_insert : (q k : K) (v : X) (es : List (K × X)) → lookup (is_at (R q)) (insert_entry R es k v) ≡ cond (is_at (R q) k) (Some v) (lookup (is_at (R q)) es)
  lookup_insert q k v [] = refl
  lookup_insert q k v (e ∷ es) = by (R k e.0) refl (lookup_insert q k v es)
    where
      by : (r : Ordering) → R k e.0 ≡ r → lookup (is_at (R q)) (insert_entry R es k v) ≡ cond (is_eq (R q k)) (Some v) (lookup (is_at (R q)) es)
          → lookup (is_at (R q)) (match_ordering r ((k, v) ∷ e ∷ es) ((e.0, v) ∷ es) (e ∷ insert_entry R es k v))
          ≡ cond (is_eq (R q k)) (Some v) (cond (is_eq (R q e.0)) (Some e.1) (lookup (is_at (R q)) es))
      by Less is rest = refl
      by Equal is rest =
          chosen_twice (is_eq (R q e.0)) (Some v) (Some e.1) (lookup (is_at (R q)) es)
          ∙ ap (λ z. cond (is_eq (R q z)) (Some v) (cond (is_eq (R q e.0)) (Some e.1) (lookup (is_at (R q)) es))) (sym (exact k e.0 is))
      by Greater is rest =
          ap (λ found. cond (is_eq (R q e.0)) (Some e.1) found) rest
          ∙ chosen_apart (is_eq (R q e.0)) (is_eq (R q k)) (Some e.1) (Some v) (lookup (is_at (R q)) es)
          (λ at_e at_k. true≢false (sym at_e ∙ ap (λ z. is_eq (R z e.0)) (tells_apart exact q k at_k) ∙ ap is_eq is))

-- ---- one more rule that is told

-- the rule that is told at a path
abbrev told_at : List ℕ → List BrokenRule → Option Rule
told_at path told = lookup (is_at (slice_cmp nat_cmp path)) told

counts : (told : Option Rule) (rule : Rule) → Some (option_map_or (λ other. first other rule) told rule) ≡ sooner told (Some rule)
counts None rule = refl
counts (Some other) rule = refl

told_once : (path : List ℕ) (told : List BrokenRule) (violation : BrokenRule)
    → told_at path (tell told violation) ≡ cond (bytes_eq path violation.0) (sooner (told_at path told) (Some violation.1)) (told_at path told)
told_once path told violation =
    lookup_insert nat_list_cmp_total exact_bytes path violation.0 (counted told violation.0 violation.1) told
    ∙ by (is_eq (slice_cmp nat_cmp path violation.0)) refl
    ∙ ap (λ b. cond b (sooner (told_at path told) (Some violation.1)) (told_at path told)) (is_eq-slice_cmp path violation.0)
  where
    by : (b : Bool) → is_eq (slice_cmp nat_cmp path violation.0) ≡ b
        → cond b (Some (counted told violation.0 violation.1)) (told_at path told) ≡ cond b (sooner (told_at path told) (Some violation.1)) (told_at path told)
    by true is = ap (λ p. Some (counted told p violation.1)) (sym (tells_apart exact_bytes path violation.0 is)) ∙ counts (told_at path told) violation.1
    by false is = refl

-- ---- all that are told

told_rule : (path : List ℕ) (violations told : List BrokenRule) → told_at path (fold tell told violations) ≡ sooner (told_at path told) (first_by_rank (rules_at path violations))
told_rule path [] told = sym (sooner_none (told_at path told))
told_rule path (violation ∷ violations) told =
    told_rule path violations (tell told violation)
    ∙ ap (λ rule. sooner rule (first_by_rank (rules_at path violations))) (told_once path told violation)
    ∙ by (bytes_eq path violation.0)
  where
    by : (b : Bool) → sooner (cond b (sooner (told_at path told) (Some violation.1)) (told_at path told)) (first_by_rank (rules_at path violations))
        ≡ sooner (told_at path told) (first_by_rank (map (λ other. other.1) (cond b (violation ∷ filter (λ other. bytes_eq path other.0) violations) (filter (λ other. bytes_eq path other.0) violations))))
    by true = sooner_assoc (told_at path told) (Some violation.1) (first_by_rank (rules_at path violations))
    by false = refl

sorted_told : (violations told : List BrokenRule) → IsStrictlySortedBy (slice_cmp nat_cmp) (keys_of told) → IsStrictlySortedBy (slice_cmp nat_cmp) (keys_of (fold tell told violations))
sorted_told [] told sorted = sorted
sorted_told (violation ∷ violations) told sorted =
    sorted_told violations (tell told violation) (sorted_insert nat_list_cmp_total exact_bytes violation.0 (counted told violation.0 violation.1) told sorted)

pub paths_in_order : (violations : List BrokenRule) → IsStrictlySortedBy (slice_cmp nat_cmp) (map (λ told. told.0) (in_order violations))
unfolding IsStrictlySortedBy
paths_in_order violations = sorted_told violations [] (tt {0})

pub rules_in_order : (violations : List BrokenRule) (path : List ℕ) (rule : Rule)
    → Contains (in_order violations) (path, rule) ↔ (first_by_rank (rules_at path violations) ≡ Some rule)
rules_in_order violations path rule =
    let is : told_at path (in_order violations) ≡ first_by_rank (rules_at path violations) = told_rule path violations [] in (
      (λ there. sym is ∙ lookup-from_Contains (eq_by_cmp_equiv nat_list_cmp_total) path rule (in_order violations)
          (IsDistinct-from_sorted (slice_cmp nat_cmp) (keys_of (in_order violations)) (paths_in_order violations)) there),
      (λ counting. Contains-from_lookup (tells_apart exact_bytes) path rule (in_order violations) (is ∙ counting)),
    )
