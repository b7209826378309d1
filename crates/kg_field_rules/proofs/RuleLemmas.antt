-- Which of several rules counts, and that told violations aren't lost.
use Rattle.std.proofs.Common.{◌≡◌, nat_le, Bool, true, false, not, List, [], ◌∷◌, ◌++◌, fold, Option, Some, None, if◌then◌else◌, refl, sym, ap, ◌∙◌, arith}
use Rattle.std.proofs.lemmas.Bool.Decides.{nat_tests}
use Rattle.std.specs.BTreeMap.{insert_entry}
use Rattle.std.specs.Cmp.Lexicographic.{slice_cmp}
use Rattle.std.specs.Ordering.{nat_cmp, match_ordering}
use Rattle.std.specs.declared.cmp.Ordering.{Ordering}
use Rattle.std.specs.declared.cmp.Ordering.TheVariants.{Less, Equal, Greater}
use Rattle.kg_field_rules.specs.Rules.{BrokenRule, broken_if, first, first_by_rank, in_order, rank, sooner, tell}
use Rattle.kg_field_rules.specs.declared.rule.Rule.{Rule}
use Rattle.kg_field_rules.specs.declared.rule.Rule.TheVariants.{Empty, OutOfRange, Syntax}

-- ---- the rule that counts

pub sooner_none : (rule : Option Rule) → sooner rule None ≡ rule
sooner_none None = refl
sooner_none (Some rule) = refl

-- by the ranks alone
first_assoc : (a b c : Rule) → first (first a b) c ≡ first a (first b c)
first_assoc a b c = at_tests (nat_le (rank a) (rank b)) (nat_le (rank b) (rank c)) refl refl
  where
    at_tests : (ab bc : Bool) → nat_le (rank a) (rank b) ≡ ab → nat_le (rank b) (rank c) ≡ bc
        → (let front = (if ab then a else b) in if nat_le (rank front) (rank c) then front else c)
        ≡ (let back = (if bc then b else c) in if nat_le (rank a) (rank back) then a else back)
    at_tests true true x y = let z : nat_le (rank a) (rank c) ≡ true = grind (arith, nat_tests) in rw (z, x) refl
    at_tests true false x y = refl
    at_tests false true x y = rw (x, y) refl
    at_tests false false x y = let z : nat_le (rank a) (rank c) ≡ false = grind (arith, nat_tests) in rw (z, y) refl

pub sooner_assoc : (a b c : Option Rule) → sooner (sooner a b) c ≡ sooner a (sooner b c)
sooner_assoc None b c = refl
sooner_assoc (Some a) None c = refl
sooner_assoc (Some a) (Some b) None = refl
sooner_assoc (Some a) (Some b) (Some c) = ap Some (first_assoc a b c)

-- ---- the first of several

-- the first of two lists, by the first of each
pub first_of_both : (broken others : List Rule) → first_by_rank (broken ++ others) ≡ sooner (first_by_rank broken) (first_by_rank others)
first_of_both [] others = refl
first_of_both (rule ∷ broken) others =
    ap (sooner (Some rule)) (first_of_both broken others) ∙ sym (sooner_assoc (Some rule) (first_by_rank broken) (first_by_rank others))

sooner_some : (rule : Rule) (o : Option Rule) → sooner (Some rule) o ≡ None → ⊥
sooner_some rule None h = cc
sooner_some rule (Some other) h = cc

-- where no rule is told, none is broken
pub nothing_broken : (broken : List Rule) → first_by_rank broken ≡ None → broken ≡ []
nothing_broken [] h = refl
nothing_broken (rule ∷ broken) h = absurd (sooner_some rule (first_by_rank broken) h)

-- the rule of a text, one test after the other
pub text_steps : (empty longer form : Bool) → first_by_rank (broken_if empty Empty ++ broken_if longer OutOfRange ++ broken_if (not form) Syntax)
    ≡ (if empty then Some Empty else (if longer then Some OutOfRange else (if form then None else Some Syntax)))
text_steps true true true = refl
text_steps true true false = refl
text_steps true false true = refl
text_steps true false false = refl
text_steps false true true = refl
text_steps false true false = refl
text_steps false false true = refl
text_steps false false false = refl

-- ---- told violations

-- an entry that was put in stands there
put_stands : {K X : Type 0} (cmp : K → K → Ordering) (es : List (K × X)) (k : K) (v : X) → ¬ (insert_entry cmp es k v ≡ [])
put_stands cmp [] k v h = cc
put_stands cmp (e ∷ es) k v h = at_order (cmp k e.0) h
  where
    at_order : (o : Ordering) → match_ordering o ((k, v) ∷ e ∷ es) ((e.0, v) ∷ es) (e ∷ insert_entry cmp es k v) ≡ [] → ⊥
    at_order Less h = cc
    at_order Equal h = cc
    at_order Greater h = cc

still_empty : (told violations : List BrokenRule) → fold tell told violations ≡ [] → (told ≡ []) × (violations ≡ [])
still_empty told [] h = (h, refl)
still_empty told (violation ∷ violations) h = absurd (put_stands (slice_cmp nat_cmp) told violation.0 _ (still_empty (tell told violation) violations h).0)

-- where nothing is told in the end, nothing was
pub in_order_none : (violations : List BrokenRule) → in_order violations ≡ [] → violations ≡ []
in_order_none violations h = (still_empty [] violations h).1
