-- The fields of a violation are texts, none of which is a float.
use Rattle.std.proofs.Common.{◌≡◌, Bool, true, false, ◌||◌, List, [], ◌∷◌, ℕ, fold, Ordering, Less, Equal, Greater, refl, true≢false}
use Rattle.std.specs.Cmp.Lexicographic.{slice_cmp}
use Rattle.std.specs.Ordering.{nat_cmp, match_ordering}
use Rattle.serde_json.specs.Data.{Data, Members, no_members, member, put, string}
use Rattle.serde_json.specs.Written.{members_have_float, has_float}
use Rattle.kg_field_rules.specs.Rules.{rule_text}
use Rattle.kg_field_rules.specs.declared.violations.Broken.{Broken}
use Rattle.kg_declare.specs.RefusalBody.{with_rule, rules_of}

second : (a b : Bool) → (a || b) ≡ false → b ≡ false
second true b wrong = absurd (true≢false wrong)
second false b none = none

joined : (a b c : Bool) → (a || b) ≡ false → c ≡ false → (a || c) ≡ false
joined true b c wrong none = absurd (true≢false wrong)
joined false b c first none = none

put_at : (o : Ordering) (k l w : List ℕ) (e : Data) (ms : Members) → members_have_float (member l e ms) ≡ false → members_have_float (put k (string w) ms) ≡ false
    → members_have_float (match_ordering o (member k (string w) (member l e ms)) (member l (string w) ms) (member l e (put k (string w) ms))) ≡ false
put_at Less k l w e ms none later = none
put_at Equal k l w e ms none later = second (has_float e) (members_have_float ms) none
put_at Greater k l w e ms none later = joined (has_float e) (members_have_float ms) (members_have_float (put k (string w) ms)) none later

put_text : (k w : List ℕ) (ms : Members) → members_have_float ms ≡ false → members_have_float (put k (string w) ms) ≡ false
put_text k w no_members none = refl
put_text k w (member l e ms) none =
    put_at (slice_cmp nat_cmp k l) k l w e ms none (put_text k w ms (second (has_float e) (members_have_float ms) none))

rules_after : (fields : Members) (broken : List Broken) → members_have_float fields ≡ false → members_have_float (fold with_rule fields broken) ≡ false
rules_after fields [] none = none
rules_after fields (violation ∷ broken) none =
    rules_after (with_rule fields violation) broken (put_text violation.path (rule_text violation.rule) fields none)

pub rules_have_no_float : (broken : List Broken) → members_have_float (rules_of broken) ≡ false
rules_have_no_float broken = rules_after no_members broken refl
