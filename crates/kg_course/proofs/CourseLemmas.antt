-- What answers make of a course. Each lemma is an induction over the tree of questions.
use Rattle.std.proofs.Common.{◌≡◌, ◌⊎◌, inl, inr, Option, Some, None, Result, Ok, Err, refl, sym, ap, subst, ◌∙◌}
use Rattle.kg_row_types.specs.declared.value.Value.{Value}
use Rattle.kg_row_types.specs.declared.key.Key.{Key}
use Rattle.kg_context.specs.Rule.{Rule, Leaves as rule_leaves, Asks as rule_asks, access, with_value}
use Rattle.kg_course.specs.Course.{Answers, Course, Leaves, AsksEntity, AsksVerdict, AsksUpstream, of_rule, run, through, with_answer}
use Rattle.kg_course.specs.CourseLaws.{Extends, Lacking}
use Rattle.kg_course.specs.Steps.{wanted}
use Rattle.kg_course.specs.declared.want.Want.{Want}
use Rattle.kg_course.specs.declared.want.Want.TheVariants as want

-- ---- one answer

-- it was there, and the course came on
pub answer_ok : {X A : Type 0} (told : Option X) (lacking : Want) (on : X → Result A Want) (a : A)
    → with_answer told lacking on ≡ Ok a → (x : X) × (told ≡ Some x) × (on x ≡ Ok a)
answer_ok None lacking on a is = absurd (cc)
answer_ok (Some x) lacking on a is = (x, refl, is)

-- what is lacking, where something is
abbrev lack_of : {A : Type 0} → Want → Result A Want → Want
lack_of other (Ok a) = other
lack_of other (Err lacking) = lacking

-- it was lacking, or it was there and something later is lacking
pub answer_err : {X A : Type 0} (told : Option X) (lacking : Want) (on : X → Result A Want) (other : Want)
    → with_answer told lacking on ≡ Err other → ((told ≡ None) × (other ≡ lacking)) ⊎ ((x : X) × (told ≡ Some x) × (on x ≡ Err other))
answer_err None lacking on other is = inl (refl, sym (ap (lack_of lacking) is))
answer_err (Some x) lacking on other is = inr (x, refl, is)

-- ---- one course after another

-- the first comes on, or what it lacks is lacking
abbrev pub onward : {A B : Type 0} → Result A Want → (A → Result B Want) → Result B Want
onward (Ok a) on = on a
onward (Err lacking) on = Err lacking

with_answer_onward : {X A B : Type 0} (told : Option X) (lacking : Want) (on : X → Result A Want) (next : A → Result B Want)
    → with_answer told lacking (λ x. onward (on x) next) ≡ onward (with_answer told lacking on) next
with_answer_onward None lacking on next = refl
with_answer_onward (Some x) lacking on next = refl

-- answers that are taken alike give the same
with_answer_alike : {X A : Type 0} (told : Option X) (lacking : Want) (f g : X → Result A Want)
    → ((x : X) → f x ≡ g x) → with_answer told lacking f ≡ with_answer told lacking g
with_answer_alike None lacking f g same = refl
with_answer_alike (Some x) lacking f g same = same x

pub run_through : {A B : Type 0} (course : Course A) (on : A → Course B) (told : Answers)
    → run (through course on) told ≡ onward (run course told) (λ a. run (on a) told)
run_through (Leaves a) on told = refl
run_through (AsksEntity key next) on told =
    with_answer_alike (told.entity key) (want.Entity key) (λ v. run (through (next v) on) told) (λ v. onward (run (next v) told) (λ a. run (on a) told)) (λ v. run_through (next v) on told)
    ∙ with_answer_onward (told.entity key) (want.Entity key) (λ v. run (next v) told) (λ a. run (on a) told)
run_through (AsksVerdict hit next) on told =
    with_answer_alike told.verdict (want.Count hit) (λ v. run (through (next v) on) told) (λ v. onward (run (next v) told) (λ a. run (on a) told)) (λ v. run_through (next v) on told)
    ∙ with_answer_onward told.verdict (want.Count hit) (λ v. run (next v) told) (λ a. run (on a) told)
run_through (AsksUpstream message next) on told =
    with_answer_alike told.upstream (want.Upstream message) (λ v. run (through (next v) on) told) (λ v. onward (run (next v) told) (λ a. run (on a) told)) (λ v. run_through (next v) on told)
    ∙ with_answer_onward told.upstream (want.Upstream message) (λ v. run (next v) told) (λ a. run (on a) told)

-- ---- more answers

-- what was come to stays so
pub run_more : {A : Type 0} (course : Course A) (some more : Answers) (a : A) → Extends some more → run course some ≡ Ok a → run course more ≡ Ok a
run_more (Leaves b) some more a extends is = is
run_more (AsksEntity key next) some more a extends is =
    let found = answer_ok (some.entity key) (want.Entity key) (λ v. run (next v) some) a is in
    ap (λ o. with_answer o (want.Entity key) (λ v. run (next v) more)) (extends.entity key found.0 found.1) ∙ run_more (next found.0) some more a extends found.2
run_more (AsksVerdict hit next) some more a extends is =
    let found = answer_ok some.verdict (want.Count hit) (λ v. run (next v) some) a is in
    ap (λ o. with_answer o (want.Count hit) (λ v. run (next v) more)) (extends.verdict found.0 found.1) ∙ run_more (next found.0) some more a extends found.2
run_more (AsksUpstream message next) some more a extends is =
    let found = answer_ok some.upstream (want.Upstream message) (λ v. run (next v) some) a is in
    ap (λ o. with_answer o (want.Upstream message) (λ v. run (next v) more)) (extends.upstream found.0 found.1) ∙ run_more (next found.0) some more a extends found.2

-- what is lacking wasn't told
pub run_lacks : {A : Type 0} (course : Course A) (told : Answers) (lacking : Want) → run course told ≡ Err lacking → Lacking told lacking
run_lacks (Leaves a) told lacking is = absurd (cc)
run_lacks (AsksEntity key next) told lacking is =
    elim (answer_err (told.entity key) (want.Entity key) (λ v. run (next v) told) lacking is) [
      | inl (none, same) ↦ subst (Lacking told) (sym same) none
      | inr (v, some, later) ↦ run_lacks (next v) told lacking later
    ]
run_lacks (AsksVerdict hit next) told lacking is =
    elim (answer_err told.verdict (want.Count hit) (λ v. run (next v) told) lacking is) [
      | inl (none, same) ↦ subst (Lacking told) (sym same) none
      | inr (v, some, later) ↦ run_lacks (next v) told lacking later
    ]
run_lacks (AsksUpstream message next) told lacking is =
    elim (answer_err told.upstream (want.Upstream message) (λ v. run (next v) told) lacking is) [
      | inl (none, same) ↦ subst (Lacking told) (sym same) none
      | inr (v, some, later) ↦ run_lacks (next v) told lacking later
    ]

-- the first lack stays the first
pub run_still : {A : Type 0} (course : Course A) (some more : Answers) (lacking : Want)
    → Extends some more → Lacking more lacking → run course some ≡ Err lacking → run course more ≡ Err lacking
run_still (Leaves a) some more lacking extends lacks is = absurd (cc)
run_still (AsksEntity key next) some more lacking extends lacks is =
    elim (answer_err (some.entity key) (want.Entity key) (λ v. run (next v) some) lacking is) [
      | inl (none, same) ↦
          let here : more.entity key ≡ None = subst (Lacking more) same lacks in
          ap (λ o. with_answer o (want.Entity key) (λ v. run (next v) more)) here ∙ ap (λ x. Err x) (sym same)
      | inr (v, told, later) ↦
          ap (λ o. with_answer o (want.Entity key) (λ v. run (next v) more)) (extends.entity key v told) ∙ run_still (next v) some more lacking extends lacks later
    ]
run_still (AsksVerdict hit next) some more lacking extends lacks is =
    elim (answer_err some.verdict (want.Count hit) (λ v. run (next v) some) lacking is) [
      | inl (none, same) ↦
          let here : more.verdict ≡ None = subst (Lacking more) same lacks in
          ap (λ o. with_answer o (want.Count hit) (λ v. run (next v) more)) here ∙ ap (λ x. Err x) (sym same)
      | inr (v, told, later) ↦
          ap (λ o. with_answer o (want.Count hit) (λ v. run (next v) more)) (extends.verdict v told) ∙ run_still (next v) some more lacking extends lacks later
    ]
run_still (AsksUpstream message next) some more lacking extends lacks is =
    elim (answer_err some.upstream (want.Upstream message) (λ v. run (next v) some) lacking is) [
      | inl (none, same) ↦
          let here : more.upstream ≡ None = subst (Lacking more) same lacks in
          ap (λ o. with_answer o (want.Upstream message) (λ v. run (next v) more)) here ∙ ap (λ x. Err x) (sym same)
      | inr (v, told, later) ↦
          ap (λ o. with_answer o (want.Upstream message) (λ v. run (next v) more)) (extends.upstream v told) ∙ run_still (next v) some more lacking extends lacks later
    ]

-- ---- a plugin's rule

-- with the value of a key, or without it
rule_answer : (key : Key) (next : Value → Rule) (told : Answers) → ((v : Value) → run (of_rule (next v)) told ≡ wanted (access (next v) told.entity))
    → (found : Option Value) → with_answer found (want.Entity key) (λ v. run (of_rule (next v)) told) ≡ wanted (with_value key (λ v. access (next v) told.entity) found)
rule_answer key next told later None = refl
rule_answer key next told later (Some v) = later v

pub run_rule : (rule : Rule) (told : Answers) → run (of_rule rule) told ≡ wanted (access rule told.entity)
run_rule (rule_leaves ctx) told = refl
run_rule (rule_asks key next) told = rule_answer key next told (λ v. run_rule (next v) told) (told.entity key)
