-- No key is asked twice.
use Rattle.std.proofs.Common.{◌≡◌, ◌≢◌, ℕ, zero, suc, ◌<◌, Bool, true, false, true≢false, cond, find, List, [], ◌∷◌, length, get_or, map, option_map, Option, Some, None, refl, sym, ap, ◌∙◌, arith, AllPairs}
use Rattle.std.proofs.lemmas.Bool.{eq-eqb}
use Rattle.std.proofs.lemmas.List.Quantifiers.{all_pairs_push}
use Rattle.std.proofs.lemmas.Slice.Eq.{bytes_eq-Decides}
use Rattle.kg_row_types.specs.declared.key.Key.{Key}
use Rattle.kg_row_types.specs.declared.key.Key.TheVariants.{Cred, Basic, Consumer, Named, Acls}
use Rattle.kg_context.specs.Given.{same_key}
use Rattle.kg_context.specs.declared.upstream.Upstream.{Upstream}
use Rattle.kg_limit.specs.declared.hit.Verdict.{Verdict}
use Rattle.kg_course.specs.Plain.{Asked}
use Rattle.kg_course.specs.declared.want.Want.TheVariants as want
use Rattle.kg_course.proofs.AnswerLemmas.{plain_lacks}
use Rattle.kg_visit.specs.Told.{IsAsked, Use, answer_of, entities}
use Rattle.kg_visit.specs.Told.{Begins, AsksUse, AsksVerdict, AsksUpstream}

same_itself : (key : Key) → same_key key key ≡ true
same_itself (Cred text) = (bytes_eq-Decides text text).1 refl
same_itself (Basic text) = (bytes_eq-Decides text text).1 refl
same_itself (Consumer id) = eq-eqb id id refl
same_itself (Named text) = (bytes_eq-Decides text text).1 refl
same_itself (Acls id) = eq-eqb id id refl

-- a key that has no value yet is not among these
not_among : (uses : List Use) (key : Key) → entities uses key ≡ None → (k : ℕ) (d : Use) → k < length uses → (get_or uses k d).key ≢ key
not_among [] key none k d within = absurd (omega (arith, within))
not_among (first ∷ uses) key none k d within = by_test (λ further j inside. not_among uses key further j d inside) (same_key first.key key) refl none k within
  where
    by_test : (entities uses key ≡ None → (j : ℕ) → j < length uses → (get_or uses j d).key ≢ key)
        → (same : Bool) → same_key first.key key ≡ same
        → option_map (λ answer. answer.value) (cond same (Some (answer_of first)) (find (λ answer. same_key answer.key key) (map answer_of uses))) ≡ None
        → (j : ℕ) → j < length (first ∷ uses) → (get_or (first ∷ uses) j d).key ≢ key
    by_test further true is gone j inside = absurd (cc)
    by_test further false is gone zero inside = λ same. true≢false (sym (ap (λ one. same_key first.key one) (sym same) ∙ same_itself first.key) ∙ is)
    by_test further false is gone (suc j) inside = further gone j (omega (arith, inside))

pub asked_once : (asked : Asked) {uses : List Use} {verdicts : List Verdict} {upstream : Option Upstream} → IsAsked asked uses verdicts upstream → AllPairs (λ a b. a.key ≢ b.key) uses
asked_once asked Begins = λ i j d before within. absurd (omega (arith, within))
asked_once asked (AsksUse uses verdicts answer used before lacks) =
    all_pairs_push (λ a b. a.key ≢ b.key) uses used (asked_once asked before)
    (not_among uses used.key (plain_lacks asked (entities uses) verdicts answer (want.Entity used.key) lacks tt))
asked_once asked (AsksVerdict uses verdicts answer hit verdict before lacks) = asked_once asked before
asked_once asked (AsksUpstream uses verdicts message answer before lacks) = asked_once asked before
