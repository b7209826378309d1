-- A request that its worker takes on goes on by what the level held at first, and its questions end.
use Rattle.std.proofs.Common.{◌≡◌, ℕ, ◌-◌, ◌<◌, ◌≤◌, Bool, true, false, cond, List, [], ◌∷◌, ◌++◌, find, map, option_map, Option, Some, None, Result, Ok, Err, IsSome, refl, sym, ap, subst, ◌∙◌, arith}
use Rattle.std.proofs.lemmas.Bool.{eq-eqb}
use Rattle.std.proofs.lemmas.List.{map-append}
use Rattle.std.proofs.lemmas.Slice.Eq.{bytes_eq-Decides}
use Rattle.kg_context.specs.Given.{Answer, same_key, value_in}
use Rattle.kg_course.specs.Course.{Answers as Told_so, run}
use Rattle.kg_course.specs.CourseLaws.{passed}
use Rattle.kg_course.specs.Plain.{Asked, answers, course, want_of}
use Rattle.kg_course.specs.Wants.{Asks}
use Rattle.kg_course.specs.declared.want.Want.{Want}
use Rattle.kg_course.specs.declared.want.Want.TheVariants as want
use Rattle.kg_course.proofs.AnswerLemmas.{extends_entity}
use Rattle.kg_course.proofs.BoundLemmas.{course_le, passed_grows}
use Rattle.kg_level1.specs.Entries.{Level}
use Rattle.kg_level1.proofs.OrderLemmas.{same_entries, same_entries_then, same_live}
use Rattle.kg_message.specs.declared.response.Response.{Response}
use Rattle.kg_row_types.specs.declared.key.Key.{Key}
use Rattle.kg_row_types.specs.declared.key.Key.TheVariants as key
use Rattle.kg_row_types.specs.declared.value.Value.{Value}
use Rattle.kg_visit.specs.Told.{Told, Use, answer_of, entities, want_after, with_use}
use Rattle.kg_proxy.specs.Advancing.{Advances, Answers, OwnUse}
use Rattle.kg_proxy.specs.Workers.{HasSameHolding, Holding, key_eq}

-- ---- the end of the questions

-- a request that wants something lacks it
lacks : (asked : Asked) (told : Told_so) (lacking : Want) → want_of (run (course asked) told) ≡ lacking → Asks lacking → run (course asked) told ≡ Err lacking
lacks asked told lacking is asks = by_result (run (course asked) told) is
  where
    by_result : (came : Result Response Want) → want_of came ≡ lacking → came ≡ Err lacking
    by_result (Ok reply) same = absurd (subst Asks (sym same) asks)
    by_result (Err first) same = ap (λ w. Err w) same

same_key_refl : (a : Key) → same_key a a ≡ true
same_key_refl (key.Cred a) = (bytes_eq-Decides a a).1 refl
same_key_refl (key.Basic a) = (bytes_eq-Decides a a).1 refl
same_key_refl (key.Consumer a) = eq-eqb a a refl
same_key_refl (key.Named a) = (bytes_eq-Decides a a).1 refl
same_key_refl (key.Acls a) = eq-eqb a a refl

-- a key that was added has a value
added_is_told : (given : List Answer) (one : Answer) → IsSome (value_in (given ++ one ∷ []) one.key)
added_is_told [] one = by_test (same_key one.key one.key) (same_key_refl one.key)
  where
    by_test : (same : Bool) → same ≡ true → IsSome (option_map (λ answer. answer.value) (cond same (Some one) None))
    by_test true is = refl
    by_test false is = absurd (cc)
added_is_told (first ∷ given) one = by_test (same_key first.key one.key) (added_is_told given one)
  where
    by_test : (same : Bool) → IsSome (value_in (given ++ one ∷ []) one.key)
        → IsSome (option_map (λ answer. answer.value) (cond same (Some first) (find (λ answer. same_key answer.key one.key) (given ++ one ∷ []))))
    by_test true later = refl
    by_test false later = later

-- how many questions a request has passed
abbrev pub passed_by_now : Told → ℕ
passed_by_now told = passed (course told.asked) (answers (entities told.uses) told.verdicts told.upstream)

-- one that was answered is passed
passes_use : (told : Told) (used : Use) → want_after told ≡ want.Entity used.key → passed_by_now told < passed_by_now (with_use used told)
passes_use told used is =
    let given = map answer_of told.uses in
    let one = answer_of used in
    let same = map-append answer_of told.uses (used ∷ []) in
    subst (λ list. passed_by_now told < passed (course told.asked) (answers (value_in list) told.verdicts told.upstream)) (sym same)
    (passed_grows (course told.asked) (answers (value_in given) told.verdicts told.upstream) (answers (value_in (given ++ one ∷ [])) told.verdicts told.upstream) (want.Entity used.key)
    (extends_entity given one told.verdicts told.upstream) (added_is_told given one)
    (lacks told.asked (answers (value_in given) told.verdicts told.upstream) (want.Entity used.key) is tt))

-- of what is bounded less is left
less_left : (before after bound : ℕ) → before < after → after ≤ bound → bound - after < bound - before
less_left before after bound more within = omega (arith, more, within)

-- so fewer are left
pub fewer_left : (told : Told) (used : Use) → want_after told ≡ want.Entity used.key → 9 - passed_by_now (with_use used told) < 9 - passed_by_now told
fewer_left told used is = less_left (passed_by_now told) (passed_by_now (with_use used told)) 9 (passes_use told used is)
    (course_le told.asked (answers (entities (with_use used told).uses) told.verdicts told.upstream))

-- ---- what answers

pub same_holding : (w : Holding) → HasSameHolding w w
same_holding w = record { number = refl; keys = same_entries key_eq w.keys; gens = refl }

pub same_holding_then : (a b c : Holding) → HasSameHolding a b → HasSameHolding b c → HasSameHolding a c
same_holding_then a b c first second = record {
  number = second.number ∙ first.number;
  keys = same_entries_then key_eq a.keys b.keys c.keys first.keys second.keys;
  gens = second.gens ∙ first.gens;
}

-- one more use is one of the level as it was at first
pub advances_more : (first held : Holding) (now : ℕ) (from told : Told) (used : Use) → HasSameHolding first held → Advances first.keys now from told
    → OwnUse held.keys now (want_after told) (Some used) → Advances first.keys now from (with_use used told)
advances_more first held now from told used same so_far own = subst (λ u. Advances first.keys now from (with_use u told)) (sym own.4)
    (Answers told own.0 own.1 so_far own.2 (sym (same_live key_eq first.keys held.keys same.keys own.0 now) ∙ own.3))

-- it was wanted
pub wanted_use : (held : Holding) (now : ℕ) (told : Told) (used : Use) → OwnUse held.keys now (want_after told) (Some used) → want_after told ≡ want.Entity used.key
wanted_use held now told used own = own.2 ∙ ap (λ (u : Use). want.Entity u.key) (sym own.4)

-- what was found is a use of what was asked
pub own_of : (l : Level Key Value) (now : ℕ) (wanted asked : Want) (came : Option Use) (used : Use) → wanted ≡ asked → came ≡ Some used → OwnUse l now wanted came → OwnUse l now asked (Some used)
own_of l now wanted asked came used same is own = subst (λ w. OwnUse l now w (Some used)) same (subst (OwnUse l now wanted) is own)
