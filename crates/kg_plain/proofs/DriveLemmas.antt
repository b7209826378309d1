-- A request that is told what the gateway answers by comes to the dry reply.
use Rattle.std.proofs.Common.{◌≡◌, ℕ, ◌-◌, ◌<◌, ◌⊎◌, inl, inr, Bool, true, false, cond, List, [], ◌∷◌, ◌++◌, find, map, option_map, Option, Some, None, Result, Ok, Err, IfOk, IsSome, slice_get, refl, sym, ap, subst, ◌∙◌, arith}
use Rattle.std.proofs.lemmas.Bool.{eq-eqb, eqb-true}
use Rattle.std.proofs.lemmas.List.{append-nil, map-append}
use Rattle.std.proofs.lemmas.Slice.Eq.{bytes_eq-Decides}
use Rattle.kg_row_types.specs.declared.key.Key.{Key}
use Rattle.kg_row_types.specs.declared.key.Key.TheVariants as key
use Rattle.kg_row_types.specs.declared.value.Value.{Value}
use Rattle.kg_row_values.specs.Values.{value_of}
use Rattle.kg_message.specs.declared.request.Request.{Request}
use Rattle.kg_message.specs.declared.response.Response.{Response}
use Rattle.kg_context.specs.Echo.{echo_of}
use Rattle.kg_context.specs.Given.{Answer, same_key, value_in}
use Rattle.kg_context.specs.declared.upstream.UpRequest.{UpRequest}
use Rattle.kg_context.specs.declared.upstream.Upstream.{Upstream}
use Rattle.kg_context.specs.declared.upstream.Upstream.TheVariants.{Answered}
use Rattle.kg_limit.specs.Judging.{verdict_after}
use Rattle.kg_limit.specs.Representing.{Represents}
use Rattle.kg_limit.specs.declared.hit.Hit.{Hit}
use Rattle.kg_limit.specs.declared.hit.Verdict.{Verdict}
use Rattle.kg_limit.specs.declared.windows.Windows.{Windows}
use Rattle.kg_course.specs.Course.{Answers, run}
use Rattle.kg_course.specs.CourseLaws.{Extends, Lacking, passed}
use Rattle.kg_course.specs.Plain.{Asked, answers, course, plain, want_of}
use Rattle.kg_course.specs.Wants.{Asks, is_reply}
use Rattle.kg_course.specs.declared.want.Want.{Want}
use Rattle.kg_course.specs.declared.want.Want.TheVariants as want
use Rattle.kg_course.proofs.AnswerLemmas.{extends_entity}
use Rattle.kg_course.proofs.BoundLemmas.{course_le, passed_grows}
use Rattle.kg_course.proofs.CourseLemmas.{run_lacks, run_more, run_still}
use Rattle.kg_visit.specs.Told.{Told, Use, answer_of, begun, entities, want_after, with_use, with_verdict}
use Rattle.kg_plain.specs.Driving.{AnswersOwn, GoesOn, IsDriven, IsJudged, RepliesLast, Responds, is_own, use_of}
use Rattle.kg_plain.specs.DryReply.{GatewayRows, after_echo, asked_of, counted, every, hits_in, response_in}

-- ---- what was told, and every value

-- what was told of keys are their values
abbrev Agrees : (Key → Option Value) → (Key → Option Value) → Type 0
Agrees some more = (key : Key) (value : Value) → some key ≡ Some value → more key ≡ Some value

extends : (some more : Key → Option Value) (verdicts : List Verdict) (answer : Option Upstream) → Agrees some more
    → Extends (answers some verdicts answer) (answers more verdicts answer)
extends some more verdicts answer agrees = record { entity = agrees; verdict = λ verdict is. is; upstream = λ answer is. is }

-- a request that wants something lacks it
lacks : (asked : Asked) (told : Answers) (lacking : Want) → want_of (run (course asked) told) ≡ lacking → Asks lacking → run (course asked) told ≡ Err lacking
lacks asked told lacking is asks = by_result (run (course asked) told) is
  where
    by_result : (came : Result Response Want) → want_of came ≡ lacking → came ≡ Err lacking
    by_result (Ok reply) same = absurd (subst Asks (sym same) asks)
    by_result (Err first) same = ap (λ w. Err w) same

-- and hasn't been told it
wasnt_told : (asked : Asked) (entity : Key → Option Value) (verdicts : List Verdict) (answer : Option Upstream) (lacking : Want)
    → plain asked entity verdicts answer ≡ lacking → Asks lacking → Lacking (answers entity verdicts answer) lacking
wasnt_told asked entity verdicts answer lacking is asks =
    run_lacks (course asked) (answers entity verdicts answer) lacking (lacks asked (answers entity verdicts answer) lacking is asks)

-- a request that has its reply comes to it
comes : (asked : Asked) (told : Answers) (reply : Response) → want_of (run (course asked) told) ≡ want.Done reply → run (course asked) told ≡ Ok reply
comes asked told reply is = by_result (run (course asked) told) refl is
  where
    by_result : (came : Result Response Want) → run (course asked) told ≡ came → want_of came ≡ want.Done reply → came ≡ Ok reply
    by_result (Ok other) at same = cc
    by_result (Err first) at same = absurd (subst (Lacking told) same (run_lacks (course asked) told first at))

-- what is wanted of some values is wanted of every value, where it isn't told
still_wanted : (asked : Asked) (some more : Key → Option Value) (verdicts : List Verdict) (answer : Option Upstream) (lacking : Want) → Agrees some more
    → Asks lacking → Lacking (answers more verdicts answer) lacking → plain asked some verdicts answer ≡ lacking → plain asked more verdicts answer ≡ lacking
still_wanted asked some more verdicts answer lacking agrees asks none is =
    ap want_of (run_still (course asked) (answers some verdicts answer) (answers more verdicts answer) lacking
    (extends some more verdicts answer agrees) none (lacks asked (answers some verdicts answer) lacking is asks))

-- and the reply is the same
still_done : (asked : Asked) (some more : Key → Option Value) (verdicts : List Verdict) (answer : Option Upstream) (reply : Response) → Agrees some more
    → plain asked some verdicts answer ≡ want.Done reply → plain asked more verdicts answer ≡ want.Done reply
still_done asked some more verdicts answer reply agrees is =
    ap want_of (run_more (course asked) (answers some verdicts answer) (answers more verdicts answer) reply
    (extends some more verdicts answer agrees) (comes asked (answers some verdicts answer) reply is))

-- ---- one value more

-- keys that ask the same are one
same_key_is : (a b : Key) → same_key a b ≡ true → a ≡ b
same_key_is (key.Cred a) (key.Cred b) same = ap key.Cred ((bytes_eq-Decides a b).0 same)
same_key_is (key.Cred a) (key.Basic b) same = absurd (cc)
same_key_is (key.Cred a) (key.Consumer b) same = absurd (cc)
same_key_is (key.Cred a) (key.Named b) same = absurd (cc)
same_key_is (key.Cred a) (key.Acls b) same = absurd (cc)
same_key_is (key.Basic a) (key.Cred b) same = absurd (cc)
same_key_is (key.Basic a) (key.Basic b) same = ap key.Basic ((bytes_eq-Decides a b).0 same)
same_key_is (key.Basic a) (key.Consumer b) same = absurd (cc)
same_key_is (key.Basic a) (key.Named b) same = absurd (cc)
same_key_is (key.Basic a) (key.Acls b) same = absurd (cc)
same_key_is (key.Consumer a) (key.Cred b) same = absurd (cc)
same_key_is (key.Consumer a) (key.Basic b) same = absurd (cc)
same_key_is (key.Consumer a) (key.Consumer b) same = ap key.Consumer (eqb-true a b same)
same_key_is (key.Consumer a) (key.Named b) same = absurd (cc)
same_key_is (key.Consumer a) (key.Acls b) same = absurd (cc)
same_key_is (key.Named a) (key.Cred b) same = absurd (cc)
same_key_is (key.Named a) (key.Basic b) same = absurd (cc)
same_key_is (key.Named a) (key.Consumer b) same = absurd (cc)
same_key_is (key.Named a) (key.Named b) same = ap key.Named ((bytes_eq-Decides a b).0 same)
same_key_is (key.Named a) (key.Acls b) same = absurd (cc)
same_key_is (key.Acls a) (key.Cred b) same = absurd (cc)
same_key_is (key.Acls a) (key.Basic b) same = absurd (cc)
same_key_is (key.Acls a) (key.Consumer b) same = absurd (cc)
same_key_is (key.Acls a) (key.Named b) same = absurd (cc)
same_key_is (key.Acls a) (key.Acls b) same = ap key.Acls (eqb-true a b same)

-- a value that is given then was given before, or is the one that was added
value_added : (given : List Answer) (one : Answer) (asked : Key) (value : Value) → value_in (given ++ one ∷ []) asked ≡ Some value
    → (value_in given asked ≡ Some value) ⊎ ((one.key ≡ asked) × (value ≡ one.value))
value_added [] one asked value is = by_test (same_key one.key asked) refl is
  where
    by_test : (same : Bool) → same_key one.key asked ≡ same → option_map (λ answer. answer.value) (cond same (Some one) None) ≡ Some value
        → (value_in [] asked ≡ Some value) ⊎ ((one.key ≡ asked) × (value ≡ one.value))
    by_test true same is = inr (same_key_is one.key asked same, cc)
    by_test false same is = absurd (cc)
value_added (first ∷ given) one asked value is = by_test (value_added given one asked value) (same_key first.key asked) is
  where
    by_test : (value_in (given ++ one ∷ []) asked ≡ Some value → (value_in given asked ≡ Some value) ⊎ ((one.key ≡ asked) × (value ≡ one.value)))
        → (same : Bool) → option_map (λ answer. answer.value) (cond same (Some first) (find (λ answer. same_key answer.key asked) (given ++ one ∷ []))) ≡ Some value
        → (option_map (λ answer. answer.value) (cond same (Some first) (find (λ answer. same_key answer.key asked) given)) ≡ Some value)
        ⊎ ((one.key ≡ asked) × (value ≡ one.value))
    by_test further true is = inl is
    by_test further false is = further is

agrees_more : (rows : GatewayRows) (uses : List Use) (key : Key) → Agrees (entities uses) (every rows.declared)
    → Agrees (entities (uses ++ use_of rows key ∷ [])) (every rows.declared)
agrees_more rows uses key agrees asked value is =
    by_cases (value_added (map answer_of uses) (answer_of (use_of rows key)) asked value
    (ap (λ given. value_in given asked) (sym (map-append answer_of uses (use_of rows key ∷ []))) ∙ is))
  where
    by_cases : (value_in (map answer_of uses) asked ≡ Some value) ⊎ ((key ≡ asked) × (value ≡ value_of rows.declared key))
        → every rows.declared asked ≡ Some value
    by_cases (inl before) = agrees asked value before
    by_cases (inr (same, new)) = ap (λ k. Some (value_of rows.declared k)) (sym same) ∙ ap Some (sym new)

-- ---- one question

-- no verdict was told where one is lacking
none_judged : (verdicts : List Verdict) → slice_get verdicts 0 ≡ None → verdicts ≡ []
none_judged [] none = refl
none_judged (verdict ∷ later) none = absurd (cc)

-- a key was told
drives_key : (rows : GatewayRows) (hits : List Hit) (told : Told) (windows : Windows) (key : Key) → IsDriven rows hits told windows
    → IsDriven rows hits (with_use (use_of rows key) told) windows
drives_key rows hits told windows key before = record { uses = agrees_more rows told.uses key before.uses; judged = before.judged }

-- a verdict was told: there was none before
drives_hit : (rows : GatewayRows) (hits : List Hit) (told : Told) (windows then : Windows) (hit : Hit) (verdict : Verdict) → told.upstream ≡ None
    → IsDriven rows hits told windows → want_after told ≡ want.Count hit
    → ((past : List Hit) → Represents windows past → (verdict ≡ verdict_after past hit) × Represents then (past ++ hit ∷ []))
    → IsDriven rows hits (with_verdict verdict told) then
drives_hit rows hits told windows then hit verdict no_answer before is judges = by_judged before.judged
  where
    entity : Key → Option Value
    entity = every rows.declared

    none : slice_get told.verdicts 0 ≡ None
    none = wasnt_told told.asked (entities told.uses) told.verdicts told.upstream (want.Count hit) is tt

    first : told.verdicts ≡ [] → plain told.asked entity [] None ≡ want.Count hit
    first no_verdict =
        ap (plain told.asked entity []) (sym no_answer)
        ∙ ap (λ verdicts. plain told.asked entity verdicts told.upstream) (sym no_verdict)
        ∙ still_wanted told.asked (entities told.uses) entity told.verdicts told.upstream (want.Count hit) before.uses tt none is

    by_judged : IsJudged told.asked entity hits told.verdicts windows → IsDriven rows hits (with_verdict verdict told) then
    by_judged (inl (no_verdict, stands)) =
        let judged = judges hits stands in
        record {
          uses = before.uses;
          judged = inr (hit, first no_verdict, ap (λ verdicts. verdicts ++ verdict ∷ []) no_verdict ∙ ap (λ v. v ∷ []) judged.0, judged.1);
        }
    by_judged (inr (other, at, some, stands)) = absurd (let no_verdict = none_judged told.verdicts none in cc)

-- what was told keeps what it agrees with
pub goes_further : (rows : GatewayRows) (start : Told) (origin : Windows) (told now : Told) (windows then : Windows) → GoesOn rows start origin told windows
    → AnswersOwn rows (want_after told) told windows now then → GoesOn rows start origin now then
goes_further rows start origin told now windows then before step = by_want (want_after told) refl step
  where
    by_want : (next : Want) → want_after told ≡ next → AnswersOwn rows next told windows now then → GoesOn rows start origin now then
    by_want (want.Entity key) is (same, kept) = record {
      whole = ap (λ (t : Told). t.lost) same ∙ before.whole;
      asked = ap (λ (t : Told). t.asked) same ∙ before.asked;
      upstream = ap (λ (t : Told). t.upstream) same ∙ before.upstream;
      driven = λ hits stands.
          subst (λ t. IsDriven rows hits t then) (sym same)
          (subst (IsDriven rows hits (with_use (use_of rows key) told)) (sym kept)
          (drives_key rows hits told windows key (before.driven hits stands)));
    }
    by_want (want.Count hit) is (verdict, same, judges) = record {
      whole = ap (λ (t : Told). t.lost) same ∙ before.whole;
      asked = ap (λ (t : Told). t.asked) same ∙ before.asked;
      upstream = ap (λ (t : Told). t.upstream) same ∙ before.upstream;
      driven = λ hits stands.
          subst (λ t. IsDriven rows hits t then) (sym same)
          (drives_hit rows hits told windows then hit verdict before.upstream (before.driven hits stands) is judges);
    }
    by_want (want.Upstream message) is step = absurd step
    by_want (want.Done reply) is step = absurd step

-- ---- the end of the questions

same_key_refl : (a : Key) → same_key a a ≡ true
same_key_refl (key.Cred a) = (bytes_eq-Decides a a).1 refl
same_key_refl (key.Basic a) = (bytes_eq-Decides a a).1 refl
same_key_refl (key.Consumer a) = eq-eqb a a refl
same_key_refl (key.Named a) = (bytes_eq-Decides a a).1 refl
same_key_refl (key.Acls a) = eq-eqb a a refl

-- a key that was added has a value
added_is_told : (given : List Answer) (one : Answer) → IsSome (value_in (given ++ one ∷ []) one.key)
added_is_told [] one = by_test (same_key one.key one.key) (same_key_refl one.key)
  where
    by_test : (same : Bool) → same ≡ true → IsSome (option_map (λ answer. answer.value) (cond same (Some one) None))
    by_test true is = refl
    by_test false is = absurd (cc)
added_is_told (first ∷ given) one = by_test (same_key first.key one.key) (added_is_told given one)
  where
    by_test : (same : Bool) → IsSome (value_in (given ++ one ∷ []) one.key)
        → IsSome (option_map (λ answer. answer.value) (cond same (Some first) (find (λ answer. same_key answer.key one.key) (given ++ one ∷ []))))
    by_test true later = refl
    by_test false later = later

-- the first verdict stays the first
first_stays : (verdicts : List Verdict) (one verdict : Verdict) → slice_get verdicts 0 ≡ Some verdict → slice_get (verdicts ++ one ∷ []) 0 ≡ Some verdict
first_stays [] one verdict is = absurd (cc)
first_stays (first ∷ later) one verdict is = is

first_is_told : (verdicts : List Verdict) (one : Verdict) → IsSome (slice_get (verdicts ++ one ∷ []) 0)
first_is_told [] one = refl
first_is_told (first ∷ later) one = refl

-- how many questions a visit has passed
abbrev pub passed_by_now : Told → ℕ
passed_by_now told = passed (course told.asked) (answers (entities told.uses) told.verdicts told.upstream)

-- one that was answered is passed
passes_key : (rows : GatewayRows) (told : Told) (key : Key) → want_after told ≡ want.Entity key → passed_by_now told < passed_by_now (with_use (use_of rows key) told)
passes_key rows told key is =
    let given = map answer_of told.uses in
    let one = answer_of (use_of rows key) in
    let same = map-append answer_of told.uses (use_of rows key ∷ []) in
    subst (λ list. passed_by_now told < passed (course told.asked) (answers (value_in list) told.verdicts told.upstream)) (sym same)
    (passed_grows (course told.asked) (answers (value_in given) told.verdicts told.upstream) (answers (value_in (given ++ one ∷ [])) told.verdicts told.upstream) (want.Entity key)
    (extends_entity given one told.verdicts told.upstream) (added_is_told given one)
    (lacks told.asked (answers (value_in given) told.verdicts told.upstream) (want.Entity key) is tt))

passes_hit : (told : Told) (hit : Hit) (verdict : Verdict) → want_after told ≡ want.Count hit → passed_by_now told < passed_by_now (with_verdict verdict told)
passes_hit told hit verdict is =
    passed_grows (course told.asked) (answers (entities told.uses) told.verdicts told.upstream) (answers (entities told.uses) (told.verdicts ++ verdict ∷ []) told.upstream) (want.Count hit)
    (record { entity = λ asked value told. told; verdict = λ other told_so. first_stays told.verdicts verdict other told_so; upstream = λ answer told. told })
    (first_is_told told.verdicts verdict)
    (lacks told.asked (answers (entities told.uses) told.verdicts told.upstream) (want.Count hit) is tt)

-- so fewer are left
pub fewer_left : (rows : GatewayRows) (told now : Told) (windows then : Windows) → AnswersOwn rows (want_after told) told windows now then
    → 9 - passed_by_now now < 9 - passed_by_now told
fewer_left rows told now windows then step = omega (arith, by_want (want_after told) refl step, course_le now.asked (answers (entities now.uses) now.verdicts now.upstream))
  where
    by_want : (next : Want) → want_after told ≡ next → AnswersOwn rows next told windows now then → passed_by_now told < passed_by_now now
    by_want (want.Entity key) is (same, kept) = subst (λ t. passed_by_now told < passed_by_now t) (sym same) (passes_key rows told key is)
    by_want (want.Count hit) is (verdict, same, judges) = subst (λ t. passed_by_now told < passed_by_now t) (sym same) (passes_hit told hit verdict is)
    by_want (want.Upstream message) is step = absurd step
    by_want (want.Done reply) is step = absurd step

-- ---- the reply

-- what is no question of the gateway's own, and isn't answered, is the message
pub wants_message : (next : Want) → is_own next ≡ false → is_reply next ≡ false → (message : UpRequest) × (next ≡ want.Upstream message)
wants_message (want.Upstream message) others open_yet = (message, refl)
wants_message (want.Entity key) others open_yet = absurd (cc)
wants_message (want.Count hit) others open_yet = absurd (cc)
wants_message (want.Done reply) others open_yet = absurd (cc)

counted_is : (rows : GatewayRows) (time : ℕ) (request : Request) → counted rows time request ≡ hits_in (plain (asked_of rows time request) (every rows.declared) [] None)
unfolding counted
counted_is rows time request = refl

-- what is lacking behind all that the gateway answers by itself is the reply, with every value too
abbrev EndsIn : Asked → (Key → Option Value) → List Verdict → Want → Response → Type 0
EndsIn asked entity verdicts (want.Upstream message) reply =
    (plain asked entity verdicts None ≡ want.Upstream message) × (plain asked entity verdicts (Some (Answered (echo_of message.bytes))) ≡ want.Done reply)
EndsIn asked entity verdicts (want.Done response) reply = plain asked entity verdicts None ≡ want.Done reply
EndsIn asked entity verdicts _ reply = ⊥

reply_is : (asked : Asked) (entity : Key → Option Value) (verdicts : List Verdict) (next : Want) (reply : Response) → EndsIn asked entity verdicts next reply
    → reply ≡ response_in (after_echo asked entity verdicts (plain asked entity verdicts None))
reply_is asked entity verdicts (want.Upstream message) reply (at, done) =
    ap response_in (sym done) ∙ ap (λ next. response_in (after_echo asked entity verdicts next)) (sym at)
reply_is asked entity verdicts (want.Done response) reply done = ap (λ next. response_in (after_echo asked entity verdicts next)) (sym done)
reply_is asked entity verdicts (want.Entity key) reply ends = absurd ends
reply_is asked entity verdicts (want.Count hit) reply ends = absurd ends

-- no hit is wanted then
none_counted : (asked : Asked) (entity : Key → Option Value) (verdicts : List Verdict) (next : Want) (reply : Response) → EndsIn asked entity verdicts next reply
    → hits_in (plain asked entity verdicts None) ≡ []
none_counted asked entity verdicts (want.Upstream message) reply (at, done) = ap hits_in at
none_counted asked entity verdicts (want.Done response) reply done = ap hits_in done
none_counted asked entity verdicts (want.Entity key) reply ends = absurd ends
none_counted asked entity verdicts (want.Count hit) reply ends = absurd ends

-- the reply that a visit comes to is that of every value
ends_in : (told : Told) (entity : Key → Option Value) (reply : Response) → told.upstream ≡ None → Agrees (entities told.uses) entity
    → RepliesLast told (want_after told) reply → EndsIn told.asked entity told.verdicts (want_after told) reply
ends_in told entity reply no_answer agrees last = by_want (want_after told) refl last
  where
    by_want : (next : Want) → want_after told ≡ next → RepliesLast told next reply → EndsIn told.asked entity told.verdicts next reply
    by_want (want.Upstream message) is done = (
      ap (plain told.asked entity told.verdicts) (sym no_answer)
          ∙ still_wanted told.asked (entities told.uses) entity told.verdicts told.upstream (want.Upstream message) agrees tt no_answer is,
      still_done told.asked (entities told.uses) entity told.verdicts (Some (Answered (echo_of message.bytes))) reply agrees done,
    )
    by_want (want.Done response) is same =
        ap (plain told.asked entity told.verdicts) (sym no_answer)
        ∙ still_done told.asked (entities told.uses) entity told.verdicts told.upstream reply agrees (is ∙ ap want.Done (sym same))
    by_want (want.Entity key) is last = absurd last
    by_want (want.Count hit) is last = absurd last

-- a request that was told all that it wants has the dry reply
responds_at_end : (rows : GatewayRows) (hits : List Hit) (time : ℕ) (request : Request) (told : Told) (windows : Windows) (reply : Response)
    → told.asked ≡ asked_of rows time request → told.upstream ≡ None → IsDriven rows hits told windows → RepliesLast told (want_after told) reply
    → Responds rows hits time request reply windows
responds_at_end rows hits time request told windows reply asks no_answer driven last = by_judged driven.judged
  where
    asked : Asked
    asked = asked_of rows time request

    entity : Key → Option Value
    entity = every rows.declared

    ends : EndsIn asked entity told.verdicts (want_after told) reply
    ends = subst (λ a. EndsIn a entity told.verdicts (want_after told) reply) asks (ends_in told entity reply no_answer driven.uses last)

    from_counts : (counts : List Hit) → counted rows time request ≡ counts → map (verdict_after hits) counts ≡ told.verdicts → Represents windows (hits ++ counts)
        → Responds rows hits time request reply windows
    from_counts counts are verdicts stands = record {
      is = reply_is asked entity told.verdicts (want_after told) reply ends
          ∙ ap (λ vs. response_in (after_echo asked entity vs (plain asked entity vs None))) (sym verdicts ∙ ap (map (verdict_after hits)) (sym are));
      counts = subst (λ more. Represents windows (hits ++ more)) (sym are) stands;
    }

    by_judged : IsJudged told.asked entity hits told.verdicts windows → Responds rows hits time request reply windows
    by_judged (inl (none, stands)) =
        from_counts []
        (counted_is rows time request
        ∙ ap (λ vs. hits_in (plain asked entity vs None)) (sym none)
        ∙ none_counted asked entity told.verdicts (want_after told) reply ends)
        (sym none) (subst (Represents windows) (sym (append-nil hits)) stands)
    by_judged (inr (hit, first, verdicts, stands)) =
        from_counts (hit ∷ [])
        (counted_is rows time request ∙ ap hits_in (ap (λ a. plain a entity [] None) (sym asks) ∙ first))
        (sym verdicts) stands

-- from its begin on
pub responds : {E : Type 0} (rows : GatewayRows) (hits : List Hit) (time : ℕ) (request : Request) (start told : Told) (origin windows : Windows) (result : Result Response E)
    → start ≡ begun rows.router rows.plugins request (record { time = time; who = 1 }) → GoesOn rows start origin told windows → Represents origin hits
    → IfOk result (RepliesLast told (want_after told)) → IfOk result (λ reply. Responds rows hits time request reply windows)
responds rows hits time request start told origin windows (Ok reply) starts goes stands last =
    responds_at_end rows hits time request told windows reply (goes.asked ∙ ap (λ (t : Told). t.asked) starts) goes.upstream (goes.driven hits stands) last
responds rows hits time request start told origin windows (Err e) starts goes stands last = tt
