-- What more answers make of a walk, and what is wanted behind it.
use Rattle.std.proofs.Common.{◌≡◌, ℕ, Bool, true, false, cond, List, [], ◌∷◌, ◌++◌, take, drop, find, option_map, slice_get, ◌≢◌, Option, Some, None, Result, Ok, Err, refl, sym, ap, subst, ◌∙◌}
use Rattle.std.proofs.lemmas.List.{take-append-drop}
use Rattle.std.specs.List.{flat_map}
use Rattle.kg_row_types.specs.PluginNames.{plugins_in_order}
use Rattle.kg_row_types.specs.declared.key.Key.{Key}
use Rattle.kg_row_types.specs.declared.plugin.PluginRow.{PluginRow}
use Rattle.kg_row_types.specs.declared.value.Value.{Value}
use Rattle.kg_message.specs.declared.response.Response.{Response}
use Rattle.kg_router.specs.Best.{Choice, best_choice}
use Rattle.kg_context.specs.Given.{Answer, same_key, value_in}
use Rattle.kg_context.specs.declared.upstream.UpRequest.{UpRequest}
use Rattle.kg_context.specs.declared.upstream.Upstream.{Upstream}
use Rattle.kg_context.specs.declared.upstream.Upstream.TheVariants.{Fault}
use Rattle.kg_limit.specs.declared.hit.Hit.{Hit}
use Rattle.kg_limit.specs.declared.hit.Verdict.{Verdict}
use Rattle.kg_course.specs.Course.{Answers, Course, run, through}
use Rattle.kg_course.specs.CourseLaws.{Extends, Lacking}
use Rattle.kg_course.specs.Phases.{Under}
use Rattle.kg_course.specs.Plain.{Asked, answers, course, finished, plain, routed, start, walk, want_of}
use Rattle.kg_course.specs.Wants.{Asks}
use Rattle.kg_upstream.specs.UpstreamMessage.{way_of}
use Rattle.kg_course.specs.Walks.{Goes, HasCome, RepliesOrAsks, WantsOnRoute, chosen_in, limit_of, under_way}
use Rattle.kg_upstream.specs.declared.way.Way.{Way}
use Rattle.kg_course.specs.declared.moment.Moment.{Moment}
use Rattle.kg_course.specs.declared.walk.Walk.{Walk}
use Rattle.kg_course.specs.declared.want.Want.{Want}
use Rattle.kg_course.specs.declared.want.Want.TheVariants as want
use Rattle.kg_course.specs.declared.want.Want.TheVariants as want
use Rattle.kg_course.proofs.CourseLemmas.{onward, run_lacks, run_more, run_through}
use Rattle.kg_course.proofs.WalkLemmas.{run_walk_append}

-- what the plain gateway lacks has not been told
pub plain_lacks : (asked : Asked) (entity : Key → Option Value) (verdicts : List Verdict) (upstream : Option Upstream) (lacking : Want)
    → plain asked entity verdicts upstream ≡ lacking → Asks lacking → Lacking (answers entity verdicts upstream) lacking
plain_lacks asked entity verdicts upstream lacking is asks = by_result (run (course asked) (answers entity verdicts upstream)) refl is
  where
    by_result : (came : Result Response Want) → run (course asked) (answers entity verdicts upstream) ≡ came → want_of came ≡ lacking → Lacking (answers entity verdicts upstream) lacking
    by_result (Ok reply) at same = absurd (subst Asks (sym same) asks)
    by_result (Err first) at same = subst (Lacking (answers entity verdicts upstream)) same (run_lacks (course asked) (answers entity verdicts upstream) first at)

-- what the rest of the course comes to is what the plain gateway wants
pub current_on_route : (asked : Asked) (entity : Key → Option Value) (verdicts : List Verdict) (upstream : Option Upstream) (choice : Choice) (way : Way) (now : Walk) (next : Want)
    → best_choice asked.router.services asked.router.routes asked.request ≡ Some choice
    → way ≡ way_of choice asked.request
    → HasCome asked.plugins.rows asked.moment (answers entity verdicts upstream) (start choice asked.request) now.taken (under_way asked.plugins.rows verdicts now)
    → next ≡ want_of (run (through (walk asked.plugins.rows asked.moment (drop now.taken plugins_in_order) (under_way asked.plugins.rows verdicts now)) (finished way)) (answers entity verdicts upstream))
    → next ≡ plain asked entity verdicts upstream
current_on_route asked entity verdicts upstream choice way now next best same come rest =
    let rows = asked.plugins.rows in
    let moment = asked.moment in
    let told = answers entity verdicts upstream in
    let origin = start choice asked.request in
    let here = under_way rows verdicts now in
    let last = finished (way_of choice asked.request) in
    let whole : run (walk rows moment plugins_in_order origin) told ≡ run (walk rows moment (drop now.taken plugins_in_order) here) told =
    ap (λ names. run (walk rows moment names origin) told) (sym (take-append-drop now.taken plugins_in_order))
    ∙ run_walk_append rows moment (take now.taken plugins_in_order) (drop now.taken plugins_in_order) origin told
    ∙ ap (λ came. onward came (λ at. run (walk rows moment (drop now.taken plugins_in_order) at) told)) come.so_far in
    rest
    ∙ ap (λ one. want_of (run (through (walk rows moment (drop now.taken plugins_in_order) here) (finished one)) told)) same
    ∙ ap want_of (run_through (walk rows moment (drop now.taken plugins_in_order) here) last told)
    ∙ ap (λ came. want_of (onward came (λ under. run (last under) told))) (sym whole)
    ∙ ap want_of (sym (run_through (walk rows moment plugins_in_order origin) last told))
    ∙ ap (λ found. want_of (run (routed asked found) told)) (sym best)

-- more answers lead as far
pub come_more : (rows : List PluginRow) (moment : Moment) (some more : Answers) (start now : Under) (count : ℕ)
    → Extends some more → HasCome rows moment some start count now → HasCome rows moment more start count now
come_more rows moment some more start now count extends come = record { so_far = run_more (walk rows moment (take count plugins_in_order) start) some more now extends come.so_far }

-- ---- more answers

pub extends_upstream : (entity : Key → Option Value) (verdicts : List Verdict) (before : Option Upstream) (answer : Upstream) → before ≡ None
    → Extends (answers entity verdicts before) (answers entity verdicts (Some answer))
extends_upstream entity verdicts before answer none = record {
  entity = λ key value is. is;
  verdict = λ verdict is. is;
  upstream = λ other is. absurd (cc);
}

-- what was given stays given
value_in_more : (given : List Answer) (one : Answer) (key : Key) (value : Value) → value_in given key ≡ Some value → value_in (given ++ one ∷ []) key ≡ Some value
value_in_more [] one key value is = absurd (cc)
value_in_more (first ∷ given) one key value is = by_test (value_in_more given one key value) (same_key first.key key) is
  where
    by_test : (value_in given key ≡ Some value → value_in (given ++ one ∷ []) key ≡ Some value)
        → (same : Bool) → option_map (λ answer. answer.value) (cond same (Some first) (find (λ answer. same_key answer.key key) given)) ≡ Some value
        → option_map (λ answer. answer.value) (cond same (Some first) (find (λ answer. same_key answer.key key) (given ++ one ∷ []))) ≡ Some value
    by_test further true is = is
    by_test further false is = further is

pub extends_entity : (given : List Answer) (one : Answer) (verdicts : List Verdict) (upstream : Option Upstream)
    → Extends (answers (value_in given) verdicts upstream) (answers (value_in (given ++ one ∷ [])) verdicts upstream)
extends_entity given one verdicts upstream = record {
  entity = λ key value is. value_in_more given one key value is;
  verdict = λ verdict is. is;
  upstream = λ answer is. is;
}

-- a verdict: the first one counts
pub extends_verdict : (entity : Key → Option Value) (verdicts : List Verdict) (verdict : Verdict) (upstream : Option Upstream)
    → Extends (answers entity verdicts upstream) (answers entity (verdicts ++ verdict ∷ []) upstream)
extends_verdict entity verdicts verdict upstream = record {
  entity = λ key value is. is;
  verdict = λ one is. first_more verdicts one is;
  upstream = λ answer is. is;
}
  where
    first_more : (before : List Verdict) (one : Verdict) → slice_get before 0 ≡ Some one → slice_get (before ++ verdict ∷ []) 0 ≡ Some one
    first_more [] one is = absurd (cc)
    first_more (first ∷ later) one is = is

-- and changes nothing of a walk that has counted no hit yet, or has its verdict
pub under_way_more : (rows : List PluginRow) (verdicts : List Verdict) (verdict : Verdict) (walk : Walk) → (verdicts ≡ [] → walk.limit ≡ None)
    → under_way rows (verdicts ++ verdict ∷ []) walk ≡ under_way rows verdicts walk
under_way_more rows verdicts verdict walk uncounted =
    let with_limit : Option (Hit × Verdict) → Under = λ limit. record { ctx = walk.ctx; chosen = flat_map (chosen_in rows) walk.turns; limit = limit } in
    ap with_limit (same_limit verdicts walk.limit uncounted)
  where
    same_limit : (before : List Verdict) (counted : Option Hit) → (before ≡ [] → counted ≡ None) → limit_of counted (before ++ verdict ∷ []) ≡ limit_of counted before
    same_limit [] counted none = ap (λ one. limit_of one (verdict ∷ [])) (none refl) ∙ sym (ap (λ one. limit_of one []) (none refl))
    same_limit (first ∷ later) None none = refl
    same_limit (first ∷ later) (Some hit) none = refl

-- ---- behind the plugins

-- what a course lacks that was told an answer of the upstream is no such answer
no_message : {A : Type 0} (course : Course A) (told : Answers) (answer : Upstream) (message : UpRequest) → told.upstream ≡ Some answer → run course told ≢ Err (want.Upstream message)
no_message course told answer message told_is is = absurd (some_is_none (sym told_is ∙ run_lacks course told (want.Upstream message) is))
  where
    some_is_none : {one : Upstream} → Some one ≡ None → ⊥
    some_is_none same = absurd (cc)

-- something is lacking that a plugin asks
pub wants_lacking : (rows : List PluginRow) (way : Way) (moment : Moment) (given : List Answer) (verdicts : List Verdict) (before now : Walk) (lacking : Want)
    → Goes rows moment given verdicts before (Some lacking) now → WantsOnRoute rows way moment given verdicts before lacking now
wants_lacking rows way moment given verdicts before now lacking goes =
    let told = answers (value_in given) verdicts None in
    let left = walk rows moment (drop now.taken plugins_in_order) (under_way rows verdicts now) in
    record {
      on = goes.on;
      rest =
          sym (ap want_of (run_through left (finished way) told
          ∙ ap (λ came. onward came (λ under. run (finished way under) told)) (goes.stands None).rest));
      over = λ message is.
          let answered = answers (value_in given) verdicts (Some Fault) in
          let err : Want → Result Under Want = λ one. Err one in
          absurd (no_message left answered Fault message refl ((goes.stands (Some Fault)).rest ∙ ap err is));
      known = goes.known;
    }

-- nothing is
pub wants_finished : (rows : List PluginRow) (way : Way) (moment : Moment) (given : List Answer) (verdicts : List Verdict) (before now : Walk) (next : Want)
    → Goes rows moment given verdicts before None now → RepliesOrAsks rows way verdicts now next → WantsOnRoute rows way moment given verdicts before next now
wants_finished rows way moment given verdicts before now next goes replies =
    let told = answers (value_in given) verdicts None in
    let left = walk rows moment (drop now.taken plugins_in_order) (under_way rows verdicts now) in
    record {
      on = goes.on;
      rest =
          replies.rest (value_in given)
          ∙ sym (ap want_of (run_through left (finished way) told
          ∙ ap (λ came. onward came (λ under. run (finished way under) told)) (goes.stands None).rest));
      over = λ message is. record { stands = goes.stands; not_ended = replies.not_ended message is };
      known = goes.known;
    }
