-- A visit that begins, or that is told something, goes on from where it stood.
use Rattle.std.proofs.Common.{◌≡◌, Bool, true, false, List, [], ◌∷◌, ◌++◌, map, take, drop, option_map, slice_get, Option, Some, None, IfSome, Result, Ok, refl, sym, ap, subst, ◌∙◌}
use Rattle.std.proofs.lemmas.List.{map-append}
use Rattle.std.specs.List.{flat_map}
use Rattle.kg_row_types.specs.PluginNames.{plugins_in_order}
use Rattle.kg_row_types.specs.declared.key.Key.{Key}
use Rattle.kg_row_types.specs.declared.plugin.PluginName.{PluginName}
use Rattle.kg_row_types.specs.declared.plugin.PluginRow.{PluginRow}
use Rattle.kg_row_types.specs.declared.value.Value.{Value}
use Rattle.kg_message.specs.declared.request.Request.{Request}
use Rattle.kg_message.specs.declared.response.Response.{Response}
use Rattle.kg_router.specs.Best.{Choice, best_choice}
use Rattle.kg_router.specs.RouterRows.{RouterRows}
use Rattle.kg_plugin_table.specs.PluginRows.{IsPlaceOf, PluginRows}
use Rattle.kg_plugin_table.specs.Precedence.{chosen_row}
use Rattle.kg_context.specs.Context.{started}
use Rattle.kg_context.specs.Echo.{echo_of}
use Rattle.kg_context.specs.Given.{Answer, value_in}
use Rattle.kg_context.specs.declared.upstream.UpRequest.{UpRequest}
use Rattle.kg_context.specs.declared.upstream.Upstream.{Upstream}
use Rattle.kg_context.specs.declared.upstream.Upstream.TheVariants.{Answered}
use Rattle.kg_limit.specs.declared.hit.Hit.{Hit}
use Rattle.kg_limit.specs.declared.hit.Verdict.{Verdict}
use Rattle.kg_upstream.specs.UpstreamMessage.{reply_of, way_of}
use Rattle.kg_upstream.specs.declared.way.Way.{Way}
use Rattle.kg_course.specs.Course.{Leaves, run, through}
use Rattle.kg_course.specs.Phases.{Under}
use Rattle.kg_course.specs.Plain.{Asked, answered, answers, filtered, finished, no_route, plain, routed, scope_of, start, walk, want_of}
use Rattle.kg_course.specs.Wants.{Asks}
use Rattle.kg_course.specs.Walks.{BeginsWalk, HasCome, IsOver, KnowsRow, WantsOnRoute, chosen_in, limit_of, under_way}
use Rattle.kg_course.specs.declared.moment.Moment.{Moment}
use Rattle.kg_course.specs.declared.walk.Walk.{Walk}
use Rattle.kg_course.specs.declared.want.Want.{Want}
use Rattle.kg_course.specs.declared.want.Want.TheVariants as want
use Rattle.kg_course.proofs.AnswerLemmas.{come_more, current_on_route, extends_entity, extends_verdict, plain_lacks, under_way_more}
use Rattle.kg_course.proofs.CourseLemmas.{onward, run_through}
use Rattle.kg_visit.specs.Told.{IsAsked, Told, Use, answer_of, begun, entities, want_after}
use Rattle.kg_visit.specs.Told.{Begins, AsksUse, AsksVerdict, AsksUpstream}
use Rattle.kg_visit.specs.Visits.{BeginsStage, FitsTogether, IsAtStage, IsOnRoute, IsUnderWay, KnowsAsker, NextWant, RepliesTo, request_of, told_of}
use Rattle.kg_visit.specs.declared.stage.Stage.{Stage}
use Rattle.kg_visit.specs.declared.stage.Stage.TheVariants.{OnRoute, NoRoute}

-- ---- a visit's state, by its parts

abbrev pub told_at : RouterRows → PluginRows → Request → Moment → List Use → List Verdict → Option Upstream → Told
told_at router plugins request moment uses verdicts upstream = record {
  asked = record { router = router; plugins = plugins; request = request; moment = moment };
  uses = uses;
  verdicts = verdicts;
  upstream = upstream;
  lost = false;
}

-- ---- on a route

-- what is wanted next, from wherever it was come to
goes_on_route : (router : RouterRows) (plugins : PluginRows) (request : Request) (moment : Moment) (uses : List Use) (verdicts : List Verdict) (upstream : Option Upstream)
    (given : List Answer) (choice : Choice) (way : Way) (before now : Walk) (next : Want)
    → best_choice router.services router.routes request ≡ Some choice → way ≡ way_of choice request → upstream ≡ None
    → given ≡ map answer_of uses
    → IsAsked (record { router = router; plugins = plugins; request = request; moment = moment }) uses verdicts upstream
    → (verdicts ≡ [] → before.limit ≡ None)
    → ((up : Option Upstream) → HasCome plugins.rows moment (answers (value_in given) verdicts up) (start choice request) before.taken (under_way plugins.rows verdicts before))
    → WantsOnRoute plugins.rows way moment given verdicts before next now
    → FitsTogether (told_at router plugins request moment uses verdicts upstream) given next
    (IsOnRoute (told_at router plugins request moment uses verdicts upstream) way now given next)
goes_on_route router plugins request moment uses verdicts upstream given choice way before now next best its_way none all in_order counted come goes =
    let asked : Asked = record { router = router; plugins = plugins; request = request; moment = moment } in
    let came : (up : Option Upstream) → HasCome plugins.rows moment (answers (value_in given) verdicts up) (start choice request) now.taken (under_way plugins.rows verdicts now) =
    λ up. goes.on.came (start choice request) up (come up) in
    record {
      current =
          current_on_route asked (value_in given) verdicts None choice way now next best its_way (came None) goes.rest
          ∙ ap (λ values. plain asked (value_in values) verdicts None) all
          ∙ ap (λ up. plain asked (entities uses) verdicts up) (sym none);
      answered = all;
      in_order = in_order;
      at_stage = λ asks. record {
        choice = choice;
        is_best = best;
        its_way = its_way;
        unanswered = none;
        counted = goes.on.counted counted;
        came = came;
        over = goes.over;
        known = goes.known;
      };
    }

-- ---- the value of a key

given_use : (router : RouterRows) (plugins : PluginRows) (request : Request) (moment : Moment) (uses : List Use) (verdicts : List Verdict) (upstream : Option Upstream)
    (given : List Answer) (way : Way) (before now : Walk) (wanted next : Want) (used : Use)
    → FitsTogether (told_at router plugins request moment uses verdicts upstream) given wanted (IsOnRoute (told_at router plugins request moment uses verdicts upstream) way before given wanted)
    → wanted ≡ want.Entity used.key
    → WantsOnRoute plugins.rows way moment (given ++ answer_of used ∷ []) verdicts before next now
    → FitsTogether (told_at router plugins request moment (uses ++ used ∷ []) verdicts upstream) (given ++ answer_of used ∷ []) next
    (IsOnRoute (told_at router plugins request moment (uses ++ used ∷ []) verdicts upstream) way now (given ++ answer_of used ∷ []) next)
given_use router plugins request moment uses verdicts upstream given way before now wanted next used fits is goes =
    let route : IsOnRoute (told_at router plugins request moment uses verdicts upstream) way before given wanted = fits.at_stage (subst Asks (sym is) tt) in
    let more = given ++ answer_of used ∷ [] in
    goes_on_route router plugins request moment (uses ++ used ∷ []) verdicts upstream more route.choice way before now next route.is_best route.its_way route.unanswered
    (ap (λ values. values ++ answer_of used ∷ []) fits.answered ∙ sym (map-append answer_of uses (used ∷ [])))
    (AsksUse uses verdicts upstream used fits.in_order (sym fits.current ∙ is))
    route.counted
    (λ up. come_more plugins.rows moment (answers (value_in given) verdicts up) (answers (value_in more) verdicts up) (start route.choice request) (under_way plugins.rows verdicts before) before.taken
    (extends_entity given (answer_of used) verdicts up) (route.came up))
    goes

-- ---- the verdict

not_empty : (verdicts : List Verdict) (verdict : Verdict) → verdicts ++ verdict ∷ [] ≡ [] → ⊥
not_empty [] verdict is = absurd (cc)
not_empty (first ∷ verdicts) verdict is = absurd (cc)

given_verdict : (router : RouterRows) (plugins : PluginRows) (request : Request) (moment : Moment) (uses : List Use) (verdicts : List Verdict) (upstream : Option Upstream)
    (given : List Answer) (way : Way) (before now : Walk) (wanted next : Want) (hit : Hit) (verdict : Verdict)
    → FitsTogether (told_at router plugins request moment uses verdicts upstream) given wanted (IsOnRoute (told_at router plugins request moment uses verdicts upstream) way before given wanted)
    → wanted ≡ want.Count hit
    → WantsOnRoute plugins.rows way moment given (verdicts ++ verdict ∷ []) before next now
    → FitsTogether (told_at router plugins request moment uses (verdicts ++ verdict ∷ []) upstream) given next
    (IsOnRoute (told_at router plugins request moment uses (verdicts ++ verdict ∷ []) upstream) way now given next)
given_verdict router plugins request moment uses verdicts upstream given way before now wanted next hit verdict fits is goes =
    let told = told_at router plugins request moment uses verdicts upstream in
    let route : IsOnRoute told way before given wanted = fits.at_stage (subst Asks (sym is) tt) in
    let more = verdicts ++ verdict ∷ [] in
    goes_on_route router plugins request moment uses more upstream given route.choice way before now next route.is_best route.its_way route.unanswered
    fits.answered
    (AsksVerdict uses verdicts upstream hit verdict fits.in_order (sym fits.current ∙ is))
    (λ empty. absurd (not_empty verdicts verdict empty))
    (λ up. subst (λ under. HasCome plugins.rows moment (answers (value_in given) more up) (start route.choice request) before.taken under)
    (sym (under_way_more plugins.rows verdicts verdict before route.counted))
    (come_more plugins.rows moment (answers (value_in given) verdicts up) (answers (value_in given) more up) (start route.choice request) (under_way plugins.rows verdicts before) before.taken
    (extends_verdict (value_in given) verdicts verdict up) (route.came up)))
    goes

-- ---- the upstream's answer

-- the reply is what the answer becomes, since the plugins are through
replied_on_route : (router : RouterRows) (plugins : PluginRows) (request : Request) (moment : Moment) (uses : List Use) (verdicts : List Verdict) (upstream : Option Upstream)
    (given : List Answer) (way : Way) (here : Walk) (wanted : Want) (message : UpRequest) (answer : Upstream) (reply : Response)
    → FitsTogether (told_at router plugins request moment uses verdicts upstream) given wanted (IsOnRoute (told_at router plugins request moment uses verdicts upstream) way here given wanted)
    → wanted ≡ want.Upstream message
    → reply ≡ filtered (under_way plugins.rows verdicts here) (reply_of answer)
    → want.Done reply ≡ want_after (told_at router plugins request moment uses verdicts (Some answer))
replied_on_route router plugins request moment uses verdicts upstream given way here wanted message answer reply fits is replies =
    let told = told_at router plugins request moment uses verdicts upstream in
    let asked = told.asked in
    let rows = plugins.rows in
    let route : IsOnRoute told way here given wanted = fits.at_stage (subst Asks (sym is) tt) in
    let over : IsOver rows moment given verdicts here = route.over message is in
    let all = answers (value_in given) verdicts (Some answer) in
    let under = under_way rows verdicts here in
    let rest : want.Done reply ≡ want_of (run (through (walk rows moment (drop here.taken plugins_in_order) under) (finished way)) all) =
    ap want.Done replies
    ∙ sym (ap (λ end. want_of (run (through (answered way under.ctx end) (λ one. Leaves (filtered under one))) all)) over.not_ended)
    ∙ sym (ap want_of (run_through (walk rows moment (drop here.taken plugins_in_order) under) (finished way) all
    ∙ ap (λ came. onward came (λ at. run (finished way at) all)) (over.stands (Some answer)).rest)) in
    current_on_route asked (value_in given) verdicts (Some answer) route.choice way here (want.Done reply) route.is_best route.its_way (route.came (Some answer)) rest
    ∙ ap (λ values. plain asked (value_in values) verdicts (Some answer)) fits.answered

-- ---- the begin

begun_on_route : (router : RouterRows) (plugins : PluginRows) (request : Request) (moment : Moment) (choice : Choice) (way : Way) (before now : Walk) (next : Want)
    → best_choice router.services router.routes request ≡ Some choice → way ≡ way_of choice request
    → BeginsWalk way request before
    → WantsOnRoute plugins.rows way moment [] [] before next now
    → FitsTogether (told_at router plugins request moment [] [] None) [] next (IsOnRoute (told_at router plugins request moment [] [] None) way now [] next)
begun_on_route router plugins request moment choice way before now next best its_way begins goes =
    let rows = plugins.rows in
    let here : under_way rows [] before ≡ start choice request =
    λ i. record {
      ctx = (begins.ctx ∙ ap (λ one. started one.service one.route request) its_way) i;
      chosen = flat_map (chosen_in rows) (begins.turns i);
      limit = limit_of (begins.limit i) [];
    } in
    let came_to : Under → Result Under Want = λ under. Ok under in
    goes_on_route router plugins request moment [] [] None [] choice way before now next best its_way refl refl Begins (λ none. begins.limit)
    (λ up. record {
      so_far =
          ap (λ count. run (walk rows moment (take count plugins_in_order) (start choice request)) (answers (value_in []) [] up)) begins.taken
          ∙ ap came_to (sym here);
    })
    goes

-- ---- without a route

-- the reply is there at once
done_without_route : (asked : Asked) (entity : Key → Option Value) (verdicts : List Verdict) (upstream : Option Upstream)
    → best_choice asked.router.services asked.router.routes asked.request ≡ None → plain asked entity verdicts upstream ≡ want.Done no_route
done_without_route asked entity verdicts upstream none = ap (λ found. want_of (run (routed asked found) (answers entity verdicts upstream))) none

-- and so nothing is asked
asks_without_route : (told : Told) (given : List Answer) (wanted : Want)
    → FitsTogether told given wanted (best_choice told.asked.router.services told.asked.router.routes told.asked.request ≡ None) → Asks wanted → ⊥
asks_without_route told given wanted fits asks =
    subst Asks (fits.current ∙ done_without_route told.asked (entities told.uses) told.verdicts told.upstream (fits.at_stage asks)) asks

-- where a visit stands, by its parts
abbrev pub Fits : RouterRows → PluginRows → Moment → List Use → List Verdict → Option Upstream → List Answer → Stage → Want → Type 0
Fits router plugins moment uses verdicts upstream given stage next =
    FitsTogether (told_at router plugins (request_of stage) moment uses verdicts upstream) given next
    (IsAtStage (told_at router plugins (request_of stage) moment uses verdicts upstream) stage given next)

-- ---- the row that asked

-- none has asked at the begin
pub none_asks_first : (rows : List PluginRow) (way : Option Way) (request : Request) (stage : Stage) → BeginsStage way request stage → KnowsAsker rows stage
none_asks_first rows (Some way) request (OnRoute journey) begins =
    subst (λ asking. IfSome asking (λ place. (name : PluginName) → slice_get plugins_in_order journey.value.walk.taken ≡ Some name
    → IsPlaceOf rows (chosen_row rows name (scope_of journey.value.walk.ctx)) (Some place))) (sym begins.1.asking) tt
none_asks_first rows way request (NoRoute same) begins = tt
none_asks_first rows None request (OnRoute journey) begins = absurd begins

-- it is known as long as something is lacking
pub asker_is_known : (router : RouterRows) (plugins rows : PluginRows) (moment : Moment) (uses : List Use) (verdicts : List Verdict) (upstream : Option Upstream) (given : List Answer)
    (stage : Stage) (wanted lacking : Want)
    → rows ≡ plugins → Fits router plugins moment uses verdicts upstream given stage wanted → wanted ≡ lacking → Asks lacking → KnowsAsker rows.rows stage
asker_is_known router plugins rows moment uses verdicts upstream given (OnRoute journey) wanted lacking same fits is asks =
    let route : IsOnRoute (told_at router plugins journey.value.walk.ctx.request moment uses verdicts upstream) journey.value.way journey.value.walk given wanted =
    fits.at_stage (subst Asks (sym is) asks) in
    subst (λ one. KnowsRow one.rows journey.value.walk) (sym same) route.known
asker_is_known router plugins rows moment uses verdicts upstream given (NoRoute request) wanted lacking same fits is asks = tt

-- ---- a visit at either stage

-- the request stays the same
kept_request : (rows : List PluginRow) (moment : Moment) (given : List Answer) (verdicts : List Verdict) (before : Stage) (next : Want) (now : Stage)
    → NextWant rows moment given verdicts before next now → request_of now ≡ request_of before
kept_request rows moment given verdicts (OnRoute before) next (OnRoute now) goes = goes.1.on.request
kept_request rows moment given verdicts (NoRoute request) next (NoRoute same) goes = goes.0
kept_request rows moment given verdicts (OnRoute before) next (NoRoute same) goes = absurd goes
kept_request rows moment given verdicts (NoRoute request) next (OnRoute now) goes = absurd goes

-- a visit that isn't lost is under way
pub not_lost : (router : RouterRows) (plugins : PluginRows) (stage : Stage) (moment : Moment) (uses : List Use) (verdicts : List Verdict) (upstream : Option Upstream) (given : List Answer) (next : Want) (lost : Bool)
    → lost ≡ false → IsUnderWay (told_of router plugins stage moment uses verdicts upstream lost) stage given next
    → Fits router plugins moment uses verdicts upstream given stage next
not_lost router plugins stage moment uses verdicts upstream given next true whole under = absurd (cc)
not_lost router plugins stage moment uses verdicts upstream given next false whole under = under refl

-- the same at a way and a request that are equal
at_same : (router : RouterRows) (plugins : PluginRows) (moment : Moment) (uses : List Use) (verdicts : List Verdict) (upstream : Option Upstream) (given : List Answer)
    (request same : Request) (way its : Way) (walk : Walk) (next : Want)
    → same ≡ request → its ≡ way
    → FitsTogether (told_at router plugins request moment uses verdicts upstream) given next (IsOnRoute (told_at router plugins request moment uses verdicts upstream) way walk given next)
    → FitsTogether (told_at router plugins same moment uses verdicts upstream) given next (IsOnRoute (told_at router plugins same moment uses verdicts upstream) its walk given next)
at_same router plugins moment uses verdicts upstream given request same way its walk next request_is way_is fits =
    subst (λ one. FitsTogether (told_at router plugins one moment uses verdicts upstream) given next (IsOnRoute (told_at router plugins one moment uses verdicts upstream) its walk given next)) (sym request_is)
    (subst (λ one. FitsTogether (told_at router plugins request moment uses verdicts upstream) given next (IsOnRoute (told_at router plugins request moment uses verdicts upstream) one walk given next)) (sym way_is) fits)

-- the begin
begun_at_stage : (router : RouterRows) (plugins : PluginRows) (request : Request) (moment : Moment) (found : Option Choice) (before now : Stage) (next : Want)
    → best_choice router.services router.routes request ≡ found → BeginsStage (option_map (λ choice. way_of choice request) found) request before
    → NextWant plugins.rows moment [] [] before next now
    → Fits router plugins moment [] [] None [] now next
begun_at_stage router plugins request moment (Some choice) (OnRoute before) (OnRoute now) next best begins goes =
    at_same router plugins moment [] [] None [] request now.value.walk.ctx.request before.value.way now.value.way now.value.walk next
    (goes.1.on.request ∙ ap (λ ctx. ctx.request) begins.1.ctx) goes.0
    (begun_on_route router plugins request moment choice before.value.way before.value.walk now.value.walk next best begins.0
    (subst (λ way. BeginsWalk way request before.value.walk) (sym begins.0) begins.1) goes.1)
begun_at_stage router plugins request moment None (NoRoute first) (NoRoute now) next best begins goes =
    let none : best_choice router.services router.routes now.value ≡ None = ap (λ same. best_choice router.services router.routes same) (goes.0 ∙ begins) ∙ best in
    let told = told_at router plugins now.value moment [] [] None in
    record {
      current = goes.1 ∙ sym (done_without_route told.asked (entities []) [] None none);
      answered = refl;
      in_order = Begins;
      at_stage = λ asks. none;
    }
begun_at_stage router plugins request moment (Some choice) (NoRoute first) now next best begins goes = absurd begins
begun_at_stage router plugins request moment None (OnRoute before) now next best begins goes = absurd begins
begun_at_stage router plugins request moment (Some choice) (OnRoute before) (NoRoute now) next best begins goes = absurd goes
begun_at_stage router plugins request moment None (NoRoute first) (OnRoute now) next best begins goes = absurd goes

-- the value of a key
given_use_at_stage : (router : RouterRows) (plugins : PluginRows) (moment : Moment) (uses : List Use) (verdicts : List Verdict) (upstream : Option Upstream) (given : List Answer)
    (before now : Stage) (wanted next : Want) (used : Use)
    → Fits router plugins moment uses verdicts upstream given before wanted
    → wanted ≡ want.Entity used.key
    → NextWant plugins.rows moment (given ++ answer_of used ∷ []) verdicts before next now
    → Fits router plugins moment (uses ++ used ∷ []) verdicts upstream (given ++ answer_of used ∷ []) now next
given_use_at_stage router plugins moment uses verdicts upstream given (OnRoute before) (OnRoute now) wanted next used fits is goes =
    at_same router plugins moment (uses ++ used ∷ []) verdicts upstream (given ++ answer_of used ∷ []) before.value.walk.ctx.request now.value.walk.ctx.request before.value.way now.value.way now.value.walk next
    goes.1.on.request goes.0
    (given_use router plugins before.value.walk.ctx.request moment uses verdicts upstream given before.value.way before.value.walk now.value.walk wanted next used fits is goes.1)
given_use_at_stage router plugins moment uses verdicts upstream given (NoRoute request) now wanted next used fits is goes =
    absurd (asks_without_route (told_at router plugins request.value moment uses verdicts upstream) given wanted fits (subst Asks (sym is) tt))
given_use_at_stage router plugins moment uses verdicts upstream given (OnRoute before) (NoRoute same) wanted next used fits is goes = absurd goes

-- the verdict
given_verdict_at_stage : (router : RouterRows) (plugins : PluginRows) (moment : Moment) (uses : List Use) (verdicts : List Verdict) (upstream : Option Upstream) (given : List Answer)
    (before now : Stage) (wanted next : Want) (hit : Hit) (verdict : Verdict)
    → Fits router plugins moment uses verdicts upstream given before wanted
    → wanted ≡ want.Count hit
    → NextWant plugins.rows moment given (verdicts ++ verdict ∷ []) before next now
    → Fits router plugins moment uses (verdicts ++ verdict ∷ []) upstream given now next
given_verdict_at_stage router plugins moment uses verdicts upstream given (OnRoute before) (OnRoute now) wanted next hit verdict fits is goes =
    at_same router plugins moment uses (verdicts ++ verdict ∷ []) upstream given before.value.walk.ctx.request now.value.walk.ctx.request before.value.way now.value.way now.value.walk next
    goes.1.on.request goes.0
    (given_verdict router plugins before.value.walk.ctx.request moment uses verdicts upstream given before.value.way before.value.walk now.value.walk wanted next hit verdict fits is goes.1)
given_verdict_at_stage router plugins moment uses verdicts upstream given (NoRoute request) now wanted next hit verdict fits is goes =
    absurd (asks_without_route (told_at router plugins request.value moment uses verdicts upstream) given wanted fits (subst Asks (sym is) tt))
given_verdict_at_stage router plugins moment uses verdicts upstream given (OnRoute before) (NoRoute same) wanted next hit verdict fits is goes = absurd goes

-- the upstream's answer
replied_at_stage : (router : RouterRows) (plugins : PluginRows) (moment : Moment) (uses : List Use) (verdicts : List Verdict) (upstream : Option Upstream) (given : List Answer)
    (stage : Stage) (wanted : Want) (message : UpRequest) (answer : Upstream) (reply : Response)
    → Fits router plugins moment uses verdicts upstream given stage wanted
    → wanted ≡ want.Upstream message
    → RepliesTo plugins.rows verdicts stage answer reply
    → want.Done reply ≡ want_after (told_at router plugins (request_of stage) moment uses verdicts (Some answer))
replied_at_stage router plugins moment uses verdicts upstream given (OnRoute here) wanted message answer reply fits is replies =
    replied_on_route router plugins here.value.walk.ctx.request moment uses verdicts upstream given here.value.way here.value.walk wanted message answer reply fits is replies
replied_at_stage router plugins moment uses verdicts upstream given (NoRoute request) wanted message answer reply fits is replies =
    absurd (asks_without_route (told_at router plugins request.value moment uses verdicts upstream) given wanted fits (subst Asks (sym is) tt))

-- ---- what calls tell

-- a key that is wanted has not been given
pub not_given : (router : RouterRows) (plugins : PluginRows) (moment : Moment) (uses : List Use) (verdicts : List Verdict) (upstream : Option Upstream) (given : List Answer) (stage : Stage) (wanted : Want) (key : Key)
    → Fits router plugins moment uses verdicts upstream given stage wanted
    → want_after (told_at router plugins (request_of stage) moment uses verdicts upstream) ≡ want.Entity key → value_in given key ≡ None
not_given router plugins moment uses verdicts upstream given stage wanted key fits is =
    let told = told_at router plugins (request_of stage) moment uses verdicts upstream in
    ap (λ values. value_in values key) fits.answered
    ∙ plain_lacks told.asked (entities uses) verdicts upstream (want.Entity key) is tt

abbrev key_of : Key → Want → Key
key_of other (want.Entity key) = key
key_of other _ = other

-- the key that is taken out of the want is the one that is told
pub taken_is : (router : RouterRows) (plugins : PluginRows) (moment : Moment) (uses : List Use) (verdicts : List Verdict) (upstream : Option Upstream) (given : List Answer) (stage : Stage) (wanted : Want) (taken key : Key)
    → Fits router plugins moment uses verdicts upstream given stage wanted
    → wanted ≡ want.Entity taken
    → want_after (told_at router plugins (request_of stage) moment uses verdicts upstream) ≡ want.Entity key → taken ≡ key
taken_is router plugins moment uses verdicts upstream given stage wanted taken key fits here is = ap (key_of taken) (sym here ∙ fits.current ∙ is)

-- what was added to the answers is the answer that was used
pub given_is : (given given_then : List Answer) (key : Key) (value : Value) (used : Use) → given_then ≡ given ++ record { key = key; value = value } ∷ []
    → key ≡ used.key → value ≡ used.value → given_then ≡ given ++ answer_of used ∷ []
given_is given given_then key value used is key_is value_is =
    let one : Key → Value → Answer = λ k v. record { key = k; value = v } in
    is ∙ (λ i. given ++ one (key_is i) (value_is i) ∷ [])

-- the value of a key, with the plugins as they are reached and the lists as they were added to
pub use_told : (router : RouterRows) (plugins reached : PluginRows) (moment : Moment) (uses uses_then : List Use) (verdicts : List Verdict) (upstream : Option Upstream) (given given_then : List Answer)
    (before now : Stage) (wanted next : Want) (used : Use) → reached ≡ plugins → uses_then ≡ uses ++ used ∷ [] → given_then ≡ given ++ answer_of used ∷ []
    → Fits router plugins moment uses verdicts upstream given before wanted
    → want_after (told_at router plugins (request_of before) moment uses verdicts upstream) ≡ want.Entity used.key
    → NextWant reached.rows moment given_then verdicts before next now
    → Fits router plugins moment uses_then verdicts upstream given_then now next
use_told router plugins reached moment uses uses_then verdicts upstream given given_then before now wanted next used same same_uses same_given fits is goes =
    subst (λ list. Fits router plugins moment list verdicts upstream given_then now next) (sym same_uses)
    (subst (λ list. Fits router plugins moment (uses ++ used ∷ []) verdicts upstream list now next) (sym same_given)
    (given_use_at_stage router plugins moment uses verdicts upstream given before now wanted next used fits (fits.current ∙ is)
    (subst (λ list. NextWant plugins.rows moment list verdicts before next now) same_given
    (subst (λ one. NextWant one.rows moment given_then verdicts before next now) same goes))))

-- the verdict, likewise
pub verdict_told : (router : RouterRows) (plugins reached : PluginRows) (moment : Moment) (uses : List Use) (verdicts verdicts_then : List Verdict) (upstream : Option Upstream) (given : List Answer)
    (before now : Stage) (wanted next : Want) (hit : Hit) (verdict : Verdict) → reached ≡ plugins → verdicts_then ≡ verdicts ++ verdict ∷ []
    → Fits router plugins moment uses verdicts upstream given before wanted
    → want_after (told_at router plugins (request_of before) moment uses verdicts upstream) ≡ want.Count hit
    → NextWant reached.rows moment given verdicts_then before next now
    → Fits router plugins moment uses verdicts_then upstream given now next
verdict_told router plugins reached moment uses verdicts verdicts_then upstream given before now wanted next hit verdict same same_verdicts fits is goes =
    subst (λ list. Fits router plugins moment uses list upstream given now next) (sym same_verdicts)
    (given_verdict_at_stage router plugins moment uses verdicts upstream given before now wanted next hit verdict fits (fits.current ∙ is)
    (subst (λ list. NextWant plugins.rows moment given list before next now) same_verdicts
    (subst (λ one. NextWant one.rows moment given verdicts_then before next now) same goes)))

-- the upstream's answer, likewise
pub reply_told : (router : RouterRows) (plugins reached : PluginRows) (moment : Moment) (uses : List Use) (verdicts : List Verdict) (upstream : Option Upstream) (given : List Answer)
    (stage : Stage) (wanted : Want) (message : UpRequest) (answer : Upstream) (reply : Response) → reached ≡ plugins
    → Fits router plugins moment uses verdicts upstream given stage wanted
    → want_after (told_at router plugins (request_of stage) moment uses verdicts upstream) ≡ want.Upstream message
    → RepliesTo reached.rows verdicts stage answer reply
    → want.Done reply ≡ want_after (told_at router plugins (request_of stage) moment uses verdicts (Some answer))
reply_told router plugins reached moment uses verdicts upstream given stage wanted message answer reply same fits is replies =
    replied_at_stage router plugins moment uses verdicts upstream given stage wanted message answer reply fits (fits.current ∙ is)
    (subst (λ one. RepliesTo one.rows verdicts stage answer reply) same replies)

-- the message that is wanted
abbrev message_of : UpRequest → Want → UpRequest
message_of other (want.Upstream message) = message
message_of other _ = other

-- the reply that the echo of the wanted message becomes
pub echo_told : (router : RouterRows) (plugins reached : PluginRows) (moment : Moment) (uses : List Use) (verdicts : List Verdict) (upstream : Option Upstream) (given : List Answer)
    (stage : Stage) (wanted : Want) (found message : UpRequest) (reply : Response) → reached ≡ plugins
    → Fits router plugins moment uses verdicts upstream given stage wanted
    → wanted ≡ want.Upstream found
    → want_after (told_at router plugins (request_of stage) moment uses verdicts upstream) ≡ want.Upstream message
    → RepliesTo reached.rows verdicts stage (Answered (echo_of found.bytes)) reply
    → want_after (told_at router plugins (request_of stage) moment uses verdicts (Some (Answered (echo_of message.bytes)))) ≡ want.Done reply
echo_told router plugins reached moment uses verdicts upstream given stage wanted found message reply same fits here is replies =
    let one : found ≡ message = ap (message_of found) (sym here ∙ fits.current ∙ is) in
    sym (reply_told router plugins reached moment uses verdicts upstream given stage wanted message (Answered (echo_of message.bytes)) reply same fits is
    (subst (λ sent. RepliesTo reached.rows verdicts stage (Answered (echo_of sent.bytes)) reply) one replies))

-- and the visit has its reply
pub upstream_told : (router : RouterRows) (plugins reached : PluginRows) (moment : Moment) (uses : List Use) (verdicts : List Verdict) (upstream upstream_then : Option Upstream) (given : List Answer)
    (stage : Stage) (wanted next : Want) (message : UpRequest) (answer : Upstream) (reply : Response) → reached ≡ plugins → upstream_then ≡ Some answer → next ≡ want.Done reply
    → Fits router plugins moment uses verdicts upstream given stage wanted
    → want_after (told_at router plugins (request_of stage) moment uses verdicts upstream) ≡ want.Upstream message
    → RepliesTo reached.rows verdicts stage answer reply
    → Fits router plugins moment uses verdicts upstream_then given stage next
upstream_told router plugins reached moment uses verdicts upstream upstream_then given stage wanted next message answer reply same same_upstream same_next fits is replies =
    let told = told_at router plugins (request_of stage) moment uses verdicts upstream in
    let none : upstream ≡ None = plain_lacks told.asked (entities uses) verdicts upstream (want.Upstream message) is tt in
    let with_reply : Fits router plugins moment uses verdicts (Some answer) given stage (want.Done reply) = record {
      current = reply_told router plugins reached moment uses verdicts upstream given stage wanted message answer reply same fits is replies;
      answered = fits.answered;
      in_order = AsksUpstream uses verdicts message answer (subst (IsAsked told.asked uses verdicts) none fits.in_order)
          (ap (λ there. plain told.asked (entities uses) verdicts there) (sym none) ∙ is);
      at_stage = λ asks. absurd asks;
    } in
    subst (λ there. Fits router plugins moment uses verdicts there given stage next) (sym same_upstream)
    (subst (λ one. Fits router plugins moment uses verdicts (Some answer) given stage one) (sym same_next) with_reply)

-- ---- a visit that begins

-- where it stands, with the rows as they are reached
pub begin_told : (router : RouterRows) (plugins reached : PluginRows) (request : Request) (moment : Moment) (way : Option Way) (uses : List Use) (verdicts : List Verdict) (given : List Answer) (before now : Stage) (next : Want)
    → reached ≡ plugins → uses ≡ [] → verdicts ≡ [] → given ≡ []
    → way ≡ option_map (λ choice. way_of choice request) (best_choice router.services router.routes request)
    → BeginsStage way request before
    → NextWant reached.rows moment [] [] before next now
    → Fits router plugins moment uses verdicts None given now next
begin_told router plugins reached request moment way uses verdicts given before now next same no_uses no_verdicts none_given best begins goes =
    subst (λ list. Fits router plugins moment list verdicts None given now next) (sym no_uses)
    (subst (λ list. Fits router plugins moment [] list None given now next) (sym no_verdicts)
    (subst (λ list. Fits router plugins moment [] [] None list now next) (sym none_given)
    (begun_at_stage router plugins request moment (best_choice router.services router.routes request) before now next refl
    (subst (λ one. BeginsStage one request before) best begins)
    (subst (λ one. NextWant one.rows moment [] [] before next now) same goes))))

begun_request : (way : Option Way) (request : Request) (stage : Stage) → BeginsStage way request stage → request_of stage ≡ request
begun_request (Some way) request (OnRoute journey) begins = ap (λ ctx. ctx.request) begins.1.ctx
begun_request None request (NoRoute same) begins = begins
begun_request (Some way) request (NoRoute same) begins = absurd begins
begun_request None request (OnRoute journey) begins = absurd begins

-- what it has been told
pub begun_is : (router : RouterRows) (plugins reached : PluginRows) (request : Request) (moment : Moment) (way : Option Way) (uses : List Use) (verdicts : List Verdict) (before now : Stage) (next : Want)
    → uses ≡ [] → verdicts ≡ [] → BeginsStage way request before
    → NextWant reached.rows moment [] [] before next now
    → told_of router plugins now moment uses verdicts None false ≡ begun router plugins request moment
begun_is router plugins reached request moment way uses verdicts before now next no_uses no_verdicts begins goes =
    let same : request_of now ≡ request = kept_request reached.rows moment [] [] before next now goes ∙ begun_request way request before begins in
    λ i. record {
      asked = record { router = router; plugins = plugins; request = same i; moment = moment };
      uses = no_uses i;
      verdicts = no_verdicts i;
      upstream = None;
      lost = false;
    }
