-- Machinery for proofs: where a visit stands, by what it was told.
use Rattle.std.specs.Prelude.{◌≡◌, Bool, false, List, [], map, Option, Some, None}
use Rattle.kg_row_types.specs.declared.plugin.PluginRow.{PluginRow}
use Rattle.kg_message.specs.declared.request.Request.{Request}
use Rattle.kg_message.specs.declared.response.Response.{Response}
use Rattle.kg_router.specs.Best.{Choice, best_choice}
use Rattle.kg_router.specs.RouterRows.{RouterRows}
use Rattle.kg_plugin_table.specs.PluginRows.{PluginRows}
use Rattle.kg_context.specs.Given.{Answer, value_in}
use Rattle.kg_context.specs.declared.upstream.UpRequest.{UpRequest}
use Rattle.kg_context.specs.declared.upstream.Upstream.{Upstream}
use Rattle.kg_limit.specs.declared.hit.Verdict.{Verdict}
use Rattle.kg_upstream.specs.UpstreamMessage.{reply_of, way_of}
use Rattle.kg_upstream.specs.declared.way.Way.{Way}
use Rattle.kg_course.specs.Plain.{answers, filtered, no_route, start}
use Rattle.kg_course.specs.Walks.{BeginsWalk, HasCome, IsOver, KnowsRow, WantsOnRoute, under_way}
use Rattle.kg_course.specs.Wants.{Asks}
use Rattle.kg_course.specs.declared.moment.Moment.{Moment}
use Rattle.kg_course.specs.declared.walk.Walk.{Walk}
use Rattle.kg_course.specs.declared.want.Want.{Want}
use Rattle.kg_course.specs.declared.want.Want.TheVariants as want
use Rattle.kg_visit.specs.Told.{IsAsked, Told, Use, answer_of, want_after}
use Rattle.kg_visit.specs.declared.stage.Stage.{Stage}
use Rattle.kg_visit.specs.declared.stage.Stage.TheVariants.{OnRoute, NoRoute}

-- ---- a visit under way

-- the walk is that of the request's route, and has come as far as what was told leads, whatever the upstream
-- answers; what it counted has its verdict; where a message is wanted the plugins are through; the row that asked is
-- known
pub record IsOnRoute (told : Told) (way : Way) (walk : Walk) (given : List Answer) (next : Want) : Type 0 where
  pub choice : Choice
  pub is_best : best_choice told.asked.router.services told.asked.router.routes told.asked.request ≡ Some choice
  pub its_way : way ≡ way_of choice told.asked.request
  pub unanswered : told.upstream ≡ None
  pub counted : told.verdicts ≡ [] → walk.limit ≡ None
  pub came : (upstream : Option Upstream)
      → HasCome told.asked.plugins.rows told.asked.moment (answers (value_in given) told.verdicts upstream)
      (start choice told.asked.request) walk.taken (under_way told.asked.plugins.rows told.verdicts walk)
  pub over : (message : UpRequest) → next ≡ want.Upstream message → IsOver told.asked.plugins.rows told.asked.moment given told.verdicts walk
  pub known : KnowsRow told.asked.plugins.rows walk

-- there is a walk, or no route takes the request
abbrev pub IsAtStage : Told → Stage → List Answer → Want → Type 0
IsAtStage told (OnRoute journey) given next = IsOnRoute told journey.value.way journey.value.walk given next
IsAtStage told (NoRoute request) given next = best_choice told.asked.router.services told.asked.router.routes told.asked.request ≡ None

abbrev pub request_of : Stage → Request
request_of (OnRoute journey) = journey.value.walk.ctx.request
request_of (NoRoute request) = request.value

-- what a visit was told
abbrev pub told_of : RouterRows → PluginRows → Stage → Moment → List Use → List Verdict → Option Upstream → Bool → Told
told_of router plugins stage moment uses verdicts upstream lost = record {
  asked = record { router = router; plugins = plugins; request = request_of stage; moment = moment };
  uses = uses;
  verdicts = verdicts;
  upstream = upstream;
  lost = lost;
}

-- its parts say the same; and where it stands, as long as something is lacking
pub record FitsTogether (told : Told) (given : List Answer) (next : Want) (Stands : Type 0) : Type 0 where
  pub current : next ≡ want_after told
  pub answered : given ≡ map answer_of told.uses
  pub in_order : IsAsked told.asked told.uses told.verdicts told.upstream
  pub at_stage : Asks next → Stands

abbrev pub IsUnderWay : Told → Stage → List Answer → Want → Type 0
IsUnderWay told stage given next = told.lost ≡ false → FitsTogether told given next (IsAtStage told stage given next)

-- ---- what the steps do

-- a request at its begin: on its way, if there is one
abbrev pub BeginsStage : Option Way → Request → Stage → Type 0
BeginsStage (Some way) request (OnRoute journey) = (journey.value.way ≡ way) × BeginsWalk way request journey.value.walk
BeginsStage None request (NoRoute same) = same.value ≡ request
BeginsStage _ request _ = ⊥

-- the row that asked is known
abbrev pub KnowsAsker : List PluginRow → Stage → Type 0
KnowsAsker rows (OnRoute journey) = KnowsRow rows journey.value.walk
KnowsAsker rows (NoRoute request) = Unit {0}

-- what is wanted next: without a route the reply that says so
abbrev pub NextWant : List PluginRow → Moment → List Answer → List Verdict → Stage → Want → Stage → Type 0
NextWant rows moment given verdicts (OnRoute before) next (OnRoute now) =
    (now.value.way ≡ before.value.way) × WantsOnRoute rows before.value.way moment given verdicts before.value.walk next now.value.walk
NextWant rows moment given verdicts (NoRoute request) next (NoRoute same) = (same.value ≡ request.value) × (next ≡ want.Done no_route)
NextWant rows moment given verdicts _ next _ = ⊥

-- the reply that the upstream's answer becomes
abbrev pub RepliesTo : List PluginRow → List Verdict → Stage → Upstream → Response → Type 0
RepliesTo rows verdicts (OnRoute journey) answer reply = reply ≡ filtered (under_way rows verdicts journey.value.walk) (reply_of answer)
RepliesTo rows verdicts (NoRoute request) answer reply = reply ≡ no_route
