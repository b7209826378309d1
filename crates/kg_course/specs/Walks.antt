-- Machinery for proofs: a walk over the plugins that stops at each question and goes on from there.
use Rattle.std.specs.Prelude.{◌≡◌, ℕ, List, [], take, drop, ◌+◌, Option, Some, None, IfSome, Ok, option_map, slice_get}
use Rattle.std.specs.List.{flat_map}
use Rattle.kg_row_types.specs.PluginNames.{plugins_in_order}
use Rattle.kg_row_types.specs.declared.plugin.PluginName.{PluginName}
use Rattle.kg_row_types.specs.declared.plugin.PluginRow.{PluginRow}
use Rattle.kg_row_types.specs.declared.key.Key.{Key}
use Rattle.kg_row_types.specs.declared.value.Value.{Value}
use Rattle.kg_message.specs.declared.request.Request.{Request}
use Rattle.kg_plugin_table.specs.PluginRows.{IsPlaceOf}
use Rattle.kg_plugin_table.specs.Precedence.{chosen_row}
use Rattle.kg_context.specs.Context.{started}
use Rattle.kg_context.specs.Given.{Answer, value_in}
use Rattle.kg_context.specs.declared.upstream.UpRequest.{UpRequest}
use Rattle.kg_context.specs.declared.upstream.Upstream.{Upstream}
use Rattle.kg_limit.specs.declared.hit.Hit.{Hit}
use Rattle.kg_limit.specs.declared.hit.Verdict.{Verdict}
use Rattle.kg_course.specs.Course.{Answers, Course, run, through}
use Rattle.kg_course.specs.Phases.{Under}
use Rattle.kg_course.specs.Plain.{answers, finished, list_of, scope_of, turn, walk, want_of}
use Rattle.kg_course.specs.Steps.{outcome}
use Rattle.kg_course.specs.declared.moment.Moment.{Moment}
use Rattle.kg_course.specs.declared.walk.Walk.{Walk}
use Rattle.kg_course.specs.declared.want.Want.{Want}
use Rattle.kg_course.specs.declared.want.Want.TheVariants as want
use Rattle.kg_upstream.specs.declared.way.Way.{Way}

-- the row that was chosen at a turn, which stands at this place
abbrev pub chosen_in : List PluginRow → ℕ → List PluginRow
chosen_in rows place = list_of (slice_get rows place)

-- the hit with the first verdict
abbrev pub limit_of : Option Hit → List Verdict → Option (Hit × Verdict)
limit_of None verdicts = None
limit_of (Some hit) verdicts = option_map (λ verdict. (hit, verdict)) (slice_get verdicts 0)

-- the request that a walk stands for, with these rows chosen
abbrev pub in_walk : List PluginRow → List Verdict → Walk → Under
in_walk chosen verdicts walk = record { ctx = walk.ctx; chosen = chosen; limit = limit_of walk.limit verdicts }

abbrev pub under_way : List PluginRow → List Verdict → Walk → Under
under_way rows verdicts walk = in_walk (flat_map (chosen_in rows) walk.turns) verdicts walk

-- the row whose turn a question stopped is the one that is chosen at that turn
abbrev pub KnowsRow : List PluginRow → Walk → Type 0
KnowsRow rows walk =
    IfSome walk.asking (λ place. (name : PluginName) → slice_get plugins_in_order walk.taken ≡ Some name → IsPlaceOf rows (chosen_row rows name (scope_of walk.ctx)) (Some place))

-- a walk that stops at a question is as before
abbrev pub KeepsWalk : Walk → Option Want → Walk → Type 0
KeepsWalk before (Some lacking) now = now ≡ before
KeepsWalk before None now = Unit {0}

-- one row ran, whatever was chosen before and whatever the upstream answers
pub record Runs (course : Under → Course Under) (given : List Answer) (verdicts : List Verdict) (before : Walk) (lacking : Option Want) (now : Walk) : Type 0 where
  pub leads : (chosen : List PluginRow) (upstream : Option Upstream)
      → run (course (in_walk chosen verdicts before)) (answers (value_in given) verdicts upstream) ≡ outcome lacking (in_walk chosen verdicts now)
  pub kept : KeepsWalk before lacking now
  pub turns : now.turns ≡ before.turns
  pub taken : now.taken ≡ before.taken
  pub request : now.ctx.request ≡ before.ctx.request
  pub counted : (verdicts ≡ [] → before.limit ≡ None) → verdicts ≡ [] → now.limit ≡ None

-- so many turns from the start lead here
pub record HasCome (rows : List PluginRow) (moment : Moment) (given : Answers) (start : Under) (count : ℕ) (now : Under) : Type 0 where
  pub so_far : run (walk rows moment (take count plugins_in_order) start) given ≡ Ok now

-- the turns that are left lead from here to the end, or to what is lacking
pub record Stands (rows : List PluginRow) (moment : Moment) (given : Answers) (count : ℕ) (now : Under) (lacking : Option Want) : Type 0 where
  pub rest : run (walk rows moment (drop count plugins_in_order) now) given ≡ outcome lacking now

-- whoever had come to the first walk has come to the second
pub record HasComeOn (rows : List PluginRow) (moment : Moment) (given : List Answer) (verdicts : List Verdict) (before now : Walk) : Type 0 where
  pub came : (start : Under) (upstream : Option Upstream)
      → HasCome rows moment (answers (value_in given) verdicts upstream) start before.taken (under_way rows verdicts before)
      → HasCome rows moment (answers (value_in given) verdicts upstream) start now.taken (under_way rows verdicts now)
  pub request : now.ctx.request ≡ before.ctx.request
  pub counted : (verdicts ≡ [] → before.limit ≡ None) → verdicts ≡ [] → now.limit ≡ None

pub record Goes (rows : List PluginRow) (moment : Moment) (given : List Answer) (verdicts : List Verdict) (before : Walk) (lacking : Option Want) (now : Walk) : Type 0 where
  pub on : HasComeOn rows moment given verdicts before now
  pub stands : (upstream : Option Upstream)
      → Stands rows moment (answers (value_in given) verdicts upstream) now.taken (under_way rows verdicts now) lacking
  pub known : KnowsRow rows now

-- ---- one turn

-- a walk that stops at a question is as before, but for the row that asked
abbrev pub KeepsTurn : Walk → Option Want → Walk → Type 0
KeepsTurn before (Some lacking) now = now ≡ record before { asking = now.asking }
KeepsTurn before None now = Unit {0}

-- a turn was taken: it is over, or it lacks something and the walk is as before
pub record TakesTurn (rows : List PluginRow) (moment : Moment) (given : List Answer) (verdicts : List Verdict) (name : PluginName) (before : Walk) (lacking : Option Want) (now : Walk) : Type 0 where
  pub leads : (upstream : Option Upstream)
      → run (turn rows moment name (under_way rows verdicts before)) (answers (value_in given) verdicts upstream) ≡ outcome lacking (under_way rows verdicts now)
  pub kept : KeepsTurn before lacking now
  pub known : KnowsRow rows now
  pub taken : lacking ≡ None → now.taken ≡ before.taken + 1
  pub request : now.ctx.request ≡ before.ctx.request
  pub counted : (verdicts ≡ [] → before.limit ≡ None) → verdicts ≡ [] → now.limit ≡ None

-- ---- all turns, and what follows

-- a walk at its begin
pub record BeginsWalk (way : Way) (asked : Request) (walk : Walk) : Type 0 where
  pub ctx : walk.ctx ≡ started way.service way.route asked
  pub taken : walk.taken ≡ 0
  pub turns : walk.turns ≡ []
  pub asking : walk.asking ≡ None
  pub limit : walk.limit ≡ None

-- the reply to a request that a plugin ended, or the message whose answer is lacking
pub record RepliesOrAsks (rows : List PluginRow) (way : Way) (verdicts : List Verdict) (come : Walk) (next : Want) : Type 0 where
  pub rest : (entity : Key → Option Value) → next ≡ want_of (run (finished way (under_way rows verdicts come)) (answers entity verdicts None))
  pub not_ended : (message : UpRequest) → next ≡ want.Upstream message → come.ctx.end ≡ None

-- the plugins ask nothing more, whatever the upstream answers, and none of them ended the request
pub record IsOver (rows : List PluginRow) (moment : Moment) (given : List Answer) (verdicts : List Verdict) (now : Walk) : Type 0 where
  pub stands : (upstream : Option Upstream) → Stands rows moment (answers (value_in given) verdicts upstream) now.taken (under_way rows verdicts now) None
  pub not_ended : now.ctx.end ≡ None

-- what is wanted next on a route, before the upstream has answered: the walk has come on, and the rest of the course
-- comes to this
pub record WantsOnRoute (rows : List PluginRow) (way : Way) (moment : Moment) (given : List Answer) (verdicts : List Verdict) (before : Walk) (next : Want) (now : Walk) : Type 0 where
  pub on : HasComeOn rows moment given verdicts before now
  pub rest : next ≡ want_of (run (through (walk rows moment (drop now.taken plugins_in_order) (under_way rows verdicts now)) (finished way)) (answers (value_in given) verdicts None))
  pub over : (message : UpRequest) → next ≡ want.Upstream message → IsOver rows moment given verdicts now
  pub known : KnowsRow rows now
