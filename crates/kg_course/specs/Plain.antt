-- The plain gateway: what one request wants of its environment, and in the end its reply, as a function of the
-- rows, the request and the answers alone (Kong Gateway manual, "Plugin execution order" and "Plugin
-- precedence").
use Rattle.std.specs.Prelude.{List, [], ◌∷◌, ◌++◌, fold, Option, Some, None, is_some, option_map, Result, Ok, Err, slice_get, codes, if◌then◌else◌}
use Rattle.kg_row_types.specs.PluginNames.{plugins_in_order}
use Rattle.kg_row_types.specs.declared.key.Key.{Key}
use Rattle.kg_row_types.specs.declared.plugin.PluginName.{PluginName}
use Rattle.kg_row_types.specs.declared.plugin.PluginRow.{PluginRow}
use Rattle.kg_row_types.specs.declared.plugin.Scope.{Scope}
use Rattle.kg_row_types.specs.declared.value.Value.{Value}
use Rattle.kg_message.specs.GatewayMessage.{gateway_message}
use Rattle.kg_message.specs.declared.request.Request.{Request}
use Rattle.kg_message.specs.declared.response.Response.{Response}
use Rattle.kg_router.specs.Best.{Choice, best_choice}
use Rattle.kg_router.specs.RouterRows.{RouterRows}
use Rattle.kg_plugin_table.specs.PluginRows.{PluginRows}
use Rattle.kg_plugin_table.specs.Precedence.{chosen_row}
use Rattle.kg_context.specs.Context.{started}
use Rattle.kg_context.specs.declared.context.ReqCtx.{ReqCtx}
use Rattle.kg_context.specs.declared.upstream.Upstream.{Upstream}
use Rattle.kg_limit.specs.declared.hit.Verdict.{Verdict}
use Rattle.kg_course.specs.Course.{Answers, Course, Leaves, AsksUpstream, run, through}
use Rattle.kg_course.specs.Phases.{Under, access, header_filter}
use Rattle.kg_upstream.specs.UpstreamMessage.{reply_of, up_request, way_of}
use Rattle.kg_course.specs.declared.moment.Moment.{Moment}
use Rattle.kg_course.specs.declared.want.Want.{Want}
use Rattle.kg_course.specs.declared.want.Want.TheVariants as want
use Rattle.kg_upstream.specs.declared.way.Way.{Way}

-- ---- the phase access

-- the service, the route and the consumer of a request, as far as it is known by now
abbrev pub scope_of : ReqCtx → Scope
scope_of ctx = record {
  service = Some ctx.service;
  route = Some ctx.route;
  consumer = option_map (λ consumer. consumer.id) ctx.consumer;
}

abbrev pub list_of : Option PluginRow → List PluginRow
list_of None = []
list_of (Some row) = row ∷ []

-- the row is among those chosen
abbrev pub chose : Option PluginRow → Under → Under
chose row under = record { ctx = under.ctx; chosen = under.chosen ++ list_of row; limit = under.limit }

-- it runs, if no plugin has ended the request
abbrev pub ran : Moment → Option PluginRow → Under → Course Under
ran moment None under = Leaves under
ran moment (Some row) under = if is_some under.ctx.end then Leaves under else access moment row under

-- a plugin's turn: its row is chosen, and runs
abbrev pub turn : List PluginRow → Moment → PluginName → Under → Course Under
turn rows moment name under =
    let row : Option PluginRow = chosen_row rows name (scope_of under.ctx) in
    ran moment row (chose row under)

-- the turns of these plugins, one after another
abbrev pub walk : List PluginRow → Moment → List PluginName → Under → Course Under
walk rows moment [] under = Leaves under
walk rows moment (name ∷ later) under = through (turn rows moment name under) (walk rows moment later)

-- ---- the upstream, and the phase header_filter

-- the reply of the plugin that ended the request, or what the upstream's answer becomes
abbrev pub answered : Way → ReqCtx → Option Response → Course Response
answered way ctx (Some reply) = Leaves reply
answered way ctx None = AsksUpstream (up_request way ctx) (λ answer. Leaves (reply_of answer))

-- the rows that were chosen change the reply, in the same order
abbrev pub filtered : Under → Response → Response
filtered under reply = fold (header_filter under) reply under.chosen

abbrev pub finished : Way → Under → Course Response
finished way under = through (answered way under.ctx under.ctx.end) (λ reply. Leaves (filtered under reply))

-- ---- the whole course

-- what a request is asked of: the rows, the request, and when and by whom
pub record Asked : Type 0 where
  pub router : RouterRows
  pub plugins : PluginRows
  pub request : Request
  pub moment : Moment

-- a request at its route, before the first plugin
abbrev pub start : Choice → Request → Under
start choice request = record { ctx = started choice.service.id choice.route.id request; chosen = []; limit = None }

-- the reply to a request that no route takes: no plugin runs
unfoldable pub no_route : Response
no_route = gateway_message 404 (codes "no Route matched with those values")

abbrev pub routed : Asked → Option Choice → Course Response
routed asked None = Leaves no_route
routed asked (Some choice) =
    through (walk asked.plugins.rows asked.moment plugins_in_order (start choice asked.request)) (finished (way_of choice asked.request))

abbrev pub course : Asked → Course Response
course asked = routed asked (best_choice asked.router.services asked.router.routes asked.request)

-- the reply, or the first that is lacking
abbrev pub want_of : Result Response Want → Want
want_of (Ok reply) = want.Done reply
want_of (Err lacking) = lacking

abbrev pub answers : (Key → Option Value) → List Verdict → Option Upstream → Answers
answers entity verdicts upstream = record { entity = entity; verdict = slice_get verdicts 0; upstream = upstream }

-- what the request wants when this has been told
abbrev pub plain : Asked → (Key → Option Value) → List Verdict → Option Upstream → Want
plain asked entity verdicts upstream = want_of (run (course asked) (answers entity verdicts upstream))
