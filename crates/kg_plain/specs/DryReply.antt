-- The reply of a dry run to one request: the plain gateway's, where each key has its value at the declared rows,
-- each hit is judged after those before it, and an echo stands for every upstream (this project's own:
-- docs/BEHAVIOUR.md, "The dry run").
use Rattle.std.specs.Prelude.{ℕ, Bool, false, List, [], ◌∷◌, map, Option, Some, None, codes}
use Rattle.std.specs.Str.{bytes_eq}
use Rattle.kg_row_types.specs.RowLists.{RowLists}
use Rattle.kg_row_types.specs.declared.key.Key.{Key}
use Rattle.kg_row_types.specs.declared.value.Value.{Value}
use Rattle.kg_row_values.specs.Values.{value_of}
use Rattle.kg_message.specs.GatewayMessage.{gateway_message}
use Rattle.kg_message.specs.declared.request.Request.{Request}
use Rattle.kg_message.specs.declared.response.Response.{Response}
use Rattle.kg_router.specs.RouterRows.{RouterRows}
use Rattle.kg_plugin_table.specs.PluginRows.{PluginRows}
use Rattle.kg_context.specs.Echo.{echo_of}
use Rattle.kg_context.specs.declared.upstream.Upstream.TheVariants.{Answered}
use Rattle.kg_limit.specs.Judging.{verdict_after}
use Rattle.kg_limit.specs.declared.hit.Hit.{Hit}
use Rattle.kg_limit.specs.declared.hit.Verdict.{Verdict}
use Rattle.kg_print.specs.Connection.{keeping_of}
use Rattle.kg_print.specs.ReplyText.{reply_text}
use Rattle.kg_print.specs.declared.connection.Keeping.TheVariants.{Close}
use Rattle.kg_course.specs.Plain.{Asked, no_route, plain}
use Rattle.kg_course.specs.declared.want.Want.{Want}
use Rattle.kg_course.specs.declared.want.Want.TheVariants as want

-- the rows that a gateway answers by: those that route, those of plugins, and all those that were declared, of
-- which values are taken, by so many commands
pub record GatewayRows : Type 0 where
  pub router : RouterRows
  pub plugins : PluginRows
  pub declared : RowLists
  pub commands : ℕ

-- a request of it at a time, in milliseconds. There is one worker
abbrev pub asked_of : GatewayRows → ℕ → Request → Asked
asked_of rows time request = record {
  router = rows.router;
  plugins = rows.plugins;
  request = request;
  moment = record { time = time; who = 1 };
}

-- every key has its value at these rows
abbrev pub every : RowLists → Key → Option Value
every rows key = Some (value_of rows key)

-- ---- what is counted

-- the hit that is to be counted, if there is one
abbrev pub hits_in : Want → List Hit
hits_in (want.Count hit) = hit ∷ []
hits_in _ = []

-- the hits of a request at a time: one where a plugin counts it
unfoldable pub counted : GatewayRows → ℕ → Request → List Hit
counted rows time request = hits_in (plain (asked_of rows time request) (every rows.declared) [] None)

-- ---- the response

-- what is wanted once the echo has answered, where its answer is wanted
abbrev pub after_echo : Asked → (Key → Option Value) → List Verdict → Want → Want
after_echo asked entity verdicts (want.Upstream message) = plain asked entity verdicts (Some (Answered (echo_of message.bytes)))
after_echo asked entity verdicts next = next

-- the reply: nothing else is wanted then
abbrev pub response_in : Want → Response
response_in (want.Done reply) = reply
response_in _ = no_route

-- the response to a request at a time, after these hits
abbrev pub dry_reply : GatewayRows → List Hit → ℕ → Request → Response
dry_reply rows hits time request =
    let asked : Asked = asked_of rows time request in
    let verdicts : List Verdict = map (verdict_after hits) (counted rows time request) in
    response_in (after_echo asked (every rows.declared) verdicts (plain asked (every rows.declared) verdicts None))

-- a reply to HEAD has no body
abbrev pub is_bodiless : Request → Bool
is_bodiless request = bytes_eq request.method (codes "HEAD")

-- the text of the reply to a request at a time, after these hits, where `last` tells that it is the connection's
-- last whatever the request asks
unfoldable pub reply_to : GatewayRows → List Hit → ℕ → Bool → Request → List ℕ
reply_to rows hits time last request = reply_text (dry_reply rows hits time request) (is_bodiless request) (keeping_of last request)

-- the reply to a message that is refused
unfoldable pub bad_request : Response
bad_request = gateway_message 400 (codes "Bad request")

-- its text: the connection ends with it
unfoldable pub bad_request_text : List ℕ
bad_request_text = reply_text bad_request false Close
