-- What the trace of a reply says: that all it tells was so when the request looked at the history, or later, and that
-- the reply is what the plain gateway makes of it.
use Rattle.std.specs.Prelude.{◌≡◌, ◌≢◌, ◌≤◌, ◌⊎◌, ℕ, List, [], All, codes, length, map, take, None}
use Rattle.std.specs.List.{AllPairs}
use Rattle.kg_row_types.specs.RowLists.{RowLists}
use Rattle.kg_row_values.specs.Rows.{rows_after}
use Rattle.kg_row_values.specs.Values.{value_at}
use Rattle.kg_row_values.specs.declared.command.Command.{Command}
use Rattle.kg_message.specs.GatewayMessage.{gateway_message}
use Rattle.kg_message.specs.declared.request.Request.{Request}
use Rattle.kg_message.specs.declared.response.Response.{Response}
use Rattle.kg_router.specs.RouterRows.{RouterRows}
use Rattle.kg_plugin_table.specs.PluginRows.{PluginRows}
use Rattle.kg_limit.specs.declared.hit.Hit.{Hit}
use Rattle.kg_limit.specs.declared.hit.Verdict.{Verdict}
use Rattle.kg_course.specs.Plain.{Asked, plain}
use Rattle.kg_course.specs.Wants.{IsReply}
use Rattle.kg_course.specs.declared.want.Want.{Want}
use Rattle.kg_course.specs.declared.want.Want.TheVariants as want
use Rattle.kg_visit.specs.Told.{IsAsked, Use, entities}
use Rattle.kg_visit.specs.declared.trace.ReplyKind.{ReplyKind}
use Rattle.kg_visit.specs.declared.trace.ReplyKind.TheVariants.{Plain, KeeperFault}
use Rattle.kg_visit.specs.declared.trace.Trace.{Trace}

-- ---- what was read was current

-- a place of the history at which the request had looked already
abbrev pub IsSince : List Command → ℕ → ℕ → Type 0
IsSince history looked at = (looked ≤ at) × (at ≤ length history)

-- a generation was held at such a place; only where the rows couldn't be read there may have been none
abbrev pub IsHeld : List Command → Trace → ℕ → Type 0
IsHeld history trace at = IsSince history trace.p at ⊎ ((trace.kind ≡ KeeperFault) × (at ≡ 0))

-- the value is that of its key at such a place
pub record IsRead (history : List Command) (looked : ℕ) (used : Use) : Type 0 where
  pub since : IsSince history looked used.at
  pub value : used.value ≡ value_at used.key (take used.at history)

-- the request looked at the history, and read each thing as it was then or later, each key once
pub record IsCurrent (history : List Command) (trace : Trace) : Type 0 where
  pub looked : trace.p ≤ length history
  pub router : IsHeld history trace trace.r
  pub plugins : IsHeld history trace trace.s
  pub uses : All (IsRead history trace.p) trace.uses
  pub once : AllPairs (λ a b. a.key ≢ b.key) trace.uses

-- ---- the reply that a trace justifies

abbrev pub router_rows : ℕ → RowLists → RouterRows
router_rows at rows = record { rev = at; services = rows.services; routes = rows.routes }

abbrev pub plugin_rows : ℕ → RowLists → PluginRows
plugin_rows at rows = record { rev = at; rows = rows.plugins }

-- what the request asked: of the generations as they were held, at its one reading of the clock, by this worker
abbrev pub asked_by : List Command → Trace → Request → ℕ → Asked
asked_by history trace request worker = record {
  router = router_rows trace.r (rows_after (take trace.r history));
  plugins = plugin_rows trace.s (rows_after (take trace.s history));
  request = request;
  moment = record { time = trace.now; who = worker };
}

-- what the plain gateway makes of it, with all that the trace tells
abbrev pub come_to : List Command → Trace → Request → ℕ → Want
come_to history trace request worker = plain (asked_by history trace request worker) (entities trace.uses) trace.verdicts trace.upstream

-- the verdict tells of the hit's windows, in their order
abbrev pub FitsHit : Hit → Verdict → Type 0
FitsHit hit verdict = map (λ left. left.0) verdict.left ≡ map (λ limit. limit.0) hit.limits

-- each verdict fits the hit that is lacking without it
abbrev pub VerdictsFit : Asked → List Use → List Verdict → Type 0
VerdictsFit asked uses verdicts = (hit : Hit) → plain asked (entities uses) [] None ≡ want.Count hit → All (FitsHit hit) verdicts

-- the trace has what was asked, in the order asked, and leads to a reply
pub record Justifies (history : List Command) (trace : Trace) (request : Request) (worker : ℕ) : Type 0 where
  pub current : IsCurrent history trace
  pub in_order : IsAsked (asked_by history trace request worker) trace.uses trace.verdicts trace.upstream
  pub fits : VerdictsFit (asked_by history trace request worker) trace.uses trace.verdicts
  pub answered : trace.kind ≡ Plain → IsReply (come_to history trace request worker)

-- the reply of a request whose rows couldn't be read
abbrev pub unexpected_error : Response
unexpected_error = gateway_message 500 (codes "An unexpected error occurred")

-- this reply; only `Done` has one
abbrev pub reply_in : Want → Response
reply_in (want.Done reply) = reply
reply_in _ = unexpected_error

abbrev pub reply_of_kind : ReplyKind → Want → Response
reply_of_kind Plain next = reply_in next
reply_of_kind KeeperFault next = unexpected_error

-- the reply that the trace justifies
abbrev pub reply_of : List Command → Trace → Request → ℕ → Response
reply_of history trace request worker = reply_of_kind trace.kind (come_to history trace request worker)
