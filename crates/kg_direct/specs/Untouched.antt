-- Requests that no plugin touches, and the message that they come to.
use Rattle.std.specs.Prelude.{ℕ, Bool, List, ◌++◌, is_some, Some, None}
use Rattle.std.specs.List.{list_any}
use Rattle.kg_row_types.specs.PluginNames.{plugins_in_order}
use Rattle.kg_row_types.specs.declared.plugin.PluginRow.{PluginRow}
use Rattle.kg_row_types.specs.declared.plugin.Scope.{Scope}
use Rattle.kg_message.specs.declared.request.Request.{Request}
use Rattle.kg_print.specs.UpstreamText.{upstream_text}
use Rattle.kg_router.specs.Best.{Choice}
use Rattle.kg_plugin_table.specs.Precedence.{chosen_row}
use Rattle.kg_context.specs.UpstreamFields.{upstream_fields}
use Rattle.kg_context.specs.declared.upstream.UpRequest.{UpRequest}
use Rattle.kg_upstream.specs.UpstreamMessage.{as_it_came, is_head}
use Rattle.kg_upstream.specs.UpstreamPath.{host_for, path_for}

-- the scope of a request at its choice, whose consumer isn't known
abbrev pub route_scope : Choice → Scope
route_scope choice = record { service = Some choice.service.id; route = Some choice.route.id; consumer = None }

-- a plugin has a row that runs for it
abbrev pub is_touched : List PluginRow → Choice → Bool
is_touched rows choice = list_any (λ name. is_some (chosen_row rows name (route_scope choice))) plugins_in_order

-- the bytes of its message: the client's fields and query as they came
abbrev pub straight_message : Choice → Request → List ℕ
straight_message choice request =
    upstream_text request.method (path_for choice request ++ as_it_came request.query) (host_for choice request) request (upstream_fields request.headers)

-- the message, and whom it goes to
abbrev pub straight_request : Choice → Request → UpRequest
straight_request choice request = record {
  target = record { host = choice.service.host; port = choice.service.port };
  retries = choice.service.retries;
  bytes = straight_message choice request;
  head_only = is_head request;
}
