-- A request on its way through the phases of the gateway (Kong Gateway manual, "Plugin development": the
-- phases access and header_filter).
use Rattle.std.specs.Prelude.{ℕ, false, List, [], Option, Some, None}
use Rattle.kg_text.specs.Queries.{query_pairs}
use Rattle.kg_text.specs.declared.pair.Pair.{Pair}
use Rattle.kg_message.specs.declared.request.Request.{Request}
use Rattle.kg_message.specs.declared.response.Response.{Response}
use Rattle.kg_context.specs.UpstreamFields.{upstream_fields}
use Rattle.kg_context.specs.declared.context.ReqCtx.{ReqCtx}

-- the pairs of a query, and none where there is no query
abbrev pub pairs_of : Option (List ℕ) → List Pair
pairs_of None = []
pairs_of (Some query) = query_pairs query

-- a request at its route, before the first plugin
abbrev pub started : ℕ → ℕ → Request → ReqCtx
started service route request = record {
  request = request;
  service = service;
  route = route;
  headers = upstream_fields request.headers;
  query = pairs_of request.query;
  consumer = None;
  credential = None;
  preflight = false;
  end = None;
}

-- a plugin ended the request with this reply
abbrev pub ended : Response → ReqCtx → ReqCtx
ended reply ctx = record ctx { end = Some reply }
