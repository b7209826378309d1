-- The message that goes upstream, and the reply that its answer becomes (Kong Gateway manual, "Routes" and
-- "Services"; the query and the order of fields are this project's own).
use Rattle.std.specs.Prelude.{ℕ, Bool, ◌&&◌, ◌==◌, List, [], ◌++◌, length, Option, Some, None, codes, if◌then◌else◌}
use Rattle.std.specs.Cmp.Lexicographic.{pointwise}
use Rattle.std.specs.Str.{bytes_eq}
use Rattle.kg_text.specs.Queries.{query_text}
use Rattle.kg_text.specs.declared.pair.Pair.{Pair}
use Rattle.kg_message.specs.GatewayMessage.{gateway_message}
use Rattle.kg_message.specs.HopByHop.{end_to_end}
use Rattle.kg_message.specs.declared.request.Request.{Request}
use Rattle.kg_message.specs.declared.response.Response.{Response}
use Rattle.kg_print.specs.UpstreamText.{upstream_text}
use Rattle.kg_router.specs.Best.{Choice}
use Rattle.kg_context.specs.Context.{pairs_of}
use Rattle.kg_context.specs.declared.context.ReqCtx.{ReqCtx}
use Rattle.kg_context.specs.declared.upstream.UpRequest.{UpRequest}
use Rattle.kg_context.specs.declared.upstream.Upstream.{Upstream}
use Rattle.kg_context.specs.declared.upstream.Upstream.TheVariants.{Answered, Fault, NotHttp}
use Rattle.kg_upstream.specs.UpstreamPath.{host_seen, path_for}
use Rattle.kg_upstream.specs.declared.way.Way.{Way}

-- ---- the query

-- the same pairs in the same order
abbrev pub same_pair : Pair → Pair → Bool
same_pair a b = bytes_eq a.name b.name && bytes_eq a.value b.value

abbrev pub same_pairs : List Pair → List Pair → Bool
same_pairs = pointwise same_pair

-- the query behind its `?`, as it came
abbrev pub as_it_came : Option (List ℕ) → List ℕ
as_it_came None = []
as_it_came (Some query) = codes "?" ++ query

-- the written pairs behind a `?`, if there are some
abbrev pub written : List Pair → List ℕ
written pairs = if length pairs == 0 then [] else codes "?" ++ query_text pairs

-- as it came, where the pairs are still those of the client
abbrev pub upstream_query : Option (List ℕ) → List Pair → List ℕ
upstream_query query pairs = if same_pairs pairs (pairs_of query) then as_it_came query else written pairs

-- ---- the message

-- what is kept of the choice for it: whom to call, how often, which Host is seen, and the path
abbrev pub way_of : Choice → Request → Way
way_of choice request = record {
  service = choice.service.id;
  route = choice.route.id;
  target = record { host = choice.service.host; port = choice.service.port };
  retries = choice.service.retries;
  preserve_host = choice.route.preserve_host;
  path = path_for choice request;
}

abbrev pub is_head : Request → Bool
is_head request = bytes_eq request.method (codes "HEAD")

-- the Host that the upstream sees on this way
abbrev pub host_on : Way → Request → List ℕ
host_on way request = host_seen way.preserve_host way.target.host way.target.port request

-- the bytes of the message with this path and query
abbrev pub bytes_to : List ℕ → Way → ReqCtx → List ℕ
bytes_to target way ctx = upstream_text ctx.request.method target (host_on way ctx.request) ctx.request ctx.headers

-- the bytes of the message for a request as the plugins leave it
abbrev pub message_bytes : Way → ReqCtx → List ℕ
message_bytes way ctx = bytes_to (way.path ++ upstream_query ctx.request.query ctx.query) way ctx

-- the message, and whom it goes to
unfoldable pub up_request : Way → ReqCtx → UpRequest
up_request way ctx = record {
  target = way.target;
  retries = way.retries;
  bytes = message_bytes way ctx;
  head_only = is_head ctx.request;
}

-- ---- the reply

-- no response came
unfoldable pub bad_gateway : Response
bad_gateway = gateway_message 502 (codes "An invalid response was received from the upstream server")

-- the response without the fields that concern the upstream's connection alone
abbrev pub passed_on : Response → Response
passed_on response = record { status = response.status; headers = end_to_end response.headers; body = response.body }

abbrev pub reply_of : Upstream → Response
reply_of (Answered response) = passed_on response
reply_of Fault = bad_gateway
reply_of NotHttp = bad_gateway
