-- Machinery for proofs: what becomes of a request as the router finds its route.
use Rattle.std.specs.Prelude.{◌≡◌, ℕ, List, [], Some, option_map}
use Rattle.kg_message.specs.declared.request.Request.{Request}
use Rattle.kg_message.specs.declared.response.Response.{Response}
use Rattle.kg_context.specs.Echo.{echo_of}
use Rattle.kg_context.specs.declared.upstream.Upstream.TheVariants.{Answered}
use Rattle.kg_limit.specs.declared.hit.Hit.{Hit}
use Rattle.kg_router.specs.Best.{best_choice}
use Rattle.kg_upstream.specs.UpstreamMessage.{reply_of, way_of}
use Rattle.kg_upstream.specs.declared.way.Way.{Way}
use Rattle.kg_plain.specs.DryReply.{GatewayRows, counted, dry_reply}
use Rattle.kg_plain.specs.declared.gateway.Answer.{Answer}
use Rattle.kg_plain.specs.declared.gateway.Answer.TheVariants.{Echo, Reply}
use Rattle.kg_plain.specs.declared.gateway.Start.{Start}
use Rattle.kg_plain.specs.declared.gateway.Start.TheVariants.{Straight, Touched}

-- it is the way of the best route that takes the request
abbrev pub IsWayOf : GatewayRows → Request → Way → Type 0
IsWayOf rows request way =
    Some way ≡ option_map (λ choice. way_of choice request) (best_choice rows.router.services rows.router.routes request)

-- the response that an answer is
abbrev pub response_of : Answer → Response
response_of (Echo message) = reply_of (Answered (echo_of message))
response_of (Reply response) = response

-- this is the answer at any time and after any hits, and nothing is counted; or the request goes on this way
abbrev pub StartsSo : GatewayRows → Request → Start → Type 0
StartsSo rows request (Straight answer) =
    (hits : List Hit) (time : ℕ) → (response_of answer ≡ dry_reply rows hits time request) × (counted rows time request ≡ [])
StartsSo rows request (Touched way) = IsWayOf rows request way
