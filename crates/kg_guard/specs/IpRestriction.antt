-- Kong's plugin ip-restriction (Kong Gateway manual, "IP Restriction"): which addresses may send requests.
use Rattle.std.specs.Prelude.{Bool, not, ◌&&◌, ◌||◌, List, ℕ, Option, Some, None, codes, if◌then◌else◌}
use Rattle.kg_row_types.specs.TextForms.{is_set}
use Rattle.kg_row_types.specs.declared.config.IpRestriction.{IpRestriction}
use Rattle.kg_message.specs.GatewayMessage.{gateway_message}
use Rattle.kg_message.specs.declared.response.Response.{Response}
use Rattle.kg_context.specs.declared.context.ReqCtx.{ReqCtx}
use Rattle.kg_guard.specs.Addresses.{is_in_some}

-- deny has the address, or allow is set and hasn't
abbrev pub is_address_refused : IpRestriction → List ℕ → Bool
is_address_refused config address =
    is_in_some address config.deny || (is_set config.allow && not (is_in_some address config.allow))

-- the refusal, where the address is refused
abbrev pub ip_restriction : IpRestriction → ReqCtx → Option Response
ip_restriction config ctx =
    if is_address_refused config ctx.request.address
    then Some (gateway_message 403 (codes "Your IP address is not allowed"))
    else None
