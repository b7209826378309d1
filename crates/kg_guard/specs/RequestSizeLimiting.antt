-- Kong's plugin request-size-limiting (Kong Gateway manual, "Request Size Limiting"): how long a body may be.
use Rattle.std.specs.Prelude.{ℕ, ◌*◌, nat_lt, length, Option, Some, None, codes, if◌then◌else◌}
use Rattle.kg_row_types.specs.declared.config.SizeLimit.{SizeLimit}
use Rattle.kg_row_types.specs.declared.config.SizeUnit.{SizeUnit}
use Rattle.kg_row_types.specs.declared.config.SizeUnit.TheVariants.{Megabytes, Kilobytes, Bytes}
use Rattle.kg_message.specs.GatewayMessage.{gateway_message}
use Rattle.kg_message.specs.declared.response.Response.{Response}
use Rattle.kg_context.specs.declared.context.ReqCtx.{ReqCtx}

-- how many bytes a unit is
abbrev pub unit_bytes : SizeUnit → ℕ
unit_bytes Megabytes = 1048576
unit_bytes Kilobytes = 1024
unit_bytes Bytes = 1

-- how many bytes a body may have
abbrev pub most_bytes : SizeLimit → ℕ
most_bytes config = config.allowed_payload_size * unit_bytes config.size_unit

-- the refusal, where the body has more
abbrev pub request_size_limiting : SizeLimit → ReqCtx → Option Response
request_size_limiting config ctx =
    if nat_lt (most_bytes config) (length ctx.request.body)
    then Some (gateway_message 413 (codes "Request size limit exceeded"))
    else None
