-- Kong's plugin cors in access (Kong Gateway manual, "CORS"; the Fetch standard, section 3.2: a preflight asks
-- with OPTIONS what another origin may do).
use Rattle.std.specs.Prelude.{Bool, true, not, ◌&&◌, [], Option, Some, None, codes, if◌then◌else◌}
use Rattle.std.specs.Str.{bytes_eq}
use Rattle.kg_row_types.specs.declared.config.Cors.{Cors}
use Rattle.kg_message.specs.HeaderLists.{has}
use Rattle.kg_message.specs.declared.request.Request.{Request}
use Rattle.kg_message.specs.declared.response.Response.{Response}
use Rattle.kg_context.specs.declared.context.ReqCtx.{ReqCtx}

-- the request asks what its origin may do
abbrev pub is_preflight : Request → Bool
is_preflight request =
    bytes_eq request.method (codes "OPTIONS")
    && has (codes "origin") request.headers
    && has (codes "access-control-request-method") request.headers

-- the plugin answers it, and no upstream sees it
abbrev pub ends_preflight : Cors → Request → Bool
ends_preflight config request = not config.preflight_continue && is_preflight request

-- an empty reply; the fields come in header_filter
abbrev pub preflight_reply : Response
preflight_reply = record { status = 200; headers = []; body = [] }

-- the reply, where the plugin ends the request, and the context
abbrev pub cors : Cors → ReqCtx → Option Response × ReqCtx
cors config ctx =
    if ends_preflight config ctx.request
    then (Some preflight_reply, record ctx { preflight = true })
    else (None, ctx)
