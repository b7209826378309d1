-- The four guards by their configs.
use Rattle.std.specs.Prelude.{Option, Some}
use Rattle.kg_message.specs.declared.response.Response.{Response}
use Rattle.kg_row_types.specs.ValidRows.{IsValidCors, IsValidIpRestriction, IsValidSizeLimit, IsValidTermination}
use Rattle.kg_context.specs.declared.context.ReqCtx.{ReqCtx}
use Rattle.kg_guard.specs.Cors.{cors}
use Rattle.kg_guard.specs.IpRestriction.{ip_restriction}
use Rattle.kg_guard.specs.RequestSizeLimiting.{request_size_limiting}
use Rattle.kg_guard.specs.RequestTermination.{request_termination}
use Rattle.kg_guard.specs.declared.guards.GuardConfig.{GuardConfig}
use Rattle.kg_guard.specs.declared.guards.GuardConfig.TheVariants as of_guard

-- the reply, where the guard ends the request, and the context
abbrev pub guarded : GuardConfig → ReqCtx → Option Response × ReqCtx
guarded (of_guard.Cors config) ctx = cors config.now ctx
guarded (of_guard.IpRestriction config) ctx = (ip_restriction config.now ctx, ctx)
guarded (of_guard.RequestSizeLimiting config) ctx = (request_size_limiting config.now ctx, ctx)
guarded (of_guard.RequestTermination config) ctx = (Some (request_termination config.now), ctx)

-- the config is one that a valid row has
abbrev pub IsValidGuard : GuardConfig → Type 0
IsValidGuard (of_guard.Cors config) = IsValidCors config.now
IsValidGuard (of_guard.IpRestriction config) = IsValidIpRestriction config.now
IsValidGuard (of_guard.RequestSizeLimiting config) = IsValidSizeLimit config.now
IsValidGuard (of_guard.RequestTermination config) = IsValidTermination config.now
