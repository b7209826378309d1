-- What each plugin does in the two phases that it runs in (Kong Gateway manual, "Plugin development": access and
-- header_filter).
use Rattle.std.specs.Prelude.{ℕ, List, Option, Some, None, if◌then◌else◌}
use Rattle.kg_row_types.specs.declared.config.Config.{Config}
use Rattle.kg_row_types.specs.declared.config.Config.TheVariants as of_config
use Rattle.kg_row_types.specs.declared.config.RateLimiting.{RateLimiting}
use Rattle.kg_row_types.specs.declared.plugin.PluginRow.{PluginRow}
use Rattle.kg_message.specs.declared.response.Response.{Response}
use Rattle.kg_context.specs.Context.{ended}
use Rattle.kg_context.specs.declared.context.ReqCtx.{ReqCtx}
use Rattle.kg_auth.specs.AclRule.{acl}
use Rattle.kg_auth.specs.KeyAuth.{key_auth}
use Rattle.kg_basic.specs.BasicAuth.{basic_auth}
use Rattle.kg_limit.specs.Hits.{hit_of}
use Rattle.kg_limit.specs.LimitHeaders.{limit_headers}
use Rattle.kg_limit.specs.Refusal.{refusal}
use Rattle.kg_limit.specs.declared.hit.Hit.{Hit}
use Rattle.kg_limit.specs.declared.hit.Verdict.{Verdict}
use Rattle.kg_guard.specs.Cors.{cors}
use Rattle.kg_guard.specs.CorsHeaders.{cors_headers}
use Rattle.kg_guard.specs.IpRestriction.{ip_restriction}
use Rattle.kg_guard.specs.RequestSizeLimiting.{request_size_limiting}
use Rattle.kg_guard.specs.RequestTermination.{request_termination}
use Rattle.kg_transform.specs.RequestTransformer.{request_transformed}
use Rattle.kg_transform.specs.ResponseTransformer.{response_transformed}
use Rattle.kg_context.specs.Rule.{Rule}
use Rattle.kg_course.specs.Course.{AsksVerdict, Course, Leaves, of_rule, through}
use Rattle.kg_course.specs.declared.moment.Moment.{Moment}

-- a request under way: its context, the rows chosen so far, and the verdict that it got, beside its hit
pub record Under : Type 0 where
  pub ctx : ReqCtx
  pub chosen : List PluginRow
  pub limit : Option (Hit × Verdict)

abbrev pub changed : Under → ReqCtx → Under
changed under ctx = record { ctx = ctx; chosen = under.chosen; limit = under.limit }

-- a plugin that refuses ends the request
abbrev pub ended_if : Option Response → ReqCtx → ReqCtx
ended_if None ctx = ctx
ended_if (Some reply) ctx = ended reply ctx

-- what a guard leaves
abbrev pub after_guard : Option Response × ReqCtx → ReqCtx
after_guard met = ended_if met.0 met.1

-- ---- plugins that ask

-- what a plugin's rule leaves
abbrev pub ruled : Rule → Under → Course Under
ruled rule under = through (of_rule rule) (λ ctx. Leaves (changed under ctx))

-- a request that isn't let through is refused
abbrev pub judged : Verdict → ReqCtx → ReqCtx
judged verdict ctx = if verdict.let_through then ctx else ended refusal ctx

-- a hit was counted, and got this verdict
abbrev pub counted : Hit → Verdict → Under → Under
counted hit verdict under = record {
  ctx = judged verdict under.ctx;
  chosen = under.chosen;
  limit = Some (hit, verdict);
}

abbrev pub rate_limiting : RateLimiting → Moment → ℕ → Under → Course Under
rate_limiting config moment id under =
    let hit = hit_of config id under.ctx moment.time moment.who in
    AsksVerdict hit (λ verdict. Leaves (counted hit verdict under))

-- ---- access

abbrev pub access_of : Config → Moment → ℕ → Under → Course Under
access_of (of_config.Cors config) moment id under = Leaves (changed under (after_guard (cors config under.ctx)))
access_of (of_config.KeyAuth config) moment id under = ruled (key_auth config under.ctx) under
access_of (of_config.BasicAuth config) moment id under = ruled (basic_auth config under.ctx) under
access_of (of_config.IpRestriction config) moment id under = Leaves (changed under (ended_if (ip_restriction config under.ctx) under.ctx))
access_of (of_config.RequestSizeLimiting config) moment id under = Leaves (changed under (ended_if (request_size_limiting config under.ctx) under.ctx))
access_of (of_config.Acl config) moment id under = ruled (acl config under.ctx) under
access_of (of_config.RateLimiting config) moment id under = rate_limiting config moment id under
access_of (of_config.RequestTransformer config) moment id under = Leaves (changed under (request_transformed config under.ctx))
access_of (of_config.RequestTermination config) moment id under = Leaves (changed under (ended (request_termination config) under.ctx))
access_of (of_config.ResponseTransformer config) moment id under = Leaves under

-- the row of a plugin runs
abbrev pub access : Moment → PluginRow → Under → Course Under
access moment row under = access_of row.config moment row.id under

-- ---- header_filter

-- the client is told of its limits, if its request was counted
abbrev pub told_limits : Option (Hit × Verdict) → Response → Response
told_limits None reply = reply
told_limits (Some counted) reply = limit_headers counted.0 counted.1 reply

abbrev pub limits_shown : RateLimiting → Option (Hit × Verdict) → Response → Response
limits_shown config limit reply = if config.hide_client_headers then reply else told_limits limit reply

abbrev pub filter_of : Config → Under → Response → Response
filter_of (of_config.Cors config) under reply = cors_headers config under.ctx reply
filter_of (of_config.RateLimiting config) under reply = limits_shown config under.limit reply
filter_of (of_config.ResponseTransformer config) under reply = response_transformed config reply
filter_of _ under reply = reply

abbrev pub header_filter : Under → Response → PluginRow → Response
header_filter under reply row = filter_of row.config under reply
