-- The reply to a request that isn't let through (Kong Gateway manual, "Rate Limiting"; RFC 6585, section 4).
use Rattle.std.specs.Prelude.{codes}
use Rattle.kg_message.specs.GatewayMessage.{gateway_message}
use Rattle.kg_message.specs.declared.response.Response.{Response}

abbrev pub refusal : Response
refusal = gateway_message 429 (codes "API rate limit exceeded")
