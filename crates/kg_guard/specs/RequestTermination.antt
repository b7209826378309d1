-- Kong's plugin request-termination (Kong Gateway manual, "Request Termination"): the reply that ends every
-- request.
use Rattle.std.specs.Prelude.{ℕ, nat_eq, List, [], ◌∷◌, ◌++◌, Option, Some, None, unwrap_or, codes, decimal}
use Rattle.std.specs.Map.{lookup}
use Rattle.kg_row_types.specs.declared.config.Termination.{Termination}
use Rattle.kg_message.specs.GatewayMessage.{gateway_message}
use Rattle.kg_message.specs.HeaderLists.{content_type}
use Rattle.kg_message.specs.declared.response.Response.{Response}

-- the type of a body for which none is told
abbrev pub json_type : List ℕ
json_type = codes "application/json; charset=utf-8"

-- the statuses that have a message of their own
abbrev pub known_message : ℕ → Option (List ℕ)
known_message status = lookup (nat_eq status) (
    (401, codes "Unauthorized")
    ∷ (403, codes "Forbidden")
    ∷ (404, codes "Not found")
    ∷ (405, codes "Method not allowed")
    ∷ (500, codes "An unexpected error occurred")
    ∷ (502, codes "Bad gateway")
    ∷ (503, codes "Service unavailable")
    ∷ [])

abbrev pub numbered_message : ℕ → List ℕ
numbered_message status = codes "Status " ++ decimal status

-- the message of a status for which none is told
abbrev pub status_message : ℕ → List ℕ
status_message status = unwrap_or (known_message status) (numbered_message status)

-- the reply with this body, and its type where one is told
abbrev pub reply_with_body : ℕ → Option (List ℕ) → List ℕ → Response
reply_with_body status told body = record {
  status = status;
  headers = content_type (unwrap_or told json_type) ∷ [];
  body = body;
}

-- the gateway's reply with the message, or with that of the status
abbrev pub reply_with_message : ℕ → Option (List ℕ) → Response
reply_with_message status (Some message) = gateway_message status message
reply_with_message status None = gateway_message status (status_message status)

-- with this body, where one is told
abbrev pub reply_of : Termination → Option (List ℕ) → Response
reply_of config (Some body) = reply_with_body config.status_code config.content_type body
reply_of config None = reply_with_message config.status_code config.message

-- the reply: the body, where one is told
abbrev pub request_termination : Termination → Response
request_termination config = reply_of config config.body
