-- A reply as it is written to the client (RFC 9112, section 4).
use Rattle.std.specs.Prelude.{ℕ, Bool, not, ◌||◌, ◌==◌, List, [], ◌∷◌, ◌++◌, codes, decimal, unwrap_or, if◌then◌else◌}
use Rattle.http.specs.StatusCode.{reason_phrase}
use Rattle.kg_message.specs.declared.header.Header.{Header}
use Rattle.kg_message.specs.declared.response.Response.{Response}
use Rattle.kg_print.specs.declared.connection.Keeping.{Keeping}
use Rattle.kg_print.specs.declared.connection.Keeping.TheVariants.{Silent, Close, Alive}
use Rattle.kg_print.specs.FieldLines.{connection, stated_length, line_end, field_lines}

-- the phrase that the standard gives to a status; nothing where it gives none
unfoldable pub phrase : ℕ → List ℕ
phrase status = unwrap_or (reason_phrase status) []

-- the reply has a body: the request was not by HEAD, and the status is neither 204 nor 304 (RFC 9110,
-- section 6.4.1)
abbrev pub has_body : Bool → ℕ → Bool
has_body bodiless status = not (bodiless || (status == 204 || status == 304))

-- what the reply says of its connection (RFC 9112, section 9.3)
abbrev pub keeping_fields : Keeping → List Header
keeping_fields Silent = []
keeping_fields Close = connection (codes "close") ∷ []
keeping_fields Alive = connection (codes "keep-alive") ∷ []

-- all fields that are written, in their order
abbrev pub written_fields : Response → Bool → Keeping → List Header
written_fields response bodiless keeping =
    response.headers
    ++ stated_length (has_body bodiless response.status) response.body
    ++ keeping_fields keeping

-- the reply
abbrev pub reply_text : Response → Bool → Keeping → List ℕ
reply_text response bodiless keeping =
    codes "HTTP/1.1 " ++ decimal response.status ++ codes " " ++ phrase response.status ++ line_end
    ++ field_lines (written_fields response bodiless keeping)
    ++ line_end
    ++ (if has_body bodiless response.status then response.body else [])
