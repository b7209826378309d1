-- The message that the gateway sends upstream for a client's request (RFC 9112, section 3, with the
-- fields that tell of the client as the Kong manual names them).
use Rattle.std.specs.Prelude.{ℕ, List, [], ◌∷◌, ◌++◌, codes, if◌then◌else◌}
use Rattle.std.specs.List.{join_by}
use Rattle.std.specs.Net.Text.{ipv4_text}
use Rattle.kg_message.specs.declared.header.Header.{Header}
use Rattle.kg_message.specs.declared.request.Request.{Request}
use Rattle.kg_message.specs.HeaderLists.{is_named, values_named}
use Rattle.kg_print.specs.FieldLines.{connection, stated_length, line_end, field_lines}

-- the client's values of x-forwarded-for and then its address, joined by a comma and a space
unfoldable pub forwarded_for : List Header → List ℕ → List ℕ
forwarded_for fields address =
    join_by (λ value. value) (codes ", ")
    (values_named (codes "x-forwarded-for") fields ++ address ∷ [])

-- what is told of the client, by the names that proxies use
abbrev pub forwarded_fields : List ℕ → List ℕ → List ℕ → List Header
forwarded_fields forwarded_for host address =
    record { name = codes "x-forwarded-for"; value = forwarded_for }
    ∷ record { name = codes "x-forwarded-proto"; value = codes "http" }
    ∷ record { name = codes "x-forwarded-host"; value = host }
    ∷ record { name = codes "x-real-ip"; value = address } ∷ []

-- the fields that tell of the client
abbrev pub client_fields : Request → List Header
client_fields request =
    let address = ipv4_text request.address in
    forwarded_fields (forwarded_for request.headers address) request.host address

-- all fields that are sent, in their order
abbrev pub sent_fields : List ℕ → Request → List Header → List Header
sent_fields host request headers =
    record { name = codes "host"; value = host } ∷ headers
    ++ client_fields request
    ++ stated_length request.framed request.body
    ++ connection (codes "close") ∷ []

-- the head of the message
abbrev pub upstream_head : List ℕ → List ℕ → List ℕ → Request → List Header → List ℕ
upstream_head method target host request headers =
    method ++ codes " " ++ target ++ codes " HTTP/1.1\r\n"
    ++ field_lines (sent_fields host request headers)
    ++ line_end

-- the message
abbrev pub upstream_text : List ℕ → List ℕ → List ℕ → Request → List Header → List ℕ
upstream_text method target host request headers = upstream_head method target host request headers ++ request.body

-- for private clauses: a value of x-forwarded-for with a comma and a space behind it; nothing of another field
abbrev pub forwarded_value : Header → List ℕ
forwarded_value field = if is_named (codes "x-forwarded-for") field then field.value ++ codes ", " else []
