-- The requests of a connection as they are spelt (RFC 9112, sections 2 to 6): a head, and a body whose
-- length the head states. The grammar of a head is httparse's.
use Rattle.std.specs.Prelude.{◌≡◌, ℕ, ◌≤◌, List, [], ◌++◌, length, map, Some, unwrap_or, codes}
use Rattle.std.specs.List.{flat_map, AllByRecursion}
use Rattle.std.specs.Result.{result_unwrap_or}
use Rattle.std.specs.Str.{str_to_ascii_lowercase}
use Rattle.httparse.specs.Grammar.{RequestHead, IsRequestHead, print_request}
use Rattle.httparse.specs.Spans.{name_and_value}
use Rattle.kg_text.specs.Paths.{normal_form}
use Rattle.kg_message.specs.HeaderLists.{first_value}
use Rattle.kg_message.specs.declared.header.Header.{Header}
use Rattle.kg_message.specs.declared.request.Request.{Request}
use Rattle.kg_wire.specs.Checks.{body_len, is_framed}
use Rattle.kg_wire.specs.Targets.{target_path, target_query}
use Rattle.kg_wire.specs.declared.head.Head.{Head}

-- the length of the longest head, and of the longest body
abbrev pub most_head : ℕ
most_head = 65536

abbrev pub most_body : ℕ
most_body = 8388608

-- a request as it is spelt
pub record Message : Type 0 where
  pub head : RequestHead
  pub body : List ℕ

-- its bytes
abbrev pub print_message : Message → List ℕ
print_message m = print_request m.head ++ m.body

-- a header field: its name in lower case, and its value without blanks at its ends
abbrev pub header_of : List ℕ × List ℕ → Header
header_of field = record { name = str_to_ascii_lowercase field.0; value = field.1 }

-- the parts of a head
abbrev pub head_of : RequestHead → Head
head_of h = record {
  method = h.method;
  target = h.target;
  minor = h.minor;
  headers = map header_of (map name_and_value h.fields);
}

-- the head is of the grammar and passes, and the body has the length that it states
pub record IsMessage (m : Message) : Type 0 where
  pub grammar : IsRequestHead m.head
  pub framed : body_len (head_of m.head) ≡ Some (length m.body)

-- and head and body are within their limits
pub record IsRequest (m : Message) : Type 0 where
  pub message : IsMessage m
  pub short_head : length (print_request m.head) ≤ most_head
  pub short_body : length m.body ≤ most_body

-- the request of a head and a body, from a client at this address
abbrev pub request_with : List ℕ → Head → List ℕ → Request
request_with address head body = record {
  method = head.method;
  path = result_unwrap_or (normal_form (target_path head.target)) [];
  query = target_query head.target;
  minor = head.minor;
  host = unwrap_or (first_value (codes "host") head.headers) [];
  headers = head.headers;
  body = body;
  framed = is_framed head;
  address = address;
}

-- the request that a message spells
abbrev pub request_of : List ℕ → Message → Request
request_of address m = request_with address (head_of m.head) m.body

-- no request stands at the front
abbrev pub BeginsNoRequest : List ℕ → Type 0
BeginsNoRequest bytes = (m : Message) (rest : List ℕ) → IsRequest m → bytes ≡ print_message m ++ rest → ⊥

-- and none does, whatever follows
abbrev pub NeverBegins : List ℕ → Type 0
NeverBegins bytes = (more : List ℕ) → BeginsNoRequest (bytes ++ more)

-- the bytes are these requests and then the rest
pub record IsReading (bytes : List ℕ) (ms : List Message) (rest : List ℕ) : Type 0 where
  pub whole : bytes ≡ flat_map print_message ms ++ rest
  pub each : AllByRecursion IsRequest ms
