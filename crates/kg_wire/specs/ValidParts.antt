-- The parts of an upstream message that is read back as them (RFC 9112, sections 2 to 6).
use Rattle.std.specs.Prelude.{◌≡◌, ℕ, ◌<◌, ◌≤◌, false, List, [], length, All, IsTrue, count_by, codes}
use Rattle.std.specs.Result.{result_unwrap_or}
use Rattle.httparse.specs.Grammar.{AllPass, IsToken, is_value_byte, trim_ows}
use Rattle.kg_text.specs.Names.{IsName}
use Rattle.kg_text.specs.Paths.{normal_form}
use Rattle.kg_message.specs.HeaderLists.{is_named}
use Rattle.kg_message.specs.declared.header.Header.{Header}
use Rattle.kg_message.specs.declared.request.Request.{Request}
use Rattle.kg_wire.specs.Messages.{most_head, most_body, Message, IsRequest, print_message, request_of}
use Rattle.kg_wire.specs.Targets.{is_target, target_path, target_query}
use Rattle.kg_print.specs.UpstreamText.{sent_fields, upstream_head, upstream_text}

-- a field's value as it is read: no control byte but the tab, and no blank at its ends
pub record IsValue (value : List ℕ) : Type 0 where
  pub bytes : AllPass is_value_byte value
  pub trimmed : trim_ows value ≡ value

-- a field as it is read
pub record IsField (field : Header) : Type 0 where
  pub name : IsName field.name
  pub value : IsValue field.value

-- no field has this name
abbrev pub HasNone : List ℕ → List Header → Type 0
HasNone name fields = count_by (is_named name) fields ≡ 0

-- an IPv4 address: four octets
pub record IsAddress (octets : List ℕ) : Type 0 where
  pub four : length octets ≡ 4
  pub each : All (λ octet. octet < 256) octets

-- each part is such as it is read, no field but the printed one states a length, Host is printed once, and
-- the limits are met
pub record AreParts (method target host : List ℕ) (request : Request) (headers : List Header) : Type 0 where
  pub method_is : IsToken method
  pub target_is : IsTrue (is_target target)
  pub host_is : IsValue host
  pub headers_are : All IsField headers
  pub no_host : HasNone (codes "host") headers
  pub no_length : HasNone (codes "content-length") headers
  pub no_coding : HasNone (codes "transfer-encoding") headers
  pub client_host : IsValue request.host
  pub client_fields : All IsField request.headers
  pub address : IsAddress request.address
  pub unframed : request.framed ≡ false → request.body ≡ []
  pub short_head : length (upstream_head method target host request headers) ≤ most_head
  pub short_body : length request.body ≤ most_body

-- the message is printed so, and is read as these parts
pub record IsReadBack (method target host : List ℕ) (request : Request) (headers : List Header) (m : Message) : Type 0 where
  pub is : IsRequest m
  pub text : print_message m ≡ upstream_text method target host request headers
  pub reads : (address : List ℕ) → request_of address m ≡ record {
    method = method;
    path = result_unwrap_or (normal_form (target_path target)) [];
    query = target_query target;
    minor = 1;
    host = host;
    headers = sent_fields host request headers;
    body = request.body;
    framed = request.framed;
    address = address;
  }
