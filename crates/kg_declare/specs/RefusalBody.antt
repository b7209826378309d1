-- The replies to requests that are refused: an object of JSON with the code of the refusal, the fields
-- that it is about, and its name (Kong Admin API, error responses; the texts are this project's own).
-- Every other refusal is the gateway's message.
use Rattle.std.specs.Prelude.{ℕ, Bool, List, [], ◌∷◌, fold, codes, if◌then◌else◌}
use Rattle.serde_json.specs.Data.{Data, object, number, string, unsigned, Members, no_members, member, put}
use Rattle.serde_json.specs.Written.{compact_text}
use Rattle.kg_message.specs.GatewayMessage.{gateway_message}
use Rattle.kg_message.specs.HeaderLists.{content_type}
use Rattle.kg_message.specs.declared.response.Response.{Response}
use Rattle.kg_rows.specs.declared.draft.Refusal.{Refusal}
use Rattle.kg_rows.specs.declared.draft.Refusal.TheVariants.{NotFound, Violation, Foreign, Unique, Full, HistoryFull}
use Rattle.kg_field_rules.specs.Rules.{rule_text}
use Rattle.kg_field_rules.specs.declared.violations.Broken.{Broken}

-- ---- the fields of a refusal

-- a broken path with the word of its rule; the members of an object are in byte order of their names
abbrev pub with_rule : Members → Broken → Members
with_rule fields broken = put broken.path (string (rule_text broken.rule)) fields

abbrev pub rules_of : List Broken → Members
rules_of broken = fold with_rule no_members broken

abbrev pub one_word : List ℕ → List ℕ → Members
one_word field word = member field (string word) no_members

abbrev pub presence_word : Bool → List ℕ
presence_word present = if present then codes "present" else codes "missing"

-- ---- the reply

abbrev pub refusal_object : ℕ → Members → List ℕ → Data
refusal_object code fields text =
    object (member (codes "code") (number (unsigned code))
    (member (codes "fields") (object fields)
    (member (codes "message") (string text)
    (member (codes "name") (string text) no_members))))

abbrev pub coded_response : ℕ → ℕ → Members → List ℕ → Response
coded_response status code fields text = record {
  status = status;
  headers = content_type (codes "application/json; charset=utf-8") ∷ [];
  body = compact_text (refusal_object code fields text);
}

unfoldable pub violation_response : List Broken → Response
violation_response broken = coded_response 400 2 (rules_of broken) (codes "schema violation")

unfoldable pub refusal_response : Refusal → Response
refusal_response NotFound = gateway_message 404 (codes "Not found")
refusal_response (Violation broken) = violation_response broken
refusal_response (Foreign field present) = coded_response 400 4 (one_word field (presence_word present)) (codes "foreign key violation")
refusal_response (Unique field other) = coded_response 409 5 (one_word field (codes "taken")) (codes "unique constraint violation")
refusal_response Full = gateway_message 507 (codes "Too many rows of this kind")
refusal_response HistoryFull = gateway_message 507 (codes "Too many commits")
