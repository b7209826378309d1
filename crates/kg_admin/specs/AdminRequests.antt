-- What an Admin request asks of the rows, as far as it is told without them, or the reply that refuses it: the
-- refusals that come first, in their order (Kong Admin API; the order is this project's own).
use Rattle.std.specs.Prelude.{ℕ, ◌==◌, List, [], ◌∷◌, drop, length, Option, Some, None, option_and_then, Result, Ok, Err, codes, if◌then◌else◌, Bool, true}
use Rattle.std.specs.Option.{option_map_or}
use Rattle.std.specs.Str.{is_utf8, str_eq_ignore_ascii_case}
use Rattle.serde_json.specs.Data.{Data, object, no_members}
use Rattle.serde_json.specs.Find.{as_object}
use Rattle.serde_json.specs.Read.{read}
use Rattle.kg_admin_paths.specs.ListQueries.{pairs_of, window_of}
use Rattle.kg_admin_paths.specs.Paths.{operation_of, place_of}
use Rattle.kg_admin_paths.specs.declared.list_query.Window.{Window}
use Rattle.kg_admin_paths.specs.declared.operation.Operation.{Operation}
use Rattle.kg_admin_paths.specs.declared.operation.Operation.TheVariants as operation
use Rattle.kg_declare.specs.RefusalBody.{violation_response}
use Rattle.kg_field_rules.specs.Rules.{BrokenRule, in_order, listed}
use Rattle.kg_field_rules.specs.declared.violations.Broken.{Broken}
use Rattle.kg_field_tables.specs.BrokenRules.{field_violations}
use Rattle.kg_message.specs.GatewayMessage.{gateway_message}
use Rattle.kg_message.specs.HeaderLists.{media_type}
use Rattle.kg_message.specs.declared.request.Request.{Request}
use Rattle.kg_message.specs.declared.response.Response.{Response}
use Rattle.kg_row_queries.specs.declared.select.Parent.{Parent}
use Rattle.kg_row_queries.specs.declared.select.Select.{Select}
use Rattle.kg_row_types.specs.declared.entity.Kind.{Kind}

-- a change that is asked for, with its body. Where a row may be made: the id that was drawn for it, and the
-- clock, in milliseconds
pub data Change : Type 0 where
  Insertion : Kind → Option Parent → Data → ℕ → ℕ → Change
  Patching : Kind → Option Parent → Select → Data → ℕ → Change
  Putting : Kind → Option Parent → Select → Data → ℕ → ℕ → Change
  Deletion : Kind → Option Parent → Select → Change

-- what is asked of the rows: one of them, a page of them, or a change
pub data Asked : Type 0 where
  Row : Kind → Option Parent → Select → Asked
  Rows : Kind → Option Parent → Option ℕ → ℕ → Asked
  Changed : Change → Asked

-- ---- steps

-- what is there, or else the reply that refuses the request
abbrev pub or_else : {A B : Type 0} → Response → (A → Result B Response) → Option A → Result B Response
or_else refusal next None = Err refusal
or_else refusal next (Some x) = next x

-- what comes next, where nothing was refused
abbrev pub unless_refused : {A B : Type 0} → (A → Result B Response) → Result A Response → Result B Response
unless_refused next (Err refusal) = Err refusal
unless_refused next (Ok x) = next x

-- ---- the path and the method

abbrev pub not_found : Response
not_found = gateway_message 404 (codes "Not found")

abbrev pub not_allowed : Response
not_allowed = gateway_message 405 (codes "Method not allowed")

-- what the method asks for at the place that the path means. The path is in normal form, which begins with a slash
abbrev pub operation_in : Request → Result Operation Response
operation_in request =
    or_else not_found (λ place. or_else not_allowed Ok (operation_of place request.method)) (place_of (drop 1 request.path))

-- ---- the query of a list

abbrev pub or_violation : {A : Type 0} → Result A (List Broken) → Result A Response
or_violation (Ok x) = Ok x
or_violation (Err broken) = Err (violation_response broken)

abbrev pub window_in : Request → Result Window Response
window_in request = or_violation (window_of (pairs_of request.query))

-- ---- the body

-- a request that doesn't tell the type of its body has JSON
abbrev pub has_json : Request → Bool
has_json request = option_map_or (λ type. str_eq_ignore_ascii_case type (codes "application/json")) (media_type request.headers) true

-- the value of bytes of JSON
abbrev pub json_of : List ℕ → Option Data
json_of bytes = if is_utf8 bytes then read bytes else None

-- the object of JSON in the body
abbrev pub object_in : List ℕ → Result Data Response
object_in body = or_else (gateway_message 400 (codes "Cannot parse JSON body")) (λ members. Ok (object members)) (option_and_then as_object (json_of body))

-- the body of a request: an empty one has no members
abbrev pub body_of : Request → Result Data Response
body_of request =
    if length request.body == 0 then Ok (object no_members)
    else (if has_json request then object_in request.body else Err (gateway_message 400 (codes "Only JSON bodies are read")))

-- the body, unless it breaks rules of these fields
abbrev pub unless_broken : List BrokenRule → Data → Result Data Response
unless_broken [] body = Ok body
unless_broken (broken ∷ more) body = Err (violation_response (listed (in_order (broken ∷ more))))

abbrev pub fields_in : Kind → Request → Result Data Response
fields_in kind request = unless_refused (λ body. unless_broken (field_violations kind body) body) (body_of request)

-- ---- the request

-- the page, where the query and then the body are accepted
abbrev pub page_in : Request → Result Window Response
page_in request = unless_refused (λ window. unless_refused (λ body. Ok window) (body_of request)) (window_in request)

abbrev pub asked_of : Operation → Request → ℕ → ℕ → Result Asked Response
asked_of (operation.Page kind parent) request id now = unless_refused (λ window. Ok (Rows kind parent window.after window.size)) (page_in request)
asked_of (operation.Insert kind parent) request id now = unless_refused (λ body. Ok (Changed (Insertion kind parent body id now))) (fields_in kind request)
asked_of (operation.Find kind parent select) request id now = unless_refused (λ body. Ok (Row kind parent select)) (body_of request)
asked_of (operation.Patch kind parent select) request id now = unless_refused (λ body. Ok (Changed (Patching kind parent select body now))) (fields_in kind request)
asked_of (operation.Put kind parent select) request id now = unless_refused (λ body. Ok (Changed (Putting kind parent select body id now))) (fields_in kind request)
asked_of (operation.Delete kind parent select) request id now = unless_refused (λ body. Ok (Changed (Deletion kind parent select))) (body_of request)

-- what the request asks of the rows, or the first refusal: of its path, its method, its query, its body's type,
-- its body, its body's fields
unfoldable pub asked : Request → ℕ → ℕ → Result Asked Response
asked request id now = unless_refused (λ operation. asked_of operation request id now) (operation_in request)
