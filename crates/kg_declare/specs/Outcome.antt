-- What becomes of a declaration: the commands of its rows, each decided at the rows before it, or the reply
-- to the first row that is refused. The k-th id that is drawn is that of the k-th row without one (this
-- project's own).
use Rattle.std.specs.Prelude.{ℕ, suc, Bool, ◌==◌, ◌&&◌, List, [], ◌∷◌, ◌++◌, count_by, drop, length, get_or, map, take, slice_get, Option, Some, None, is_none, is_some, unwrap_or, option_map, option_and_then, Result, Ok, Err, codes, if◌then◌else◌}
use Rattle.std.specs.Option.{option_map_or}
use Rattle.std.specs.Str.{is_utf8}
use Rattle.serde_json.specs.Data.{Data, object, Members, no_members}
use Rattle.serde_json.specs.Find.{as_object}
use Rattle.serde_json.specs.Read.{read}
use Rattle.kg_row_types.specs.Ids.{drawn_id}
use Rattle.kg_row_types.specs.Entities.{id_of_row}
use Rattle.kg_row_types.specs.RowLists.{RowLists}
use Rattle.kg_row_types.specs.declared.entity.Kind.{Kind}
use Rattle.kg_message.specs.GatewayMessage.{gateway_message}
use Rattle.kg_message.specs.declared.response.Response.{Response}
use Rattle.kg_rows.specs.Decision.{insertion}
use Rattle.kg_row_values.specs.Rows.{rows_after}
use Rattle.kg_row_values.specs.declared.command.Command.{Command}
use Rattle.kg_row_values.specs.declared.command.Command.TheVariants.{Insert, Update, Delete}
use Rattle.kg_rows.specs.declared.draft.Refusal.{Refusal}
use Rattle.kg_row_queries.specs.declared.select.Parent.{Parent}
use Rattle.kg_row_queries.specs.declared.select.Select.TheVariants.{Id}
use Rattle.kg_field_tables.specs.BrokenRules.{field_violations}
use Rattle.kg_field_rules.specs.Rules.{BrokenRule, in_order, listed}
use Rattle.kg_bodies.specs.Settings.{id_at}
use Rattle.kg_field_rules.specs.declared.rule.Rule.TheVariants.{WrongType}
use Rattle.kg_declared_rows.specs.Violations.{own_violations}
use Rattle.kg_declare.specs.RefusalBody.{refusal_response, violation_response}
use Rattle.kg_declared_rows.specs.Rows.{Row, rows_of}
use Rattle.kg_declared_rows.specs.declared.declared.Above.{Above}

-- ---- the line

-- the value of a line of JSON
abbrev pub json_of : List ℕ → Option Data
json_of line = if is_utf8 line then read line else None

-- the members of the declaration: an empty line has none
abbrev pub declaration_of : List ℕ → Option Members
declaration_of line = if length line == 0 then Some no_members else option_and_then as_object (json_of line)

-- ---- one row

-- the violations of a row's fields, and its nested lists that aren't lists of objects
abbrev pub wrong_violations : List (List ℕ) → List BrokenRule
wrong_violations wrong = map (λ name. (name, WrongType)) wrong

abbrev pub body_violations : Kind → Data → List (List ℕ) → List BrokenRule
body_violations of_kind body wrong = field_violations of_kind body ++ wrong_violations wrong

unfoldable pub row_violations : Row → List BrokenRule
row_violations row = body_violations row.kind (object row.members) row.wrong

-- ---- the rows with their ids

-- the id that a row names
abbrev pub own_id : Row → Option ℕ
own_id row = id_at (object row.members)

-- a row with the id that it names or that is drawn for it
pub record Identified : Type 0 where
  pub row : Row
  pub id : ℕ

-- the rows with their ids: a row that names none has the next that is drawn
abbrev pub with_ids : List (List ℕ) → List Row → List Identified
with_ids draws [] = []
with_ids draws (row ∷ rows) =
    record { row = row; id = unwrap_or (own_id row) (drawn_id (get_or draws 0 [])) }
    ∷ with_ids (if is_some (own_id row) then draws else drop 1 draws) rows

-- ---- one row more

-- the id of the row that a command inserts
abbrev pub inserted_id : Command → Option ℕ
inserted_id (Insert new) = Some (id_of_row new)
inserted_id (Update new) = None
inserted_id (Delete kind id) = None

-- the row above is the one that was inserted with its number
abbrev pub parent_at : List Command → Above → Option Parent
parent_at commands above =
    option_map (λ id. record { kind = above.kind; select = Id id }) (option_and_then inserted_id (slice_get commands above.number))

abbrev pub parent_of : List Command → Option Above → Option Parent
parent_of commands above = option_and_then (parent_at commands) above

-- the reply to a row that is refused, and the row's number
pub record RefusedRow : Type 0 where
  pub response : Response
  pub number : ℕ

-- the commands with one more
abbrev pub extended : List Command → Result Command Refusal → Result (List Command) RefusedRow
extended commands (Ok command) = Ok (commands ++ command ∷ [])
extended commands (Err refusal) = Err (record { response = refusal_response refusal; number = length commands })

-- the commands with that of the next row, where its fields are accepted and so is its insertion
abbrev pub added : ℕ → ℕ → Identified → List Command → Result (List Command) RefusedRow
added now limit one commands =
    if length (row_violations one.row) == 0
    then extended commands (insertion (rows_after commands) one.row.kind (parent_of commands one.row.parent) (object one.row.members) one.id now limit)
    else Err (record { response = violation_response (listed (in_order (row_violations one.row))); number = length commands })

-- ---- all rows

-- what comes next, if nothing was refused
abbrev pub next : {A B E : Type 0} → (A → Result B E) → Result A E → Result B E
next step (Ok done) = step done
next step (Err refused) = Err refused

-- the commands with those of these rows, up to the first that is refused
abbrev pub all_added : ℕ → ℕ → List Identified → List Command → Result (List Command) RefusedRow
all_added now limit [] commands = Ok commands
all_added now limit (first ∷ rest) commands = next (all_added now limit rest) (added now limit first commands)

-- an id is drawn for a row that names none, once its fields are accepted
abbrev pub draws_id : Row → Bool
draws_id row = length (row_violations row) == 0 && is_none (own_id row)

-- ---- the declaration

-- what is accepted: the rows after the commands, the commands, and how many ids were drawn
pub record Accepted : Type 0 where
  pub rows : RowLists
  pub commands : List Command
  pub drawn : ℕ

-- what is refused: the reply, and how many ids were drawn
pub record Refused : Type 0 where
  pub response : Response
  pub drawn : ℕ

-- how many ids are drawn for it, accepted or refused
abbrev pub drawn_for : Result Accepted Refused → ℕ
drawn_for (Ok accepted) = accepted.drawn
drawn_for (Err refused) = refused.drawn

abbrev pub violated : List BrokenRule → ℕ → Refused
violated violations drawn = record { response = violation_response (listed (in_order violations)); drawn = drawn }

-- of these rows ids are drawn for all, or for those up to the refused one
abbrev pub answered : List Row → Result (List Command) RefusedRow → Result Accepted Refused
answered rows (Ok commands) =
    Ok (record { rows = rows_after commands; commands = commands; drawn = count_by draws_id rows })
answered rows (Err refused) =
    Err (record { response = refused.response; drawn = count_by draws_id (take (suc refused.number) rows) })

-- at the time `now`, in milliseconds, with at most `limit` rows of a kind
unfoldable pub declared : List (List ℕ) → ℕ → ℕ → Members → Result Accepted Refused
declared draws now limit declaration =
    if length (own_violations declaration) == 0
    then answered (rows_of declaration) (all_added now limit (with_ids draws (rows_of declaration)) [])
    else Err (violated (own_violations declaration) 0)

unfoldable pub unread : Refused
unread = record { response = gateway_message 400 (codes "Cannot parse JSON body"); drawn = 0 }

unfoldable pub outcome : List ℕ → ℕ → ℕ → List (List ℕ) → Result Accepted Refused
outcome line now limit draws = option_map_or (declared draws now limit) (declaration_of line) (Err unread)
