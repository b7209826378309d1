-- What the Admin API answers to a request after a history of commits, and the command that it commits: one
-- function of all rows (Kong Admin API).
use Rattle.std.specs.Prelude.{ℕ, List, Option, Some, None, Result, Ok, Err}
use Rattle.kg_admin.specs.AdminRequests.{Asked, Row, Rows, Changed, Change, Insertion, Patching, Putting, Deletion, asked, not_found}
use Rattle.kg_admin.specs.AdminResponses.{empty_response, page_response, row_response}
use Rattle.kg_declare.specs.RefusalBody.{refusal_response}
use Rattle.kg_keeper.specs.Answers.{row_put, unless_full}
use Rattle.kg_message.specs.declared.request.Request.{Request}
use Rattle.kg_message.specs.declared.response.Response.{Response}
use Rattle.kg_row_queries.specs.Pages.{page_of}
use Rattle.kg_row_queries.specs.Selections.{found}
use Rattle.kg_row_queries.specs.declared.pages.Page.{Page}
use Rattle.kg_row_types.specs.RowLists.{RowLists}
use Rattle.kg_row_types.specs.declared.entity.Entity.{Entity}
use Rattle.kg_row_values.specs.Rows.{rows_after}
use Rattle.kg_row_values.specs.declared.command.Command.{Command}
use Rattle.kg_rows.specs.Decision.{deletion, insertion, patched, put}
use Rattle.kg_rows.specs.declared.draft.Refusal.{Refusal}

-- the reply, and the command that is committed, if one is
pub record Answer : Type 0 where
  pub response : Response
  pub command : Option Command

-- a reply that changes nothing
abbrev pub only : Response → Answer
only response = record { response = response; command = None }

-- ---- rows that are asked for

abbrev pub found_response : Option Entity → Response
found_response None = not_found
found_response (Some row) = row_response 200 row

-- the page, unless the parent is missing
abbrev pub listed_response : List ℕ → ℕ → Option Page → Response
listed_response path size None = not_found
listed_response path size (Some page) = page_response path size page

-- ---- changes

-- what is decided of a change, where a kind may have so many rows
abbrev pub change_decided : RowLists → Change → ℕ → Result Command Refusal
change_decided rows (Insertion kind parent body id now) limit = insertion rows kind parent body id now limit
change_decided rows (Patching kind parent select body now) limit = patched rows kind parent select body now
change_decided rows (Putting kind parent select body id now) limit = put rows kind parent select body (record { id = id; now = now; limit = limit })
change_decided rows (Deletion kind parent select) limit = deletion rows kind parent select

-- a new row is told as one
abbrev pub status_of : Change → ℕ
status_of (Insertion kind parent body id now) = 201
status_of _ = 200

-- the row that was put, or nothing where one was taken out
abbrev pub put_response : ℕ → Option Entity → Response
put_response status None = empty_response
put_response status (Some row) = row_response status row

abbrev pub changed_answer : ℕ → Result Command Refusal → Answer
changed_answer status (Ok command) = record { response = put_response status (row_put command); command = Some command }
changed_answer status (Err refusal) = only (refusal_response refusal)

-- ---- the answer

-- what is answered to what is asked of the list at this path
abbrev pub answer_to : List ℕ → ℕ → Asked → List Command → Answer
answer_to path limit (Row kind parent select) history = only (found_response (found kind parent select (rows_after history)))
answer_to path limit (Rows kind parent after size) history = only (listed_response path size (page_of kind parent after size (rows_after history)))
answer_to path limit (Changed change) history = changed_answer (status_of change) (unless_full history (change_decided (rows_after history) change limit))

abbrev pub answer_of : List ℕ → ℕ → Result Asked Response → List Command → Answer
answer_of path limit (Err refusal) history = only refusal
answer_of path limit (Ok wanted) history = answer_to path limit wanted history

-- the answer to a request after these commits, where this id is drawn, at this time in milliseconds, with at
-- most so many rows of a kind
unfoldable pub admin_answer : List Command → Request → ℕ → ℕ → ℕ → Answer
admin_answer history request id now limit = answer_of request.path limit (asked request id now) history
