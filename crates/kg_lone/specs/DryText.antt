-- The dry run: its first line declares the rows, and each request after it gets the plain gateway's
-- reply (this project's own: docs/BEHAVIOUR.md, "The dry run").
use Rattle.std.specs.Prelude.{◌≡◌, ℕ, ◌<◌, ◌≤◌, ◌⊎◌, List, [], ◌∷◌, ◌++◌, length, Option, Result, Ok, Err}
use Rattle.kg_declare.specs.Outcome.{Accepted, Refused as RefusedLine}
use Rattle.kg_lone.specs.FirstCommands.{BeginsRefusal, Decides, DrawsWithin, first_outcome, refusal_line}
use Rattle.kg_lone.specs.FirstLine.{line_of, after_line}
use Rattle.kg_lone.specs.InsertedRows.{gateway_rows}
use Rattle.kg_outside.specs.Moves.{with_end}
use Rattle.kg_plain.specs.DryReply.{GatewayRows}
use Rattle.kg_plain.specs.Replies.{EndsSo, GoOn, StopsIn, hits_of, last_text, most_requests, texts}
use Rattle.kg_plain.specs.declared.answers.End.{End}
use Rattle.kg_plain.specs.declared.answers.End.TheVariants.{Closed, Asked, Spent, Bad, Cut}
use Rattle.kg_wire.specs.Messages.{Message, IsReading}

-- how many rows of a kind a declaration may have
abbrev pub most_rows : ℕ
most_rows = 100000

-- the status of each end: 7 where a message was refused or cut
abbrev pub status_of : End → ℕ
status_of Closed = 0
status_of Asked = 0
status_of Spent = 0
status_of (Bad at) = 7
status_of (Cut have) = 7

-- the status of a run that came to this end, or ended with a status before
abbrev pub exit_of : Result End ℕ → ℕ
exit_of (Ok end) = status_of end
exit_of (Err status) = status

-- the rows of an accepted declaration, as a gateway answers by them
abbrev pub rows_of : Accepted → GatewayRows
rows_of accepted = gateway_rows accepted.rows (length accepted.commands)

-- the declaration was accepted, and the requests after it were answered as far as they go. The clock is
-- read for the declaration and then for each of these requests
pub record IsAnsweredRun (bytes : List ℕ) (drawn : List (List ℕ)) (times : List ℕ) (status : ℕ) (text : List ℕ) : Type 0 where
  pub now : ℕ
  pub later : List ℕ
  pub clock : times ≡ now ∷ later
  pub accepted : Accepted
  pub declared : first_outcome (line_of bytes) now most_rows drawn ≡ Ok accepted
  pub all : accepted.drawn ≡ length drawn
  pub messages : List Message
  pub rest : List ℕ
  pub reading : IsReading (after_line bytes) messages rest
  pub most : length messages ≤ most_requests
  pub end : End
  pub ends : EndsSo end messages rest
  pub one_each : length later ≡ length messages
  pub written : text ≡ texts (rows_of accepted) [] 0 later messages ++ last_text end
  pub ending : status ≡ status_of end

-- the first line is refused
pub record IsRefusedRun (bytes : List ℕ) (drawn : List (List ℕ)) (times : List ℕ) (status : ℕ) (text : List ℕ) : Type 0 where
  pub now : ℕ
  pub clock : times ≡ now ∷ []
  pub refused : RefusedLine
  pub declared : first_outcome (line_of bytes) now most_rows drawn ≡ Err refused
  pub all : refused.drawn ≡ length drawn
  pub written : text ≡ refusal_line refused.response
  pub ending : status ≡ 3

-- over these bytes, with these ids drawn and these times read, a dry run may end with this status, and then
-- it writes this text
abbrev pub IsDryText : List ℕ → List (List ℕ) → List ℕ → ℕ → List ℕ → Type 0
IsDryText bytes drawn times status text =
    IsAnsweredRun bytes drawn times status text ⊎ IsRefusedRun bytes drawn times status text

-- ---- a run that was cut short

-- in its first line, before which the clock was read: nothing was written, or a front of its refusal, and no
-- more ids were drawn than are drawn for the line
pub record StopsAtFirst (bytes : List ℕ) (drawn : List (List ℕ)) (times : List ℕ) (front : List ℕ) : Type 0 where
  pub now : ℕ
  pub clock : times ≡ now ∷ []
  pub draws : DrawsWithin (first_outcome (line_of bytes) now most_rows) drawn
  pub written : (front ≡ []) ⊎ BeginsRefusal (line_of bytes) now most_rows drawn front

-- behind its first line, which is accepted: these requests were answered, none of which asks for the end, and a
-- part was written of what comes next. The clock is read for the declaration, then once for each request that was
-- answered, and since then for what comes next
pub record StopsBehind (bytes : List ℕ) (drawn : List (List ℕ)) (times : List ℕ) (front : List ℕ) : Type 0 where
  pub now : ℕ
  pub earlier : List ℕ
  pub since : List ℕ
  pub clock : times ≡ now ∷ earlier ++ since
  pub accepted : Accepted
  pub declared : Decides (line_of bytes) now most_rows drawn (Ok accepted)
  pub all : accepted.drawn ≡ length drawn
  pub messages : List Message
  pub rest : List ℕ
  pub reading : IsReading (after_line bytes) messages rest
  pub on : GoOn messages
  pub few : length messages < most_requests
  pub one_each : length earlier ≡ length messages
  pub part : List ℕ
  pub stops : StopsIn (rows_of accepted) (hits_of (rows_of accepted) earlier messages) (length messages) since rest part
  pub written : front ≡ texts (rows_of accepted) [] 0 earlier messages ++ part

-- over these bytes, with these ids drawn and these times read, a run that was cut short may have written this
abbrev pub IsCutText : List ℕ → List (List ℕ) → List ℕ → List ℕ → Type 0
IsCutText bytes drawn times front = StopsAtFirst bytes drawn times front ⊎ StopsBehind bytes drawn times front

-- ---- what a run wrote

-- the run was whole: what was written since is the text
pub record WritesText (Drew : List (List ℕ) → Type 0) (Read : List ℕ → Type 0) (bytes : List ℕ)
    (before now : Option (List ℕ)) (status : ℕ) : Type 0 where
  pub drawn : List (List ℕ)
  pub times : List ℕ
  pub text : List ℕ
  pub drew : Drew drawn
  pub read : Read times
  pub meant : IsDryText bytes drawn times status text
  pub written : now ≡ with_end before text

-- the run was cut short: what was written since is what such a run may have written
pub record WritesFront (Drew : List (List ℕ) → Type 0) (Read : List ℕ → Type 0) (bytes : List ℕ)
    (before now : Option (List ℕ)) : Type 0 where
  pub drawn : List (List ℕ)
  pub times : List ℕ
  pub front : List ℕ
  pub drew : Drew drawn
  pub read : Read times
  pub meant : IsCutText bytes drawn times front
  pub written : now ≡ with_end before front

-- ---- the end

-- behind these requests at the front of the bytes the answering ends so
pub record IsEndOf (bytes : List ℕ) (end : End) : Type 0 where
  pub messages : List Message
  pub rest : List ℕ
  pub reading : IsReading bytes messages rest
  pub ends : EndsSo end messages rest
