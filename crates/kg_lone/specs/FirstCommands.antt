-- What a first line gives: the commands of its declaration, or its refusal (this project's own:
-- docs/BEHAVIOUR.md, "The dry run").
use Rattle.std.specs.Prelude.{◌≡◌, ℕ, ◌≤◌, nat_lt, ◌⊎◌, List, [], ◌++◌, length, codes, Option, Some, Result, Ok, Err, if◌then◌else◌}
use Rattle.kg_declare.specs.Outcome.{Accepted, Refused, drawn_for, outcome}
use Rattle.kg_declare.specs.Steps.{accepted_after}
use Rattle.kg_lone.specs.FirstLine.{line_of, after_line}
use Rattle.kg_message.specs.GatewayMessage.{gateway_message}
use Rattle.kg_message.specs.declared.response.Response.{Response}
use Rattle.kg_outside.specs.Moves.{with_end}
use Rattle.kg_plain.specs.Fronts.{IsFront}
use Rattle.kg_row_values.specs.declared.command.Command.{Command}

-- how many bytes the first line may have, its line feed left aside
abbrev pub most_line : ℕ
most_line = 67108864

-- a longer line is no declaration
unfoldable pub bad_line : Response
bad_line = gateway_message 400 (codes "Bad line")

-- ---- the line

-- what becomes of the first line, at the time `now`, in milliseconds, with at most `limit` rows of a kind, when these
-- ids are drawn
unfoldable pub first_outcome : List ℕ → ℕ → ℕ → List (List ℕ) → Result Accepted Refused
first_outcome line now limit draws =
    if nat_lt most_line (length line) then Err (record { response = bad_line; drawn = 0 })
    else outcome line now limit draws

-- exactly these ids are drawn for it, and they decide what becomes of it, whatever is drawn after them
abbrev pub Decides : List ℕ → ℕ → ℕ → List (List ℕ) → Result Accepted Refused → Type 0
Decides line now limit drawn answer = (more : List (List ℕ)) → first_outcome line now limit (drawn ++ more) ≡ answer

-- no more ids were drawn than are drawn for what is meant, whatever ids are drawn after them
abbrev pub DrawsWithin : (List (List ℕ) → Result Accepted Refused) → List (List ℕ) → Type 0
DrawsWithin meant drawn = (more : List (List ℕ)) → length drawn ≤ drawn_for (meant (drawn ++ more))

-- ---- what is written

-- the line that tells a refusal
unfoldable pub refusal_line : Response → List ℕ
refusal_line response = codes "line 1 refused: " ++ response.body ++ codes "\n"

-- the line is refused with this response
abbrev pub IsRefused : List ℕ → ℕ → ℕ → List (List ℕ) → Response → Type 0
IsRefused line now limit drawn response = Decides line now limit drawn (Err (record { response = response; drawn = length drawn }))

-- it is refused, and these bytes are a front of the line that tells so
pub record BeginsRefusal (line : List ℕ) (now limit : ℕ) (drawn : List (List ℕ)) (front : List ℕ) : Type 0 where
  pub response : Response
  pub refused : IsRefused line now limit drawn response
  pub begins : IsFront front (refusal_line response)

-- ---- the answers

-- a call that takes the first line of these bytes: the time, how many rows of a kind there may be, what is left
-- of the bytes, what was written before it and since, and the ids that it drew
pub record FirstLineCall : Type 0 where
  pub now : ℕ
  pub limit : ℕ
  pub bytes : List ℕ
  pub left : Option (List ℕ)
  pub before : Option (List ℕ)
  pub written : Option (List ℕ)
  pub drawn : List (List ℕ)

-- the line declares these commands, and what stands after it is left
pub record GivesCommands (call : FirstLineCall) (commands : List Command) : Type 0 where
  pub declared : Decides (line_of call.bytes) call.now call.limit call.drawn (Ok (accepted_after commands (length call.drawn)))
  pub after : call.left ≡ Some (after_line call.bytes)

-- it is refused, and its refusal was written
pub record WritesRefusal (call : FirstLineCall) : Type 0 where
  pub response : Response
  pub refused : IsRefused (line_of call.bytes) call.now call.limit call.drawn response
  pub written : call.written ≡ with_end call.before (refusal_line response)

-- it is refused, and a front of its refusal was written
pub record WritesRefusalFront (call : FirstLineCall) : Type 0 where
  pub front : List ℕ
  pub begins : BeginsRefusal (line_of call.bytes) call.now call.limit call.drawn front
  pub written : call.written ≡ with_end call.before front

-- the call was cut short: by a fault of the source before an id was drawn or anything written, by want of memory
-- before anything was written, with no more ids drawn than for the line, or by a fault of the sink in the refusal
abbrev pub StopsFirst : FirstLineCall → ℕ → Type 0
StopsFirst call status =
    ((status ≡ 4) × (call.drawn ≡ []) × (call.written ≡ call.before))
    ⊎ ((status ≡ 6) × DrawsWithin (first_outcome (line_of call.bytes) call.now call.limit) call.drawn × (call.written ≡ call.before))
    ⊎ ((status ≡ 5) × WritesRefusalFront call)

-- the commands are given, the line is refused with the status 3, or the call was cut short
abbrev pub AnswersFirst : FirstLineCall → Result (List Command) ℕ → Type 0
AnswersFirst call (Ok commands) = GivesCommands call commands
AnswersFirst call (Err status) = ((status ≡ 3) × WritesRefusal call) ⊎ StopsFirst call status

-- the status of a first line that gave no commands: refused, a fault of the source, a fault of the sink, want
-- of memory
abbrev pub IsFirstStatus : ℕ → Type 0
IsFirstStatus status = (status ≡ 3) ⊎ (status ≡ 4) ⊎ (status ≡ 5) ⊎ (status ≡ 6)

-- a call drew these ids, and this is said of it
pub record Drew {S : Type 0} (draws : S → S → List (List ℕ) → Type 0) (before now : S) (Says : List (List ℕ) → Type 0) : Type 0 where
  pub drawn : List (List ℕ)
  pub moved : draws before now drawn
  pub says : Says drawn
