-- Machinery for proofs: what the steps of `first_commands` answer of a line that was read as far as the limit.
use Rattle.std.specs.Prelude.{◌≡◌, ℕ, List, ◌++◌, length, Result, Ok, Err, ⊤}
use Rattle.kg_declare.specs.Outcome.{Accepted, Refused, outcome}
use Rattle.kg_declare.specs.Steps.{accepted_after}
use Rattle.kg_declare.specs.declared.error.DeclareError.{DeclareError}
use Rattle.kg_declare.specs.declared.error.DeclareError.TheVariants as error
use Rattle.kg_lone.specs.FirstCommands.{DrawsWithin, bad_line}
use Rattle.kg_lone.specs.declared.line.FirstLine.{FirstLine}
use Rattle.kg_lone.specs.declared.line.FirstLine.TheVariants.{Whole, TooLong}
use Rattle.kg_message.specs.declared.response.Response.{Response}
use Rattle.kg_row_values.specs.declared.command.Command.{Command}

-- what becomes of it
abbrev pub read_outcome : FirstLine → ℕ → ℕ → List (List ℕ) → Result Accepted Refused
read_outcome (Whole line) now limit draws = outcome line.items now limit draws
read_outcome TooLong now limit draws = Err (record { response = bad_line; drawn = 0 })

-- a refusal with this response; want of memory is free
abbrev pub RefusesWith : Response → DeclareError → Type 0
RefusesWith response (error.Refused given) = given ≡ response
RefusesWith response error.NoMemory = ⊤

-- the ids that were drawn decide what is meant, whatever is drawn after them
abbrev pub DecidesMeant : (List (List ℕ) → Result Accepted Refused) → List (List ℕ) → Result Accepted Refused → Type 0
DecidesMeant meant drawn answer = (more : List (List ℕ)) → meant (drawn ++ more) ≡ answer

abbrev pub IsRefusedLine : DeclareError → (List (List ℕ) → Result Accepted Refused) → List (List ℕ) → Type 0
IsRefusedLine (error.Refused response) meant drawn = DecidesMeant meant drawn (Err (record { response = response; drawn = length drawn }))
IsRefusedLine error.NoMemory meant drawn = DrawsWithin meant drawn

-- the commands that are meant, or the refusal; want of memory draws no more ids
abbrev pub AnswersLine : Result (List Command) DeclareError → (List (List ℕ) → Result Accepted Refused) → List (List ℕ) → Type 0
AnswersLine (Ok commands) meant drawn = DecidesMeant meant drawn (Ok (accepted_after commands (length drawn)))
AnswersLine (Err e) meant drawn = IsRefusedLine e meant drawn
