-- What a call answers for a declaration.
use Rattle.std.specs.Prelude.{◌≡◌, ℕ, ◌≤◌, List, ◌++◌, length, Result, Ok, Err}
use Rattle.kg_row_values.specs.Rows.{rows_after}
use Rattle.kg_row_values.specs.declared.command.Command.{Command}
use Rattle.kg_declare.specs.Outcome.{Accepted, Refused, drawn_for}
use Rattle.kg_declare.specs.declared.error.DeclareError.{DeclareError}
use Rattle.kg_declare.specs.declared.error.DeclareError.TheVariants as error

-- this many ids were drawn, and this is the refusal; want of memory may come before all ids are drawn that are
-- drawn for the answer
abbrev pub IsRefusedAt : DeclareError → Result Accepted Refused → ℕ → Type 0
IsRefusedAt (error.Refused response) meant drawn = meant ≡ Err (record { response = response; drawn = drawn })
IsRefusedAt error.NoMemory meant drawn = drawn ≤ drawn_for meant

-- the rows and commands after these commands, when so many ids were drawn
abbrev pub accepted_after : List Command → ℕ → Accepted
accepted_after commands drawn = record { rows = rows_after commands; commands = commands; drawn = drawn }

-- what a declaration is answered: the commands, or the refusal, unless there is no memory for it
abbrev pub Answers : Result (List Command) DeclareError → Result Accepted Refused → ℕ → Type 0
Answers (Ok commands) meant drawn = meant ≡ Ok (accepted_after commands drawn)
Answers (Err e) meant drawn = IsRefusedAt e meant drawn

-- the ids that it drew are those that it means to draw, and its answer is the one for these ids, whatever ids
-- are drawn after them
pub record Declares {S : Type 0} (draws : S → S → List (List ℕ) → Type 0) (before now : S)
    (result : Result (List Command) DeclareError) (meant : List (List ℕ) → Result Accepted Refused) : Type 0 where
  pub drawn : List (List ℕ)
  pub moved : draws before now drawn
  pub answers : (more : List (List ℕ)) → Answers result (meant (drawn ++ more)) (length drawn)
