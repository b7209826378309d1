-- Machinery for proofs: the rows of a declaration, inserted one after another, with a count of the ids that
-- were drawn.
use Rattle.std.specs.Prelude.{◌≡◌, ◌≢◌, ℕ, suc, ◌+◌, ◌==◌, false, List, All, [], ◌∷◌, ◌++◌, length, get_or, Option, Some, None, Result, Ok, Err, if◌then◌else◌, IfSome, IsTrue, ⊤}
use Rattle.serde_json.specs.Data.{Members, object}
use Rattle.kg_row_types.specs.Entities.{kind_of, id_of_row}
use Rattle.kg_row_types.specs.Ids.{drawn_id}
use Rattle.kg_row_types.specs.RowChanges.{has_row}
use Rattle.kg_row_types.specs.RowLists.{RowLists, no_rows}
use Rattle.kg_row_types.specs.ValidRows.{AreValidRows}
use Rattle.kg_field_rules.specs.Rules.{BrokenRule}
use Rattle.kg_row_changes.specs.Allowed.{is_allowed}
use Rattle.kg_row_changes.specs.ValidCommands.{AreAllowed, IsValidCommand}
use Rattle.kg_row_values.specs.Rows.{changed, rows_after}
use Rattle.kg_row_values.specs.declared.command.Command.{Command}
use Rattle.kg_row_values.specs.declared.command.Command.TheVariants.{Insert, Update, Delete}
use Rattle.kg_rows.specs.Decision.{decision, insertion, nests}
use Rattle.kg_rows.specs.declared.draft.DecideError.{DecideError}
use Rattle.kg_rows.specs.declared.draft.DecideError.TheVariants as decide_error
use Rattle.kg_rows.specs.declared.draft.Draft.{Draft}
use Rattle.kg_rows.specs.declared.draft.Draft.TheVariants as draft
use Rattle.kg_rows.specs.declared.draft.Refusal.{Refusal}
use Rattle.kg_declare.specs.Histories.{InsertsValidRow}
use Rattle.kg_declare.specs.Outcome.{Accepted, Refused, declaration_of, next, own_id, parent_of, row_violations, unread, violated}
use Rattle.kg_declare.specs.RefusalBody.{refusal_response}
use Rattle.kg_declare.specs.Steps.{IsRefusedAt}
use Rattle.kg_declare.specs.declared.error.DeclareError.{DeclareError}
use Rattle.kg_declare.specs.declared.error.DeclareError.TheVariants as error
use Rattle.kg_declare.specs.declared.progress.Made.{Made}
use Rattle.kg_declared_rows.specs.Violations.{own_violations}
use Rattle.kg_declared_rows.specs.Rows.{Row, rows_of}

-- the row stands under one of a kind under which its own kind can stand, if it stands under one
abbrev pub Stands : Row → Type 0
Stands row = IfSome row.parent (λ above. IsTrue (nests above.kind row.kind))

abbrev pub start : Accepted
start = record { rows = no_rows; commands = []; drawn = 0 }

abbrev pub decided : Accepted → ℕ → Result Command Refusal → Result Accepted Refused
decided accepted drawn (Ok command) = Ok (record {
  rows = changed command accepted.rows;
  commands = accepted.commands ++ command ∷ [];
  drawn = drawn;
})
decided accepted drawn (Err refusal) = Err (record { response = refusal_response refusal; drawn = drawn })

-- the row with this id is inserted
abbrev pub inserted : ℕ → ℕ → Row → ℕ → ℕ → Accepted → Result Accepted Refused
inserted now limit row id drawn accepted =
    decided accepted drawn (insertion accepted.rows row.kind (parent_of accepted.commands row.parent) (object row.members) id now limit)

-- the row has the id that it names, or the next one that is drawn
abbrev pub identified : List (List ℕ) → ℕ → ℕ → Row → Option ℕ → Accepted → Result Accepted Refused
identified draws now limit row (Some id) accepted = inserted now limit row id accepted.drawn accepted
identified draws now limit row None accepted =
    inserted now limit row (drawn_id (get_or draws accepted.drawn [])) (suc accepted.drawn) accepted

-- its fields are judged before an id is drawn for it
unfoldable pub with_row : List (List ℕ) → ℕ → ℕ → Row → Accepted → Result Accepted Refused
with_row draws now limit row accepted =
    if length (row_violations row) == 0
    then identified draws now limit row (own_id row) accepted
    else Err (violated (row_violations row) accepted.drawn)

abbrev pub with_rows : List (List ℕ) → ℕ → ℕ → List Row → Accepted → Result Accepted Refused
with_rows draws now limit [] accepted = Ok accepted
with_rows draws now limit (row ∷ rows) accepted = next (with_rows draws now limit rows) (with_row draws now limit row accepted)

-- ---- what the calls answer

-- the rows and commands so far, when so many ids were drawn
abbrev pub accepted_at : Made → ℕ → Accepted
accepted_at made drawn = record { rows = made.rows; commands = made.commands; drawn = drawn }

-- a step leaves what it means to leave
abbrev pub Leaves : {T : Type 0} → Result T DeclareError → Result Accepted Refused → Made → ℕ → Type 0
Leaves (Ok done) meant made drawn = meant ≡ Ok (accepted_at made drawn)
Leaves (Err e) meant made drawn = IsRefusedAt e meant drawn

-- the reply tells the refusal; want of memory is free
abbrev pub Refuses : DeclareError → Result Command Refusal → Type 0
Refuses (error.Refused response) meant = (refusal : Refusal) × (meant ≡ Err refusal) × (response ≡ refusal_response refusal)
Refuses error.NoMemory meant = ⊤

abbrev pub TellsRefusal : DeclareError → DecideError → Type 0
TellsRefusal (error.Refused response) (decide_error.Refused refusal) = response ≡ refusal_response refusal
TellsRefusal (error.Refused response) decide_error.NoMemory = ⊥
TellsRefusal error.NoMemory e = ⊤

-- the ids that a step drew, and what it left: those drawn before it stand in front, and any may follow
pub record Steps {S T : Type 0} (draws : S → S → List (List ℕ) → Type 0) (before now : S) (result : Result T DeclareError)
    (old new : Made) (Means : List (List ℕ) → Accepted → Result Accepted Refused) : Type 0 where
  pub drawn : List (List ℕ)
  pub moved : draws before now drawn
  pub leaves : (front more : List (List ℕ))
      → Leaves result (Means (front ++ drawn ++ more) (accepted_at old (length front))) new (length front + length drawn)

-- the same from the first id on
pub record StepsFromStart {S T : Type 0} (draws : S → S → List (List ℕ) → Type 0) (before now : S) (result : Result T DeclareError)
    (old new : Made) (Means : List (List ℕ) → Accepted → Result Accepted Refused) : Type 0 where
  pub drawn : List (List ℕ)
  pub moved : draws before now drawn
  pub leaves : (more : List (List ℕ)) → Leaves result (Means (drawn ++ more) (accepted_at old 0)) new (length drawn)

-- the id is the one that is set, and else one that was drawn
abbrev pub IsIdOf : Option ℕ → List (List ℕ) → ℕ → Type 0
IsIdOf (Some set) drawn id = (drawn ≡ []) × (id ≡ set)
IsIdOf None drawn id = (bytes : List ℕ) × (drawn ≡ bytes ∷ []) × (id ≡ drawn_id bytes)

pub record Identifies {S : Type 0} (draws : S → S → List (List ℕ) → Type 0) (before now : S) (set : Option ℕ) (id : ℕ) : Type 0 where
  pub drawn : List (List ℕ)
  pub moved : draws before now drawn
  pub is : IsIdOf set drawn id

-- the violations are there, and the reply tells them
abbrev pub TellsViolations : DeclareError → List BrokenRule → Type 0
TellsViolations (error.Refused response) violations = (violations ≢ []) × (response ≡ (violated violations 0).response)
TellsViolations error.NoMemory violations = ⊤

-- the line was no declaration
abbrev pub IsUnread : DeclareError → Option Members → Type 0
IsUnread (error.Refused response) declaration = (declaration ≡ None) × (response ≡ unread.response)
IsUnread error.NoMemory declaration = ⊤

-- the line declares these rows, and nothing is wrong with the declaration itself
pub record Prepares (line : List ℕ) (inserted : List Row) : Type 0 where
  pub members : Members
  pub read : declaration_of line ≡ Some members
  pub unbroken : own_violations members ≡ []
  pub rows : rows_of members ≡ inserted

-- ---- what the commands are, on the way

abbrev pub IsInsertion : Draft → Type 0
IsInsertion (draft.Insert kind parent form id now) = ⊤
IsInsertion (draft.Patch kind parent select form now) = ⊥
IsInsertion (draft.Put kind parent select form id now) = ⊥
IsInsertion (draft.Delete kind parent select) = ⊥

-- the command inserts a row, whose id is new
abbrev pub InsertsNewRow : RowLists → Command → Type 0
InsertsNewRow rows (Insert new) = has_row (kind_of new) (id_of_row new) rows ≡ false
InsertsNewRow rows (Update new) = ⊥
InsertsNewRow rows (Delete kind id) = ⊥

-- what is known of the command of an insertion
pub record IsDecided (limit : ℕ) (rows : RowLists) (asked : Draft) (command : Command) : Type 0 where
  pub decides : decision rows asked limit ≡ Ok command
  pub new : InsertsNewRow rows command
  pub allowed : IsTrue (is_allowed rows command limit)
  pub valid : AreValidRows rows → IsValidCommand command

-- the rows so far are those after the commands so far
pub record IsConsistent (limit : ℕ) (made : Made) : Type 0 where
  pub rows : made.rows ≡ rows_after made.commands
  pub inserts : All InsertsValidRow made.commands
  pub allowed : AreAllowed no_rows made.commands limit
