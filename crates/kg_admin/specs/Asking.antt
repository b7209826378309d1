-- Machinery for proofs: what the values of the code stand for.
use Rattle.std.specs.Prelude.{◌≡◌, ℕ, false, Some, Result, Ok, Err, ⊤}
use Rattle.serde_json.specs.View.{view}
use Rattle.kg_admin.specs.AdminRequests.{Asked, Row, Rows, Changed, Change, Insertion, Patching, Putting, Deletion}
use Rattle.kg_admin.specs.declared.done.AdminDone.{AdminDone}
use Rattle.kg_admin.specs.declared.asked.AskError.{AskError}
use Rattle.kg_admin.specs.declared.asked.AskError.TheVariants.{NoMemory, Refused}
use Rattle.kg_admin.specs.declared.asked.Wanted.{Wanted}
use Rattle.kg_admin.specs.declared.asked.Wanted.TheVariants as wanted
use Rattle.kg_message.specs.declared.response.Response.{Response}
use Rattle.kg_rows.specs.Decision.{CanStandUnder, IsProper}
use Rattle.kg_rows.specs.declared.draft.Draft.{Draft}
use Rattle.kg_rows.specs.declared.draft.Draft.TheVariants.{Insert, Patch, Put, Delete}
use Rattle.kg_text.specs.declared.error.NoMemory.{NoMemory as OutOfMemory}

-- the change that a draft is
abbrev pub change_of : Draft → Change
change_of (Insert kind parent form id now) = Insertion kind parent (view form.body) id now
change_of (Patch kind parent select form now) = Patching kind parent select (view form.body) now
change_of (Put kind parent select form id now) = Putting kind parent select (view form.body) id now
change_of (Delete kind parent select) = Deletion kind parent select

abbrev pub asked_by : Wanted → Asked
asked_by (wanted.Change draft) = Changed (change_of draft)
asked_by (wanted.Find kind parent select) = Row kind parent select
asked_by (wanted.Page ask) = Rows ask.kind ask.parent ask.after ask.size

-- the store may be asked so
abbrev pub MayAsk : Wanted → Type 0
MayAsk (wanted.Change draft) = IsProper draft
MayAsk (wanted.Find kind parent select) = CanStandUnder kind parent
MayAsk (wanted.Page ask) = CanStandUnder ask.kind ask.parent

-- what was read stands for what is meant, or the refusal is the one that is meant; want of memory is free
abbrev pub Reads : {A B : Type 0} → (A → B) → Result A AskError → Result B Response → Type 0
Reads value (Ok x) meant = meant ≡ Ok (value x)
Reads value (Err (Refused response)) meant = meant ≡ Err response
Reads value (Err NoMemory) meant = ⊤

-- the refusal is this reply; want of memory is free
abbrev pub RefusesWith : AskError → Response → Type 0
RefusesWith (Refused response) meant = response ≡ meant
RefusesWith NoMemory meant = ⊤

-- a reply that was made at a place of the history
abbrev pub done_at : Result Response OutOfMemory → ℕ → Result AdminDone OutOfMemory
done_at (Ok response) at = Ok (record { response = response; at = Some at; faulted = false })
done_at (Err e) at = Err e
