-- What a call to the Admin API does, whatever it answers: which id it drew, and what became of the store
-- (this project's own).
use Rattle.std.specs.Prelude.{◌≡◌, ℕ, ◌+◌, ◌⊎◌, ◌++◌, [], ◌∷◌, Bool, true, false, ◌||◌, List, length, Option, Some, None, IfSome, IsTrue, Result, Ok, Err, codes, if◌then◌else◌}
use Rattle.std.specs.Str.{bytes_eq}
use Rattle.kg_admin.specs.AdminAnswers.{Answer, admin_answer, only}
use Rattle.kg_admin.specs.AdminRequests.{Asked, asked}
use Rattle.kg_admin.specs.declared.done.AdminDone.{AdminDone}
use Rattle.kg_keeper.specs.Observed.{HasFaults, IsCall, Observed, Stays}
use Rattle.kg_message.specs.GatewayMessage.{gateway_message}
use Rattle.kg_message.specs.declared.request.Request.{Request}
use Rattle.kg_message.specs.declared.response.Response.{Response}
use Rattle.kg_row_types.specs.Ids.{drawn_id}
use Rattle.kg_row_values.specs.declared.command.Command.{Command}
use Rattle.kg_text.specs.declared.error.NoMemory.{NoMemory}

-- ---- the id

-- an id is drawn for each request by POST or PUT, whatever its answer is
abbrev pub draws_id : Request → Bool
draws_id request = bytes_eq request.method (codes "POST") || bytes_eq request.method (codes "PUT")

-- what is drawn for a request, where these bytes come next
abbrev pub drawn_for : Request → List ℕ → List (List ℕ)
drawn_for request bytes = if draws_id request then bytes ∷ [] else []

-- ---- the reply

abbrev pub fault_response : Response
fault_response = gateway_message 500 (codes "An unexpected error occurred")

-- the reply is the answer at all that is seen, and it changes nothing
pub record IsUnchanged (before now : Observed) (answer : List Command → Answer) (response : Response) (at : ℕ) : Type 0 where
  pub told : IfSome now.seen (λ seen. (at ≡ length seen) × (answer seen ≡ only response))
  pub stays : Stays before now

-- after what others may have committed meanwhile one command was committed, the one that is the answer there, and
-- so is the reply
pub record IsCommit (before now : Observed) (answer : List Command → Answer) (response : Response) (at : ℕ) (seen : List Command) : Type 0 where
  pub others : List Command
  pub command : Command
  pub told : answer (seen ++ others) ≡ record { response = response; command = Some command }
  pub appended : now.seen ≡ Some ((seen ++ others) ++ command ∷ [])
  pub place : at ≡ length (seen ++ others) + 1
  pub alone : IsTrue before.alone → others ≡ []

abbrev pub IsChanged : Observed → Observed → (List Command → Answer) → Response → ℕ → Type 0
IsChanged before now answer response at = IfSome before.seen (IsCommit before now answer response at)

-- the reply by where it was made: at a place of the history, or at none since the store failed
abbrev pub IsReply : Observed → Observed → (List Command → Answer) → Response → Option ℕ → Bool → Type 0
IsReply before now answer response (Some at) false = IsUnchanged before now answer response at ⊎ IsChanged before now answer response at
IsReply before now answer response (Some at) true = ⊥
IsReply before now answer response None true = (response ≡ fault_response) × Stays before now
IsReply before now answer response None false = ⊥

-- ---- one call

-- what is asked is answered by one call
pub record IsAnswered (before now : Observed) (answer : List Command → Answer) (done : AdminDone) : Type 0 where
  pub call : IsCall before now
  pub faults : HasFaults before now done.faulted
  pub reply : IsReply before now answer done.response done.at done.faulted

-- without memory for the reply the one call may have been made, and then what it did stands: one commit at most
pub record IsCutShort (before now : Observed) (answer : List Command → Answer) : Type 0 where
  pub call : IsCall before now
  pub fault : Bool
  pub faults : HasFaults before now fault
  pub left : Stays before now ⊎ ((response : Response) × (at : ℕ) × IsChanged before now answer response at)

abbrev pub Runs : Observed → Observed → (List Command → Answer) → Result AdminDone NoMemory → Type 0
Runs before now answer (Ok done) = IsAnswered before now answer done
Runs before now answer (Err e) = IsCutShort before now answer

-- ---- one request

-- what is asked of the rows is answered; a request that is refused before they are asked makes no call
abbrev pub Meets : Observed → Observed → (List Command → Answer) → Result Asked Response → Result AdminDone NoMemory → Type 0
Meets before now answer (Ok wanted) (Ok done) = IsAnswered before now answer done
Meets before now answer (Ok wanted) (Err e) = (now ≡ before) ⊎ IsCutShort before now answer
Meets before now answer (Err refusal) (Ok done) = (now ≡ before) × (done ≡ record { response = refusal; at = None; faulted = false })
Meets before now answer (Err refusal) (Err e) = now ≡ before

-- the answers are those with an id that was drawn where the request needs one
pub record IsAdminRun {S : Type 0} (draws : S → S → List (List ℕ) → Type 0) (ids_before ids_now : S) (before now : Observed)
    (request : Request) (time : ℕ) (result : Result AdminDone NoMemory) : Type 0 where
  pub bytes : List ℕ
  pub drawn : draws ids_before ids_now (drawn_for request bytes)
  pub meets :
      Meets before now (λ history. admin_answer history request (drawn_id bytes) time before.limit) (asked request (drawn_id bytes) time) result
