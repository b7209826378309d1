-- Machinery for proofs: the steps of a connection to the Admin API.
use Rattle.std.specs.Prelude.{◌≡◌, ℕ, ◌+◌, ◌⊎◌, Bool, true, false, List, [], ◌∷◌, ◌++◌, length, map, Option, Result, Ok, Err}
use Rattle.kg_admin.specs.AdminCalls.{drawn_for}
use Rattle.kg_admin.specs.declared.done.AdminDone.{AdminDone}
use Rattle.kg_crew.specs.AdminReplies.{Allows, Call, IsFront, bytes_of, left_behind, less, refusal_text, replies, text_of}
use Rattle.kg_crew.specs.AdminServing.{Answers, AreCalls, Counts, Outside, Serves, drawn_by, times_of}
use Rattle.kg_crew.specs.declared.allowance.Allowance.{Allowance}
use Rattle.kg_crew.specs.declared.end.End.{End}
use Rattle.kg_crew.specs.declared.end.End.TheVariants.{Asked, BadMessage, WriteFault, NoMemory}
use Rattle.kg_keeper.specs.Observed.{Observed}
use Rattle.kg_message.specs.declared.request.Request.{Request}
use Rattle.kg_outside.specs.Moves.{with_end, with_front}
use Rattle.kg_print.specs.Connection.{asks_for_end}
use Rattle.kg_text.specs.declared.error.NoMemory.{NoMemory as OutOfMemory}

-- ---- one request

-- the request was answered so, with the clock read once, and an id drawn if it needs one
pub record IsTried (Drew : List (List ℕ) → Type 0) (Read : List ℕ → Type 0) (before now : Observed) (request : Request)
    (result : Result AdminDone OutOfMemory) : Type 0 where
  pub time : ℕ
  pub bytes : List ℕ
  pub answers : Answers before now request time bytes result
  pub read : Read (time ∷ [])
  pub drew : Drew (drawn_for request bytes)

-- the reply to a request was written, behind which this is left: the request goes on, or asks for the end, or a front
-- of the reply was written
abbrev pub Writes : Request → List ℕ → Allowance → Option (List ℕ) → Option (List ℕ) → Result Allowance End → Type 0
Writes request text left written written_now (Ok left_now) =
    (asks_for_end request ≡ false) × (left_now ≡ left) × (written_now ≡ with_end written text)
Writes request text left written written_now (Err Asked) = (asks_for_end request ≡ true) × (written_now ≡ with_end written text)
Writes request text left written written_now (Err WriteFault) =
    (front : List ℕ) × IsFront front text × (written_now ≡ with_end written front)
Writes request text left written written_now (Err _) = ⊥

-- the call was noted, and its reply written
abbrev pub Notes : Request → AdminDone → Allowance → List AdminDone → List AdminDone → Option (List ℕ) → Option (List ℕ) → Result Allowance End → Type 0
Notes request done left dones dones_now written written_now result =
    (dones_now ≡ dones ++ done ∷ [])
    × Writes request (text_of (less left done.response) request done.response) (less left done.response) written written_now result

-- there was no memory for it
abbrev pub Forgoes : List AdminDone → List AdminDone → Option (List ℕ) → Option (List ℕ) → Result Allowance End → Type 0
Forgoes dones dones_now written written_now result = (result ≡ Err NoMemory) × (dones_now ≡ dones) × (written_now ≡ written)

abbrev pub PutsReply : Request → AdminDone → Allowance → List AdminDone → List AdminDone → Option (List ℕ) → Option (List ℕ) → Result Allowance End → Type 0
PutsReply request done left dones dones_now written written_now result =
    Notes request done left dones dones_now written written_now result ⊎ Forgoes dones dones_now written written_now result

-- the request was answered, and its call noted; or there was no memory
abbrev pub RepliesTo : (List (List ℕ) → Type 0) → (List ℕ → Type 0) → Request → Allowance → Observed → Observed
    → List AdminDone → List AdminDone → Option (List ℕ) → Option (List ℕ) → Result Allowance End → Type 0
RepliesTo Drew Read request left before now dones dones_now written written_now result =
    ((done : AdminDone) × IsTried Drew Read before now request (Ok done) × Notes request done left dones dones_now written written_now result)
    ⊎ ((tried : Result AdminDone OutOfMemory) × IsTried Drew Read before now request tried × Forgoes dones dones_now written written_now result)

-- a message that begins behind so many bytes was refused: what answers it was written, or a front of that, or nothing
-- without memory
abbrev pub Refuses : ℕ → Option (List ℕ) → Option (List ℕ) → End → Type 0
Refuses at written written_now (BadMessage place) = (place ≡ at) × (written_now ≡ with_end written refusal_text)
Refuses at written written_now WriteFault = (front : List ℕ) × IsFront front refusal_text × (written_now ≡ with_end written front)
Refuses at written written_now NoMemory = written_now ≡ written
Refuses at written written_now _ = ⊥

-- ---- several requests

-- these requests were answered, and the connection goes on, if anything is left
pub record Advances (Drew : List (List ℕ) → Type 0) (Read : List ℕ → Type 0) (start at : ℕ) (left left_now : Allowance) (outside : Outside)
    (rest : Option (List ℕ)) (dones : List AdminDone) : Type 0 where
  pub calls : List Call
  pub told : dones ≡ map (λ call. call.done) calls
  pub made : AreCalls outside.store calls outside.store_now
  pub whole : outside.ahead ≡ with_front (bytes_of calls) rest
  pub written : outside.written_now ≡ with_end outside.written (replies left calls)
  pub allows : Allows left calls
  pub spared : left_now ≡ left_behind left calls
  pub place : at ≡ start + length (bytes_of calls)
  pub read : Read (times_of calls)
  pub drew : Drew (drawn_by calls)

-- the next message was served: the connection goes on, or it ends so
abbrev pub ServesNext : (List (List ℕ) → Type 0) → (List ℕ → Type 0) → ℕ → ℕ → Allowance → Outside → Option (List ℕ)
    → List AdminDone → List AdminDone → Result Allowance End → Type 0
ServesNext Drew Read start at left outside rest dones dones_now (Ok left_now) =
    (more : List AdminDone) × (dones_now ≡ dones ++ more) × Advances Drew Read start at left left_now outside rest more
ServesNext Drew Read start at left outside rest dones dones_now (Err end) =
    (more : List AdminDone) × (dones_now ≡ dones ++ more) × Serves Drew Read start left outside more end

-- a fault is told exactly where the count has risen
abbrev pub FaultsBy : (End → Bool) → ℕ → ℕ → Result Allowance End → Type 0
FaultsBy is_fault before now (Ok left_now) = now ≡ before
FaultsBy is_fault before now (Err end) = Counts (is_fault end) before now
