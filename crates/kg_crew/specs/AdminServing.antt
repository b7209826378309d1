-- What a connection to the Admin API does: the calls that it makes of a store, and what is written (this project's
-- own: docs/BEHAVIOUR.md, "The Admin API").
use Rattle.std.specs.Prelude.{◌≡◌, ℕ, ◌⊎◌, Bool, true, false, List, [], ◌∷◌, ◌++◌, map, Option, IfSome, Result, Ok}
use Rattle.std.specs.List.{flat_map}
use Rattle.kg_admin.specs.AdminAnswers.{admin_answer}
use Rattle.kg_admin.specs.AdminCalls.{Meets, drawn_for}
use Rattle.kg_admin.specs.AdminRequests.{asked}
use Rattle.kg_admin.specs.declared.done.AdminDone.{AdminDone}
use Rattle.kg_crew.specs.AdminReplies.{Call, EndsSo, bytes_of, is_spent, left_behind, request_in}
use Rattle.kg_crew.specs.declared.allowance.Allowance.{Allowance}
use Rattle.kg_crew.specs.declared.end.End.{End}
use Rattle.kg_crew.specs.declared.end.End.TheVariants.{ReadFault, WriteFault, NoMemory}
use Rattle.kg_keeper.specs.Observed.{Observed}
use Rattle.kg_message.specs.declared.request.Request.{Request}
use Rattle.kg_outside.specs.Causes.{Rose}
use Rattle.kg_outside.specs.Moves.{with_end, with_front}
use Rattle.kg_row_types.specs.Ids.{drawn_id}
use Rattle.kg_text.specs.declared.error.NoMemory.{NoMemory as OutOfMemory}
use Rattle.kg_wire.specs.Messages.{Message, IsRequest, print_message}

-- ---- the calls

-- what a request does at this time, where these bytes are drawn
abbrev pub Answers : Observed → Observed → Request → ℕ → List ℕ → Result AdminDone OutOfMemory → Type 0
Answers before now request time bytes result =
    Meets before now (λ history. admin_answer history request (drawn_id bytes) time before.limit) (asked request (drawn_id bytes) time) result

-- the calls were made one after another, each for one request, of a store that was seen so before, and is now
abbrev pub AreCalls : Observed → List Call → Observed → Type 0
AreCalls before [] now = now ≡ before
AreCalls before (call ∷ calls) now =
    IsRequest call.message
    × Answers before call.after (request_in call.message) call.time call.bytes (Ok call.done)
    × AreCalls call.after calls now

-- when they were made
abbrev pub times_of : List Call → List ℕ
times_of calls = map (λ call. call.time) calls

-- what was drawn for them
abbrev pub drawn_by : List Call → List (List ℕ)
drawn_by calls = flat_map (λ call. drawn_for (request_in call.message) call.bytes) calls

-- ---- what came behind them

-- the next request was answered, of which one more was allowed, but there was no memory for its reply: what it did
-- to the store stands. The clock was read once for it, and an id drawn if it needs one
pub record IsUnanswered (left : Allowance) (ahead : Option (List ℕ)) (before now : Observed) (times : List ℕ) (drawn : List (List ℕ)) : Type 0 where
  pub allowed : is_spent left ≡ false
  pub message : Message
  pub is : IsRequest message
  pub stands : IfSome ahead (λ rest. (behind : List ℕ) × (rest ≡ print_message message ++ behind))
  pub time : ℕ
  pub bytes : List ℕ
  pub result : Result AdminDone OutOfMemory
  pub answers : Answers before now (request_in message) time bytes result
  pub read : times ≡ time ∷ []
  pub drew : drawn ≡ drawn_for (request_in message) bytes

abbrev pub IsNothing : Observed → Observed → List ℕ → List (List ℕ) → Type 0
IsNothing before now times drawn = (now ≡ before) × (times ≡ []) × (drawn ≡ [])

-- behind the calls, where this is left, the clock was read so often, so much was drawn, and so the store changed: not
-- at all, but perhaps where there was no memory
abbrev pub ComesBehind : End → Allowance → Option (List ℕ) → Observed → Observed → List ℕ → List (List ℕ) → Type 0
ComesBehind NoMemory left ahead before now times drawn = IsNothing before now times drawn ⊎ IsUnanswered left ahead before now times drawn
ComesBehind _ left ahead before now times drawn = IsNothing before now times drawn

-- ---- the connection

-- what the objects that were handed in say: the bytes ahead, what was written, and the store, each before the call
-- and now
pub record Outside : Type 0 where
  pub ahead : Option (List ℕ)
  pub ahead_now : Option (List ℕ)
  pub written : Option (List ℕ)
  pub written_now : Option (List ℕ)
  pub store : Observed
  pub store_now : Observed

-- where so much is left: the first requests of what is ahead were answered one after another, each by one call, the
-- replies were written, and the connection ended so. The first one begins behind so many bytes. The clock was read
-- once for each
pub record Serves (Drew : List (List ℕ) → Type 0) (Read : List ℕ → Type 0) (start : ℕ) (left : Allowance) (outside : Outside)
    (dones : List AdminDone) (end : End) : Type 0 where
  pub calls : List Call
  pub told : dones ≡ map (λ call. call.done) calls
  pub store : Observed
  pub made : AreCalls outside.store calls store
  pub rest : Option (List ℕ)
  pub whole : outside.ahead ≡ with_front (bytes_of calls) rest
  pub text : List ℕ
  pub written : outside.written_now ≡ with_end outside.written text
  pub ends : EndsSo start left calls rest outside.ahead_now text end
  pub times : List ℕ
  pub drawn : List (List ℕ)
  pub behind : ComesBehind end (left_behind left calls) rest store outside.store_now times drawn
  pub read : Read (times_of calls ++ times)
  pub drew : Drew (drawn_by calls ++ drawn)

-- ---- faults

abbrev pub is_read_fault : End → Bool
is_read_fault ReadFault = true
is_read_fault _ = false

abbrev pub is_write_fault : End → Bool
is_write_fault WriteFault = true
is_write_fault _ = false

-- the count of faults has risen where one is told, and else it stayed
abbrev pub Counts : Bool → ℕ → ℕ → Type 0
Counts true before now = Rose before now
Counts false before now = now ≡ before
