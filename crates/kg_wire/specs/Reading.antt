-- Reading the requests of a connection one after another (this project's own).
use Rattle.std.specs.Prelude.{◌≡◌, ℕ, ◌+◌, ◌≤◌, ◌⊎◌, List, [], ◌++◌, length, Result, Ok, Err, Option, Some, None, ⊤}
use Rattle.kg_outside.specs.Causes.{Rose}
use Rattle.kg_outside.specs.Moves.{with_front}
use Rattle.kg_message.specs.declared.request.Request.{Request}
use Rattle.kg_wire.specs.declared.reader.ReadError.{ReadError}
use Rattle.kg_wire.specs.declared.reader.ReadError.TheVariants.{Bad, HeadTooLarge, BodyTooLarge, Cut, ReadFault, NoMemory}
use Rattle.kg_wire.specs.Messages.{Message, print_message, request_of, BeginsNoRequest, IsRequest}
use Rattle.kg_wire.specs.Refusals.{IsBad, IsCut}

-- what is known of a reader
pub record ReaderState : Type 0 where
  -- the bytes that were read and not yet taken
  pub held : List ℕ
  -- how many bytes the requests had that were taken
  pub at : ℕ
  -- the error that ended the reading
  pub error : Option ReadError
  -- the client's
  pub address : List ℕ

-- nothing is left
abbrev pub IsEnded : Option (List ℕ) → Type 0
IsEnded left = (bytes : List ℕ) → left ≡ Some bytes → bytes ≡ []

-- a piece moved from the source behind the bytes held
pub record Grows (held_before held_now : List ℕ) (left_before left_now : Option (List ℕ)) : Type 0 where
  pub piece : List ℕ
  pub grown : held_now ≡ held_before ++ piece
  pub moved : left_before ≡ with_front piece left_now

-- the request of the next message was taken
pub record Takes (before now : ReaderState) (left_before left_now : Option (List ℕ)) (request : Request) : Type 0 where
  pub message : Message
  pub is : IsRequest message
  pub means : request ≡ request_of before.address message
  pub at : now.at ≡ before.at + length (print_message message)
  pub moved : with_front before.held left_before ≡ with_front (print_message message ++ now.held) left_now

-- the source ended where no message had begun
pub record IsNothing (before now : ReaderState) (left_before left_now : Option (List ℕ)) : Type 0 where
  pub none_held : before.held ≡ []
  pub same : now ≡ before
  pub left : left_now ≡ left_before
  pub ended : IsEnded left_now

-- the next request, or the end
abbrev pub Gives : ReaderState → ReaderState → Option (List ℕ) → Option (List ℕ) → Option Request → Type 0
Gives before now left_before left_now (Some request) = Takes before now left_before left_now request
Gives before now left_before left_now None = IsNothing before now left_before left_now

-- why the bytes held, the first of which stands at this place, were refused; a read failed only where they begin no
-- whole request
abbrev pub Refuses : ℕ → List ℕ → Option (List ℕ) → ReadError → Type 0
Refuses at held left (Bad place) = (place ≡ at) × IsBad held
Refuses at held left HeadTooLarge = ⊥
Refuses at held left BodyTooLarge = ⊥
Refuses at held left (Cut have) = (have ≡ length held) × IsCut held × IsEnded left
Refuses at held left ReadFault = BeginsNoRequest held
Refuses at held left NoMemory = ⊤

-- how a reading ends in an error; want of memory may have lost bytes
abbrev pub Ends : ℕ → List ℕ → List ℕ → Option (List ℕ) → Option (List ℕ) → ReadError → Type 0
Ends at held_before held_now left_before left_now NoMemory = ⊤
Ends at held_before held_now left_before left_now e =
    Grows held_before held_now left_before left_now × Refuses at held_now left_now e

-- how often the source had failed, before and after a call that ends in this error
abbrev pub Counts : ℕ → ℕ → ReadError → Type 0
Counts before now (Bad place) = now ≡ before
Counts before now HeadTooLarge = now ≡ before
Counts before now BodyTooLarge = now ≡ before
Counts before now (Cut have) = now ≡ before
Counts before now ReadFault = (before ≤ now) × Rose before now
Counts before now NoMemory = now ≡ before

-- a fault of the source, or want of memory
abbrev pub IsPrevented : ReadError → Type 0
IsPrevented (Bad place) = ⊥
IsPrevented HeadTooLarge = ⊥
IsPrevented BodyTooLarge = ⊥
IsPrevented (Cut have) = ⊥
IsPrevented ReadFault = ⊤
IsPrevented NoMemory = ⊤

-- the answer is this request or the end, unless a fault of the source or want of memory prevented it
abbrev pub IsUnlessPrevented : Result (Option Request) ReadError → Option Request → Type 0
IsUnlessPrevented (Ok given) meant = given ≡ meant
IsUnlessPrevented (Err e) meant = IsPrevented e

-- the answer is this refusal, unless one of these prevented it
abbrev pub RefusesUnlessPrevented : Result (Option Request) ReadError → ReadError → Type 0
RefusesUnlessPrevented (Ok given) meant = ⊥
RefusesUnlessPrevented (Err e) meant = (e ≡ meant) ⊎ IsPrevented e
