-- The calls to the Admin API that come over one connection, their replies, and how the connection ends (this
-- project's own: docs/BEHAVIOUR.md, "The Admin API").
use Rattle.std.specs.Prelude.{◌≡◌, ℕ, ◌+◌, ◌-◌, ◌==◌, ◌⊎◌, ◌||◌, Bool, true, false, List, [], ◌∷◌, ◌++◌, length, Option, IfSome, codes, ⊤}
use Rattle.std.specs.List.{flat_map}
use Rattle.std.specs.Str.{bytes_eq}
use Rattle.kg_admin.specs.declared.done.AdminDone.{AdminDone}
use Rattle.kg_crew.specs.declared.allowance.Allowance.{Allowance}
use Rattle.kg_crew.specs.declared.end.End.{End}
use Rattle.kg_crew.specs.declared.end.End.TheVariants.{Closed, Asked, Spent, BadMessage, HeadTooLarge, BodyTooLarge, Cut, ReadFault, WriteFault, NoMemory}
use Rattle.kg_keeper.specs.Observed.{Observed}
use Rattle.kg_message.specs.GatewayMessage.{gateway_message}
use Rattle.kg_message.specs.declared.request.Request.{Request}
use Rattle.kg_message.specs.declared.response.Response.{Response}
use Rattle.kg_outside.specs.Moves.{with_front}
use Rattle.kg_print.specs.Connection.{asks_for_end, keeping_of}
use Rattle.kg_print.specs.ReplyText.{reply_text}
use Rattle.kg_print.specs.declared.connection.Keeping.TheVariants.{Close}
use Rattle.kg_wire.specs.Messages.{Message, BeginsNoRequest, print_message, request_of}
use Rattle.kg_wire.specs.Refusals.{IsBad, IsCut}

-- how many bytes the bodies of a connection's replies may have together, after which it ends
abbrev pub most_kept : ℕ
most_kept = 67108864

-- the address that requests are taken to come from
abbrev pub local_address : List ℕ
local_address = 127 ∷ 0 ∷ 0 ∷ 1 ∷ []

-- ---- calls

-- one call: the message that it answers, the time in milliseconds, the 16 bytes of the id that is drawn if the
-- request needs one, what was answered, and the store behind it
pub record Call : Type 0 where
  pub message : Message
  pub time : ℕ
  pub bytes : List ℕ
  pub done : AdminDone
  pub after : Observed

-- the request that a message spells
abbrev pub request_in : Message → Request
request_in message = request_of local_address message

-- the request asks for the end of the connection
abbrev pub asks : Call → Bool
asks call = asks_for_end (request_in call.message)

-- the bytes of the requests
abbrev pub bytes_of : List Call → List ℕ
bytes_of calls = flat_map (λ call. print_message call.message) calls

-- ---- how much of a connection is left

-- what a connection may have of which so many requests are answered
abbrev pub allowance_of : ℕ → Allowance
allowance_of requests = record { requests = requests; bytes = most_kept }

-- no further request is answered
abbrev pub is_spent : Allowance → Bool
is_spent left = left.requests == 0 || left.bytes == 0

-- with one more reply
abbrev pub less : Allowance → Response → Allowance
less left response = record { requests = left.requests - 1; bytes = left.bytes - length response.body }

-- behind these calls
abbrev pub left_behind : Allowance → List Call → Allowance
left_behind left [] = left
left_behind left (call ∷ calls) = left_behind (less left call.done.response) calls

-- ---- what is written

-- a reply to HEAD has no body
abbrev pub is_bodiless : Request → Bool
is_bodiless request = bytes_eq request.method (codes "HEAD")

-- the text of a reply, behind which this is left
unfoldable pub text_of : Allowance → Request → Response → List ℕ
text_of left request response = reply_text response (is_bodiless request) (keeping_of (is_spent left) request)

-- the replies to these calls, one after another
abbrev pub replies : Allowance → List Call → List ℕ
replies left [] = []
replies left (call ∷ calls) =
    text_of (less left call.done.response) (request_in call.message) call.done.response
    ++ replies (less left call.done.response) calls

-- the reply to a message that is refused
unfoldable pub bad_request : Response
bad_request = gateway_message 400 (codes "Bad request")

-- its text: the connection ends with it
unfoldable pub refusal_text : List ℕ
refusal_text = reply_text bad_request false Close

-- the text begins with these bytes
abbrev pub IsFront : List ℕ → List ℕ → Type 0
IsFront front text = (rest : List ℕ) × (text ≡ front ++ rest)

-- the text is this, and then a front of what comes next
abbrev pub StopsIn : List ℕ → List ℕ → List ℕ → Type 0
StopsIn whole next text = (front : List ℕ) × IsFront front next × (text ≡ whole ++ front)

-- ---- how it ends

-- each of these requests was allowed, and none asks for the end
abbrev pub Allows : Allowance → List Call → Type 0
Allows left [] = ⊤
Allows left (call ∷ calls) = (is_spent left ≡ false) × (asks call ≡ false) × Allows (less left call.done.response) calls

-- and one more is allowed
abbrev pub GoOn : Allowance → List Call → Type 0
GoOn left calls = Allows left calls × (is_spent (left_behind left calls) ≡ false)

-- behind those that go on, a last one asks for the end
pub record LastAsks (left : Allowance) (calls : List Call) : Type 0 where
  pub before : List Call
  pub last : Call
  pub joined : calls ≡ before ++ last ∷ []
  pub on : GoOn left before
  pub asked : asks last ≡ true

-- behind those that go on, the reply to a last one could not be written whole
pub record LastFails (left : Allowance) (calls : List Call) (text : List ℕ) : Type 0 where
  pub before : List Call
  pub last : Call
  pub joined : calls ≡ before ++ last ∷ []
  pub on : GoOn left before
  pub part : StopsIn (replies left before) (replies (left_behind left before) (last ∷ [])) text

-- what was read of the bytes ahead, where these are ahead now, begins no whole request
abbrev pub ReadsNoRequest : Option (List ℕ) → Option (List ℕ) → Type 0
ReadsNoRequest ahead ahead_now = (read : List ℕ) × (ahead ≡ with_front read ahead_now) × BeginsNoRequest read

-- why no further request is answered, where the first one begins behind so many bytes: behind these calls, before
-- what is ahead, where that is observable, of which this was not read, and with this text written. The source ended
-- between two messages; the last request asked for the end; no more is allowed; the next message was answered with a
-- refusal; the source ended inside it; a read failed before it was whole; a write failed, in the last reply or in the
-- refusal; there was no memory
abbrev pub EndsSo : ℕ → Allowance → List Call → Option (List ℕ) → Option (List ℕ) → List ℕ → End → Type 0
EndsSo start left calls ahead ahead_now text Closed = GoOn left calls × IfSome ahead (λ rest. rest ≡ []) × (text ≡ replies left calls)
EndsSo start left calls ahead ahead_now text Asked = LastAsks left calls × (text ≡ replies left calls)
EndsSo start left calls ahead ahead_now text Spent = Allows left calls × (is_spent (left_behind left calls) ≡ true) × (text ≡ replies left calls)
EndsSo start left calls ahead ahead_now text (BadMessage at) =
    GoOn left calls × IfSome ahead IsBad × (at ≡ start + length (bytes_of calls)) × (text ≡ replies left calls ++ refusal_text)
EndsSo start left calls ahead ahead_now text HeadTooLarge = ⊥
EndsSo start left calls ahead ahead_now text BodyTooLarge = ⊥
EndsSo start left calls ahead ahead_now text (Cut have) =
    GoOn left calls × IfSome ahead (λ rest. IsCut rest × (have ≡ length rest)) × (text ≡ replies left calls)
EndsSo start left calls ahead ahead_now text ReadFault = GoOn left calls × ReadsNoRequest ahead ahead_now × (text ≡ replies left calls)
EndsSo start left calls ahead ahead_now text WriteFault =
    LastFails left calls text ⊎ (GoOn left calls × IfSome ahead IsBad × StopsIn (replies left calls) refusal_text text)
EndsSo start left calls ahead ahead_now text NoMemory = Allows left calls × (text ≡ replies left calls)
