-- The replies to the requests of one connection, and where they end (this project's own:
-- docs/BEHAVIOUR.md, "The dry run").
use Rattle.std.specs.Prelude.{◌≡◌, ℕ, ◌+◌, ◌<◌, ◌==◌, ◌⊎◌, Bool, true, false, List, [], ◌∷◌, ◌++◌, length}
use Rattle.std.specs.List.{flat_map, AllByRecursion}
use Rattle.kg_print.specs.Connection.{asks_for_end}
use Rattle.kg_wire.specs.Messages.{Message, IsRequest, print_message, request_of}
use Rattle.kg_wire.specs.Refusals.{IsBad, IsCut}
use Rattle.kg_limit.specs.declared.hit.Hit.{Hit}
use Rattle.kg_plain.specs.DryReply.{GatewayRows, bad_request_text, counted, reply_to}
use Rattle.kg_plain.specs.Fronts.{IsFront}
use Rattle.kg_plain.specs.declared.answers.End.{End}
use Rattle.kg_plain.specs.declared.answers.End.TheVariants.{Closed, Asked, Spent, Bad, Cut}

-- how many requests one connection answers
abbrev pub most_requests : ℕ
most_requests = 1000

-- the address that every request comes from
abbrev pub local_address : List ℕ
local_address = 127 ∷ 0 ∷ 0 ∷ 1 ∷ []

-- the hits of these requests at these times
abbrev pub hits_of : GatewayRows → List ℕ → List Message → List Hit
hits_of rows (time ∷ times) (m ∷ ms) = counted rows time (request_of local_address m) ++ hits_of rows times ms
hits_of rows _ _ = []

-- the replies to these requests at these times, before which there were these hits, and so many were answered
abbrev pub texts : GatewayRows → List Hit → ℕ → List ℕ → List Message → List ℕ
texts rows hits answered (time ∷ times) (m ∷ ms) =
    reply_to rows hits time (answered + 1 == most_requests) (request_of local_address m)
    ++ texts rows (hits ++ counted rows time (request_of local_address m)) (answered + 1) times ms
texts rows hits answered _ _ = []

-- the request asks for the end of the connection
abbrev pub asks : Message → Bool
asks m = asks_for_end (request_of local_address m)

-- none of these asks for it
abbrev pub GoOn : List Message → Type 0
GoOn ms = AllByRecursion (λ m. asks m ≡ false) ms

-- the last of these asks for it, and none before
pub record LastAsks (ms : List Message) : Type 0 where
  pub before : List Message
  pub last : Message
  pub joined : ms ≡ before ++ last ∷ []
  pub on : GoOn before
  pub asked : asks last ≡ true

-- why no further request is answered, after these and before the rest: the source ended between two
-- messages, the end was asked for, a thousand were answered, the next message, which begins behind so many
-- bytes, is refused, or the source ended inside it, behind so many bytes of it
abbrev pub EndsSo : End → List Message → List ℕ → Type 0
EndsSo Closed ms rest = GoOn ms × (length ms < most_requests) × (rest ≡ [])
EndsSo Asked ms rest = LastAsks ms
EndsSo Spent ms rest = GoOn ms × (length ms ≡ most_requests)
EndsSo (Bad at) ms rest = GoOn ms × (length ms < most_requests) × IsBad rest × (at ≡ length (flat_map print_message ms))
EndsSo (Cut have) ms rest = GoOn ms × (length ms < most_requests) × IsCut rest × (have ≡ length rest)

-- what is written behind the replies: the 400 of a refused message
abbrev pub last_text : End → List ℕ
last_text Closed = []
last_text Asked = []
last_text Spent = []
last_text (Bad at) = bad_request_text
last_text (Cut have) = []

-- ---- the answering is cut short

-- a request stands next, behind these hits and so many requests that were answered, and these bytes are a front of
-- the reply to it at this time
pub record BeginsReply (rows : GatewayRows) (hits : List Hit) (time answered : ℕ) (rest part : List ℕ) : Type 0 where
  pub next : Message
  pub behind : List ℕ
  pub is : IsRequest next
  pub stands : rest ≡ print_message next ++ behind
  pub begins : IsFront part (reply_to rows hits time (answered + 1 == most_requests) (request_of local_address next))

-- what was written behind these hits and so many whole replies, and the readings of the clock since the last of
-- them: nothing, with none; a front of the reply to the next request, with one; or a front of the 400 of a refused
-- message, with none
abbrev pub StopsIn : GatewayRows → List Hit → ℕ → List ℕ → List ℕ → List ℕ → Type 0
StopsIn rows hits answered since rest part =
    ((since ≡ []) × (part ≡ []))
    ⊎ ((time : ℕ) × (since ≡ time ∷ []) × BeginsReply rows hits time answered rest part)
    ⊎ ((since ≡ []) × IsBad rest × IsFront part bad_request_text)
