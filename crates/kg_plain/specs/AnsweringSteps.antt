-- Machinery for proofs: the next request of a connection is answered, or the connection ends before it.
use Rattle.std.specs.Prelude.{◌≡◌, ℕ, ◌+◌, ◌==◌, Bool, true, false, List, [], ◌∷◌, ◌++◌, length, Option, Some, None, if◌then◌else◌}
use Rattle.kg_message.specs.declared.request.Request.{Request}
use Rattle.kg_outside.specs.Moves.{with_front, with_end}
use Rattle.kg_wire.specs.Messages.{Message, IsRequest, print_message, request_of}
use Rattle.kg_wire.specs.Refusals.{IsBad, IsCut}
use Rattle.kg_limit.specs.declared.hit.Hit.{Hit}
use Rattle.kg_plain.specs.DryReply.{GatewayRows, counted, reply_to}
use Rattle.kg_plain.specs.Fronts.{IsFront}
use Rattle.kg_plain.specs.Replies.{StopsIn, asks, last_text, local_address, most_requests}
use Rattle.kg_plain.specs.declared.answers.End.{End}
use Rattle.kg_plain.specs.declared.answers.End.TheVariants.{Closed, Asked, Spent, Bad, Cut}

-- the end, where a request asks for it
abbrev pub asked_end : Bool → Option End
asked_end asked = if asked then Some Asked else None

-- the clock was read once, and the reply to a request at that time was written after these hits, with its own hit
-- counted, or a front of it
pub record Replied (rows : GatewayRows) (hits : List Hit) (last : Bool) (request : Request) (Read : List ℕ → Type 0) (Counts : List Hit → Type 0)
    (before now : Option (List ℕ)) : Type 0 where
  pub time : ℕ
  pub read : Read (time ∷ [])
  pub written : now ≡ with_end before (reply_to rows hits time last request)
  pub counts : Counts (hits ++ counted rows time request)

pub record RepliedFront (rows : GatewayRows) (hits : List Hit) (last : Bool) (request : Request) (Read : List ℕ → Type 0) (before now : Option (List ℕ)) : Type 0 where
  pub time : ℕ
  pub read : Read (time ∷ [])
  pub front : List ℕ
  pub begins : IsFront front (reply_to rows hits time last request)
  pub written : now ≡ with_end before front

-- the next request was read and got its reply, behind these hits and so many replies, the clock was read once, and
-- its hit was counted. It stood between these places of the bytes
pub record IsReplied (rows : GatewayRows) (hits : List Hit) (Read : List ℕ → Type 0) (Counts : List Hit → Type 0) (answered at_before at_now : ℕ) (ahead_before ahead_now written_before written_now : Option (List ℕ))
    (asked : Bool) : Type 0 where
  pub message : Message
  pub time : ℕ
  pub is : IsRequest message
  pub asking : asks message ≡ asked
  pub read : Read (time ∷ [])
  pub next : ahead_before ≡ with_front (print_message message) ahead_now
  pub at : at_now ≡ at_before + length (print_message message)
  pub written : written_now ≡ with_end written_before (reply_to rows hits time (answered + 1 == most_requests) (request_of local_address message))
  pub counts : Counts (hits ++ counted rows time (request_of local_address message))

-- no request was read, the bytes ahead are so, and this was written
pub record EndsAt (Read : List ℕ → Type 0) (Is : List ℕ → Type 0) (ahead written_before written_now : Option (List ℕ)) (end : End) : Type 0 where
  pub read : Read []
  pub is : (rest : List ℕ) → ahead ≡ Some rest → Is rest
  pub written : written_now ≡ with_end written_before (last_text end)

-- the next message was read and answered: the connection goes on, or ends so
abbrev pub AnswersNext : GatewayRows → List Hit → (List ℕ → Type 0) → (List Hit → Type 0) → ℕ → ℕ → ℕ → Option (List ℕ) → Option (List ℕ) → Option (List ℕ) → Option (List ℕ) → Option End → Type 0
AnswersNext rows hits Read Counts answered at_before at_now ahead_before ahead_now written_before written_now None =
    IsReplied rows hits Read Counts answered at_before at_now ahead_before ahead_now written_before written_now false
AnswersNext rows hits Read Counts answered at_before at_now ahead_before ahead_now written_before written_now (Some Asked) =
    IsReplied rows hits Read Counts answered at_before at_now ahead_before ahead_now written_before written_now true
AnswersNext rows hits Read Counts answered at_before at_now ahead_before ahead_now written_before written_now (Some Closed) =
    EndsAt Read (λ rest. rest ≡ []) ahead_before written_before written_now Closed
AnswersNext rows hits Read Counts answered at_before at_now ahead_before ahead_now written_before written_now (Some Spent) = ⊥
AnswersNext rows hits Read Counts answered at_before at_now ahead_before ahead_now written_before written_now (Some (Bad at)) =
    (at ≡ at_before) × EndsAt Read IsBad ahead_before written_before written_now (Bad at)
AnswersNext rows hits Read Counts answered at_before at_now ahead_before ahead_now written_before written_now (Some (Cut have)) =
    EndsAt Read (λ rest. IsCut rest × (have ≡ length rest)) ahead_before written_before written_now (Cut have)

-- the answering was cut short at the next message, behind these hits and so many replies
pub record StopsNext (rows : GatewayRows) (hits : List Hit) (Read : List ℕ → Type 0) (answered : ℕ) (ahead written_before written_now : Option (List ℕ)) : Type 0 where
  pub times : List ℕ
  pub read : Read times
  pub part : List ℕ
  pub stops : (rest : List ℕ) → ahead ≡ Some rest → StopsIn rows hits answered times rest part
  pub written : written_now ≡ with_end written_before part
