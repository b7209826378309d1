-- What a connection gets, while it is read: which of its requests are answered, what is written, and how the
-- answering ends or is cut short (this project's own: docs/BEHAVIOUR.md, "The dry run").
use Rattle.std.specs.Prelude.{◌≡◌, ℕ, ◌<◌, ◌≤◌, List, [], ◌++◌, length, Option, Some}
use Rattle.std.specs.List.{flat_map, AllByRecursion}
use Rattle.kg_outside.specs.Moves.{with_front, with_end}
use Rattle.kg_wire.specs.Messages.{Message, IsRequest, print_message}
use Rattle.kg_limit.specs.declared.hit.Hit.{Hit}
use Rattle.kg_plain.specs.DryReply.{GatewayRows}
use Rattle.kg_plain.specs.Replies.{EndsSo, GoOn, StopsIn, hits_of, last_text, most_requests, texts}
use Rattle.kg_plain.specs.declared.answers.End.{End}

-- these requests were read, each got its reply, and the clock was read once for each
pub record Answered (rows : GatewayRows) (Read : List ℕ → Type 0) (ahead_before ahead_now written_before written_now : Option (List ℕ))
    (messages : List Message) : Type 0 where
  pub times : List ℕ
  pub one_each : length times ≡ length messages
  pub read : Read times
  pub each : AllByRecursion IsRequest messages
  pub whole : ahead_before ≡ with_front (flat_map print_message messages) ahead_now
  pub written : written_now ≡ with_end written_before (texts rows [] 0 times messages)

-- so many were answered, none of which asks for the end, so many bytes were read of them, and their hits were counted
pub record AnsweredOn (rows : GatewayRows) (Read : List ℕ → Type 0) (Counts : List Hit → Type 0) (ahead_before ahead_now written_before written_now : Option (List ℕ))
    (count at : ℕ) : Type 0 where
  pub messages : List Message
  pub counted : length messages ≡ count
  pub at_is : at ≡ length (flat_map print_message messages)
  pub on : GoOn messages
  pub answered : Answered rows Read ahead_before ahead_now written_before written_now messages
  pub counts : Counts (hits_of rows answered.times messages)

-- the answering ends so, wherever what is ahead is observable
abbrev pub EndsAhead : End → List Message → Option (List ℕ) → Type 0
EndsAhead end messages ahead = (rest : List ℕ) → ahead ≡ Some rest → EndsSo end messages rest

-- the requests are answered as far as they go
pub record AnswersAll (rows : GatewayRows) (Read : List ℕ → Type 0) (left_before written_before written_now : Option (List ℕ)) (end : End) : Type 0 where
  pub messages : List Message
  pub most : length messages ≤ most_requests
  pub ahead : Option (List ℕ)
  pub replied : Option (List ℕ)
  pub answered : Answered rows Read left_before ahead written_before replied messages
  pub ends : EndsAhead end messages ahead
  pub last : written_now ≡ with_end replied (last_text end)

-- the answering was cut short behind these requests: the clock was read once for each, and since then
pub record AnswersFront (rows : GatewayRows) (Read : List ℕ → Type 0) (left_before written_before written_now : Option (List ℕ)) : Type 0 where
  pub messages : List Message
  pub few : length messages < most_requests
  pub on : GoOn messages
  pub earlier : List ℕ
  pub since : List ℕ
  pub one_each : length earlier ≡ length messages
  pub read : Read (earlier ++ since)
  pub each : AllByRecursion IsRequest messages
  pub ahead : Option (List ℕ)
  pub whole : left_before ≡ with_front (flat_map print_message messages) ahead
  pub part : List ℕ
  pub stops : (rest : List ℕ) → ahead ≡ Some rest → StopsIn rows (hits_of rows earlier messages) (length messages) since rest part
  pub written : written_now ≡ with_end written_before (texts rows [] 0 earlier messages ++ part)
