-- Machinery for proofs: the steps of a reading.
use Rattle.std.specs.Prelude.{◌≡◌, ℕ, ◌+◌, ◌<◌, ◌≤◌, Bool, false, List, [], length, take, map, All, IsTrue, Option, Some, None}
use Rattle.httparse.specs.Grammar.{RequestHead, print_request, ReadsRequest, HasNoRequest, MayBecomeRequest}
use Rattle.httparse.specs.declared.spans.HeaderSpan.{HeaderSpan}
use Rattle.httparse.specs.declared.spans.RequestSpans.{RequestSpans}
use Rattle.httparse.specs.Spans.{IsRequestWithin, IsRequestOf, span_bytes, header_bytes}
use Rattle.kg_text.specs.Names.{is_token}
use Rattle.kg_wire.specs.declared.head.Head.{Head}
use Rattle.kg_wire.specs.declared.held.FillError.{FillError}
use Rattle.kg_wire.specs.declared.held.FillError.TheVariants.{Fault, NoMemory as OutOfMemory}
use Rattle.kg_wire.specs.declared.judge.Judged.{Judged}
use Rattle.kg_wire.specs.declared.judge.Judged.TheVariants.{Whole, Open, Never}
use Rattle.kg_wire.specs.declared.reader.ReadError.{ReadError}
use Rattle.kg_wire.specs.declared.reader.ReadError.TheVariants.{ReadFault, NoMemory}
use Rattle.kg_wire.specs.declared.reader.Start.{Start}
use Rattle.kg_wire.specs.Checks.{body_len}
use Rattle.kg_wire.specs.Messages.{most_head, most_body, header_of, head_of}
use Rattle.kg_wire.specs.Reading.{Grows, IsEnded}
use Rattle.kg_wire.specs.Refusals.{IsBad}

-- one read of n bytes, where 0 says that the source ended
pub record Fills (held_before held_now : List ℕ) (left_before left_now : Option (List ℕ)) (n : ℕ) : Type 0 where
  pub grows : Grows held_before held_now left_before left_now
  pub count : length held_now ≡ length held_before + n
  pub ended : n ≡ 0 → IsEnded left_now

-- reads on until the source ended, or at least one byte more is held
pub record FillsHead (held_before held_now : List ℕ) (left_before left_now : Option (List ℕ)) (has_ended : Bool) : Type 0 where
  pub grows : Grows held_before held_now left_before left_now
  pub ended : IsTrue has_ended → IsEnded left_now
  pub longer : has_ended ≡ false → length held_before < length held_now

-- what an error of a read is to the reader
abbrev pub error_of : FillError → ReadError
error_of Fault = ReadFault
error_of OutOfMemory = NoMemory

-- no whole head is held, and one may come
pub record IsOpen (held : List ℕ) : Type 0 where
  pub short : length held < most_head
  pub none : HasNoRequest held
  pub may : 0 < length held → MayBecomeRequest held

-- what the bytes held begin with, where the spans tell of a whole head
abbrev pub Judges : List ℕ → List HeaderSpan → Judged → Type 0
Judges held room (Whole spans) =
    (spans.len ≤ most_head) × IsRequestWithin held room spans × IsRequestOf held room spans
Judges held room Open = IsOpen held
Judges held room Never = IsBad held

-- the spans of a whole head, or the source ended where no message had begun
abbrev pub FindsHead : List ℕ → List ℕ → List HeaderSpan → Option (List ℕ) → Option (List ℕ) → Option RequestSpans → Type 0
FindsHead held_before held_now room left_before left_now (Some spans) =
    Judges held_now room (Whole spans) × Grows held_before held_now left_before left_now
FindsHead held_before held_now room left_before left_now None =
    (held_before ≡ []) × (held_now ≡ []) × (left_now ≡ left_before) × IsEnded left_now

-- the names of these fields are tokens
abbrev pub HaveTokens : List ℕ → List HeaderSpan → Type 0
HaveTokens held fields = All (λ field. IsTrue (is_token (span_bytes held field.name))) fields

-- the parts of the head that the spans tell of
abbrev pub head_at : List ℕ → List HeaderSpan → RequestSpans → Head
head_at held room spans = record {
  method = span_bytes held spans.method;
  target = span_bytes held spans.path;
  minor = spans.version;
  headers = map header_of (map (header_bytes held) (take spans.headers room));
}

-- the bytes held begin with a head that passes, whose parts and lengths these are
pub record IsStart (held : List ℕ) (start : Start) : Type 0 where
  pub spelt : RequestHead
  pub rest : List ℕ
  pub reads : ReadsRequest held spelt rest
  pub short : length (print_request spelt) ≤ most_head
  pub parts : start.head ≡ head_of spelt
  pub head_len : start.head_len ≡ length (print_request spelt)
  pub body : ℕ
  pub framed : body_len (head_of spelt) ≡ Some body
  pub short_body : body ≤ most_body
  pub message_len : start.message_len ≡ start.head_len + body

-- the start of the next message, or the source ended where none had begun
abbrev pub FindsStart : List ℕ → List ℕ → Option (List ℕ) → Option (List ℕ) → Option Start → Type 0
FindsStart held_before held_now left_before left_now (Some start) =
    IsStart held_now start × Grows held_before held_now left_before left_now
FindsStart held_before held_now left_before left_now None =
    (held_before ≡ []) × (held_now ≡ []) × (left_now ≡ left_before) × IsEnded left_now
