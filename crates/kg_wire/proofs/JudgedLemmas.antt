-- What a judgement of the bytes at hand rests on.
use Rattle.std.proofs.Common.{ℕ, ◌<◌, ◌≤◌, inl, inr, List, [], ◌++◌, length, take, drop, ap, ◌∙◌, subst, arith}
use Rattle.std.proofs.lemmas.List.{length-append, length-take, take-append-drop}
use Rattle.httparse.specs.Grammar.{lf, print_end, RequestHead, print_request, ReadsRequest, HasNoRequest, NeverHasRequest, EndsInTarget}
use Rattle.httparse.specs.Spans.{RequestOverflows, RequestExceeds}
use Rattle.httparse.proofs.GrammarLemmas.{ReadsRequest-append}
use Rattle.kg_wire.specs.Messages.{most_head}
use Rattle.kg_wire.specs.Refusals.{IsBad}
use Rattle.kg_wire.proofs.JudgeLemmas.{head_long}
use Rattle.kg_wire.proofs.RefusalLemmas.{none_yet, none_in_front, none_shorter}

-- a head past its limit stands at the front
pub bad_when_over : (bytes : List ℕ) (h : RequestHead) (rest : List ℕ) → ReadsRequest bytes h rest
    → most_head < length (print_request h) → IsBad bytes
bad_when_over bytes h rest reads over = inr (inl (record {
  long = omega (arith, over, ap length reads.1, length-append (print_request h) rest);
  none = none_shorter most_head bytes h rest reads over;
}))

-- no head stands at the front of as many bytes as the longest has
pub bad_when_full : (bytes : List ℕ) → HasNoRequest bytes → most_head ≤ length bytes → IsBad bytes
bad_when_full bytes none full = inr (inl (record { long = full; none = none_in_front most_head bytes none }))

-- a whole head of these bytes, whatever follows them
on_front : (n : ℕ) (bytes : List ℕ) (h : RequestHead) (rest : List ℕ) → ReadsRequest (take n bytes) h rest
    → ReadsRequest (bytes ++ []) h ((rest ++ drop n bytes) ++ [])
on_front n bytes h rest reads =
    ReadsRequest-append bytes h (rest ++ drop n bytes) []
    (subst (λ text. ReadsRequest text h (rest ++ drop n bytes)) (take-append-drop n bytes)
    (ReadsRequest-append (take n bytes) h rest (drop n bytes) reads))

-- more fields are at hand than the longest head has, and each head of these bytes has as many
pub bad_when_crowded : (bytes : List ℕ) (room : ℕ) → 21845 ≤ room → RequestOverflows room bytes → RequestExceeds room bytes → IsBad bytes
bad_when_crowded bytes room wide crowded (front, rest, is, h, reads, many) = inr (inl (record {
  long =
      let text = head_long h reads.0 in
      let size = ap length reads.1 in
      let whole = ap length is in
      omega (arith, length-append front (print_end lf), length-append (print_request h) [], length-append front rest);
  none = λ k after found.
      let fields = crowded [] k _ (on_front most_head bytes k after found) in
      let text = head_long k found.0 in
      let size = ap length found.1 ∙ length-append (print_request k) after in
      omega (arith, length-take most_head bytes);
}))

-- no head can stand at the front, and what is there isn't an open target
pub bad_when_closed : (bytes : List ℕ) → 0 < length bytes → NeverHasRequest bytes → (EndsInTarget bytes → ⊥) → IsBad bytes
bad_when_closed bytes some never closed = inl (record { some = some; never = never; closed = closed })

-- no head can stand at the front of as many bytes as the longest has
pub bad_when_never : (bytes : List ℕ) → NeverHasRequest bytes → most_head ≤ length bytes → IsBad bytes
bad_when_never bytes never full = bad_when_full bytes (none_yet bytes never) full
