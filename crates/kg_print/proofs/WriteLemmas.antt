-- Writing a text in several parts.
use Rattle.std.proofs.Common.{◌≡◌, ℕ, ◌+◌, ◌-◌, ◌≤◌, List, ◌++◌, length, take, drop, Option, sym, ap, ◌∙◌, arith}
use Rattle.std.proofs.Math.Seq.{take-append-add}
use Rattle.std.proofs.lemmas.List.{length-drop, length-take-le, take-append-drop, drop-drop}
use Rattle.kg_outside.specs.Moves.{with_end}
use Rattle.kg_outside.proofs.Observed.{with_end-append}

-- a longer front is the front and then what follows it
take_further : (i n : ℕ) (bytes : List ℕ) → i ≤ length bytes → take (i + n) bytes ≡ take i bytes ++ take n (drop i bytes)
take_further i n bytes within =
    ap (take (i + n)) (sym (take-append-drop i bytes))
    ∙ ap (λ k. take (k + n) (take i bytes ++ drop i bytes)) (sym (length-take-le i bytes within))
    ∙ take-append-add (take i bytes) (drop i bytes) n

-- after a write of n bytes from the front of the rest, the rest and what was written still fit the text
pub writes_on : (bytes rest next : List ℕ) (n : ℕ) (start before now : Option (List ℕ))
    → rest ≡ drop (length bytes - length rest) bytes
    → before ≡ with_end start (take (length bytes - length rest) bytes)
    → n ≤ length rest → now ≡ with_end before (take n rest) → next ≡ drop n rest
    → (next ≡ drop (length bytes - length next) bytes)
    × (now ≡ with_end start (take (length bytes - length next) bytes))
writes_on bytes rest next n start before now rest_is before_is within now_is next_is =
    let at = length bytes - length rest in
    let rest_len : length rest ≡ length bytes - at = ap length rest_is ∙ length-drop at bytes in
    let next_len : length next ≡ length rest - n = ap length next_is ∙ length-drop n rest in
    let place : at + n ≡ length bytes - length next = omega arith in (
      next_is ∙ ap (drop n) rest_is ∙ drop-drop n at bytes ∙ ap (λ k. drop k bytes) place,
      now_is ∙ ap (λ written. with_end written (take n rest)) before_is
          ∙ sym (with_end-append start (take at bytes) (take n rest))
          ∙ ap (λ more. with_end start (take at bytes ++ take n more)) rest_is
          ∙ ap (with_end start) (sym (take_further at n bytes (omega arith)))
          ∙ ap (λ k. with_end start (take k bytes)) place,
    )
