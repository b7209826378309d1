-- The bytes held as a part of a list.
use Rattle.std.proofs.Common.{◌≡◌, ℕ, ◌+◌, ◌-◌, ◌≤◌, List, length, take, drop, sym, ap, ◌∙◌, arith}
use Rattle.std.proofs.lemmas.List.{length-take-le, length-drop, drop-take, drop-drop}
use Rattle.std.specs.Prelude.{slice_range}

-- how many they are
held_length : (items : List ℕ) (start end : ℕ) → end ≤ length items → length (slice_range items start end) ≡ end - start
held_length items start end inside =
    length-take-le (end - start) (drop start items) (omega (arith, length-drop start items))

-- what is left of them without the first n
pub without_front : (items held : List ℕ) (start end n : ℕ) → end ≤ length items → held ≡ slice_range items start end → n ≤ length held
    → slice_range items (start + n) end ≡ drop n held
without_front items held start end n inside held_is within =
    let fits : n ≤ end - start = omega (arith, within, ap length held_is, held_length items start end inside) in
    let later = end - (start + n) in
    let split : end - start ≡ n + later = omega arith in
    sym (ap (drop n) held_is
    ∙ ap (λ k. drop n (take k (drop start items))) split
    ∙ drop-take n later (drop start items)
    ∙ ap (take later) (drop-drop n start items))
