-- Two texts of one length compared byte by byte, with what differs gathered bit by bit.
use Rattle.std.proofs.Common.{◌≡◌, ℕ, ◌+◌, ◌%◌, ◌<◌, ◌&&◌, max, Bool, List, ◌∷◌, length, drop, get_or, nat_eq, true, false, refl, sym, ap, ◌∙◌, arith}
use Rattle.std.specs.Cmp.{both_ways}
use Rattle.std.specs.Int.{bit_at}
use Rattle.std.specs.Int.Bits.{bit_or, bit_xor, or_zero_l, xor_self}
use Rattle.std.specs.Str.{bytes_eq}
use Rattle.std.proofs.lemmas.Bool.{and_from, and_parts, eq-eqb, eqb-true}
use Rattle.std.proofs.lemmas.List.{drop_more}
use Rattle.std.proofs.lemmas.Nat.Bits.{bit_at-lt, bit_at-zero, bit_at_or, bit_at_xor, same_from_bits}

-- ---- numbers by their bits

zero_bit : (n i : ℕ) → n ≡ 0 → bit_at n i ≡ 0
zero_bit n i is = ap (λ m. bit_at m i) is ∙ bit_at-zero i

zero_of_bits : (n : ℕ) → ((i : ℕ) → bit_at n i ≡ 0) → n ≡ 0
zero_of_bits n bits = same_from_bits n 0 (λ i. bits i ∙ sym (bit_at-zero i))

module _ (a b : ℕ) where
  largest_bit : bit_or a b ≡ 0 → (i : ℕ) → max (bit_at a i) (bit_at b i) ≡ 0
  largest_bit none i = sym (bit_at_or a b i) ∙ zero_bit (bit_or a b) i none

  left_of_or : bit_or a b ≡ 0 → a ≡ 0
  left_of_or none = zero_of_bits a (λ i. omega (arith, largest_bit none i))

  right_of_or : bit_or a b ≡ 0 → b ≡ 0
  right_of_or none = zero_of_bits b (λ i. omega (arith, largest_bit none i))

  odd_bits : bit_xor a b ≡ 0 → (i : ℕ) → (bit_at a i + bit_at b i) % 2 ≡ 0
  odd_bits none i = sym (bit_at_xor a b i) ∙ zero_bit (bit_xor a b) i none

  same_of_xor : bit_xor a b ≡ 0 → a ≡ b
  same_of_xor none = same_from_bits a b (λ i. omega (arith, odd_bits none i, bit_at-lt a i, bit_at-lt b i))

-- ---- what differs

-- nothing differed so far, and nothing does at these bytes
module _ (difference a b : ℕ) where
  abbrev with_these : ℕ
  with_these = bit_or difference (bit_xor a b)

  none_differ : nat_eq with_these 0 ≡ true → (nat_eq difference 0 && nat_eq a b) ≡ true
  none_differ is =
      let none = eqb-true with_these 0 is in
      let same = same_of_xor a b (right_of_or difference (bit_xor a b) none) in
      and_from (nat_eq difference 0) (nat_eq a b)
      (eq-eqb difference 0 (left_of_or difference (bit_xor a b) none))
      (eq-eqb a b same)

  none_gathered : (nat_eq difference 0 && nat_eq a b) ≡ true → nat_eq with_these 0 ≡ true
  none_gathered is =
      let (so_far, same) = and_parts (nat_eq difference 0) (nat_eq a b) is in
      eq-eqb with_these 0 (
      ap (λ d. bit_or d (bit_xor a b)) (eqb-true difference 0 so_far)
      ∙ or_zero_l (bit_xor a b)
      ∙ ap (λ n. bit_xor n b) (eqb-true a b same)
      ∙ xor_self b)

  gathered : nat_eq with_these 0 ≡ (nat_eq difference 0 && nat_eq a b)
  gathered = both_ways (nat_eq with_these 0) (nat_eq difference 0 && nat_eq a b) none_differ none_gathered

-- ---- texts

and_assoc : (a b c : Bool) → (a && (b && c)) ≡ ((a && b) && c)
and_assoc true b c = refl
and_assoc false b c = refl

-- one byte of each more, and then the rest
pub further : (xs ys : List ℕ) (i difference : ℕ) → i < length xs → i < length ys
    → bytes_eq xs ys ≡ (nat_eq difference 0 && bytes_eq (drop i xs) (drop i ys))
    → bytes_eq xs ys ≡ (nat_eq (bit_or difference (bit_xor (get_or xs i 0) (get_or ys i 0))) 0 && bytes_eq (drop (i + 1) xs) (drop (i + 1) ys))
further xs ys i difference in_xs in_ys so_far =
    let x = get_or xs i 0 in
    let y = get_or ys i 0 in
    let none = nat_eq difference 0 in
    let rest = bytes_eq (drop (i + 1) xs) (drop (i + 1) ys) in
    so_far
    ∙ ap (λ l. none && bytes_eq l (drop i ys)) (drop_more xs i 0 in_xs)
    ∙ ap (λ l. none && bytes_eq (x ∷ drop (i + 1) xs) l) (drop_more ys i 0 in_ys)
    ∙ and_assoc none (nat_eq x y) rest
    ∙ ap (λ t. t && rest) (sym (gathered difference x y))
