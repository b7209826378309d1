-- Values without blanks at their ends.
use Rattle.std.proofs.Common.{◌≡◌, ℕ, ◌<◌, ◌≤◌, ◌^◌, Bool, true, false, not, ◌&&◌, List, [], ◌∷◌, ◌++◌, length, reverse, get_or, refl, sym, ap, ◌∙◌, subst, arith}
use Rattle.std.specs.Prelude.{All, IsTrue, decimal, codes, slice_index}
use Rattle.std.specs.Net.Text.{ipv4_text}
use Rattle.std.proofs.lemmas.Bool.Decides.{nat_tests}
use Rattle.std.proofs.lemmas.Fmt.{decimal_nonempty, decimal_is_IsNumeral}
use Rattle.std.proofs.lemmas.Str.Parse.{digit_at}
use Rattle.std.proofs.lemmas.List.{append-nil, length-append, length-reverse, reverse-reverse}
use Rattle.std.proofs.lemmas.List.Elements.{All-nil, All-cons, All-head, All-append, All-get_or, All-from_get_or, All-weaker}
use Rattle.httparse.specs.Grammar.{AllPass, is_ows, is_value_byte, skip_ows, trim_ows}
use Rattle.httparse.proofs.TrimLemmas.{AllPass-reverse}
use Rattle.kg_wire.specs.ValidParts.{IsValue, IsAddress}

-- a byte of a value that is no blank
abbrev pub is_dense : ℕ → Bool
is_dense b = is_value_byte b && not (is_ows b)

-- skipping makes nothing longer
pub skip_short : (v : List ℕ) → length (skip_ows v) ≤ length v
skip_short [] = omega arith
skip_short (b ∷ bs) = by_test (skip_short bs) (is_ows b) refl
  where
    by_test : length (skip_ows bs) ≤ length bs → (t : Bool) → is_ows b ≡ t
        → length (skip_ows (b ∷ bs)) ≤ length (b ∷ bs)
    by_test later true blank = rw blank (omega arith)
    by_test later false other = rw other (omega arith)

-- where as much is left as there was, nothing was skipped
skip_same : (v : List ℕ) → length v ≤ length (skip_ows v) → skip_ows v ≡ v
skip_same [] as_long = refl
skip_same (b ∷ bs) as_long = by_test (is_ows b) refl
  where
    by_test : (t : Bool) → is_ows b ≡ t → skip_ows (b ∷ bs) ≡ b ∷ bs
    by_test true blank =
        let kept : length (b ∷ bs) ≤ length (skip_ows bs) = rw blank at as_long in
        absurd (omega (arith, skip_short bs))
    by_test false other = rw other refl

-- a trimmed value has no blank at its front, and none at its end
pub ends_of : (v : List ℕ) → trim_ows v ≡ v → (skip_ows v ≡ v) × (skip_ows (reverse v) ≡ reverse v)
unfolding trim_ows
ends_of v trimmed = (front, skip_same (reverse v) (omega (arith, back_len, length-reverse v)))
  where
    whole : length (reverse (skip_ows (reverse (skip_ows v)))) ≡ length v
    whole = ap length trimmed

    front : skip_ows v ≡ v
    front = skip_same v (omega (
      arith,
      whole,
      length-reverse (skip_ows (reverse (skip_ows v))),
      skip_short (reverse (skip_ows v)),
      length-reverse (skip_ows v),
    ))

    back_len : length (skip_ows (reverse v)) ≡ length v
    back_len = ap (λ w. length (skip_ows (reverse w))) (sym front)
        ∙ sym (length-reverse (skip_ows (reverse (skip_ows v)))) ∙ whole

-- a value without blanks at its ends is trimmed
pub trimmed_from : (v : List ℕ) → skip_ows v ≡ v → skip_ows (reverse v) ≡ reverse v → trim_ows v ≡ v
unfolding trim_ows
trimmed_from v front back = rw (front, back, reverse-reverse) refl

-- nothing is skipped before a byte that is no blank
pub skip_none : (b : ℕ) (bytes : List ℕ) → is_ows b ≡ false → skip_ows (b ∷ bytes) ≡ b ∷ bytes
skip_none b bytes other = rw other refl

-- nor before bytes that are none
pub skip_dense : (xs rest : List ℕ) → 0 < length xs → AllPass is_dense xs → skip_ows (xs ++ rest) ≡ xs ++ rest
skip_dense [] rest some dense = absurd (omega arith)
skip_dense (b ∷ bs) rest some dense =
    let here : is_dense b ≡ true = All-head (λ x. IsTrue (is_dense x)) b bs dense in
    skip_none b (bs ++ rest) (no_blank b here)
  where
    no_blank : (b : ℕ) → is_dense b ≡ true → is_ows b ≡ false
    no_blank b dense = grind (arith, nat_tests)

dense_byte : (b : ℕ) → is_dense b ≡ true → is_value_byte b ≡ true
dense_byte b dense = grind (arith, nat_tests)

-- bytes that are no blanks are a value
pub dense_value : (v : List ℕ) → 0 < length v → AllPass is_dense v → IsValue v
dense_value v some dense = record {
  bytes = All-weaker (λ b. IsTrue (is_dense b)) (λ b. IsTrue (is_value_byte b)) dense_byte v dense;
  trimmed = trimmed_from v (at_front v some dense)
      (at_front (reverse v) (omega (arith, length-reverse v)) (AllPass-reverse is_dense v dense));
}
  where
    at_front : (w : List ℕ) → 0 < length w → AllPass is_dense w → skip_ows w ≡ w
    at_front [] none pass = refl
    at_front (b ∷ bs) has pass = subst (λ bytes. skip_ows bytes ≡ bytes) (append-nil (b ∷ bs)) (skip_dense (b ∷ bs) [] has pass)

digit_is_dense : (b : ℕ) → 48 ≤ b → b ≤ 57 → is_dense b ≡ true
digit_is_dense b low high = grind (arith, nat_tests)

-- a number in decimal
pub decimal_dense : (n : ℕ) → n < 2 ^ 64 → AllPass is_dense (decimal n)
decimal_dense n small =
    All-from_get_or (λ b. IsTrue (is_dense b)) (decimal n) 0 (λ i within.
    let digit = digit_at (decimal n) i (decimal_is_IsNumeral n small).0.1 within in
    digit_is_dense (get_or (decimal n) i 0) digit.0 digit.1)

-- an address in dotted decimal
pub address_dense : (octets : List ℕ) → IsAddress octets → AllPass is_dense (ipv4_text octets)
address_dense octets is =
    let D = λ (b : ℕ). IsTrue (is_dense b) in
    let dot : All D (codes ".") = All-cons D 46 [] refl (All-nil D) in
    let octet : (i : ℕ) → i < 4 → AllPass is_dense (decimal (slice_index octets i)) =
    λ i within. decimal_dense (slice_index octets i) (below i within) in
    All-append D _ _ (All-append D _ _ (All-append D _ _ (All-append D _ _ (All-append D _ _ (All-append D _ _
    (octet 0 (omega arith)) dot) (octet 1 (omega arith))) dot) (octet 2 (omega arith))) dot) (octet 3 (omega arith))
  where
    below : (i : ℕ) → i < 4 → slice_index octets i < 2 ^ 64
    below i within =
        let small : get_or octets i 0 < 256 = All-get_or (λ octet. octet < 256) octets i 0 (omega (arith, is.four)) is.each in
        omega arith

-- bytes in front are bytes
some_front : (xs ys : List ℕ) → 0 < length xs → 0 < length (xs ++ ys)
some_front xs ys some = omega (arith, length-append xs ys)

pub address_some : (octets : List ℕ) → IsAddress octets → 0 < length (ipv4_text octets)
address_some octets is =
    let octet : slice_index octets 0 < 256 = All-get_or (λ octet. octet < 256) octets 0 0 (omega (arith, is.four)) is.each in
    let first : 0 < length (decimal (slice_index octets 0)) = decimal_nonempty (slice_index octets 0) (omega arith) in
    some_front _ _ (some_front _ _ (some_front _ _ (some_front _ _ (some_front _ _ (some_front _ _ first)))))
