-- What the digits of a stated length tell.
use Rattle.std.proofs.Common.{◌≡◌, ℕ, ◌<◌, ◌≤◌, ◌^◌, nat_lt, nat_le, Bool, true, false, ◌&&◌, List, [], ◌∷◌, length, get_or, Some, Ok, Err, refl, ap, subst, arith}
use Rattle.std.proofs.lemmas.Bool.Decides.{nat_tests}
use Rattle.std.proofs.lemmas.List.Sums.{AllPass-from_list_all}
use Rattle.std.proofs.lemmas.Str.Ascii.{IsAscii-from_all}
use Rattle.std.proofs.lemmas.Str.Parse.{numerals_by_value, tells_digits, digits_value_short, without_leading_plus_none}
use Rattle.std.specs.Prelude.{Result}
use Rattle.std.specs.List.{list_all}
use Rattle.std.specs.Str.{IsAscii}
use Rattle.std.specs.Char.{is_ascii_digit}
use Rattle.std.specs.Str.Parse.{AllDigits, IsNumeral, ParsesUnsigned, digits_value, without_leading_plus}
use Rattle.std.specs.Result.{OkIff, result_ok}
use Rattle.kg_wire.specs.Checks.{is_length, length_of}

pub both : (a b : Bool) → (a && b) ≡ true → (a ≡ true) × (b ≡ true)
both true true h = (refl, refl)
both true false h = cc
both false b h = cc

digit_is_ascii : (b : ℕ) → is_ascii_digit b ≡ true → b < 128
digit_is_ascii b passes = grind (arith, nat_tests)

-- digits are ASCII
pub is_length-IsAscii : (bs : List ℕ) → is_length bs ≡ true → IsAscii bs
is_length-IsAscii bs is =
    IsAscii-from_all bs (λ k d within. digit_is_ascii (get_or bs k d) (AllPass-from_list_all is_ascii_digit bs (both _ _ is).1 k d within))

all_digits : (bs : List ℕ) → list_all is_ascii_digit bs ≡ true → AllDigits 10 bs
all_digits [] all = tt
all_digits (b ∷ bs) all =
    let here : is_ascii_digit b ≡ true = (both _ _ all).0 in (grind (arith, nat_tests), all_digits bs (both _ _ all).1)

-- digits begin with no plus
without_plus : (bs : List ℕ) → list_all is_ascii_digit bs ≡ true → without_leading_plus bs ≡ bs
without_plus [] all = refl
without_plus (b ∷ bs) all =
    let here : is_ascii_digit b ≡ true = (both _ _ all).0 in
    without_leading_plus_none (b ∷ bs) (λ plus. grind (arith, nat_tests, plus))

-- 19 digits fit 64 bits
small : (bs : List ℕ) → list_all is_ascii_digit bs ≡ true → length bs ≤ 19 → digits_value 10 bs < 2 ^ 64
small bs all short =
    let below : digits_value 10 bs < 10 ^ 19 =
    digits_value_short (numerals_by_value (AllDigits 10) tells_digits) bs 19 (all_digits bs all) short in
    omega arith

-- what `parse` makes of 1 to 19 digits is the number that they give
pub length_parsed : {E : Type 0} (bs : List ℕ) (parsed : Result ℕ E) → is_length bs ≡ true → ParsesUnsigned 64 10 bs parsed
    → result_ok parsed ≡ length_of bs
length_parsed {E = E} bs parsed is says =
    rw is (at_result parsed (subst (λ ds. OkIff parsed (IsNumeral 10 ds × (digits_value 10 ds < 2 ^ 64)) (digits_value 10 ds)) (without_plus bs digits) says))
  where
    digits : list_all is_ascii_digit bs ≡ true
    digits = (both (nat_lt 0 (length bs) && nat_le (length bs) 19) (list_all is_ascii_digit bs) is).1

    sizes : (nat_lt 0 (length bs) && nat_le (length bs) 19) ≡ true
    sizes = (both (nat_lt 0 (length bs) && nat_le (length bs) 19) (list_all is_ascii_digit bs) is).0

    some : 0 < length bs
    some = let yes : nat_lt 0 (length bs) ≡ true = (both (nat_lt 0 (length bs)) (nat_le (length bs) 19) sizes).0 in grind (arith, nat_tests)

    short : length bs ≤ 19
    short = let yes : nat_le (length bs) 19 ≡ true = (both (nat_lt 0 (length bs)) (nat_le (length bs) 19) sizes).1 in grind (arith, nat_tests)

    at_result : (r : Result ℕ E) → OkIff r (IsNumeral 10 bs × (digits_value 10 bs < 2 ^ 64)) (digits_value 10 bs)
        → result_ok r ≡ Some (digits_value 10 bs)
    at_result (Ok x) h = ap Some h.1
    at_result (Err e) h = absurd (h ((some, all_digits bs digits), small bs digits short))
