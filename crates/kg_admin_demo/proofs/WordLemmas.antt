-- What the words of the program set.
use Rattle.std.proofs.Common.{◌≡◌, ℕ, ◌<◌, ◌≤◌, ◌^◌, ◌-◌, ◌==◌, nat_le, nat_lt, Bool, true, false, ◌&&◌, List, [], ◌∷◌, length, get_or, take, drop, cond, Some, None, Result, Ok, Err, refl, sym, ap, ◌∙◌, subst, arith}
use Rattle.std.proofs.lemmas.Bool.Decides.{nat_tests}
use Rattle.std.specs.List.{list_all}
use Rattle.std.specs.Char.{is_ascii_digit}
use Rattle.std.specs.Str.Parse.{AllDigits, IsNumeral, ParsesUnsigned, digits_value, without_leading_plus}
use Rattle.std.specs.Result.{OkIff, result_ok}
use Rattle.std.specs.Option.{option_and_then}
use Rattle.kg_admin_demo.specs.Words.{is_number, number_of, with_option, with_words}
use Rattle.kg_admin_demo.specs.declared.options.Options.{Options}

both : (a b : Bool) → (a && b) ≡ true → (a ≡ true) × (b ≡ true)
both true true h = (refl, refl)
both true false h = cc
both false b h = cc

-- a number has digits alone, and one at least
number_digits : (bs : List ℕ) → is_number bs ≡ true → (0 < length bs) × (list_all is_ascii_digit bs ≡ true)
number_digits bs is =
    let front : (nat_lt 0 (length bs) && list_all is_ascii_digit bs) ≡ true = (both _ _ is).0 in
    let some : nat_lt 0 (length bs) ≡ true = (both _ _ front).0 in
    (grind (arith, nat_tests), (both _ _ front).1)

all_digits : (bs : List ℕ) → list_all is_ascii_digit bs ≡ true → AllDigits 10 bs
all_digits [] all = tt
all_digits (b ∷ bs) all =
    let here : is_ascii_digit b ≡ true = (both _ _ all).0 in (grind (arith, nat_tests), all_digits bs (both _ _ all).1)

-- digits begin with no plus
without_plus : (bs : List ℕ) → list_all is_ascii_digit bs ≡ true → without_leading_plus bs ≡ bs
without_plus [] digits = refl
without_plus (b ∷ bs) digits =
    let first : is_ascii_digit b ≡ true = (both _ _ digits).0 in
    let no_plus : (b == 43) ≡ false = grind (arith, nat_tests) in
    ap (λ plus. drop (cond plus 1 0) (b ∷ bs)) no_plus

fits : (bs : List ℕ) (x : ℕ) → is_number bs ≡ true → digits_value 10 bs < 2 ^ 64 → x ≡ digits_value 10 bs → Some x ≡ number_of (2 ^ 64 - 1) bs
fits bs x is small value = let within : nat_le (digits_value 10 bs) (2 ^ 64 - 1) ≡ true = grind (arith, nat_tests) in rw (is, within) (ap Some value)

too_large : (bs : List ℕ) → is_number bs ≡ true → ¬ (digits_value 10 bs < 2 ^ 64) → None ≡ number_of (2 ^ 64 - 1) bs
too_large bs is large = let beyond : nat_le (digits_value 10 bs) (2 ^ 64 - 1) ≡ false = grind (arith, nat_tests, large) in rw (is, beyond) refl

-- what `parse` makes of a number is the number
pub number_parsed : {E : Type 0} (bs : List ℕ) (parsed : Result ℕ E) → is_number bs ≡ true → ParsesUnsigned 64 10 bs parsed
    → result_ok parsed ≡ number_of (2 ^ 64 - 1) bs
number_parsed {E = E} bs parsed is says =
    at_result parsed (subst (λ ds. OkIff parsed (IsNumeral 10 ds × (digits_value 10 ds < 2 ^ 64)) (digits_value 10 ds)) (without_plus bs digits.1) says)
  where
    digits : (0 < length bs) × (list_all is_ascii_digit bs ≡ true)
    digits = number_digits bs is

    at_result : (r : Result ℕ E) → OkIff r (IsNumeral 10 bs × (digits_value 10 bs < 2 ^ 64)) (digits_value 10 bs) → result_ok r ≡ number_of (2 ^ 64 - 1) bs
    at_result (Ok x) h = fits bs x is h.0.1 h.1
    at_result (Err e) h = too_large bs is (λ small. h ((digits.0, all_digits bs digits.1), small))

-- ---- options

take_whole : {X : Type 0} (xs : List X) → take (length xs) xs ≡ xs
take_whole [] = refl
take_whole (x ∷ xs) = ap (λ rest. x ∷ rest) (take_whole xs)

-- a name and its value were set, and what is behind them comes next
pub words_on : (words : List (List ℕ)) (name value : List ℕ) (options next : Options) → 2 ≤ length words → name ≡ get_or words 0 name
    → value ≡ get_or words 1 value → with_option options name value ≡ Some next
    → with_words next (take (length words - 2) (drop 2 words)) ≡ with_words options words
words_on [] name value options next long is_name is_value set = absurd (omega arith)
words_on (first ∷ []) name value options next long is_name is_value set = absurd (omega arith)
words_on (first ∷ second ∷ more) name value options next long is_name is_value set =
    let size : length (first ∷ second ∷ more) - 2 ≡ length more = omega arith in
    ap (λ n. with_words next (take n more)) size
    ∙ ap (with_words next) (take_whole more)
    ∙ ap (option_and_then (λ o. with_words o more))
    (sym set ∙ ap (λ text. with_option options text value) is_name ∙ ap (with_option options first) is_value)
