-- Parts of texts: the first place, ASCII, decimal digits, and templates.
use Rattle.std.proofs.Common.{◌≡◌, ℕ, suc, ◌+◌, ◌<◌, ◌^◌, ◌==◌, nat_lt, nat_le, if◌then◌else◌, Bool, true, false, not, ◌&&◌, ◌||◌, cond, List, [], ◌∷◌, length, get_or, drop, map, Some, None, unwrap_or, Result, Ok, Err, Bor, slice_index, refl, ap, subst, arith}
use Rattle.std.proofs.lemmas.Bool.Decides.{nat_tests}
use Rattle.std.proofs.lemmas.List.{drop-drop}
use Rattle.std.proofs.lemmas.List.Sums.{AllPass-from_list_all, prefix_len-le-length}
use Rattle.std.proofs.lemmas.Str.Ascii.{IsAscii-from_all}
use Rattle.std.specs.List.{list_all, list_any, position, position_or_len}
use Rattle.std.specs.Str.{IsAscii, bytes_eq}
use Rattle.std.specs.Char.{is_ascii_digit, is_ascii_graphic}
use Rattle.std.specs.Str.Parse.{AllDigits, IsNumeral, ParsesUnsigned, digits_value, without_leading_plus}
use Rattle.std.specs.Result.{OkIff, result_ok}
use Rattle.kg_text.specs.Paths.{is_path, is_path_byte, normal_escapes, normal_form, path_len, without_dots}
use Rattle.kg_text.specs.SameBytes.{same_bytes}
use Rattle.kg_row_types.specs.ConfigTexts.{has_template}
use Rattle.kg_row_types.specs.TextForms.{is_normal_path}
use Rattle.kg_field_rules.specs.Urls.{from_first, only_if}

-- ---- truth values

pub both : (a b : Bool) → (a && b) ≡ true → (a ≡ true) × (b ≡ true)
both true true h = (refl, refl)
both true false h = cc
both false b h = cc

-- ---- the first place

pub position_or_end : (test : ℕ → Bool) (xs : List ℕ) → unwrap_or (position test xs) (length xs) ≡ position_or_len test xs
position_or_end test xs =
    at_end (nat_lt (position_or_len test xs) (length xs)) refl
  where
    at_end : (b : Bool) → nat_lt (position_or_len test xs) (length xs) ≡ b → unwrap_or (cond b (Some (position_or_len test xs)) None) (length xs) ≡ position_or_len test xs
    at_end true within = refl
    at_end false within = let bound = prefix_len-le-length (λ x. not (test x)) xs in grind (arith, nat_tests)

one_more : (n : ℕ) → 1 + n ≡ suc n
one_more n = omega arith

some_left : (n : ℕ) → (suc n == 0) ≡ false
some_left n = grind (arith, nat_tests)

-- nothing stands from the first such byte on exactly where there is none
pub from_first-empty : (test : ℕ → Bool) (xs : List ℕ) → (length (from_first test xs) == 0) ≡ not (list_any test xs)
from_first-empty test [] = refl
from_first-empty test (x ∷ xs) = at_first (test x) (from_first-empty test xs)
  where
    at_first : (b : Bool) → (length (from_first test xs) == 0) ≡ not (list_any test xs)
        → (length (drop (cond (not b) (1 + position_or_len test xs) 0) (x ∷ xs)) == 0) ≡ not (b || list_any test xs)
    at_first true later = some_left (length xs)
    at_first false later = rw (one_more (position_or_len test xs)) later

-- what stands behind the first such byte
pub behind_first : (test : ℕ → Bool) (xs : List ℕ) → drop 1 (from_first test xs) ≡ drop (position_or_len test xs + 1) xs
behind_first test xs = drop-drop 1 (position_or_len test xs) xs

-- a template begins at the first byte, or behind it
pub template_at : (xs : List ℕ) → 0 < length xs
    → has_template xs ≡ ((slice_index xs 0 == 0x24 && slice_index (drop 1 xs) 0 == 0x28) || has_template (drop 1 xs))
template_at [] some = grind (arith, some)
template_at (x ∷ xs) some = refl

-- ---- ASCII

all-IsAscii : (test : ℕ → Bool) → ((b : ℕ) → test b ≡ true → b < 128) → (bs : List ℕ) → list_all test bs ≡ true → IsAscii bs
all-IsAscii test small bs all = IsAscii-from_all bs (λ k d within. small (get_or bs k d) (AllPass-from_list_all test bs all k d within))

digit_is_ascii : (b : ℕ) → is_ascii_digit b ≡ true → b < 128
digit_is_ascii b passes = grind (arith, nat_tests)

pub digits-IsAscii : (bs : List ℕ) → list_all is_ascii_digit bs ≡ true → IsAscii bs
digits-IsAscii bs digits = all-IsAscii is_ascii_digit digit_is_ascii bs digits

path_byte_is_ascii : (b : ℕ) → is_path_byte b ≡ true → b < 128
path_byte_is_ascii b passes = let graphic : is_ascii_graphic b ≡ true = (both _ _ passes).0 in grind (arith, nat_tests)

-- a path in its own normal form
pub normal-IsAscii : (path : List ℕ) → normal_form path ≡ Ok path → IsAscii path
unfolding normal_form
normal-IsAscii path normal = at_path (is_path path) refl normal
  where
    at_path : (b : Bool) → is_path path ≡ b → (if b then Ok (without_dots (normal_escapes path)) else Err (path_len path)) ≡ Ok path → IsAscii path
    at_path true path_is h = all-IsAscii is_path_byte path_byte_is_ascii path (both _ _ path_is).1
    at_path false path_is h = cc

-- ---- numbers

all_digits : (bs : List ℕ) → list_all is_ascii_digit bs ≡ true → AllDigits 10 bs
all_digits [] all = tt
all_digits (b ∷ bs) all =
    let here : is_ascii_digit b ≡ true = (both _ _ all).0 in (grind (arith, nat_tests), all_digits bs (both _ _ all).1)

-- digits begin with no plus
without_plus : (bs : List ℕ) → list_all is_ascii_digit bs ≡ true → without_leading_plus bs ≡ bs
without_plus [] digits = refl
without_plus (b ∷ bs) digits =
    let first : is_ascii_digit b ≡ true = (both _ _ digits).0 in
    let no_plus : (b == 43) ≡ false = grind (arith, nat_tests) in
    ap (λ plus. drop (cond plus 1 0) (b ∷ bs)) no_plus

small_enough : (n x : ℕ) → n < 2 ^ 16 → x ≡ n → Some x ≡ only_if (λ port. nat_le port 65535) n
small_enough n x small is = let within : nat_le n 65535 ≡ true = grind (arith, nat_tests) in rw within (ap Some is)

too_large : (n : ℕ) → ¬ (n < 2 ^ 16) → None ≡ only_if (λ port. nat_le port 65535) n
too_large n large = let beyond : nat_le n 65535 ≡ false = grind (arith, nat_tests, large) in rw beyond refl

-- what `parse` makes of digits is the number that they tell
pub number_parsed : {E : Type 0} (bs : List ℕ) (parsed : Result ℕ E) → 0 < length bs → list_all is_ascii_digit bs ≡ true → ParsesUnsigned 16 10 bs parsed
    → result_ok parsed ≡ only_if (λ n. nat_le n 65535) (digits_value 10 bs)
number_parsed {E = E} bs parsed some digits says =
    at_result parsed (subst (λ ds. OkIff parsed (IsNumeral 10 ds × (digits_value 10 ds < 2 ^ 16)) (digits_value 10 ds)) (without_plus bs digits) says)
  where
    at_result : (r : Result ℕ E) → OkIff r (IsNumeral 10 bs × (digits_value 10 bs < 2 ^ 16)) (digits_value 10 bs)
        → result_ok r ≡ only_if (λ n. nat_le n 65535) (digits_value 10 bs)
    at_result (Ok x) h = small_enough (digits_value 10 bs) x h.0.1 h.1
    at_result (Err e) h = too_large (digits_value 10 bs) (λ small. h ((some, all_digits bs digits), small))

-- ---- tests behind a borrow

pub list_all-now : {A : Type 0} (test : A → Bool) (xs : List (Bor A)) → list_all (λ x. test x.now) xs ≡ list_all test (map (λ x. x.now) xs)
list_all-now test [] = refl
list_all-now test (x ∷ xs) = ap (λ b. test x.now && b) (list_all-now test xs)

pub length-now : {A : Type 0} (xs : List (Bor A)) → length xs ≡ length (map (λ x. x.now) xs)
length-now [] = refl
length-now (x ∷ xs) = ap suc (length-now xs)

-- ---- paths

abbrev reads_as : List ℕ → Result (List ℕ) ℕ → Bool
reads_as path (Ok normal) = bytes_eq normal path
reads_as path (Err at) = false

is_itself : (path : List ℕ) (read : Result (List ℕ) ℕ) → reads_as path read ≡ true → read ≡ Ok path
is_itself path (Ok normal) same = ap Ok (same_bytes normal path same)
is_itself path (Err at) same = cc

-- a path in its own normal form is ASCII
pub normal_path-IsAscii : (path : List ℕ) → is_normal_path path ≡ true → IsAscii path
normal_path-IsAscii path normal = normal-IsAscii path (is_itself path (normal_form path) normal)
