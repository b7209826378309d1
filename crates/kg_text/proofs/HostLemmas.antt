-- The last colon with only digits behind it, found from the end of the value.
use Rattle.std.proofs.Common.{◌≡◌, ◌≢◌, ℕ, suc, ◌+◌, ◌-◌, ◌<◌, Bool, true, false, not, ◌&&◌, ◌||◌, cond, eqb, ltb, List, [], ◌∷◌, ◌++◌, length, reverse, take, get_or, refl, sym, ap, ◌∙◌, subst, arith, inl, inr, true≢false}
use Rattle.std.specs.Char.{is_ascii_digit}
use Rattle.std.specs.List.{list_any, list_all, prefix_len, suffix_len, position_or_len, before_first}
use Rattle.std.proofs.Math.Bool.{and-false}
use Rattle.std.proofs.lemmas.Bool.{cases_Bool, cond-true, cond-false, eqb-true, ltb-true, lt-ltb, and_parts}
use Rattle.std.proofs.lemmas.Bool.Decides.{nat_tests}
use Rattle.std.proofs.lemmas.List.{reverse-append, length-reverse, get_or-reverse}
use Rattle.std.proofs.lemmas.List.Folds.{list_any-append, list_all-append}
use Rattle.kg_text.specs.Hosts.{colon, is_colon, behind_last, host_part}

-- a colon stands right behind the digits at the front
abbrev colon_behind : List ℕ → Bool
colon_behind bytes = ltb (prefix_len is_ascii_digit bytes) (length bytes) && eqb (get_or bytes (prefix_len is_ascii_digit bytes) 0) colon

-- there is a colon, and only digits before the first
abbrev digits_before : List ℕ → Bool
digits_before bytes = list_any is_colon bytes && list_all is_ascii_digit (before_first is_colon bytes)

-- both, where the first byte is known
abbrev behind_if : Bool → ℕ → List ℕ → Bool
behind_if digit b rest =
    ltb (cond digit (1 + prefix_len is_ascii_digit rest) 0) (length (b ∷ rest))
    && eqb (get_or (b ∷ rest) (cond digit (1 + prefix_len is_ascii_digit rest) 0) 0) colon

abbrev before_if : Bool → ℕ → List ℕ → Bool
before_if found b rest =
    (found || list_any is_colon rest)
    && list_all is_ascii_digit (take (cond (not found) (1 + position_or_len is_colon rest) 0) (b ∷ rest))

one_on : (n : ℕ) → 1 + n ≡ suc n
one_on n = omega arith

next_less : (n m : ℕ) → ltb (suc n) (suc m) ≡ ltb n m
next_less n m = grind (arith, nat_tests)

behind_digit : (b : ℕ) (rest : List ℕ) → is_ascii_digit b ≡ true → colon_behind (b ∷ rest) ≡ colon_behind rest
behind_digit b rest digit =
    let known : colon_behind (b ∷ rest) ≡ behind_if true b rest = ap (λ t. behind_if t b rest) digit in
    let counted : behind_if true b rest
    ≡ (ltb (suc (prefix_len is_ascii_digit rest)) (suc (length rest)) && eqb (get_or rest (prefix_len is_ascii_digit rest) 0) colon) =
    ap (λ k. ltb k (length (b ∷ rest)) && eqb (get_or (b ∷ rest) k 0) colon) (one_on (prefix_len is_ascii_digit rest)) in
    let less : (ltb (suc (prefix_len is_ascii_digit rest)) (suc (length rest)) && eqb (get_or rest (prefix_len is_ascii_digit rest) 0) colon)
    ≡ colon_behind rest =
    ap (λ t. t && eqb (get_or rest (prefix_len is_ascii_digit rest) 0) colon) (next_less (prefix_len is_ascii_digit rest) (length rest)) in
    known ∙ counted ∙ less

behind_other : (b : ℕ) (rest : List ℕ) → is_ascii_digit b ≡ false → eqb b colon ≡ false → colon_behind (b ∷ rest) ≡ false
behind_other b rest digit other =
    ap (λ t. behind_if t b rest) digit ∙ ap (λ t. ltb 0 (length (b ∷ rest)) && t) other ∙ and-false (ltb 0 (length (b ∷ rest)))

before_known : (b : ℕ) (rest : List ℕ) (digit : Bool) → is_ascii_digit b ≡ digit → eqb b colon ≡ false
    → digits_before (b ∷ rest) ≡ (list_any is_colon rest && (digit && list_all is_ascii_digit (before_first is_colon rest)))
before_known b rest digit same other =
    let known : digits_before (b ∷ rest) ≡ before_if false b rest = ap (λ t. before_if t b rest) other in
    let counted : before_if false b rest
    ≡ (list_any is_colon rest && (is_ascii_digit b && list_all is_ascii_digit (before_first is_colon rest))) =
    ap (λ k. list_any is_colon rest && list_all is_ascii_digit (take k (b ∷ rest))) (one_on (position_or_len is_colon rest)) in
    let tested : (list_any is_colon rest && (is_ascii_digit b && list_all is_ascii_digit (before_first is_colon rest)))
    ≡ (list_any is_colon rest && (digit && list_all is_ascii_digit (before_first is_colon rest))) =
    ap (λ t. list_any is_colon rest && (t && list_all is_ascii_digit (before_first is_colon rest))) same in
    known ∙ counted ∙ tested

before_digit : (b : ℕ) (rest : List ℕ) → is_ascii_digit b ≡ true → eqb b colon ≡ false → digits_before (b ∷ rest) ≡ digits_before rest
before_digit b rest digit other = before_known b rest true digit other

before_other : (b : ℕ) (rest : List ℕ) → is_ascii_digit b ≡ false → eqb b colon ≡ false → digits_before (b ∷ rest) ≡ false
before_other b rest digit other = before_known b rest false digit other ∙ and-false (list_any is_colon rest)

found_first : (rest : List ℕ) → colon_behind (colon ∷ rest) ≡ digits_before (colon ∷ rest)
found_first rest = ap (λ t. t && true) (lt-ltb 0 (length (colon ∷ rest)) (omega arith))

same_test : (bytes : List ℕ) → colon_behind bytes ≡ digits_before bytes
same_test [] = refl
same_test (b ∷ rest) =
    elim (cases_Bool (eqb b colon)) [
      | inl found ↦ subst (λ x. colon_behind (x ∷ rest) ≡ digits_before (x ∷ rest)) (sym (eqb-true b colon found)) (found_first rest)
      | inr other ↦
          elim (cases_Bool (is_ascii_digit b)) [
            | inl digit ↦ behind_digit b rest digit ∙ same_test rest ∙ sym (before_digit b rest digit other)
            | inr none ↦ behind_other b rest none other ∙ sym (before_other b rest none other)
          ]
    ]

-- the digits before the first colon are all digits at the front
same_place : (bytes : List ℕ) → digits_before bytes ≡ true → prefix_len is_ascii_digit bytes ≡ position_or_len is_colon bytes
same_place [] tested = refl
same_place (b ∷ rest) tested =
    elim (cases_Bool (eqb b colon)) [
      | inl found ↦ subst (λ x. prefix_len is_ascii_digit (x ∷ rest) ≡ position_or_len is_colon (x ∷ rest)) (sym (eqb-true b colon found)) refl
      | inr other ↦
          elim (cases_Bool (is_ascii_digit b)) [
            | inl digit ↦
                ap (λ t. cond t (1 + prefix_len is_ascii_digit rest) 0) digit
                ∙ ap (λ n. 1 + n) (same_place rest (sym (before_digit b rest digit other) ∙ tested))
                ∙ sym (ap (λ t. cond (not t) (1 + position_or_len is_colon rest) 0) other)
            | inr none ↦ absurd (true≢false (sym tested ∙ before_other b rest none other))
          ]
    ]

any_last : (p : ℕ → Bool) (b : ℕ) (others : Bool) → (others || (p b || false)) ≡ (p b || others)
any_last p b others = grind (arith, nat_tests)

all_last : (p : ℕ → Bool) (b : ℕ) (others : Bool) → (others && (p b && true)) ≡ (p b && others)
all_last p b others = grind (arith, nat_tests)

any_reverse : (p : ℕ → Bool) (bytes : List ℕ) → list_any p (reverse bytes) ≡ list_any p bytes
any_reverse p [] = refl
any_reverse p (b ∷ rest) =
    ap (list_any p) (reverse-append (b ∷ []) rest)
    ∙ list_any-append p (reverse rest) (b ∷ [])
    ∙ any_last p b (list_any p (reverse rest))
    ∙ ap (λ t. p b || t) (any_reverse p rest)

all_reverse : (p : ℕ → Bool) (bytes : List ℕ) → list_all p (reverse bytes) ≡ list_all p bytes
all_reverse p [] = refl
all_reverse p (b ∷ rest) =
    ap (list_all p) (reverse-append (b ∷ []) rest)
    ∙ list_all-append p (reverse rest) (b ∷ [])
    ∙ all_last p b (list_all p (reverse rest))
    ∙ ap (λ t. p b && t) (all_reverse p rest)

abbrev has_port : List ℕ → Bool
has_port value = list_any is_colon value && list_all is_ascii_digit (behind_last is_colon value)

port_test : (value : List ℕ) → has_port value ≡ digits_before (reverse value)
port_test value =
    ap (λ any. any && list_all is_ascii_digit (behind_last is_colon value)) (sym (any_reverse is_colon value))
    ∙ ap (λ all. list_any is_colon (reverse value) && all) (all_reverse is_ascii_digit (before_first is_colon (reverse value)))

behind_all : (bytes : List ℕ) → prefix_len is_ascii_digit bytes < length bytes
    → get_or bytes (prefix_len is_ascii_digit bytes) 0 ≡ colon → colon_behind bytes ≡ true
behind_all bytes within found =
    ap (λ t. t && eqb (get_or bytes (prefix_len is_ascii_digit bytes) 0) colon) (lt-ltb (prefix_len is_ascii_digit bytes) (length bytes) within)
    ∙ ap (λ x. eqb x colon) found

behind_none : (bytes : List ℕ)
    → (prefix_len is_ascii_digit bytes < length bytes → get_or bytes (prefix_len is_ascii_digit bytes) 0 ≢ colon) → colon_behind bytes ≡ false
behind_none bytes none =
    elim (cases_Bool (colon_behind bytes)) [
      | inl all ↦
          let parts = and_parts (ltb (prefix_len is_ascii_digit bytes) (length bytes)) (eqb (get_or bytes (prefix_len is_ascii_digit bytes) 0) colon) all in
          absurd (none (ltb-true (prefix_len is_ascii_digit bytes) (length bytes) parts.0) (eqb-true (get_or bytes (prefix_len is_ascii_digit bytes) 0) colon parts.1))
      | inr other ↦ other
    ]

-- the byte before so many at the end
mirrored : (value : List ℕ) (digits : ℕ) → digits < length value
    → get_or (reverse value) digits 0 ≡ get_or value (length value - digits - 1) 0
mirrored value digits within =
    let order : length value - 1 - digits ≡ length value - digits - 1 = omega arith in
    get_or-reverse value digits 0 within ∙ ap (λ k. get_or value k 0) order

-- a colon right before the digits at the end is the last one
pub with_port : (value : List ℕ) (digits : ℕ) → digits ≡ suffix_len is_ascii_digit value → digits < length value
    → get_or value (length value - digits - 1) 0 ≡ colon
    → take (length value - digits - 1) value ≡ host_part value
with_port value digits count within found =
    let same_length : length (reverse value) ≡ length value = length-reverse value in
    let there : get_or (reverse value) (prefix_len is_ascii_digit (reverse value)) 0 ≡ colon =
    ap (λ k. get_or (reverse value) k 0) (sym count) ∙ mirrored value digits within ∙ found in
    let inside : prefix_len is_ascii_digit (reverse value) < length (reverse value) = subst (λ k. k < length (reverse value)) count (omega arith) in
    let before : digits_before (reverse value) ≡ true = sym (same_test (reverse value)) ∙ behind_all (reverse value) inside there in
    ap (λ k. take (length value - k - 1) value) (count ∙ same_place (reverse value) before)
    ∙ sym (cond-true (has_port value) _ _ (port_test value ∙ before))

-- without a colon there the value has no port
pub without_port : (value : List ℕ) (digits : ℕ) → digits ≡ suffix_len is_ascii_digit value
    → (digits < length value → get_or value (length value - digits - 1) 0 ≢ colon) → value ≡ host_part value
without_port value digits count none =
    let same_length : length (reverse value) ≡ length value = length-reverse value in
    let no_colon : prefix_len is_ascii_digit (reverse value) < length (reverse value)
    → get_or (reverse value) (prefix_len is_ascii_digit (reverse value)) 0 ≢ colon =
    subst (λ k. k < length (reverse value) → get_or (reverse value) k 0 ≢ colon) count
    (λ within found. none (omega arith) (sym (mirrored value digits (omega arith)) ∙ found)) in
    let before : digits_before (reverse value) ≡ false = sym (same_test (reverse value)) ∙ behind_none (reverse value) no_colon in
    sym (cond-false (has_port value) _ _ (port_test value ∙ before))
