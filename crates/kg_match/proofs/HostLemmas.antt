-- Hosts are compared in place.
use Rattle.std.proofs.Common.{◌≡◌, ◌↔◌, ◌+◌, ℕ, suc, Bool, true, false, cond, not, ◌||◌, ◌==◌, List, [], ◌∷◌, length, Some, None, IsTrue, nat_lt, refl, sym, ◌∙◌, true≢false, arith}
use Rattle.std.specs.List.{list_any, position, position_or_len}
use Rattle.std.specs.Str.{bytes_eq}
use Rattle.std.proofs.lemmas.Option.{same_Some}
use Rattle.std.proofs.lemmas.Slice.Eq.{bytes_eq-Decides}
use Rattle.kg_match.specs.Wildcards.{asterisk, is_wildcard}

-- a test that is true exactly where two texts are one is their comparison
pub same_test : (test : Bool) (a b : List ℕ) → (IsTrue test ↔ (a ≡ b)) → test ≡ bytes_eq a b
same_test true a b both = sym ((bytes_eq-Decides a b).1 (both.0 refl))
same_test false a b both = by_eq (bytes_eq a b) refl
  where
    by_eq : (equal : Bool) → bytes_eq a b ≡ equal → false ≡ bytes_eq a b
    by_eq true is = absurd (true≢false (sym (both.1 ((bytes_eq-Decides a b).0 is))))
    by_eq false is = sym is

-- a member passes exactly where the first place that passes lies within the list
pub any_within : {A : Type 0} (test : A → Bool) (xs : List A) → list_any test xs ≡ nat_lt (position_or_len test xs) (length xs)
any_within test [] = refl
any_within {A} test (x ∷ xs) = by_test (test x) (any_within test xs)
  where
    next : (m n : ℕ) → nat_lt m n ≡ nat_lt (1 + m) (suc n)
    next m n = grind arith

    by_test : (passes : Bool) → list_any test xs ≡ nat_lt (position_or_len test xs) (length xs) → (passes || list_any test xs) ≡ nat_lt (cond (not passes) (1 + position_or_len test xs) 0) (length (x ∷ xs))
    by_test true later = grind arith
    by_test false later = later ∙ next (position_or_len test xs) (length xs)

abbrev is_asterisk : ℕ → Bool
is_asterisk byte = byte == asterisk

-- a place of an asterisk is that of the first one
pub at_asterisk : (wanted : List ℕ) (at : ℕ) → position is_asterisk wanted ≡ Some at → (is_wildcard wanted ≡ true) × (position_or_len is_asterisk wanted ≡ at)
at_asterisk wanted at found = by_within (nat_lt (position_or_len is_asterisk wanted) (length wanted)) refl found
  where
    by_within : (within : Bool) → nat_lt (position_or_len is_asterisk wanted) (length wanted) ≡ within → cond within (Some (position_or_len is_asterisk wanted)) None ≡ Some at → (is_wildcard wanted ≡ true) × (position_or_len is_asterisk wanted ≡ at)
    by_within true is found = (any_within is_asterisk wanted ∙ is, same_Some (position_or_len is_asterisk wanted) at found)
    by_within false is found = absurd (cc)

-- without one a host is no wildcard
pub no_asterisk : (wanted : List ℕ) → position is_asterisk wanted ≡ None → is_wildcard wanted ≡ false
no_asterisk wanted none = by_within (nat_lt (position_or_len is_asterisk wanted) (length wanted)) refl none
  where
    by_within : (within : Bool) → nat_lt (position_or_len is_asterisk wanted) (length wanted) ≡ within → cond within (Some (position_or_len is_asterisk wanted)) None ≡ None → is_wildcard wanted ≡ false
    by_within true is none = absurd (cc)
    by_within false is none = any_within is_asterisk wanted ∙ is
