-- What the first field of a name and their count tell of the values of all of them.
use Rattle.std.proofs.Common.{◌≡◌, ℕ, Bool, true, false, cond, List, [], ◌∷◌, length, map, Option, Some, None, refl, sym, ap, ◌∙◌, arith}
use Rattle.std.specs.Prelude.{count_by, filter, find, option_map}
use Rattle.std.proofs.lemmas.List.Sums.{length-filter}
use Rattle.kg_message.specs.declared.header.Header.{Header}
use Rattle.kg_wire.specs.Checks.{length_of, stated_length}

-- the first of a list
abbrev first_of : List Header → Option Header
first_of [] = None
first_of (field ∷ fields) = Some field

chosen : (b : Bool) (field : Header) (found : Option Header) (kept : List Header) → found ≡ first_of kept
    → cond b (Some field) found ≡ first_of (cond b (field ∷ kept) kept)
chosen true field found kept same = refl
chosen false field found kept same = same

-- the first that passes is the first of those that pass
find_first : (p : Header → Bool) (fields : List Header) → find p fields ≡ first_of (filter p fields)
find_first p [] = refl
find_first p (field ∷ fields) = chosen (p field) field (find p fields) (filter p fields) (find_first p fields)

abbrev value_of : Header → List ℕ
value_of field = field.value

none_of : (kept : List Header) → option_map value_of (first_of kept) ≡ None → stated_length (map value_of kept) ≡ Some 0
none_of [] none = refl
none_of (field ∷ kept) none = absurd (cc)

zero_of : (kept : List Header) → length kept ≡ 0 → stated_length (map value_of kept) ≡ Some 0
zero_of [] zero = refl
zero_of (field ∷ kept) zero = absurd (omega arith)

one_of : (kept : List Header) (value : List ℕ) → option_map value_of (first_of kept) ≡ Some value → length kept ≡ 1
    → stated_length (map value_of kept) ≡ length_of value
one_of [] value is one = absurd (omega arith)
one_of (field ∷ []) value is one = let same : field.value ≡ value = cc in ap length_of same
one_of (field ∷ other ∷ kept) value is one = absurd (omega arith)

many_of : (kept : List Header) (value : List ℕ) → option_map value_of (first_of kept) ≡ Some value → (length kept ≡ 1 → ⊥)
    → stated_length (map value_of kept) ≡ None
many_of [] value is many = absurd (cc)
many_of (field ∷ []) value is many = absurd (many (omega arith))
many_of (field ∷ other ∷ kept) value is many = refl

-- no field of the name
pub none_stated : (p : Header → Bool) (fields : List Header) → option_map value_of (find p fields) ≡ None
    → stated_length (map value_of (filter p fields)) ≡ Some 0
none_stated p fields none = none_of (filter p fields) (ap (option_map value_of) (sym (find_first p fields)) ∙ none)

pub zero_stated : (p : Header → Bool) (fields : List Header) → count_by p fields ≡ 0
    → stated_length (map value_of (filter p fields)) ≡ Some 0
zero_stated p fields zero = zero_of (filter p fields) (length-filter p fields ∙ zero)

-- one
pub one_stated : (p : Header → Bool) (fields : List Header) (value : List ℕ) → option_map value_of (find p fields) ≡ Some value
    → count_by p fields ≡ 1 → stated_length (map value_of (filter p fields)) ≡ length_of value
one_stated p fields value is one =
    one_of (filter p fields) value (ap (option_map value_of) (sym (find_first p fields)) ∙ is) (length-filter p fields ∙ one)

-- several
pub many_stated : (p : Header → Bool) (fields : List Header) (value : List ℕ) → option_map value_of (find p fields) ≡ Some value
    → (count_by p fields ≡ 1 → ⊥) → stated_length (map value_of (filter p fields)) ≡ None
many_stated p fields value is many =
    many_of (filter p fields) value (ap (option_map value_of) (sym (find_first p fields)) ∙ is)
    (λ one. many (sym (length-filter p fields) ∙ one))
