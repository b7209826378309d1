-- What a body sets as numbers: a reading judges the number that it reads, so what it gives stands
-- within the bounds.
use Rattle.std.proofs.Common.{◌≡◌, ℕ, ◌≤◌, ℤ, nat_le, if◌then◌else◌, Bool, true, false, ◌&&◌, List, Option, Some, None, option_and_then, refl}
use Rattle.std.proofs.lemmas.Bool.{and_parts, leb-true}
use Rattle.std.specs.Bool.{passes}
use Rattle.std.specs.Option.{option_map_or}
use Rattle.std.specs.Prelude.{IfSome, int_le, ◌≤ℤ◌}
use Rattle.serde_json.specs.Data.{Data, Num, unsigned, negative, float}
use Rattle.serde_json.specs.Find.{as_number, as_u64, as_i64}
use Rattle.kg_schema.proofs.ReadTexts.{value_ok}
use Rattle.kg_field_tables.specs.Judging.{integer_rule, shape_rule, typed, whole_rule}
use Rattle.kg_bodies.specs.Settings.{integer_at, value_at, whole_at}
use Rattle.kg_field_rules.specs.declared.rule.Rule.TheVariants.{OutOfRange}
use Rattle.kg_field_tables.specs.declared.shape.Shape.TheVariants as shape

-- a test that told nothing was passed
pub passed : (test : Bool) → (if test then None else Some OutOfRange) ≡ None → test ≡ true
passed true ok = refl
passed false ok = cc

-- the whole number that a body sets
pub whole_ok : (low high : ℕ) (name : List ℕ) (body : Data) → IfSome (whole_at low high name body) (λ n. (low ≤ n) × (n ≤ high))
whole_ok low high name body = read (value_at (shape.Whole low high) name body) (value_ok (shape.Whole low high) name body)
  where
    of_number : (n : Num) → whole_rule low high n ≡ None → IfSome (as_u64 n) (λ m. (low ≤ m) × (m ≤ high))
    of_number (unsigned n) ok =
        let parts = and_parts (nat_le low n) (nat_le n high) (passed (nat_le low n && nat_le n high) ok) in
        (leb-true low n parts.0, leb-true n high parts.1)
    of_number (negative z) ok = tt
    of_number (float x) ok = tt

    as_num : (o : Option Num) → typed (whole_rule low high) o ≡ None → IfSome (option_and_then as_u64 o) (λ m. (low ≤ m) × (m ≤ high))
    as_num None ok = tt
    as_num (Some n) ok = of_number n ok

    read : (o : Option Data) → IfSome o (λ d. shape_rule (shape.Whole low high) d ≡ None) → IfSome (option_and_then as_u64 (option_and_then as_number o)) (λ m. (low ≤ m) × (m ≤ high))
    read None ok = tt
    read (Some d) ok = as_num (as_number d) ok

-- the integer that a body sets
pub integer_ok : (low high : ℤ) (name : List ℕ) (body : Data) → IfSome (integer_at low high name body) (λ z. (low ≤ℤ z) × (z ≤ℤ high))
integer_ok low high name body = read (value_at (shape.Integer low high) name body) (value_ok (shape.Integer low high) name body)
  where
    of_integer : (o : Option ℤ) → option_map_or (λ z. if int_le low z && int_le z high then None else Some OutOfRange) o (Some OutOfRange) ≡ None
        → IfSome o (λ z. (low ≤ℤ z) × (z ≤ℤ high))
    of_integer None ok = tt
    of_integer (Some z) ok =
        let parts = and_parts (int_le low z) (int_le z high) (passed (int_le low z && int_le z high) ok) in
        (record { le = passes (int_le low z) parts.0 }, record { le = passes (int_le z high) parts.1 })

    of_number : (n : Num) → integer_rule low high n ≡ None → IfSome (as_i64 n) (λ z. (low ≤ℤ z) × (z ≤ℤ high))
    of_number (unsigned n) ok = of_integer (as_i64 (unsigned n)) ok
    of_number (negative z) ok = of_integer (Some z) ok
    of_number (float x) ok = tt

    as_num : (o : Option Num) → typed (integer_rule low high) o ≡ None → IfSome (option_and_then as_i64 o) (λ z. (low ≤ℤ z) × (z ≤ℤ high))
    as_num None ok = tt
    as_num (Some n) ok = of_number n ok

    read : (o : Option Data) → IfSome o (λ d. shape_rule (shape.Integer low high) d ≡ None) → IfSome (option_and_then as_i64 (option_and_then as_number o)) (λ z. (low ≤ℤ z) × (z ≤ℤ high))
    read None ok = tt
    read (Some d) ok = as_num (as_number d) ok
