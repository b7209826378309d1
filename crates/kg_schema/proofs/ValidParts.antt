-- What holds of a field that a body sets and of what stands there otherwise holds of the finished row.
use Rattle.std.proofs.Common.{◌≡◌, ◌⊎◌, inl, inr, ℕ, ◌==◌, if◌then◌else◌, Bool, true, false, List, [], ◌∷◌, ◌++◌, length, Option, Some, None, unwrap_or, refl}
use Rattle.std.specs.Option.{option_or}
use Rattle.std.specs.Prelude.{IfSome}
use Rattle.kg_schema.specs.Between.{violation_if}
use Rattle.kg_row_making.specs.FinishedConfigs.{list_over}
use Rattle.kg_field_rules.specs.Rules.{BrokenRule}
use Rattle.kg_field_rules.specs.declared.rule.Rule.{Rule}

pub or_ok : {A : Type 0} (P : A → Type 0) (set before : Option A) → IfSome set P → IfSome before P → IfSome (option_or set before) P
or_ok P None before ok old = old
or_ok P (Some x) before ok old = ok

pub unwrapped_ok : {A : Type 0} (P : A → Type 0) (set : Option A) (before : A) → IfSome set P → P before → P (unwrap_or set before)
unwrapped_ok P None before ok old = old
unwrapped_ok P (Some x) before ok old = ok

pub list_over_ok : {A : Type 0} (P : List A → Type 0) (set before : List A) → P set → P before → P (list_over set before)
list_over_ok {A = A} P set before ok old = at_empty (length set == 0)
  where
    at_empty : (b : Bool) → P (if b then before else set)
    at_empty true = old
    at_empty false = ok

-- ---- rules that are told

-- nothing is told by two lists, so by neither
pub neither : (violations more : List BrokenRule) → violations ++ more ≡ [] → (violations ≡ []) × (more ≡ [])
neither [] more none = (refl, none)
neither (violation ∷ violations) more none = cc

-- a rule that isn't told isn't broken
pub not_broken : (broken : Bool) (field : List ℕ) (rule : Rule) → violation_if broken field rule ≡ [] → broken ≡ false
not_broken true field rule none = cc
not_broken false field rule none = refl

-- ---- texts that are required

-- P holds of the text, or it is empty, which stands for none
abbrev pub OrEmpty : (List ℕ → Type 0) → List ℕ → Type 0
OrEmpty P text = P text ⊎ (text ≡ [])

pub filled : (P : List ℕ → Type 0) (text : List ℕ) → OrEmpty P text → (length text == 0) ≡ false → P text
filled P text (inl ok) some = ok
filled P [] (inr empty) some = cc
filled P (b ∷ rest) (inr empty) some = cc
