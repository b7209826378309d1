-- Broken rules are told as a violation.
use Rattle.std.proofs.Common.{◌≡◌, ◌≢◌, List, [], ◌∷◌, Some, refl}
use Rattle.kg_rows.specs.Decision.{violation}
use Rattle.kg_rows.specs.declared.draft.Refusal.TheVariants.{Violation}
use Rattle.kg_field_rules.specs.Rules.{BrokenRule, in_order, listed}

pub violation_of : (broken : List BrokenRule) → broken ≢ [] → violation broken ≡ Some (Violation (listed (in_order broken)))
violation_of [] some = absurd (some refl)
violation_of (first ∷ more) some = refl
