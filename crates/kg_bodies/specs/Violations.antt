-- When a violation tells exactly the rules that are broken.
use Rattle.std.specs.Prelude.{◌≡◌, ◌≢◌, List, [], ⊤}
use Rattle.kg_bodies.specs.declared.form.FormError.{FormError}
use Rattle.kg_bodies.specs.declared.form.FormError.TheVariants.{Violation, NoMemory}
use Rattle.kg_field_rules.specs.Rules.{BrokenRule, in_order, listed}

-- these violations are there, and they are what the refusal lists; want of memory is free
abbrev pub Tells : FormError → List BrokenRule → Type 0
Tells (Violation broken) violations = (broken ≡ listed (in_order violations)) × (violations ≢ [])
Tells NoMemory violations = ⊤
