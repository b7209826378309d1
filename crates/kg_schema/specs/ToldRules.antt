-- Which rules are told at a path, in the order in which they are told.
use Rattle.std.specs.Prelude.{ℕ, List, filter, map}
use Rattle.std.specs.Str.{bytes_eq}
use Rattle.kg_field_rules.specs.Rules.{BrokenRule}
use Rattle.kg_field_rules.specs.declared.rule.Rule.{Rule}

abbrev pub rules_at : List ℕ → List BrokenRule → List Rule
rules_at path violations = map (λ violation. violation.1) (filter (λ violation. bytes_eq path violation.0) violations)
