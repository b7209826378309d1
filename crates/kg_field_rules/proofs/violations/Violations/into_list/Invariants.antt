use Rattle.std.proofs.Common.{◌≡◌, ◌++◌}
use Rattle.kg_field_rules.specs.Rules.{listed}
use Rattle.kg_field_rules.proofs.violations.Violations.into_list.Given as goal

abbrev pub invariant-loop-path : goal.invariant-loop-path
invariant-loop-path l = l.broken ++ listed l.path-iterator ≡ listed l.fn.self
