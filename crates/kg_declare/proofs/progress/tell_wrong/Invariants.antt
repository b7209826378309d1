use Rattle.std.proofs.Common.{◌≡◌, fold, map, take}
use Rattle.kg_field_rules.specs.Rules.{tell}
use Rattle.kg_declare.specs.Outcome.{wrong_violations}
use Rattle.kg_declare.proofs.progress.tell_wrong.Given as goal

-- the violations so far are told
abbrev pub invariant-loop-name : goal.invariant-loop-name
invariant-loop-name l = l.violations ≡ fold tell l.initial.violations (wrong_violations (map (λ name. name.now) (take l.name-index l.wrong)))
