use Rattle.std.proofs.Common.{◌≡◌, fold}
use Rattle.serde_json.specs.View.{members_view}
use Rattle.kg_field_rules.specs.Rules.{tell}
use Rattle.kg_declared_rows.specs.Violations.{member_violations}
use Rattle.kg_declared_rows.proofs.violations.tell_members.Given as goal

-- the violations so far and those ahead are all violations
abbrev pub invariant-loop-name : goal.invariant-loop-name
invariant-loop-name l =
    fold tell l.violations (member_violations (members_view l.name-iterator))
    ≡ fold tell l.initial.violations (member_violations (members_view l.members.entries))
