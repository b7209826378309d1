use Rattle.std.proofs.Common.{◌≡◌, ◌+◌, ◌*◌, fold}
use Rattle.serde_json.specs.View.{members_view}
use Rattle.kg_field_tables.specs.BrokenRules.{violations_in}
use Rattle.kg_field_tables.specs.Depths.{depth_of, levels}
use Rattle.kg_field_rules.specs.Rules.{tell}
use Rattle.kg_bodies.proofs.fields.+judging.Given as goal

abbrev pub invariant-judge_members-loop-name : goal.invariant-judge_members-loop-name
invariant-judge_members-loop-name l =
    fold tell l.violations (violations_in (members_view l.name-iterator) l.table l.front)
    ≡ fold tell l.fn.violations (violations_in (members_view l.fn.members.entries) l.table l.front)

abbrev pub decreases-judge_members : goal.decreases-judge_members
decreases-judge_members l = 2 * levels l.table + 1

abbrev pub decreases-judge_member : goal.decreases-judge_member
decreases-judge_member l = 2 * depth_of l.field
