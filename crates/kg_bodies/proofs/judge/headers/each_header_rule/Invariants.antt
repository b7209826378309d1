use Rattle.std.proofs.Common.{◌≡◌, List, ℕ, Option, flat_map}
use Rattle.serde_json.specs.Data.{Members}
use Rattle.serde_json.specs.View.{members_view}
use Rattle.kg_field_rules.specs.Rules.{first_by_rank, sooner}
use Rattle.kg_field_rules.specs.declared.rule.Rule.{Rule}
use Rattle.kg_field_tables.specs.Judging.{header_breaks, set_members}
use Rattle.kg_bodies.proofs.judge.headers.each_header_rule.Given as goal

abbrev pub invariant-loop-name : goal.invariant-loop-name
invariant-loop-name l =
    sooner l.rule (first_by_rank (flat_map (λ header. header_breaks header.0 header.1) (set_members (members_view l.name-iterator))))
    ≡ first_by_rank (flat_map (λ header. header_breaks header.0 header.1) (set_members (members_view l.fn.members.entries)))
