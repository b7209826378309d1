use Rattle.std.proofs.Common.{◌≡◌, ◌++◌, option_map}
use Rattle.serde_json.specs.View.{members_view, view}
use Rattle.kg_field_tables.specs.Judging.{set_members}
use Rattle.kg_bodies.proofs.ListLemmas.{as_list}
use Rattle.kg_bodies.proofs.judge.only_set.Given as goal

abbrev pub invariant-loop-name : goal.invariant-loop-name
invariant-loop-name l =
    as_list (option_map (λ found. (found.0.now, view found.1.now)) l.found) ++ set_members (members_view l.name-iterator)
    ≡ set_members (members_view l.fn.members.entries)
