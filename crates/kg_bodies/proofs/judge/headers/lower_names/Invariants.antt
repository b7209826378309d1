use Rattle.std.proofs.Common.{◌≡◌, ◌++◌, map}
use Rattle.std.specs.Str.{str_to_ascii_lowercase}
use Rattle.serde_json.specs.View.{members_view}
use Rattle.kg_field_tables.specs.Judging.{set_members}
use Rattle.kg_bodies.proofs.judge.headers.lower_names.Given as goal

abbrev pub invariant-loop-name : goal.invariant-loop-name
invariant-loop-name l =
    l.names ++ map (λ header. str_to_ascii_lowercase header.0) (set_members (members_view l.name-iterator))
    ≡ map (λ header. str_to_ascii_lowercase header.0) (set_members (members_view l.fn.members.entries))
