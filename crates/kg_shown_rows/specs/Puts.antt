-- Machinery for proofs: the members of an object, put one after the other.
use Rattle.std.specs.Prelude.{[], ◌∷◌}
use Rattle.serde_json.specs.Data.{Members, put}
use Rattle.kg_shown_rows.specs.ShownParts.{Named}

-- the members with these put among them
abbrev pub with_members : Named → Members → Members
with_members [] members = members
with_members (m ∷ ms) members = with_members ms (put m.0 m.1 members)
