use Rattle.std.proofs.Common.{◌≡◌, fold, take}
use Rattle.serde_json.specs.Data.{no_members}
use Rattle.serde_json.specs.View.{members_view}
use Rattle.kg_shown_rows.specs.Shown.{with_values}
use Rattle.kg_shown_rows.proofs.show.parts.header_members.Given as goal

-- the members so far are those of the headers so far
abbrev pub invariant-loop-test : goal.invariant-loop-test
invariant-loop-test l = members_view l.members.entries ≡ fold with_values no_members (take l.test-index l.tests)
