use Rattle.std.proofs.Common.{◌≡◌, []}
use Rattle.serde_json.specs.View.{members_view}
use Rattle.kg_bodies.specs.Settings.{tests_in}
use Rattle.kg_bodies.proofs.header_tests.tests_in.Given as goal

abbrev pub invariant-loop-name : goal.invariant-loop-name
invariant-loop-name l = tests_in l.tests.entries (members_view l.name-iterator) ≡ tests_in [] (members_view l.fn.members.entries)
