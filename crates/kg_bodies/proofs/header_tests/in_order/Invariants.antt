use Rattle.std.proofs.Common.{◌≡◌, ◌++◌, map}
use Rattle.kg_bodies.proofs.header_tests.in_order.Given as goal

abbrev pub invariant-loop-name : goal.invariant-loop-name
invariant-loop-name l = l.list ++ map (λ entry. entry.1) l._name-iterator ≡ map (λ entry. entry.1) l.fn.tests.entries
