use Rattle.std.proofs.Common.{◌≡◌, ◌++◌, length}
use Rattle.kg_text.specs.Paths.{normal_escapes}
use Rattle.kg_text.proofs.escape.with_normal_escapes.Given as goal

abbrev pub invariant-loop-first : goal.invariant-loop-first
invariant-loop-first l = l.out.items ++ normal_escapes l.rest ≡ normal_escapes l.path

abbrev pub decreases-loop-first : goal.decreases-loop-first
decreases-loop-first l = length l.rest
