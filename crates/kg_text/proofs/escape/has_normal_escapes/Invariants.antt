use Rattle.std.proofs.Common.{◌≡◌, ◌↔◌, length}
use Rattle.kg_text.specs.Paths.{normal_escapes}
use Rattle.kg_text.proofs.escape.has_normal_escapes.Given as goal

abbrev pub invariant-loop-tail : goal.invariant-loop-tail
invariant-loop-tail l = (normal_escapes l.path ≡ l.path) ↔ (normal_escapes l.rest ≡ l.rest)

abbrev pub decreases-loop-tail : goal.decreases-loop-tail
decreases-loop-tail l = length l.rest
