use Rattle.std.proofs.Common.{ℕ, ◌+◌, ◌<◌, ◌≤◌, take}
use Rattle.kg_wire.specs.HeadEnds.{EndsHead}
use Rattle.kg_wire.proofs.head_end.has_head_end.Given as goal

abbrev pub invariant-loop-end : goal.invariant-loop-end
invariant-loop-end l = (k : ℕ) → l.before ≤ k → k < l.end → EndsHead (take (k + 1) l.bytes) → ⊥
