use Rattle.std.proofs.Common.{◌≡◌, ◌++◌, drop, map, take}
use Rattle.kg_limit.specs.Counting.{left_after}
use Rattle.kg_limit.proofs.limits.count_down.Given as goal

abbrev pub invariant-loop-limit : goal.invariant-loop-limit
invariant-loop-limit l = l.limit-items ≡ map (left_after l.counts l.time l.let_through) (take l.limit-index l.fn.limits) ++ drop l.limit-index l.fn.limits
