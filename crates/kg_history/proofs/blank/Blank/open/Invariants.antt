use Rattle.std.proofs.Common.{◌≡◌, [], All, length}
use Rattle.kg_history.specs.Sights.{IsFresh}
use Rattle.kg_history.proofs.blank.Blank.open.Given as goal

-- so many passes were made, which have seen nothing
abbrev pub invariant-loop : goal.invariant-loop
invariant-loop g l = (l.writer ≡ []) × (length l.all.items ≡ l.counter) × All (λ pass. IsFresh pass []) l.all.items
