use Rattle.std.proofs.Common.{◌≡◌, ◌++◌}
use Rattle.kg_keeper.proofs.generation.put_copies.Given as goal

-- the copies and the rows that are left are all
abbrev pub invariant-loop-row : goal.invariant-loop-row
invariant-loop-row g l = l.list ++ l.row-iterator ≡ l.initial.list ++ l.fn.rows
