use Rattle.std.proofs.Common.{◌≡◌, ◌++◌}
use Rattle.kg_row_values.proofs.value.listed.Given as goal

-- those that are listed and those that are left are all
abbrev pub invariant-loop-group : goal.invariant-loop-group
invariant-loop-group l = l.list ++ l.group-iterator ≡ l.fn.groups.keys
