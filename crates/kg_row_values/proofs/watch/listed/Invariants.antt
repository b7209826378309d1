use Rattle.std.proofs.Common.{◌≡◌, ◌++◌, ◌+◌, ◌≤◌, length}
use Rattle.std.specs.Vec.{vec_len, vec_capacity}
use Rattle.kg_row_values.proofs.watch.listed.Given as goal

-- those that are listed and those that are left are all, and there is room for them
abbrev pub invariant-loop-key : goal.invariant-loop-key
invariant-loop-key l = record {
  all : l.list.items ++ l.key-iterator ≡ l.fn.keys.keys;
  room : vec_len l.list + length l.key-iterator ≤ vec_capacity l.list;
}
