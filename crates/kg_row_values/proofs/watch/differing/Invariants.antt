use Rattle.std.proofs.Common.{◌≤◌, length, All}
use Rattle.indexmap.specs.IndexSet.{spare}
use Rattle.kg_row_values.specs.Watching.{Differ, IsOrderly}
use Rattle.kg_row_values.proofs.watch.differing.Given as goal

-- there is room for the keys that are left, and those so far are told
abbrev pub invariant-loop-w : goal.invariant-loop-w
invariant-loop-w l = record {
  room : length l.w-iterator.rest.items ≤ spare l.keys;
  differ : All (λ w. IsOrderly w.before) l.yielded → Differ l.rows l.yielded l.keys.keys;
  len : length l.keys.keys ≤ length l.yielded;
}
