use Rattle.std.proofs.Common.{◌≡◌, ◌≤◌, ◌++◌, length}
use Rattle.kg_row_queries.proofs.pages.listed.Given as goal

-- those that are listed and those that are left are all
abbrev pub invariant-loop-id : goal.invariant-loop-id
invariant-loop-id l = (l.list ++ l.id-iterator ≡ l.fn.ids.keys) × (length l.list ≤ l.most)
