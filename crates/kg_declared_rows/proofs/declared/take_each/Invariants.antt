use Rattle.std.proofs.Common.{◌≡◌, ◌++◌, map}
use Rattle.kg_declared_rows.specs.Rows.{nested, stripped}
use Rattle.kg_declared_rows.specs.SeenRows.{seen_all}
use Rattle.kg_declared_rows.proofs.declared.take_each.Given as goal

-- the rows so far are stripped, and what they had and what is ahead is all that is nested
abbrev pub invariant-loop-row : goal.invariant-loop-row
invariant-loop-row l = record {
  left : seen_all l.rows.items ≡ map (stripped l.name) (seen_all l.yielded);
  found : seen_all l.found.items ++ nested l.number l.kind l.name (seen_all l.row-iterator.rest.items)
      ≡ seen_all l.initial.found.items ++ nested l.first l.kind l.name (seen_all l.fn.before.items);
}
