use Rattle.std.proofs.Common.{◌≡◌, length}
use Rattle.kg_tables.specs.PlaceIndexes.{rows_at}
use Rattle.kg_tables.specs.References.{refers}
use Rattle.kg_tables.proofs.walk.next_named.Given as goal

abbrev pub invariant-loop-place : goal.invariant-loop-place
invariant-loop-place g l =
    rows_at (λ row. refers l.kind l.id (g.T.Row.references row)) l.rows.entries l.pairs ≡ rows_at (λ row. refers l.kind l.id (g.T.Row.references row)) l.rows.entries l.initial.pairs

abbrev pub decreases-loop-place : goal.decreases-loop-place
decreases-loop-place g l = length l.pairs
