use Rattle.std.proofs.Common.{◌≡◌, map}
use Rattle.kg_row_values.specs.Watching.{watched_at}
use Rattle.kg_row_values.proofs.watch.watch.Given as goal

abbrev pub invariant-loop-key : goal.invariant-loop-key
invariant-loop-key l = l.watched.items ≡ map (watched_at l.rows) l.yielded
