use Rattle.std.proofs.Common.{rules}
use Rattle.kg_history.proofs.Moves.{notes}
use Rattle.kg_history.proofs.writer.Writer.new_pass.Goals as goal

-- the pass fits what the writer has seen
pub split_seat-seat-requires : goal.split_seat-seat-requires
split_seat-seat-requires g c = (search rules, search rules, notes _ _)
