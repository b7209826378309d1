use Rattle.std.proofs.Common.{rules}
use Rattle.kg_history.proofs.Moves.{notes}
use Rattle.kg_history.proofs.pass.Pass.note.Goals as goal

-- a note fits what its maker has seen
pub split_seat-requires : goal.split_seat-requires
split_seat-requires g c = (search rules, search rules, notes _ _)
