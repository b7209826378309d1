use Rattle.std.proofs.Common.{rules}
use Rattle.kg_history.proofs.Moves.{joins, learns}
use Rattle.kg_history.proofs.writer.Writer.tie.Goals as goal

-- what the note tells is kept
pub join_seat-requires : goal.join_seat-requires
join_seat-requires g c = (search rules, search rules, search rules, search rules, joins _ _ _ _)

-- and read off the word
pub load-requires : goal.load-requires
load-requires g c = (search rules, search rules, learns _ _ _)
