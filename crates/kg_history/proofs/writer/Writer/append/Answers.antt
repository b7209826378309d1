use Rattle.std.proofs.Common.{rules}
use Rattle.kg_history.proofs.Moves.{appends}
use Rattle.kg_history.proofs.writer.Writer.append.Goals as goal

-- the word is what the writer has counted
pub compare_exchange_with-self-inside-requires : goal.compare_exchange_with-self-inside-requires
compare_exchange_with-self-inside-requires g c = (search rules, search rules, appends _ _ _ _ _ c.self.invariant.writes c.self.invariant.entries)
