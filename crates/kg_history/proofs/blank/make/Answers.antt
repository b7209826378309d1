use Rattle.kg_history.proofs.Moves.{begins}
use Rattle.kg_history.proofs.blank.make.Goals as goal

-- the first view fits an empty history
pub of_words-requires : goal.of_words-requires
of_words-requires g c = begins
