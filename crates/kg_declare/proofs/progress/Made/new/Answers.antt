use Rattle.kg_declare.proofs.HistoryLemmas.{nothing_consistent}
use Rattle.kg_declare.proofs.progress.Made.new.Goals as goal

pub returns-clause-consistent : goal.returns-clause-consistent
returns-clause-consistent c = λ limit. nothing_consistent limit _ c.new.ensures c.new-2.ensures
