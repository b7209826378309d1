-- A draw is the id of one more than the count.
use Rattle.kg_outside.specs.CountedIds.{id_of}
use Rattle.kg_outside.proofs.CountLemmas.{run_outputs, run_count}
use Rattle.kg_outside.proofs.count_ids.draws_count_up.Goals as goal

pub returns-clause-drawn : goal.returns-clause-drawn
returns-clause-drawn c = run_outputs id_of

pub returns-clause-count : goal.returns-clause-count
returns-clause-count c = run_count id_of
