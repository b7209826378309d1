use Rattle.kg_layers.proofs.TurnLemmas.{begun_coherent, came_coherent, longer_fetch, turned_fetch, turned_table}
use Rattle.kg_layers.proofs.laws.turns_keep_coherence.Goals as goal

pub returns-clause-begun : goal.returns-clause-begun
returns-clause-begun g c = λ shows value size. begun_coherent shows value size

pub returns-clause-table : goal.returns-clause-table
returns-clause-table g c = λ shows value size. turned_table shows value size g.K.PartialEq.eq g.met.K.CopyKey.eq_is_same

pub returns-clause-fetch : goal.returns-clause-fetch
returns-clause-fetch g c = λ shows value size. turned_fetch shows value size g.K.PartialEq.eq g.met.K.CopyKey.eq_is_same

pub returns-clause-kept : goal.returns-clause-kept
returns-clause-kept g c = λ shows value size. came_coherent shows value size g.K.PartialEq.eq

pub returns-clause-longer : goal.returns-clause-longer
returns-clause-longer g c = λ shows value longer size more. λ agrees grown. longer_fetch shows value longer size more agrees grown
