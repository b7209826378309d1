use Rattle.kg_level1.proofs.OrderLemmas.{answer_same, same_coherent, same_entries, same_entries_then, same_found, same_live}
use Rattle.kg_level1.proofs.laws.answering_levels_hold_the_same.Goals as goal

pub returns-clause-answered : goal.returns-clause-answered
returns-clause-answered g c = answer_same g.K.PartialEq.eq g.met.K.CopyKey.eq_is_same

pub returns-clause-unasked : goal.returns-clause-unasked
returns-clause-unasked g c = same_entries g.K.PartialEq.eq

pub returns-clause-again : goal.returns-clause-again
returns-clause-again g c = same_entries_then g.K.PartialEq.eq

pub returns-clause-live : goal.returns-clause-live
returns-clause-live g c = same_live g.K.PartialEq.eq

pub returns-clause-found : goal.returns-clause-found
returns-clause-found g c = same_found g.K.PartialEq.eq

pub returns-clause-coherent : goal.returns-clause-coherent
returns-clause-coherent g c = λ shows value size. same_coherent shows value size g.K.PartialEq.eq
