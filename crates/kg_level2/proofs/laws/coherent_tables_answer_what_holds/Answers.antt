use Rattle.kg_level2.proofs.CoherenceLemmas.{hit_holds, stale_holds}
use Rattle.kg_level2.proofs.laws.coherent_tables_answer_what_holds.Goals as goal

pub returns-clause-hit : goal.returns-clause-hit
returns-clause-hit g c = λ shows value size. hit_holds shows value size g.K.PartialEq.eq g.met.K.CopyKey.eq_is_same

pub returns-clause-stale : goal.returns-clause-stale
returns-clause-stale g c = λ shows value size. stale_holds shows value size g.K.PartialEq.eq g.met.K.CopyKey.eq_is_same
