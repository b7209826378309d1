use Rattle.kg_level2.proofs.CoherenceLemmas.{settled_coherent}
use Rattle.kg_level2.proofs.laws.settled_tables_stay_coherent.Goals as goal

pub returns : goal.returns
returns g c = λ shows value size. settled_coherent shows value size g.K.PartialEq.eq g.met.K.CopyKey.eq_is_same
