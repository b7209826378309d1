use Rattle.kg_level1.proofs.CoherenceLemmas.{found_holds}
use Rattle.kg_level1.proofs.laws.coherent_levels_answer_what_holds.Goals as goal

pub returns : goal.returns
returns g c = λ shows value size l coherent. found_holds shows value size g.K.PartialEq.eq g.met.K.CopyKey.eq_is_same l coherent
