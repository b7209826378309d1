use Rattle.kg_level1.proofs.CoherenceLemmas.{answer_coherent, extend_coherent, jump_coherent, longer_coherent, made_coherent, put_coherent, read_coherent, sync_coherent}
use Rattle.kg_level1.proofs.laws.coherent_levels_stay_coherent.Goals as goal

pub returns-clause-made : goal.returns-clause-made
returns-clause-made g c = λ shows value size. made_coherent shows value size g.K.PartialEq.eq

pub returns-clause-answered : goal.returns-clause-answered
returns-clause-answered g c = λ shows value size. answer_coherent shows value size g.K.PartialEq.eq

pub returns-clause-read : goal.returns-clause-read
returns-clause-read g c = λ shows value size. read_coherent shows value size g.K.PartialEq.eq

pub returns-clause-put : goal.returns-clause-put
returns-clause-put g c = λ shows value size. put_coherent shows value size g.K.PartialEq.eq g.met.K.CopyKey.eq_is_same

pub returns-clause-extended : goal.returns-clause-extended
returns-clause-extended g c = λ shows value size. extend_coherent shows value size g.K.PartialEq.eq g.met.K.CopyKey.eq_is_same

pub returns-clause-synced : goal.returns-clause-synced
returns-clause-synced g c = λ shows value size. sync_coherent shows value size g.K.PartialEq.eq

pub returns-clause-jumped : goal.returns-clause-jumped
returns-clause-jumped g c = λ shows value size. jump_coherent shows value size g.K.PartialEq.eq

pub returns-clause-longer : goal.returns-clause-longer
returns-clause-longer g c = λ shows value longer size more. longer_coherent shows value longer size more
