use Rattle.kg_level2.proofs.CoherenceLemmas.{abandoned_coherent, caught_up_coherent, closed_coherent, jumped_coherent, longer_coherent_table, looked_up_coherent, made_coherent_table}
use Rattle.kg_level2.proofs.laws.coherent_tables_stay_coherent.Goals as goal

pub returns-clause-made : goal.returns-clause-made
returns-clause-made g c = λ shows value size. made_coherent_table shows value size g.K.PartialEq.eq

pub returns-clause-looked_up : goal.returns-clause-looked_up
returns-clause-looked_up g c = λ shows value size. looked_up_coherent shows value size g.K.PartialEq.eq g.met.K.CopyKey.eq_is_same

pub returns-clause-abandoned : goal.returns-clause-abandoned
returns-clause-abandoned g c = λ shows value size. abandoned_coherent shows value size g.K.PartialEq.eq g.met.K.CopyKey.eq_is_same

pub returns-clause-released : goal.returns-clause-released
returns-clause-released g c = λ shows value size. closed_coherent shows value size g.K.PartialEq.eq

pub returns-clause-caught_up : goal.returns-clause-caught_up
returns-clause-caught_up g c = λ shows value size. caught_up_coherent shows value size g.K.PartialEq.eq

pub returns-clause-jumped : goal.returns-clause-jumped
returns-clause-jumped g c = λ shows value size. jumped_coherent shows value size g.K.PartialEq.eq

pub returns-clause-longer : goal.returns-clause-longer
returns-clause-longer g c = λ shows value longer size more. longer_coherent_table shows value longer size more g.K.PartialEq.eq
