use Rattle.kg_level2.proofs.HolderLemmas.{no_stranger, out_abandoned, out_caught_up, out_closed, out_jumped, out_looked_up, out_settled, taken_out}
use Rattle.kg_level2.proofs.laws.claims_stay_out.Goals as goal

pub returns-clause-taken : goal.returns-clause-taken
returns-clause-taken g c = taken_out g.K.PartialEq.eq g.met.K.Eq.laws

pub returns-clause-looked_up : goal.returns-clause-looked_up
returns-clause-looked_up g c = out_looked_up g.K.PartialEq.eq

pub returns-clause-settled : goal.returns-clause-settled
returns-clause-settled g c = out_settled g.K.PartialEq.eq g.met.K.CopyKey.eq_is_same

pub returns-clause-abandoned : goal.returns-clause-abandoned
returns-clause-abandoned g c = out_abandoned g.K.PartialEq.eq g.met.K.CopyKey.eq_is_same

pub returns-clause-released : goal.returns-clause-released
returns-clause-released g c = out_closed g.K.PartialEq.eq g.met.K.CopyKey.eq_is_same

pub returns-clause-caught_up : goal.returns-clause-caught_up
returns-clause-caught_up g c = out_caught_up g.K.PartialEq.eq

pub returns-clause-jumped : goal.returns-clause-jumped
returns-clause-jumped g c = out_jumped g.K.PartialEq.eq

pub returns-clause-no_stranger : goal.returns-clause-no_stranger
returns-clause-no_stranger g c = no_stranger g.K.PartialEq.eq
