use Rattle.kg_layers.proofs.TurnLemmas.{caught_up_claim, given_up_claim, jumped_claim, other_claim, own_claim, settles_own}
use Rattle.kg_layers.proofs.laws.turns_keep_claims.Goals as goal

pub returns-clause-own : goal.returns-clause-own
returns-clause-own g c = λ shows value size who now f h t u. own_claim shows value size g.K.PartialEq.eq who now f h t u g.met.K.Eq.laws

pub returns-clause-others : goal.returns-clause-others
returns-clause-others g c = λ shows value size who now f h t u. other_claim shows value size g.K.PartialEq.eq who now f h t u g.met.K.CopyKey.eq_is_same

pub returns-clause-given_up : goal.returns-clause-given_up
returns-clause-given_up g c = given_up_claim g.K.PartialEq.eq g.met.K.CopyKey.eq_is_same

pub returns-clause-caught_up : goal.returns-clause-caught_up
returns-clause-caught_up g c = caught_up_claim g.K.PartialEq.eq

pub returns-clause-jumped : goal.returns-clause-jumped
returns-clause-jumped g c = jumped_claim g.K.PartialEq.eq

pub returns-clause-no_stranger : goal.returns-clause-no_stranger
returns-clause-no_stranger g c = λ shows value size. settles_own g.K.PartialEq.eq shows value size
