use Rattle.kg_visit.proofs.OnceLemmas.{asked_once}
use Rattle.kg_visit.proofs.laws.no_key_is_asked_twice.Goals as goal

pub returns : goal.returns
returns c = λ asked uses verdicts upstream in_order. asked_once asked in_order
