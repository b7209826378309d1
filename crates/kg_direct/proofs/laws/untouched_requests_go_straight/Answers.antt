use Rattle.kg_direct.proofs.UntouchedLemmas.{replies, wants_upstream}
use Rattle.kg_direct.proofs.laws.untouched_requests_go_straight.Goals as goal

pub returns-clause-wants : goal.returns-clause-wants
returns-clause-wants c = λ asked choice entity verdicts best none. wants_upstream asked choice entity verdicts best none

pub returns-clause-replies : goal.returns-clause-replies
returns-clause-replies c = λ asked choice entity verdicts answer best none. replies asked choice entity verdicts answer best none
