use Rattle.kg_course.proofs.UpstreamLemmas.{asked_last}
use Rattle.kg_course.proofs.laws.the_upstream_is_asked_last.Goals as goal

pub returns : goal.returns
returns c = λ asked entity verdicts message answer is. asked_last asked entity verdicts message answer is
