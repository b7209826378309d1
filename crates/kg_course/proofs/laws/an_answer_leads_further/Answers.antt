use Rattle.kg_course.proofs.BoundLemmas.{passed_grows}
use Rattle.kg_course.proofs.laws.an_answer_leads_further.Goals as goal

pub returns : goal.returns
returns c = λ course some more lacking extends told is. passed_grows course some more lacking extends told is
