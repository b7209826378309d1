use Rattle.kg_course.proofs.CourseLemmas.{run_still}
use Rattle.kg_course.proofs.laws.the_first_lack_stays.Goals as goal

pub returns : goal.returns
returns c = λ course some more lacking extends lacks is. run_still course some more lacking extends lacks is
