use Rattle.std.proofs.Common.{[], arith}
use Rattle.kg_wire.proofs.RefusalLemmas.{bad_not_cut, bad_stays, bad_begins_none, cut_begins_none, bad_some, cut_some}
use Rattle.kg_wire.proofs.laws.refusals_told_apart.Goals as goal

pub returns-clause-apart : goal.returns-clause-apart
returns-clause-apart c = bad_not_cut

pub returns-clause-stays : goal.returns-clause-stays
returns-clause-stays c = bad_stays

pub returns-clause-bad : goal.returns-clause-bad
returns-clause-bad c = bad_begins_none

pub returns-clause-cut : goal.returns-clause-cut
returns-clause-cut c = cut_begins_none

pub returns-clause-none_bad : goal.returns-clause-none_bad
returns-clause-none_bad c = λ bad. let some = bad_some [] bad in omega arith

pub returns-clause-none_cut : goal.returns-clause-none_cut
returns-clause-none_cut c = λ cut. let some = cut_some [] cut in omega arith
