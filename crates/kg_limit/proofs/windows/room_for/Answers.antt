use Rattle.kg_limit.proofs.CountLemmas.{all_told}
use Rattle.kg_limit.proofs.windows.room_for.Goals as goal

pub returns-in_err-at-clause-same : goal.returns-in_err-at-clause-same
returns-in_err-at-clause-same c = all_told c.args.time _ _ _ _ c.give_back.ensures.same c.give_back-2.ensures.same c.place_of.ensures.same

pub returns-clause-same : goal.returns-clause-same
returns-clause-same c = all_told c.args.time _ _ _ _ c.give_back.ensures.same c.give_back-2.ensures.same c.place_of.ensures.same
