use Rattle.std.proofs.Common.{Some}
use Rattle.kg_limit.proofs.HitLemmas.{same_hits}
use Rattle.kg_limit.proofs.windows.Windows.reserve.Goals as goal

pub returns-in_err-room-clause-same : goal.returns-in_err-room-clause-same
returns-in_err-room-clause-same c = λ hits. same_hits c.args.self.now hits c.room_for.new.table c.args.self.now.room c.room_for.ensures.same

pub returns-clause-same : goal.returns-clause-same
returns-clause-same c = λ hits. same_hits c.args.self.now hits c.room_for.new.table (Some c.in_ok-room.room) c.room_for.ensures.same
