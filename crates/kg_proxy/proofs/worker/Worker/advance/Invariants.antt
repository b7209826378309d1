-- what was answered so far was answered by the level at the call
use Rattle.std.proofs.Common.{◌≡◌, ◌-◌, false}
use Rattle.kg_proxy.specs.Advancing.{Advances}
use Rattle.kg_proxy.specs.Workers.{HasSameHolding}
use Rattle.kg_proxy.proofs.AdvanceLemmas.{passed_by_now}
use Rattle.kg_proxy.proofs.worker.Worker.advance.Given as goal

abbrev pub invariant-loop-used : goal.invariant-loop-used
invariant-loop-used l = HasSameHolding l.initial.self l.self × Advances l.initial.self.keys l.now l.initial.visit l.visit × (l.visit.lost ≡ false)

abbrev pub decreases-loop-used : goal.decreases-loop-used
decreases-loop-used l = 9 - passed_by_now l.visit
