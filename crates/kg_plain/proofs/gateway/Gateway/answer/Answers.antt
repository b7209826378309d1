use Rattle.kg_plain.proofs.StraightLemmas.{straight_responds}
use Rattle.kg_plain.proofs.gateway.Gateway.answer.Goals as goal

-- it had its answer at once
pub returns-in-Ok-Straight : goal.returns-in-Ok-Straight
returns-in-Ok-Straight c hits stands =
    straight_responds c.args.self.now hits c.args.time c.args.request c.in-Ok-Straight.answer c.args.windows.now
    (rw c.in-Ok-Straight.field-0-is at c.in-Ok-Straight.ensures) stands
