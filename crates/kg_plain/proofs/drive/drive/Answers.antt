use Rattle.kg_plain.proofs.DriveLemmas.{fewer_left, goes_further, responds}
use Rattle.kg_plain.proofs.drive.drive.Goals as goal

-- fewer questions are left
pub loop-windows-smaller : goal.loop-windows-smaller
loop-windows-smaller c = fewer_left c.args.gateway.now c.loop-windows.visit c.answer_own.new.visit c.loop-windows.windows c.answer_own.new.windows c.in-Ok.ensures

-- one more was answered
pub loop-windows-preserved : goal.loop-windows-preserved
loop-windows-preserved c = goes_further c.args.gateway.now c.args.visit c.args.windows.now c.loop-windows.visit c.answer_own.new.visit c.loop-windows.windows c.answer_own.new.windows c.loop-windows.invariant c.in-Ok.ensures

-- all were
pub returns : goal.returns
returns c time request starts hits stands =
    responds c.args.gateway.now hits time request c.args.visit c.loop-windows.visit c.args.windows.now c.loop-windows.windows c.last_reply.result starts
    c.loop-windows.invariant stands c.last_reply.ensures
