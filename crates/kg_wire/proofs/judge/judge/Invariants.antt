use Rattle.std.proofs.Common.{◌-◌, length}
use Rattle.kg_wire.proofs.judge.judge.Given as goal

abbrev pub decreases-loop-judged : goal.decreases-loop-judged
decreases-loop-judged l = 21845 - length l.room.items
