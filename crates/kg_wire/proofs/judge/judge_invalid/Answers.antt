use Rattle.std.proofs.Common.{arith}
use Rattle.kg_wire.proofs.JudgedLemmas.{bad_when_never}
use Rattle.kg_wire.proofs.judge.judge_invalid.Goals as goal

pub returns-then-held-ge-MOST_HEAD : goal.returns-then-held-ge-MOST_HEAD
returns-then-held-ge-MOST_HEAD c = λ room. bad_when_never c.args.held.now c.requires.never (omega arith)
