use Rattle.std.proofs.Common.{rules}
use Rattle.kg_history.proofs.Moves.{looks}
use Rattle.kg_history.proofs.pass.Pass.look.Goals as goal

-- a look keeps the rule
pub load-requires : goal.load-requires
load-requires g c = (search rules, search rules, looks _ _ _)
