use Rattle.std.proofs.Common.{rules}
use Rattle.kg_keeper.proofs.KeptLemmas.{kept_none}
use Rattle.kg_keeper.proofs.history.History.new.Goals as goal

-- there is nothing to keep
pub invariant_of-result : goal.invariant_of-result
invariant_of-result c = kept_none _ _ _ (search rules) (search rules) (search rules)
