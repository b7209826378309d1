use Rattle.std.proofs.Common.{◌≡◌, length}
use Rattle.kg_admin_demo.specs.Words.{defaults, with_words}
use Rattle.kg_admin_demo.proofs.options.options_of.Given as goal

abbrev pub invariant-loop-rest : goal.invariant-loop-rest
invariant-loop-rest l = with_words l.options l.rest ≡ with_words defaults l.words

abbrev pub decreases-loop-rest : goal.decreases-loop-rest
decreases-loop-rest l = length l.rest
