use Rattle.std.specs.Prelude.{All, take}
use Rattle.kg_router.proofs.TableLemmas.{IsUnfit}
use Rattle.kg_router.proofs.generation.RouterGen.find.Given as goal

-- no route of the candidates so far fits
abbrev pub invariant-loop-candidate : goal.invariant-loop-candidate
invariant-loop-candidate l = All (IsUnfit l.tests l.request) (take l.candidate-index l.candidate-items)
