use Rattle.kg_router.specs.Table.{AreListed}
use Rattle.kg_router.proofs.candidate.listed.Given as goal

-- the candidates among the routes so far
abbrev pub invariant-loop-place : goal.invariant-loop-place
invariant-loop-place l = AreListed l.services l.tests l.place l.candidates.items
