use Rattle.std.specs.Prelude.{take}
use Rattle.kg_router.specs.Places.{ArePlaces}
use Rattle.kg_router.proofs.places.ServicePlaces.of.Given as goal

-- the places of the services so far
abbrev pub invariant-loop-place : goal.invariant-loop-place
invariant-loop-place l = ArePlaces (take l.place l.services) l.places
