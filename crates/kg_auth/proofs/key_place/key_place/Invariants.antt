use Rattle.std.proofs.Common.{◌≡◌, find, None, take}
use Rattle.std.specs.List.{flat_map}
use Rattle.kg_auth.specs.KeyPlaces.{is_used, places_of}
use Rattle.kg_auth.proofs.key_place.key_place.Given as goal

-- nothing stands at the places of the names so far
abbrev pub invariant-loop-name : goal.invariant-loop-name
invariant-loop-name l = find (is_used l.ctx) (flat_map (places_of l.config) (take l.name-index l.name-items)) ≡ None
