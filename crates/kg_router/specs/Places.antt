-- Machinery for proofs: where the services stand, by their ids.
use Rattle.std.specs.Prelude.{◌≡◌, ◌==◌, ℕ, List, Option, nat_eq}
use Rattle.std.specs.List.{position}
use Rattle.indexmap.specs.IndexMap.{get}
use Rattle.kg_row_types.specs.declared.service.Service.{Service}
use Rattle.kg_router.specs.declared.places.ServicePlaces.{ServicePlaces}

-- what is kept of an id
abbrev pub place_in : ServicePlaces → ℕ → Option ℕ
place_in places id = get nat_eq places.by_id id

-- of each id it is the place of the first service that has it
abbrev pub ArePlaces : List Service → ServicePlaces → Type 0
ArePlaces services places = (id : ℕ) → place_in places id ≡ position (λ service. service.id == id) services
