-- What a search hands out.
use Rattle.kg_router.specs.Best.{Choice}
use Rattle.kg_router.specs.declared.generation.Choice.{Choice as Found}

-- the choice behind its references
abbrev pub choice_at : Found → Choice
choice_at found = record { route = found.route.now; service = found.service.now; cut = found.cut }
