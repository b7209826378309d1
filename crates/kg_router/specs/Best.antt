-- The route and the service that take a request (Kong Gateway manual, "How Kong matches requests").
use Rattle.std.specs.Prelude.{ℕ, Bool, ◌&&◌, ◌||◌, ◌==◌, List, filter, find, Option, Some, None, is_some, option_map, option_and_then, if◌then◌else◌}
use Rattle.std.specs.List.{list_all}
use Rattle.kg_row_types.specs.declared.route.Route.{Route}
use Rattle.kg_row_types.specs.declared.service.Service.{Service}
use Rattle.kg_match.specs.Fits.{fits, cut_of}
use Rattle.kg_message.specs.declared.request.Request.{Request}
use Rattle.kg_router.specs.Order.{is_before}

-- the service that the route leads to, where it is there and enabled
abbrev pub service_of : List Service → Route → Option Service
service_of services route =
    option_and_then (λ service. if service.enabled then Some service else None)
    (find (λ service. service.id == route.service) services)

-- the route fits the request, and its service takes part
abbrev pub takes : List Service → Request → Route → Bool
takes services request route = fits route request && is_some (service_of services route)

-- the route comes before each of these that is another one
abbrev pub is_first_of : List Route → Route → Bool
is_first_of rivals one = list_all (λ other. other.id == one.id || is_before one other) rivals

-- of the routes that take the request, the one that comes before each other
abbrev pub best_route : List Service → List Route → Request → Option Route
best_route services routes request =
    let taking = filter (takes services request) routes in
    find (is_first_of taking) taking

-- a route with its service, and how many bytes of the request's path it takes
pub record Choice : Type 0 where
  pub route : Route
  pub service : Service
  pub cut : ℕ

-- the best route with its service and its cut
abbrev pub best_choice : List Service → List Route → Request → Option Choice
best_choice services routes request =
    option_and_then
    (λ route. option_map (λ service. record { route = route; service = service; cut = cut_of route request }) (service_of services route))
    (best_route services routes request)
