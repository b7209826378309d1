-- Machinery for proofs: the routes that can be found, in the order in which they are tried.
use Rattle.std.specs.Prelude.{◌≡◌, ℕ, ◌<◌, All, Any, List, Some, IsSome, length, slice_index_or}
use Rattle.std.specs.List.Sorted.{IsSortedByKey}
use Rattle.kg_row_types.specs.declared.route.Route.{Route}
use Rattle.kg_row_types.specs.declared.service.Service.{Service}
use Rattle.kg_router.specs.declared.candidate.Candidate.{Candidate}
use Rattle.kg_router.specs.Best.{service_of}
use Rattle.kg_router.specs.Ranks.{rank_of, rank_cmp}

-- the service that the route leads to stands at this place
pub record LeadsTo (services : List Service) (route : Route) (place : ℕ) : Type 0 where
  pub service : Service
  pub within : place < length services
  pub at : slice_index_or services place service ≡ service
  pub leads : service_of services route ≡ Some service

-- the candidate is a route whose service takes part, by their places and with the route's rank
pub record IsCandidate (services : List Service) (routes : List Route) (candidate : Candidate) : Type 0 where
  pub route : Route
  pub within : candidate.test < length routes
  pub at : slice_index_or routes candidate.test route ≡ route
  pub rank : candidate.rank ≡ rank_of route
  pub to : LeadsTo services route candidate.service

-- the candidates are the first so many routes whose services take part
pub record AreListed (services : List Service) (routes : List Route) (count : ℕ) (candidates : List Candidate) : Type 0 where
  pub each : All (IsCandidate services routes) candidates
  pub complete : (k : ℕ) (d : Route) → k < count → IsSome (service_of services (slice_index_or routes k d)) → Any (λ candidate. candidate.test ≡ k) candidates

-- all routes whose services take part, in the order of routes
pub record IsTable (services : List Service) (routes : List Route) (candidates : List Candidate) : Type 0 where
  pub listed : AreListed services routes (length routes) candidates
  pub ordered : IsSortedByKey (λ candidate. candidate.rank) rank_cmp candidates
