-- The rows that a router is built from.
use Rattle.std.specs.Prelude.{ℕ, List, map, nat_eq}
use Rattle.std.specs.List.{IsDistinct}
use Rattle.kg_row_types.specs.declared.route.Route.{Route}
use Rattle.kg_row_types.specs.declared.service.Service.{Service}

-- a revision's services and routes, in the order of insertion
pub record RouterRows : Type 0 where
  pub rev : ℕ
  pub services : List Service
  pub routes : List Route

-- no two routes have one id
abbrev pub HasDistinctRoutes : List Route → Type 0
HasDistinctRoutes routes = IsDistinct nat_eq (map (λ route. route.id) routes)
