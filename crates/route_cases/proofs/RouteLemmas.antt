-- Valid routes with distinct ids, when one is added.
use Rattle.std.proofs.Common.{◌≡◌, ℕ, nat_eq, false, ◌||◌, List, [], ◌∷◌, ◌++◌, map, All, OnOk, OnErr, Result, Ok, Err, refl, sym, ap, subst, ◌∙◌}
use Rattle.std.proofs.lemmas.Cmp.{nat_eq_equiv}
use Rattle.std.proofs.lemmas.List.{map-append}
use Rattle.std.proofs.lemmas.List.Elements.{All-nil, All-push}
use Rattle.std.proofs.lemmas.Map.Keys.{IsDistinct-push}
use Rattle.std.specs.List.{IsDistinct, list_any}
use Rattle.kg_row_types.specs.ValidRows.{IsValidRoute}
use Rattle.kg_row_types.specs.declared.route.Route.{Route}
use Rattle.kg_router.specs.RouterRows.{HasDistinctRoutes}

-- the routes are valid, and no two have one id
abbrev pub IsTable : List Route → Type 0
IsTable routes = All IsValidRoute routes × HasDistinctRoutes routes

pub no_routes : IsTable []
unfolding IsDistinct
no_routes = (All-nil IsValidRoute, tt)

-- a number among the ids is the id of a route
among_ids : (id : ℕ) (routes : List Route) → list_any (λ route. nat_eq id route.id) routes ≡ list_any (nat_eq id) (map (λ route. route.id) routes)
among_ids id [] = refl
among_ids id (route ∷ routes) = ap (λ b. nat_eq id route.id || b) (among_ids id routes)

-- one more route, whose id no route has
one_more : (route : Route) (routes : List Route) → IsTable routes → IsValidRoute route → list_any (λ other. nat_eq route.id other.id) routes ≡ false
    → IsTable (routes ++ route ∷ [])
one_more route routes table valid new = (
  All-push IsValidRoute routes route table.0 valid,
  subst (IsDistinct nat_eq) (sym (map-append (λ one. one.id) routes (route ∷ [])))
      (IsDistinct-push nat_eq_equiv (map (λ one. one.id) routes) route.id table.1 (sym (among_ids route.id routes) ∙ new)),
)

-- the same, where there may have been no memory for it
pub pushed : {A E : Type 0} (result : Result A E) (route : Route) (before after : List Route)
    → IsTable before → IsValidRoute route → list_any (λ other. nat_eq route.id other.id) before ≡ false
    → OnOk result (after ≡ before ++ route ∷ []) → OnErr result (after ≡ before) → IsTable after
pushed (Ok done) route before after table valid new ok err = subst IsTable (sym ok) (one_more route before table valid new)
pushed (Err e) route before after table valid new ok err = subst IsTable (sym err) table
