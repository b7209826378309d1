-- Where some route takes a request, one of those that take it is the best.
use Rattle.std.proofs.Common.{◌≡◌, suc, Bool, true, false, cond, ◌||◌, List, [], ◌∷◌, All, Contains, Option, Some, None, is_some, option_map, option_and_then, find, filter, subst, get_or, refl, sym, ap, ◌∙◌, true≢false, arith}
use Rattle.std.specs.List.{list_any}
use Rattle.std.proofs.lemmas.List.Elements.{All-cons, All-contains, All-nil}
use Rattle.kg_row_types.specs.declared.route.Route.{Route}
use Rattle.kg_row_types.specs.declared.service.Service.{Service}
use Rattle.kg_match.specs.Fits.{cut_of, fits}
use Rattle.kg_message.specs.declared.request.Request.{Request}
use Rattle.kg_router.specs.Best.{Choice, best_choice, is_first_of, service_of, takes}
use Rattle.kg_router.specs.Order.{is_before}
use Rattle.kg_router.proofs.BestRoute.{AreApart, best-found}
use Rattle.kg_router.proofs.RouteOrder.{is_before-irreflexive, is_before-transitive}
use Rattle.kg_router.proofs.Search.{Contains-filter, Contains-filtered}
use Rattle.kg_router.proofs.TableLemmas.{and_right, choice_for}

-- the route isn't before the other
abbrev IsNotBefore : Route → Route → Type 0
IsNotBefore one other = is_before other one ≡ false

untrue : (b : Bool) → (b ≡ true → ⊥) → b ≡ false
untrue true never = absurd (never refl)
untrue false _ = refl

not_before_itself : (x : Route) → IsNotBefore x x
not_before_itself x = untrue (is_before x x) (is_before-irreflexive x)

-- a first one among some routes: none of them is before it
pub first-exists : (x : Route) (xs : List Route) → (one : Route) × Contains (x ∷ xs) one × All (IsNotBefore one) (x ∷ xs)
first-exists x [] = (x, (0, omega arith, refl), All-cons (IsNotBefore x) x [] (not_before_itself x) (All-nil (IsNotBefore x)))
first-exists x (y ∷ ys) = by_order (first-exists y ys)
  where
    by_order : (one : Route) × Contains (y ∷ ys) one × All (IsNotBefore one) (y ∷ ys) → (one : Route) × Contains (x ∷ y ∷ ys) one × All (IsNotBefore one) (x ∷ y ∷ ys)
    by_order later = by_test (is_before x later.0) refl
      where
        by_test : (before : Bool) → is_before x later.0 ≡ before → (one : Route) × Contains (x ∷ y ∷ ys) one × All (IsNotBefore one) (x ∷ y ∷ ys)
        by_test true is = (
          x,
          (0, omega arith, refl),
          All-cons (IsNotBefore x) x (y ∷ ys) (not_before_itself x)
              (λ k d below. untrue (is_before (get_or (y ∷ ys) k d) x) (λ before. true≢false (sym (is_before-transitive (get_or (y ∷ ys) k d) x later.0 before is) ∙ later.2 k d below))),
        )
        by_test false is = (
          later.0,
          (suc later.1.0, omega (arith, later.1.1), later.1.2),
          All-cons (IsNotBefore later.0) x (y ∷ ys) is later.2,
        )

-- a list has members
abbrev has_some : {A : Type 0} → List A → Bool
has_some [] = false
has_some (x ∷ xs) = true

-- something is left of a list exactly where a member passes
some_left : {A : Type 0} (test : A → Bool) (xs : List A) → has_some (filter test xs) ≡ list_any test xs
some_left test [] = refl
some_left {A} test (x ∷ xs) = by_test (test x) (some_left test xs)
  where
    by_test : (passes : Bool) → has_some (filter test xs) ≡ list_any test xs → has_some (cond passes (x ∷ filter test xs) (filter test xs)) ≡ (passes || list_any test xs)
    by_test true later = refl
    by_test false later = later

-- a route with a service and its cut
abbrev chosen : Route → Request → Service → Choice
chosen route request service = record { route = route; service = service; cut = cut_of route request }

chosen-some : (route : Route) (request : Request) (led : Option Service) → is_some (option_map (chosen route request) led) ≡ is_some led
chosen-some route request None = refl
chosen-some route request (Some service) = refl

module _ (services : List Service) (routes : List Route) (request : Request) (distinct : AreApart routes) where
  some-choice : (one : Route) → takes services request one ≡ true → find (is_first_of (filter (takes services request) routes)) (filter (takes services request) routes) ≡ Some one → is_some (best_choice services routes request) ≡ true
  some-choice one taking found =
      ap (λ best. is_some (option_and_then (choice_for services request) best)) found
      ∙ chosen-some one request (service_of services one)
      ∙ and_right (fits one request) (is_some (service_of services one)) taking

  pub some_best : is_some (best_choice services routes request) ≡ list_any (takes services request) routes
  some_best = by_taking (filter (takes services request) routes) refl
    where
      by_taking : (taking : List Route) → filter (takes services request) routes ≡ taking → is_some (best_choice services routes request) ≡ list_any (takes services request) routes
      by_taking [] is =
          ap (λ taking. is_some (option_and_then (choice_for services request) (find (is_first_of taking) taking))) is
          ∙ ap has_some (sym is)
          ∙ some_left (takes services request) routes
      by_taking (x ∷ xs) is =
          let first = first-exists x xs in
          let one = first.0 in
          let there : Contains (filter (takes services request) routes) one = subst (λ taking. Contains taking one) (sym is) first.1 in
          let of = Contains-filtered (takes services request) routes one there in
          let behind : (other : Route) → Contains routes other → takes services request other ≡ true → is_before other one ≡ false
          = λ other within takes_other. All-contains (IsNotBefore one) (x ∷ xs) other first.2 (subst (λ taking. Contains taking other) is (Contains-filter (takes services request) routes other within takes_other)) in
          some-choice one of.1 (best-found routes distinct (takes services request) one of.0 of.1 behind)
          ∙ ap has_some (sym is)
          ∙ some_left (takes services request) routes
