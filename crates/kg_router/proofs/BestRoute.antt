-- Which route is the best.
use Rattle.std.proofs.Common.{◌≡◌, ◌≢◌, ℕ, Bool, true, false, ◌||◌, ◌==◌, List, map, get_or, Some, None, refl, sym, ap, ◌∙◌, find, filter, AllPairs, Contains, inl, inr, true≢false, nat_eq, arith}
use Rattle.std.proofs.lemmas.Bool.{cases_lt}
use Rattle.std.proofs.lemmas.Bool.Decides.{Decides-eqb}
use Rattle.std.proofs.lemmas.List.{get_or_default, get_or-map, length-map}
use Rattle.std.proofs.lemmas.List.Elements.{All-contains, All-contains_itself}
use Rattle.std.proofs.lemmas.List.Sums.{AllPass-from_list_all, list_all-from_AllPass}
use Rattle.std.proofs.lemmas.Map.Made.{AllPairs-from_IsDistinct}
use Rattle.kg_row_types.specs.declared.route.Route.{Route}
use Rattle.kg_router.specs.Order.{is_before}
use Rattle.kg_router.specs.Best.{is_first_of}
use Rattle.kg_router.specs.RouterRows.{HasDistinctRoutes}
use Rattle.kg_router.proofs.RouteOrder.{one_is_before}
use Rattle.kg_router.proofs.Search.{find-only, filter-none, Contains-filter, Contains-filtered}

-- no two routes have one id
abbrev pub AreApart : List Route → Type 0
AreApart routes = AllPairs (λ a b. a.id ≢ b.id) routes

pub apart : (routes : List Route) → HasDistinctRoutes routes → AreApart routes
apart routes distinct i j d below within same =
    let number = λ (route : Route). route.id in
    AllPairs-from_IsDistinct Decides-eqb (map number routes) distinct i j d.id below (omega (arith, within, length-map routes number))
    (get_or-map number routes i d d.id (omega (arith, below, within)) ∙ same ∙ sym (get_or-map number routes j d d.id within))

-- two members of one id are one, where the ids are distinct
pub same_by_id : (routes : List Route) → AreApart routes → (a b : Route) → Contains routes a → Contains routes b → a.id ≡ b.id → a ≡ b
same_by_id routes distinct a b at_a at_b same =
    let is_b : get_or routes at_b.0 a ≡ b = get_or_default routes at_b.0 a b at_b.1 ∙ at_b.2 in
    elim (cases_lt at_a.0 at_b.0) [
      | inl below ↦ absurd (distinct at_a.0 at_b.0 a below at_b.1 (ap (λ r. r.id) at_a.2 ∙ same ∙ sym (ap (λ r. r.id) is_b)))
      | inr beyond ↦ elim (cases_lt at_b.0 at_a.0) [
        | inl below ↦ absurd (distinct at_b.0 at_a.0 a below at_a.1 (ap (λ r. r.id) is_b ∙ sym same ∙ sym (ap (λ r. r.id) at_a.2)))
        | inr level ↦
            let one : at_a.0 ≡ at_b.0 = omega arith in
            sym at_a.2 ∙ ap (λ k. get_or routes k a) one ∙ is_b
      ]
    ]

-- of two routes, one of which isn't before the other, the other is before it or has its id
pub first_or_same : (one other : Route) → is_before other one ≡ false → (other.id == one.id || is_before one other) ≡ true
first_or_same one other behind = by_ids (nat_eq other.id one.id) refl
  where
    equal : (m n : ℕ) → m ≡ n → nat_eq m n ≡ true
    equal m n same = grind arith

    by_ids : (same : Bool) → nat_eq other.id one.id ≡ same → (same || is_before one other) ≡ true
    by_ids true is = refl
    by_ids false is = elim (one_is_before one other (λ same. true≢false (sym (equal other.id one.id (sym same)) ∙ is))) [
      | inl before ↦ before
      | inr before ↦ absurd (true≢false (sym before ∙ behind))
    ]

-- a route that another one doesn't come before has the other's id, or comes first
same_id : (one x : Route) → is_before x one ≡ false → (one.id == x.id || is_before x one) ≡ true → x.id ≡ one.id
same_id one x behind first = by_ids (nat_eq one.id x.id) refl first
  where
    by_ids : (same : Bool) → nat_eq one.id x.id ≡ same → (same || is_before x one) ≡ true → x.id ≡ one.id
    by_ids true is first = grind arith
    by_ids false is first = absurd (true≢false (sym first ∙ behind))

module _ (routes : List Route) (distinct : AreApart routes) (takes : Route → Bool) where
  -- a route that takes a request and that none such is before is the best
  pub best-found : (one : Route) → Contains routes one → takes one ≡ true → ((other : Route) → Contains routes other → takes other ≡ true → is_before other one ≡ false) → find (is_first_of (filter takes routes)) (filter takes routes) ≡ Some one
  best-found one within takes_one behind =
      let taking = filter takes routes in
      let here = Contains-filter takes routes one within takes_one in
      let rivals : (x : Route) → Contains taking x → is_before x one ≡ false = λ x there. let of = Contains-filtered takes routes x there in behind x of.0 of.1 in
      let first = list_all-from_AllPass (λ other. other.id == one.id || is_before one other) taking (λ k d below. first_or_same one (get_or taking k d) (rivals (get_or taking k d) (All-contains_itself taking k d below))) in
      find-only (is_first_of taking) taking one here first
      (λ x there is_first.
      let at_one = All-contains (λ other. (other.id == x.id || is_before x other) ≡ true) taking one (AllPass-from_list_all (λ other. other.id == x.id || is_before x other) taking is_first) here in
      same_by_id routes distinct x one (Contains-filtered takes routes x there).0 within (same_id one x (rivals x there) at_one))

  -- where none takes it, none is
  pub best-none : ((other : Route) → Contains routes other → takes other ≡ false) → find (is_first_of (filter takes routes)) (filter takes routes) ≡ None
  best-none none =
      ap (λ taking. find (is_first_of taking) taking) (filter-none takes routes (λ k d below. none (get_or routes k d) (All-contains_itself routes k d below)))
