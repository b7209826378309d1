-- The first candidate whose route fits leads to the best route.
use Rattle.std.proofs.Common.{◌≡◌, ℕ, ◌+◌, ◌<◌, ◌≤◌, Bool, true, false, cond, ◌&&◌, List, [], ◌∷◌, ◌++◌, length, get_or, take, Option, Some, None, is_some, IsSome, option_map, option_and_then, refl, sym, ap, ◌∙◌, subst, All, Any, Contains, find, nat_lt, inl, inr, true≢false, is_lt, arith}
use Rattle.std.proofs.lemmas.Bool.{cases_lt}
use Rattle.std.proofs.lemmas.List.{get_or_default, get_or_append_left, get_or-take, length-take-le, length_push, get_or_push}
use Rattle.std.proofs.lemmas.List.Elements.{All-contains, All-contains_itself, All-push}
use Rattle.std.proofs.lemmas.List.MinMax.{ranks_by}
use Rattle.std.proofs.lemmas.List.Sorted.{All-permutation, IsPermutation-sym, sorted_far}
use Rattle.std.specs.List.{position, position_or_len}
use Rattle.std.proofs.lemmas.Bool.{ltb-true}
use Rattle.std.proofs.lemmas.List.Folds.{find_at}
use Rattle.std.proofs.lemmas.Option.{same_Some, slice_get-get_or, slice_get_past}
use Rattle.std.specs.List.Sorted.{IsPermutation}
use Rattle.kg_row_types.specs.declared.route.Route.{Route}
use Rattle.kg_row_types.specs.declared.service.Service.{Service}
use Rattle.kg_match.specs.Fits.{fits, cut_of, match_of}
use Rattle.kg_message.specs.declared.request.Request.{Request}
use Rattle.kg_router.specs.declared.candidate.Candidate.{Candidate}
use Rattle.kg_router.specs.Best.{Choice, service_of, takes, best_choice}
use Rattle.kg_router.specs.Order.{is_before}
use Rattle.kg_router.specs.Ranks.{rank_of, rank_cmp}
use Rattle.kg_router.specs.Table.{IsCandidate, AreListed, IsTable}
use Rattle.kg_router.proofs.BestRoute.{AreApart, best-found, best-none}
use Rattle.kg_router.proofs.RouteOrder.{rank_cmp_total, route_cmp_by_rank}

pub and_left : (a b : Bool) → (a && b) ≡ true → a ≡ true
and_left true b both = refl
and_left false b both = absurd (cc)

pub and_right : (a b : Bool) → (a && b) ≡ true → b ≡ true
and_right true b both = both
and_right false b both = absurd (cc)

-- what a test answers for a route that fits
pub matched : (route : Route) (request : Request) (cut : ℕ) → match_of route request ≡ Some cut → (fits route request ≡ true) × (cut ≡ cut_of route request)
matched route request cut found = by_fit (fits route request) refl found
  where
    by_fit : (fit : Bool) → fits route request ≡ fit → cond fit (Some (cut_of route request)) None ≡ Some cut → (fits route request ≡ true) × (cut ≡ cut_of route request)
    by_fit true is found = (is, sym (same_Some (cut_of route request) cut found))
    by_fit false is found = absurd (cc)

-- and for one that doesn't
pub unmatched : (route : Route) (request : Request) → match_of route request ≡ None → fits route request ≡ false
unmatched route request none = by_fit (fits route request) refl none
  where
    by_fit : (fit : Bool) → fits route request ≡ fit → cond fit (Some (cut_of route request)) None ≡ None → fits route request ≡ false
    by_fit true is none = absurd (cc)
    by_fit false is none = is

-- the candidate's route doesn't fit
abbrev pub IsUnfit : List Route → Request → Candidate → Type 0
IsUnfit routes request candidate = (d : Route) → fits (get_or routes candidate.test d) request ≡ false

-- the candidate of a rank before another's
abbrev ranks_before : Candidate → Candidate → Bool
ranks_before a b = is_lt (rank_cmp a.rank b.rank)

-- the choice of a route and its service
abbrev pub choice_for : List Service → Request → Route → Option Choice
choice_for services request route = option_map (λ service. record { route = route; service = service; cut = cut_of route request }) (service_of services route)

module _ (services : List Service) (routes : List Route) (candidates : List Candidate) (request : Request) (table : IsTable services routes candidates) (distinct : AreApart routes) where
  -- a route that takes the request has a candidate
  candidate-of : (route : Route) → Contains routes route → takes services request route ≡ true → Any (λ candidate. get_or routes candidate.test route ≡ route) candidates
  candidate-of route within taking =
      let led : IsSome (service_of services (get_or routes within.0 route)) = subst (λ r. IsSome (service_of services r)) (sym within.2) (and_right (fits route request) (is_some (service_of services route)) taking) in
      let any = table.listed.complete within.0 route within.1 led in
      (any.0, any.1, any.2, any.3, ap (λ k. get_or routes k route) any.4 ∙ within.2)

  -- a route that takes the request is none whose candidate is unfit
  not-unfit : (route : Route) (candidate : Candidate) → takes services request route ≡ true → get_or routes candidate.test route ≡ route → IsUnfit routes request candidate → ⊥
  not-unfit route candidate taking at unfit =
      true≢false (sym (and_left (fits route request) (is_some (service_of services route)) taking) ∙ ap (λ r. fits r request) (sym at) ∙ unfit route)

  -- where no candidate fits, no route takes the request
  pub none-takes : All (IsUnfit routes request) candidates → best_choice services routes request ≡ None
  none-takes unfit = ap (option_and_then (choice_for services request)) (best-none routes distinct (takes services request) (λ other within. by_taking other within (takes services request other) refl))
    where
      by_taking : (other : Route) → Contains routes other → (taking : Bool) → takes services request other ≡ taking → takes services request other ≡ false
      by_taking other within true is =
          let any = candidate-of other within is in
          absurd (not-unfit other any.1 is any.4 (subst (IsUnfit routes request) any.3 (unfit any.0 any.1 any.2)))
      by_taking other within false is = is

  module _ (at : ℕ) (candidate : Candidate) (below : at < length candidates) (here : get_or candidates at candidate ≡ candidate) (unfit : All (IsUnfit routes request) (take at candidates)) where
    own : IsCandidate services routes candidate
    own = subst (IsCandidate services routes) here (table.listed.each at candidate below)

    -- no candidate before it fits, so what fits comes after it
    later : (other : Route) → takes services request other ≡ true → (place : ℕ) (rival : Candidate) → get_or candidates place rival ≡ rival → get_or routes rival.test other ≡ other → at ≤ place
    later other taking place rival there rival_at = elim (cases_lt place at) [
      | inl before ↦
          let within : place < length (take at candidates) = omega (arith, length-take-le at candidates (omega (arith, below))) in
          let same : get_or (take at candidates) place rival ≡ rival = get_or-take at candidates place rival before ∙ there in
          absurd (not-unfit other rival taking rival_at (subst (IsUnfit routes request) same (unfit place rival within)))
      | inr beyond ↦ beyond
    ]

    behind : (other : Route) → Contains routes other → takes services request other ≡ true → is_before other own.route ≡ false
    behind other within taking =
        let any = candidate-of other within taking in
        let rival = any.1 in
        let far = sorted_far ranks_before (ranks_by rank_cmp_total (λ (c : Candidate). c.rank)) candidates table.ordered at any.0 rival (later other taking any.0 rival any.3 any.4) any.2 in
        let its = subst (IsCandidate services routes) any.3 (table.listed.each any.0 rival any.2) in
        let its_route : its.route ≡ other = sym its.at ∙ get_or_default routes rival.test its.route other its.within ∙ any.4 in
        let at_here : get_or candidates at rival ≡ candidate = get_or_default candidates at rival candidate below ∙ here in
        let ranks : ranks_before rival candidate ≡ false = (λ i. ranks_before (sym any.3 i) (sym at_here i)) ∙ far in
        ap is_lt (route_cmp_by_rank other own.route ∙ (λ i. rank_cmp (rank_of (sym its_route i)) (sym own.rank i)) ∙ (λ i. rank_cmp (sym its.rank i) candidate.rank)) ∙ ranks

    -- the first candidate whose route fits is the choice
    pub first-takes : (route : Route) (service : Service) → get_or routes candidate.test route ≡ route → get_or services candidate.service service ≡ service → fits route request ≡ true → best_choice services routes request ≡ Some (record { route = route; service = service; cut = cut_of route request })
    first-takes route service at_route at_service fit =
        let same_route : own.route ≡ route = sym own.at ∙ get_or_default routes candidate.test own.route route own.within ∙ at_route in
        let same_service : own.to.service ≡ service = sym own.to.at ∙ get_or_default services candidate.service own.to.service service own.to.within ∙ at_service in
        let within : Contains routes own.route = (candidate.test, own.within, own.at) in
        let taking : takes services request own.route ≡ true = (λ i. fits (same_route i) request && is_some (own.to.leads i)) ∙ ap (λ b. b && true) fit in
        ap (option_and_then (choice_for services request)) (best-found routes distinct (takes services request) own.route within taking behind)
        ∙ ap (option_map (λ s. record { route = own.route; service = s; cut = cut_of own.route request })) own.to.leads
        ∙ (λ i. Some (record { route = same_route i; service = same_service i; cut = cut_of (same_route i) request }))

-- ---- how the table is made

-- one more candidate at the end, of the next route
pub listed-push : (services : List Service) (routes : List Route) (count : ℕ) (candidates : List Candidate) (candidate : Candidate) → AreListed services routes count candidates → candidate.test ≡ count → IsCandidate services routes candidate → AreListed services routes (count + 1) (candidates ++ candidate ∷ [])
listed-push services routes count candidates candidate listed at own = record { each = All-push (IsCandidate services routes) candidates candidate listed.each own; complete = complete }
  where
    old : (k : ℕ) → Any (λ one. one.test ≡ k) candidates → Any (λ one. one.test ≡ k) (candidates ++ candidate ∷ [])
    old k any = (any.0, any.1, omega (arith, any.2, length_push candidates candidate), get_or_append_left candidates (candidate ∷ []) any.1 any.0 any.2 ∙ any.3, any.4)

    complete : (k : ℕ) (d : Route) → k < count + 1 → IsSome (service_of services (get_or routes k d)) → Any (λ one. one.test ≡ k) (candidates ++ candidate ∷ [])
    complete k d below some = elim (cases_lt k count) [
      | inl before ↦ old k (listed.complete k d before some)
      | inr beyond ↦ (length candidates, candidate, omega (arith, length_push candidates candidate), get_or_push candidates candidate candidate (length candidates) refl, at ∙ omega (arith, below, beyond))
    ]

-- the next route's service takes no part
pub listed-skip : (services : List Service) (routes : List Route) (count : ℕ) (candidates : List Candidate) → AreListed services routes count candidates → ((d : Route) → service_of services (get_or routes count d) ≡ None) → AreListed services routes (count + 1) candidates
listed-skip services routes count candidates listed none = record { each = listed.each; complete = complete }
  where
    complete : (k : ℕ) (d : Route) → k < count + 1 → IsSome (service_of services (get_or routes k d)) → Any (λ one. one.test ≡ k) candidates
    complete k d below some = elim (cases_lt k count) [
      | inl before ↦ listed.complete k d before some
      | inr beyond ↦
          let at : k ≡ count = omega (arith, below, beyond) in
          absurd (true≢false (sym some ∙ ap (λ j. is_some (service_of services (get_or routes j d))) at ∙ ap is_some (none d)))
    ]

-- the candidates in another order
pub listed-permuted : (services : List Service) (routes : List Route) (count : ℕ) (candidates sorted : List Candidate) → IsPermutation candidates sorted → AreListed services routes count candidates → AreListed services routes count sorted
listed-permuted services routes count candidates sorted same listed = record {
  each = All-permutation (IsCandidate services routes) candidates sorted same listed.each;
  complete = λ k d below some. let any = listed.complete k d below some in
      let back = All-permutation (Contains sorted) sorted candidates (IsPermutation-sym candidates sorted same) (All-contains_itself sorted) in
      let there = All-contains (Contains sorted) candidates any.1 back (any.0, any.2, any.3) in
      (there.0, any.1, there.1, there.2, any.4);
}

-- a service of the id stands at its first place
pub place-some : {A : Type 0} (test : A → Bool) (xs : List A) (place : ℕ) (one : A) → position test xs ≡ Some place → get_or xs place one ≡ one → find test xs ≡ Some one
place-some test xs place one found at = by_within (nat_lt (position_or_len test xs) (length xs)) refl found
  where
    by_within : (within : Bool) → nat_lt (position_or_len test xs) (length xs) ≡ within → cond within (Some (position_or_len test xs)) None ≡ Some place → find test xs ≡ Some one
    by_within true is found =
        let same = same_Some (position_or_len test xs) place found in
        find_at test xs ∙ slice_get-get_or xs (position_or_len test xs) one (ltb-true (position_or_len test xs) (length xs) is)
        ∙ ap (λ k. Some (get_or xs k one)) same ∙ ap Some at
    by_within false is found = absurd (cc)

pub place-none : {A : Type 0} (test : A → Bool) (xs : List A) → position test xs ≡ None → find test xs ≡ None
place-none test xs none = by_within (nat_lt (position_or_len test xs) (length xs)) refl none
  where
    beyond : (m n : ℕ) → nat_lt m n ≡ false → n ≤ m
    beyond m n is = grind arith

    by_within : (within : Bool) → nat_lt (position_or_len test xs) (length xs) ≡ within → cond within (Some (position_or_len test xs)) None ≡ None → find test xs ≡ None
    by_within true is none = absurd (cc)
    by_within false is none = find_at test xs ∙ slice_get_past xs (position_or_len test xs) (beyond (position_or_len test xs) (length xs) is)

-- the service, if it is enabled
abbrev pub if_enabled : Service → Option Service
if_enabled service = cond service.enabled (Some service) None
