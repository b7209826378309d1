-- The order of routes is a total order up to ties, and only routes of one id tie.
use Rattle.std.proofs.Common.{subst, true≢false, ◌≡◌, ◌≢◌, true, List, [], ◌∷◌, IsTrue, ◌⊎◌, inl, inr, refl, sym, ap, ◌∙◌}
use Rattle.std.specs.declared.cmp.Ordering.{Ordering}
use Rattle.std.specs.declared.cmp.Ordering.TheVariants.{Less, Equal, Greater}
use Rattle.std.specs.Ordering.{ordering_then, ordering_reverse, is_lt, then_cmp}
use Rattle.std.specs.List.{AllByRecursion}
use Rattle.std.specs.Cmp.{IsTotalOrder, IsStrictWeakOrder, nat_cmp_total, int_cmp_total, bool_cmp_total, on_total, back_total, then_total}
use Rattle.std.proofs.lemmas.Cmp.{ranked}
use Rattle.std.proofs.lemmas.List.MinMax.{ranks_by}
use Rattle.kg_row_types.specs.declared.route.Route.{Route}
use Rattle.kg_router.specs.declared.rank.Rank.{Rank}
use Rattle.kg_router.specs.Order.{lexicographic, route_comparisons, route_cmp, is_before}
use Rattle.kg_router.specs.Ranks.{rank_of, rank_cmp}

tied_parts : (first second : Ordering) → ordering_then first second ≡ Equal → (first ≡ Equal) × (second ≡ Equal)
tied_parts Less second tie = absurd (cc)
tied_parts Equal second tie = (refl, tie)
tied_parts Greater second tie = absurd (cc)

-- what a chain ties, each of its comparisons ties
pub lexicographic-ties : {A : Type 0} (chain : List (A → A → Ordering)) (a b : A) → lexicographic chain a b ≡ Equal → AllByRecursion (λ compare. compare a b ≡ Equal) chain
lexicographic-ties [] a b tie = tt
lexicographic-ties (compare ∷ rest) a b tie =
    let parts = tied_parts (compare a b) (lexicographic rest a b) tie in
    (parts.0, lexicographic-ties rest a b parts.1)

infixr 5 ◌⨾◌
-- one order and then another are an order
◌⨾◌ : {A : Type 0} {first second : A → A → Ordering} → IsTotalOrder first → IsTotalOrder second → IsTotalOrder (then_cmp first second)
first ⨾ second = then_total first second

-- no comparison at all
all_tie : {A : Type 0} → IsTotalOrder {K = A} (λ a b. Equal)
all_tie = record { antisymm = λ a b. refl; trans = λ a b c first second. first; congr = λ a b c tie. refl }

pub rank_cmp_total : IsTotalOrder rank_cmp
unfolding rank_cmp
rank_cmp_total =
    back_total (on_total (λ (rank : Rank). rank.attributes) nat_cmp_total)
    ⨾ on_total (λ (rank : Rank). rank.has_wildcard_host) bool_cmp_total
    ⨾ back_total (on_total (λ (rank : Rank). rank.header_names) nat_cmp_total)
    ⨾ back_total (on_total (λ (rank : Rank). rank.has_regex_path) bool_cmp_total)
    ⨾ back_total (on_total (λ (rank : Rank). rank.regex_priority) int_cmp_total)
    ⨾ back_total (on_total (λ (rank : Rank). rank.path_len) nat_cmp_total)
    ⨾ on_total (λ (rank : Rank). rank.created_at) nat_cmp_total
    ⨾ on_total (λ (rank : Rank). rank.id) nat_cmp_total
    ⨾ all_tie

-- routes compare as their ranks do
pub route_cmp_by_rank : (a b : Route) → route_cmp a b ≡ rank_cmp (rank_of a) (rank_of b)
unfolding route_cmp rank_cmp
route_cmp_by_rank a b = refl

pub route_cmp_total : IsTotalOrder route_cmp
unfolding route_cmp rank_cmp
route_cmp_total = on_total rank_of rank_cmp_total

pub is_before_ranks : IsStrictWeakOrder is_before
is_before_ranks = ranks_by route_cmp_total (λ (route : Route). route)

-- routes that the order doesn't tell apart have one id
pub route_cmp-ties : (a b : Route) → route_cmp a b ≡ Equal → a.id ≡ b.id
unfolding route_cmp
route_cmp-ties a b tie =
    let ties = lexicographic-ties route_comparisons a b tie in
    ranked a.id b.id Equal (sym ties.1.1.1.1.1.1.1.0)

-- of two routes with different ids one is before the other
pub one_is_before : (a b : Route) → a.id ≢ b.id → IsTrue (is_before a b) ⊎ IsTrue (is_before b a)
one_is_before a b apart = by_cases (route_cmp a b) (route_cmp b a) (route_cmp_total.antisymm b a) (λ tie. apart (route_cmp-ties a b tie))
  where
    by_cases : (one other : Ordering) → other ≡ ordering_reverse one → (one ≡ Equal → ⊥) → IsTrue (is_lt one) ⊎ IsTrue (is_lt other)
    by_cases Less other turned apart = inl refl
    by_cases Equal other turned apart = absurd (apart refl)
    by_cases Greater other turned apart = inr (subst (λ o. IsTrue (is_lt o)) (sym turned) refl)

pub is_before-irreflexive : (a : Route) → ¬ (IsTrue (is_before a a))
is_before-irreflexive a before = true≢false (sym before ∙ is_before_ranks.one_way a a before)

pub is_before-transitive : (a b c : Route) → IsTrue (is_before a b) → IsTrue (is_before b c) → IsTrue (is_before a c)
is_before-transitive a b c first second = ap is_lt (route_cmp_total.trans a b c (less (route_cmp a b) first) (less (route_cmp b c) second))
  where
    less : (o : Ordering) → is_lt o ≡ true → o ≡ Less
    less Less is = refl
    less Equal is = absurd (cc)
    less Greater is = absurd (cc)
