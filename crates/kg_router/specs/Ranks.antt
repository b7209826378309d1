-- Machinery for proofs: the order of routes, by what it looks at of each.
use Rattle.std.specs.Prelude.{[], ◌∷◌, length, List}
use Rattle.std.specs.declared.cmp.Ordering.{Ordering}
use Rattle.kg_row_types.specs.declared.route.Route.{Route}
use Rattle.kg_match.specs.RoutePaths.{has_regex_path}
use Rattle.kg_router.specs.declared.rank.Rank.{Rank}
use Rattle.kg_router.specs.Order.{attribute_count, has_wildcard_host, regex_priority_of, longest_path_len, smaller_first, larger_first, higher_first, with_first, without_first, lexicographic}

-- what the order looks at of a route
abbrev pub rank_of : Route → Rank
rank_of route = record {
  attributes = attribute_count route;
  has_wildcard_host = has_wildcard_host route;
  header_names = length route.headers;
  has_regex_path = has_regex_path route;
  regex_priority = regex_priority_of route;
  path_len = longest_path_len route;
  created_at = route.created_at;
  id = route.id;
}

-- the comparisons of two routes, by their ranks
abbrev pub rank_comparisons : List (Rank → Rank → Ordering)
rank_comparisons =
    larger_first (λ rank. rank.attributes)
    ∷ without_first (λ rank. rank.has_wildcard_host)
    ∷ larger_first (λ rank. rank.header_names)
    ∷ with_first (λ rank. rank.has_regex_path)
    ∷ higher_first (λ rank. rank.regex_priority)
    ∷ larger_first (λ rank. rank.path_len)
    ∷ smaller_first (λ rank. rank.created_at)
    ∷ smaller_first (λ rank. rank.id)
    ∷ []

-- `Less` where the route of the first rank comes before that of the second
unfoldable pub rank_cmp : Rank → Rank → Ordering
rank_cmp = lexicographic rank_comparisons
