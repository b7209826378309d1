use Rattle.std.proofs.Common.{◌≡◌, ◌&&◌, IsTrue, true, subst, sym, ◌∙◌}
use Rattle.kg_match.specs.Fits.{fits_but_path}
use Rattle.kg_match.specs.RoutePaths.{has_regex_path}
use Rattle.std.proofs.lemmas.Result.{on_err_weaker}
use Rattle.kg_match.proofs.PathLemmas.{some_pattern}
use Rattle.kg_match.proofs.route_test.RouteTest.matches_at.Goals as goal

-- only a search for a pattern takes memory
pub returns-clause-err : goal.returns-clause-err
returns-clause-err c =
    let route = c.self.inside.route in
    let request = c.args.request.now in
    let fit : fits_but_path route request ≡ true = sym c.fits_but_path.ensures ∙ c.if-not-fits_but_path.false in
    on_err_weaker c.cut_where_fits.result
    (λ some. let regex : has_regex_path route ≡ true = some_pattern route.paths (λ none. some (c.as_slice.ensures.value ∙ c.self.invariant ∙ none)) in
    subst (λ r. IsTrue (has_regex_path r && fits_but_path r request)) c.self.view_is (λ i. regex i && fit i))
    c.cut_where_fits.ensures.err
