use Rattle.std.proofs.Common.{◌||◌, Some, None, IfOk, cond, subst, sym, ap, ◌≡◌, ◌∙◌}
use Rattle.std.specs.List.{list_any}
use Rattle.std.specs.Option.{option_or}
use Rattle.kg_match.specs.RoutePaths.{first_cut, longest_prefix, path_fits, path_cut}
use Rattle.kg_match.proofs.PathLemmas.{taken}
use Rattle.kg_match.proofs.path.cut_where_fits.Goals as goal

-- paths are set
pub returns-clause-cut : goal.returns-clause-cut
returns-clause-cut c =
    let paths = c.args.paths.now in
    let path = c.args.path.now in
    let set = sym c.is_empty.ensures ∙ c.if-is_empty.false in
    subst (λ meant. IfOk c.best_cut.result (λ cut. cut ≡ meant))
    (ap (λ patterns. option_or (first_cut path patterns) (longest_prefix path paths)) c.requires
    ∙ taken path paths
    ∙ ap (λ unset. cond (unset || list_any (path_fits path) paths) (Some (path_cut paths path)) None) (sym set))
    c.best_cut.ensures.cut
