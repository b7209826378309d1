use Rattle.std.proofs.Common.{Some, None, cond, nat_eq, option_map, sym, ap, ◌∙◌}
use Rattle.regex.specs.Patterns.{find_str, span}
use Rattle.regex.specs.Strings.{match_span}
use Rattle.kg_match.proofs.PatternLemmas.{cut_same}
use Rattle.kg_match.proofs.pattern.PathPattern.cut.Goals as goal

-- the first match
pub returns-in-Some : goal.returns-in-Some
returns-in-Some c =
    let path = c.args.path.now in
    let found = ap (option_map match_span) (sym c.in-Some.is) ∙ c.find.ensures.found ∙ ap (λ pattern. option_map span (find_str pattern path 0)) c.in_ok-matcher.ensures.pattern in
    let own = cut_same c.self.inside.regex c.self.invariant.0 c.self.invariant.1 path (λ k. (c.type_inv.path k).fits) (option_map match_span (Some c.in-Some.found)) found in
    c.end_from_start.ensures ∙ (λ i. cond (nat_eq (c.start.ensures i) 0) (Some (c.end.ensures i)) None) ∙ rw c.self.view_is at own

-- there is none
pub returns : goal.returns
returns c =
    let path = c.args.path.now in
    let found = ap (option_map match_span) (sym c.in-None.is) ∙ c.find.ensures.found ∙ ap (λ pattern. option_map span (find_str pattern path 0)) c.in_ok-matcher.ensures.pattern in
    let own = cut_same c.self.inside.regex c.self.invariant.0 c.self.invariant.1 path (λ k. (c.type_inv.path k).fits) None found in
    rw c.self.view_is at own
