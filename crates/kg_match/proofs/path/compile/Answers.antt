use Rattle.std.proofs.Common.{[], Some, sym, ap, ◌≡◌, ◌∙◌, arith}
use Rattle.kg_match.specs.RoutePaths.{has_bad_pattern}
use Rattle.kg_match.proofs.CompileLemmas.{bad_is, position-first, position-none}
use Rattle.kg_match.proofs.path.compile.Goals as goal

-- the first bad pattern
pub returns-then-not-branch-clause-bad : goal.returns-then-not-branch-clause-bad
returns-then-not-branch-clause-bad c index same =
    let paths = c.args.paths.now in
    let at = c.loop-index.index in
    let path = c.index-paths-index.result in
    let is : at ≡ index = cc in
    let bad = bad_is c.in_ok-push_pattern.field-0 (has_bad_pattern path) c.in_ok-push_pattern.ensures.good c.if-not-branch.true in
    position-first has_bad_pattern paths at path c.loop-index-test.true (λ k below. c.loop-index.invariant.1 k path below) (ap has_bad_pattern (sym c.index-paths-index.is) ∙ bad)
    ∙ ap Some is

-- there is none
pub returns-clause-ok : goal.returns-clause-ok
returns-clause-ok c =
    position-none has_bad_pattern c.args.paths.now [] (λ k below. c.loop-index.invariant.1 k [] (omega (arith, below, c.loop-index-test.false)))
