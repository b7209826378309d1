use Rattle.std.proofs.Common.{◌≡◌, Err, Option, None, Some, sym, ap, ◌∙◌}
use Rattle.kg_match.specs.RoutePaths.{bad_pattern_of}
use Rattle.kg_router.proofs.ValidPaths.{no_bad_pattern}
use Rattle.kg_router.proofs.generation.test_of.Goals as goal

-- a valid route has no bad pattern
pub unreachable-requires : goal.unreachable-requires
unreachable-requires c =
    let place = c.in-Err-BadPattern.field-0-0 in
    let bad : bad_pattern_of c.args.route.now.paths ≡ Some place = c.build.ensures.bad place (c.in-Err-BadPattern.is ∙ ap Err c.in-Err-BadPattern.field-0-is) in
    none (no_bad_pattern c.args.route.now c.requires) bad
  where
    none : {A : Type 0} {found : Option A} {one : A} → found ≡ None → found ≡ Some one → ⊥
    none is some = cc (sym is ∙ some)
