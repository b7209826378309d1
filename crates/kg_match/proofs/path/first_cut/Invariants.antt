use Rattle.std.specs.Prelude.{◌≡◌, drop}
use Rattle.kg_match.specs.RoutePaths.{first_cut}
use Rattle.kg_match.proofs.path.first_cut.Given as goal

-- the patterns so far take nothing
abbrev pub invariant-loop-pattern : goal.invariant-loop-pattern
invariant-loop-pattern l = first_cut l.path (drop l.pattern-index l.patterns) ≡ first_cut l.path l.patterns
