use Rattle.std.proofs.Common.{◌-◌}
use Rattle.kg_course.specs.Walks.{HasComeOn, KnowsRow}
use Rattle.kg_course.proofs.walk.go_on.Given as goal

-- whoever had come to the first walk has come to this one, whose row is known where it asked
abbrev pub invariant-loop-name : goal.invariant-loop-name
invariant-loop-name l = HasComeOn l.plugins.rows l.moment l.given l.verdicts l.fn.walk l.walk × KnowsRow l.plugins.rows l.walk

abbrev pub decreases-loop-name : goal.decreases-loop-name
decreases-loop-name l = 10 - l.walk.taken
