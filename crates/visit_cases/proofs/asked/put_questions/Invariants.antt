use Rattle.std.proofs.Common.{◌≡◌, false}
use Rattle.visit_cases.proofs.asked.put_questions.Given as goal

-- the visit isn't lost
abbrev pub invariant-loop : goal.invariant-loop
invariant-loop l = l.visit.lost ≡ false
