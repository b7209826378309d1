use Rattle.std.proofs.Common.{◌<◌, ◌^◌, ◌∙◌, All, ap, refl}
use Rattle.kg_keeper.specs.Plans.{moved_on}
use Rattle.kg_keeper.proofs.PlanLemmas.{coming_moved, plan_moved}
use Rattle.kg_keeper.proofs.plan.Plan.next.Goals as goal

-- one more fault is counted
pub returns-then-fails-clause-moved : goal.returns-then-fails-clause-moved
returns-then-fails-clause-moved c =
    let small : All (λ n. n < 2 ^ 64) c.self.inside.fails = rw c.as_slice.ensures at c.numbers_are_small.ensures.numbers in
    let moved = coming_moved c.self.inside.made c.self.inside.fails small c.numbers_are_small.ensures.made in
    plan_moved c.self.inside.made c.self.inside.faults c.self.inside.announced c.self.inside.fails c.is_next-fails.result _ _ _
    c.saturating_add-self-inside.ensures (rw c.if-fails.true c.saturating_add-self-inside-then-fails.ensures) c.saturating_sub-self-inside.ensures moved
    ∙ ap (moved_on c.is_next-fails.result) c.self.view_is

-- no fault is counted
pub returns-else-fails-clause-moved : goal.returns-else-fails-clause-moved
returns-else-fails-clause-moved c =
    let small : All (λ n. n < 2 ^ 64) c.self.inside.fails = rw c.as_slice.ensures at c.numbers_are_small.ensures.numbers in
    let moved = coming_moved c.self.inside.made c.self.inside.fails small c.numbers_are_small.ensures.made in
    plan_moved c.self.inside.made c.self.inside.faults c.self.inside.announced c.self.inside.fails c.is_next-fails.result _ c.self.inside.faults _
    c.saturating_add-self-inside.ensures (rw c.if-fails.false refl) c.saturating_sub-self-inside.ensures moved
    ∙ ap (moved_on c.is_next-fails.result) c.self.view_is
