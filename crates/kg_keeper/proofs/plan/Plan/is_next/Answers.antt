use Rattle.std.proofs.Common.{rules, ◌↔◌, ◌+◌, Contains, IsTrue, sym, subst}
use Rattle.kg_keeper.specs.Plans.{coming, failing}
use Rattle.kg_keeper.proofs.PlanLemmas.{listed_from_next, next_announced, next_from_listed, none_announced}
use Rattle.kg_keeper.proofs.plan.Plan.is_next.Goals as goal

-- it is announced
pub returns-then-self-gt0 : goal.returns-then-self-gt0
returns-then-self-gt0 c =
    let there = next_announced c.self.inside.announced (coming c.self.inside.made c.self.inside.fails) c.if-self-gt0.true in
    ((λ _. subst (λ plan. Contains (failing plan) 1) c.self.view_is there), (λ _. search rules))

-- it is listed, or not
pub returns-else-self-gt0 : goal.returns-else-self-gt0
returns-else-self-gt0 c =
    let told : IsTrue c.is_next_listed.result ↔ Contains c.self.inside.fails (c.self.inside.made + 1) = rw c.as_slice.ensures at c.is_next_listed.ensures in
    let none = none_announced c.self.inside.announced (coming c.self.inside.made c.self.inside.fails) c.if-self-gt0.false in
    let to : Contains (coming c.self.inside.made c.self.inside.fails) 1 → Contains (failing c.args.self.now) 1 =
    λ there. subst (λ plan. Contains (failing plan) 1) c.self.view_is (subst (λ numbers. Contains numbers 1) (sym none) there) in
    let back : Contains (failing c.args.self.now) 1 → Contains (coming c.self.inside.made c.self.inside.fails) 1 =
    λ there. subst (λ numbers. Contains numbers 1) none (subst (λ plan. Contains (failing plan) 1) (sym c.self.view_is) there) in (
      (λ yes. to (next_from_listed c.self.inside.made c.self.inside.fails (told.0 yes))),
      (λ there. told.1 (listed_from_next c.self.inside.made c.self.inside.fails (back there))),
    )
