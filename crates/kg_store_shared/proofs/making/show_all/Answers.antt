use Rattle.std.proofs.Common.{[], ◌∙◌, length, subst}
use Rattle.kg_history.specs.Sights.{IsFresh}
use Rattle.kg_store_shared.proofs.MakingLemmas.{first_moved}
use Rattle.kg_store_shared.proofs.making.show_all.Goals as goal

-- one pass more has seen the commits
pub loop-pass-preserved : goal.loop-pass-preserved
loop-pass-preserved g c =
    let before = c.loop-pass.invariant in
    let commits = c.args.store.now in
    let seen = subst (λ all. IsFresh c.with_commits.result all) before.0 c.with_commits.ensures.seen in
    let moved = first_moved (λ pass. IsFresh pass commits) (λ pass. IsFresh pass []) c.loop-pass.passes.items c.push.new.self.items
    c.loop-pass.pass-iterator.rest.items c.next.new.self.rest.items c.with_commits.result c.in-Some.pass (length c.args.fresh.items)
    c.in-Some.ensures.steps.0 c.in_ok-push.ensures.items seen before.1 before.2 before.3 in
    (c.with_commits.ensures.same ∙ before.0, moved.0, moved.1, moved.2)
