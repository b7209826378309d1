use Rattle.std.proofs.Common.{◌≡◌, ◌∙◌, ap, refl}
use Rattle.kg_keeper.specs.Stores.{Store}
use Rattle.kg_keeper.proofs.CommitLemmas.{commit_answered_by}
use Rattle.kg_keeper.proofs.own_store.OwnStoreKeeper.commit.Goals as goal
use Rattle.kg_keeper.proofs.own_store.OwnStoreKeeper.commit.Goals.{in-Ok, in-Err-Refused, in-Err-NoMemory}

-- the history is as it was before the call, which moved the plan alone
pub returns-clause-committed : goal.returns-clause-committed
returns-clause-committed c =
    let inside = c.self.inside in
    let before = c.args.self.now in
    let later = c.commit.new.self in
    let now : Store = record { commands = later; limit = inside.limit; feed = inside.feed; plan = inside.plan } in
    let store : Store = record { commands = inside.history; limit = inside.limit; feed = inside.feed; plan = inside.plan } in
    let moved : store ≡ record before { plan = c.begin.new.self.plan } = c.self.view_is ∙ c.begin.ensures.same in
    let same : inside.history ≡ before.commands = ap (λ (s : Store). s.commands) moved in
    let most : inside.limit ≡ before.limit = ap (λ (s : Store). s.limit) moved in
    elim c.match-commit.branch [
      | in-Ok w ↦ rw w.result-is (commit_answered_by before now inside.history later inside.limit c.args.draft.now w.in-Ok.done same most refl w.in-Ok.ensures.ok)
      | in-Err-Refused w ↦ rw w.result-is tt
      | in-Err-NoMemory w ↦ rw w.result-is tt
    ]
