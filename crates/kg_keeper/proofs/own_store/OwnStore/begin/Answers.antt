use Rattle.kg_keeper.specs.Stores.{Store}
use Rattle.kg_keeper.proofs.StoreLemmas.{call_counted}
use Rattle.kg_keeper.proofs.own_store.OwnStore.begin.Goals as goal

-- the plan alone has moved on
pub returns-clause-call : goal.returns-clause-call
returns-clause-call c =
    let inside = c.self.inside in
    let store : Store = record { commands = inside.history; limit = inside.limit; feed = inside.feed; plan = inside.plan } in
    rw (c.next.ensures.moved, ← c.self.view_is) (call_counted store c.next.result)
