use Rattle.kg_store_shared.specs.Seated.{Seated}
use Rattle.kg_store_shared.proofs.HandLemmas.{begun}
use Rattle.kg_store_shared.proofs.hand.Hand.begin.Goals as goal

-- all commits are seen, and the plan has moved on
pub returns-clause-call : goal.returns-clause-call
returns-clause-call g c =
    let inside = c.self.inside in
    let seat : Seated = record { sight = inside.pass; calls = inside.calls; plan = inside.plan; limit = inside.limit; feed = inside.feed } in
    rw (← c.self.view_is)
    (begun seat _ _ _ _ _ c.show.ensures.whole c.show.ensures.front (record { looks = c.show.ensures.looks.0; last = c.show.ensures.looks.1 })
    c.saturating_add-self-inside.ensures c.next.ensures.moved c.next.ensures.planned c.next.ensures.later)
