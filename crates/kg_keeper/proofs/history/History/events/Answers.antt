use Rattle.std.proofs.Common.{◌≤◌, length, arith}
use Rattle.kg_keeper.proofs.TouchedLemmas.{events_between}
use Rattle.kg_keeper.proofs.history.History.events.Goals as goal

-- the lists that are copied are those of these commits
pub returns-in-Ok : goal.returns-in-Ok
returns-in-Ok c =
    let inside = c.self.inside in
    let lists = inside.feed.touched.items in
    let seen : c.args.to ≤ length inside.commands.items = rw (← c.self.view_is) at c.requires.within in
    let within : c.args.to ≤ length lists = omega (arith, seen, c.self.invariant.lists) in
    rw (c.in_ok-keys.ensures, c.in-Ok.ensures, c.between-touched.ensures, ← c.self.view_is)
    (events_between inside.commands.items lists c.args.from c.args.to c.requires.order within c.self.invariant.told)
