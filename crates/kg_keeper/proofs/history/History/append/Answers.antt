use Rattle.kg_keeper.proofs.KeptLemmas.{kept_more}
use Rattle.kg_keeper.proofs.history.History.append.Goals as goal

-- the command stands at the end, and beside it what it touched
pub invariant_of-self-in-Ok : goal.invariant_of-self-in-Ok
invariant_of-self-in-Ok c =
    let inside = c.self.inside in
    let command = c.args.command in
    let kept = rw (← c.self.view_is) at c.requires in
    rw (c.put_last.ensures, c.reserve.ensures.commands, c.in-Ok.ensures.ok, c.push.ensures, c.reserve.ensures.feed)
    (kept_more inside.commands.items inside.rows inside.feed.touched.items command c.in-Ok.touched
    c.self.invariant kept.valid kept.consistent kept.room c.in-Ok.ensures.touched)
