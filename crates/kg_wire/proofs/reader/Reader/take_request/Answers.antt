use Rattle.kg_wire.proofs.ReaderLemmas.{whole_message, takes_whole}
use Rattle.kg_wire.proofs.reader.Reader.take_request.Goals as goal

pub returns-in_ok-take_held-in-Ok-clause-ok : goal.returns-in_ok-take_held-in-Ok-clause-ok
returns-in_ok-take_held-in-Ok-clause-ok g c =
    let begins = rw (← c.self.view_is) at c.requires in
    let grows = c.in-Ok.ensures.ok in
    let held = c.fill_message.new.held in
    let start = c.args.start in
    let whole = whole_message c.self.inside.held held _ _ start begins grows c.in-Ok.ensures.whole in
    let took = c.in_ok-take_held-in-Ok.ensures in
    rw (← c.self.view_is)
    (takes_whole _ _ held _ _ start whole.0 c.in_ok-take_held-in-Ok.field-0 whole.1 grows took.ok took.at took.held)
