use Rattle.std.proofs.Common.{sym}
use Rattle.kg_wire.proofs.HeldLemmas.{without_front}
use Rattle.kg_wire.proofs.held.Held.take.Goals as goal

pub returns : goal.returns
returns c =
    let inside = c.self.inside in
    without_front inside.bytes.items c.args.self.now inside.start inside.end c.args.n c.self.invariant.1 (sym c.self.view_is) c.requires
