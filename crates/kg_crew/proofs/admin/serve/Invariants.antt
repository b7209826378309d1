use Rattle.std.proofs.Common.{◌≡◌, true, None}
use Rattle.kg_outside.specs.Moves.{with_front}
use Rattle.kg_crew.specs.AdminReplies.{is_spent, local_address}
use Rattle.kg_crew.specs.ServingSteps.{Advances}
use Rattle.kg_crew.proofs.admin.serve.Given as goal

abbrev pub invariant-loop-alloc : goal.invariant-loop-alloc
invariant-loop-alloc g l = record {
  fresh : l.reader.error ≡ None;
  address : l.reader.address ≡ local_address;
  advances : Advances (g.I.Ids.draws l.initial.ids l.ids) (g.T.Clock.reads l.initial.clock l.clock) 0 l.reader.at l.fn.allowed l.left
      (record {
        ahead = g.C.Source.left l.initial.conn;
        ahead_now = g.C.Source.left l.conn;
        written = g.C.Sink.written l.initial.conn;
        written_now = g.C.Sink.written l.conn;
        store = g.P.Keeper.observed l.initial.keeper;
        store_now = g.P.Keeper.observed l.keeper;
      })
      (with_front l.reader.held (g.C.Source.left l.conn)) l.calls;
  at_once : is_spent l.fn.allowed ≡ true → (l.left ≡ l.fn.allowed) × (l.conn ≡ l.initial.conn);
  kept_read : g.C.Source.faults l.conn ≡ g.C.Source.faults l.initial.conn;
  kept_write : g.C.Sink.faults l.conn ≡ g.C.Sink.faults l.initial.conn;
}

abbrev pub decreases-loop-alloc : goal.decreases-loop-alloc
decreases-loop-alloc g l = l.left.requests
