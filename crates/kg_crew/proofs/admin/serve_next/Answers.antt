use Rattle.std.proofs.Common.{[], sym}
use Rattle.std.proofs.lemmas.List.{append-nil}
use Rattle.kg_crew.proofs.NextLemmas.{closed, cut, failed, refused, taken}
use Rattle.kg_crew.proofs.ServingLemmas.{no_memory}
use Rattle.kg_crew.proofs.admin.serve_next.Goals as goal

-- the request that was read is answered
pub returns-in-Ok-Some-clause-serves : goal.returns-in-Ok-Some-clause-serves
returns-in-Ok-Some-clause-serves g c =
    taken _ _ _ _ _ _ _ _ _ _ _ _ c.in-Ok-Some.request _ _ _ c.serve_request-served.result c.requires.address c.requires.more
    (rw c.in-Ok-Some.field-0-is at c.in-Ok-Some.ensures.ok)
    (g.met.C.Conn.left_is_beside_writes _ _ c.serve_request-served.ensures.beside)
    (g.met.C.Conn.written_is_beside_reads _ _ c.next_request.ensures.beside)
    c.serve_request-served.ensures.replies

-- the source ended
pub returns-in-Ok-None-clause-serves : goal.returns-in-Ok-None-clause-serves
returns-in-Ok-None-clause-serves g c = (
  [],
  sym (append-nil _),
  closed _ _ _ _ _ _ _ _ _ _ (g.met.I.Ids.draws_none c.args.ids.now) (g.met.T.Clock.reads_none c.args.clock.now)
      (g.met.C.Conn.written_is_beside_reads _ _ c.next_request.ensures.beside) c.requires.more
      (rw c.in-Ok-None.field-0-is at c.in-Ok-None.ensures.ok),
)

-- the message that is refused is answered
pub returns-in-Err-Bad-clause-serves : goal.returns-in-Err-Bad-clause-serves
returns-in-Err-Bad-clause-serves g c =
    let ends = rw c.in-Err-Bad.field-0-is at (c.in-Err-Bad.ensures.err c.requires.fresh) in (
      [],
      sym (append-nil _),
      refused c.refuse.result _ _ _ _ _ _ _ _ _ _ _ _ _ _ (g.met.I.Ids.draws_none c.args.ids.now) (g.met.T.Clock.reads_none c.args.clock.now)
          (g.met.C.Conn.written_is_beside_reads _ _ c.next_request.ensures.beside) c.requires.more ends.0 ends.1
          (rw c.in-Err-Bad.field-0-is at c.refuse.ensures.refused),
    )

-- a message is cut off
pub returns-in-Err-Cut-clause-serves : goal.returns-in-Err-Cut-clause-serves
returns-in-Err-Cut-clause-serves g c =
    let ends = rw c.in-Err-Cut.field-0-is at (c.in-Err-Cut.ensures.err c.requires.fresh) in
    rw c.in-Err-Cut.field-0-is (
      [],
      sym (append-nil _),
      cut _ _ _ 0 _ _ _ _ _ _ _ _ _ (g.met.I.Ids.draws_none c.args.ids.now) (g.met.T.Clock.reads_none c.args.clock.now)
          (g.met.C.Conn.written_is_beside_reads _ _ c.next_request.ensures.beside) c.requires.more ends.0 ends.1,
    )

-- a read failed
pub returns-in-Err-ReadFault-clause-serves : goal.returns-in-Err-ReadFault-clause-serves
returns-in-Err-ReadFault-clause-serves g c =
    let ends = rw c.in-Err-ReadFault.field-0-is at (c.in-Err-ReadFault.ensures.err c.requires.fresh) in (
      [],
      sym (append-nil _),
      failed _ _ _ _ _ _ _ _ _ _ _ (g.met.I.Ids.draws_none c.args.ids.now) (g.met.T.Clock.reads_none c.args.clock.now)
          (g.met.C.Conn.written_is_beside_reads _ _ c.next_request.ensures.beside) c.requires.more ends.0 ends.1,
    )

-- there was no memory to read it
pub returns-in-Err-NoMemory-clause-serves : goal.returns-in-Err-NoMemory-clause-serves
returns-in-Err-NoMemory-clause-serves g c = (
  [],
  sym (append-nil _),
  no_memory _ _ _ _ _ _ _ _ _ (g.met.I.Ids.draws_none c.args.ids.now) (g.met.T.Clock.reads_none c.args.clock.now)
      (g.met.C.Conn.written_is_beside_reads _ _ c.next_request.ensures.beside),
)
