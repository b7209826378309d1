use Rattle.std.proofs.Common.{◌∙◌, None, true≢false, ap, sym, refl}
use Rattle.kg_crew.specs.AdminReplies.{is_spent}
use Rattle.kg_outside.specs.Moves.{with_front}
use Rattle.kg_outside.proofs.Observed.{with_front-nil}
use Rattle.kg_wire.specs.Reading.{ReaderState}
use Rattle.kg_crew.proofs.ServingLemmas.{ends_next, goes_next, none_answered, not_begun}
use Rattle.kg_crew.proofs.admin.serve.Goals as goal

-- nothing was read or written before the reader was made
pub returns-in-Err-clause-serves : goal.returns-in-Err-clause-serves
returns-in-Err-clause-serves g c =
    not_begun _ _ _ _ _ _ _ _ _ c.requires (g.met.I.Ids.draws_none c.args.ids.now) (g.met.T.Clock.reads_none c.args.clock.now)

-- no request was answered yet
pub loop-alloc-init : goal.loop-alloc-init
loop-alloc-init g c =
    let made = c.in-Ok.ensures in
    record {
      fresh = ap (λ (r : ReaderState). r.error) made;
      address = ap (λ (r : ReaderState). r.address) made;
      advances =
          none_answered _ _ _ _ _ _ _ _ _ _ _ c.requires (g.met.I.Ids.draws_none c.args.ids.now) (g.met.T.Clock.reads_none c.args.clock.now)
          (ap (λ (r : ReaderState). r.at) made)
          (sym (ap (λ (r : ReaderState). with_front r.held (g.C.Source.left c.args.conn.now)) made ∙ with_front-nil _));
      at_once = λ none. (refl, refl);
      kept_read = refl;
      kept_write = refl;
    }

-- it goes on
pub loop-alloc-preserved : goal.loop-alloc-preserved
loop-alloc-preserved g c = record {
  fresh = c.in-Ok-serve_next.ensures.fresh;
  address = c.in-Ok-serve_next.ensures.address ∙ c.loop-alloc.invariant.address;
  advances =
      goes_next _ _ _ _ _ _ _ _ _ _ _ _ _ _ _ _ _ _ _ _ _ _ _ _ _ (g.met.I.Ids.draws_on _ _ _) (g.met.T.Clock.reads_on _ _ _)
      c.loop-alloc.invariant.advances c.in-Ok-serve_next.ensures.serves;
  at_once = λ none. absurd (true≢false (sym none ∙ ap is_spent (sym (c.loop-alloc.invariant.at_once none).0) ∙ sym c.is_spent.ensures ∙ c.loop-alloc-test.true));
  kept_read = c.in-Ok-serve_next.ensures.read ∙ c.loop-alloc.invariant.kept_read;
  kept_write = c.in-Ok-serve_next.ensures.write ∙ c.loop-alloc.invariant.kept_write;
}

-- it ends
pub returns-in-Err-serve_next-clause-serves : goal.returns-in-Err-serve_next-clause-serves
returns-in-Err-serve_next-clause-serves g c =
    ends_next _ _ _ _ _ _ _ _ 0 _ _ _ _ None _ _ _ _ _ _ _ _ _ _ _ (g.met.I.Ids.draws_on _ _ _) (g.met.T.Clock.reads_on _ _ _)
    c.loop-alloc.invariant.advances c.in-Err-serve_next.ensures.serves
