use Rattle.std.proofs.Common.{◌∙◌, Ok, ap, sym, refl, arith}
use Rattle.kg_outside.specs.Moves.{with_front}
use Rattle.kg_outside.proofs.Observed.{with_front-nil}
use Rattle.kg_wire.specs.Reading.{ReaderState}
use Rattle.kg_plain.proofs.AnsweredLemmas.{on_err, none_answered, goes_on, ends_next, stops_next, stopped_at_once}
use Rattle.kg_plain.proofs.answers.answer_all.Goals as goal

-- nothing was written before the reader was made
pub returns-in_err-reader-clause-err : goal.returns-in_err-reader-clause-err
returns-in_err-reader-clause-err g c = on_err _ (stopped_at_once _ _ _ _ (g.met.T.Clock.reads_none c.args.clock.now))

pub loop-count-init : goal.loop-count-init
loop-count-init g c =
    let made = c.in_ok-reader.ensures in
    record {
      fresh = ap (λ (r : ReaderState). r.error) made;
      address = ap (λ (r : ReaderState). r.address) made;
      few = omega arith;
      answered =
          none_answered _ _ _ _ _ _ _ (g.met.T.Clock.reads_none c.args.clock.now) c.new-windows.ensures
          (sym (ap (λ (r : ReaderState). with_front r.held (g.S.Source.left c.args.source.now)) made ∙ with_front-nil _))
          (ap (λ (r : ReaderState). r.at) made);
      kept_read = refl;
      kept_write = refl;
    }

-- the answering is cut short at the next message
pub returns-in_err-end-clause-err : goal.returns-in_err-end-clause-err
returns-in_err-end-clause-err g c =
    on_err _
    (stops_next _ _ _ _ _ _ _ _ _ _ c.loop-count.count _ (g.met.T.Clock.reads_on _ _ _)
    c.loop-count.invariant.answered c.loop-count-test.true (c.in_err-end.ensures.err _ c.loop-count.invariant.answered.counts))

-- it goes on
pub loop-count-preserved : goal.loop-count-preserved
loop-count-preserved g c =
    let next = rw c.in-None.is at (c.in_ok-end.ensures.ok _ c.loop-count.invariant.answered.counts) in
    record {
      fresh = c.in_ok-end.ensures.on (ap Ok c.in-None.is);
      address = c.in_ok-end.ensures.address ∙ c.loop-count.invariant.address;
      few = omega arith;
      answered =
          goes_on _ _ _ _ _ _ _ _ _ _ _ _ c.loop-count.count _ _ (g.met.T.Clock.reads_on _ _ _)
          c.loop-count.invariant.answered next;
      kept_read = c.in_ok-end.ensures.kept_read ∙ c.loop-count.invariant.kept_read;
      kept_write = c.in_ok-end.ensures.kept_write ∙ c.loop-count.invariant.kept_write;
    }

-- it ends
pub returns-in-Some-clause-ok : goal.returns-in-Some-clause-ok
returns-in-Some-clause-ok g c =
    ends_next _ _ _ _ _ _ _ _ _ _ _ _ c.loop-count.count _ _ _ (g.met.T.Clock.reads_on _ _ _)
    c.loop-count.invariant.answered c.loop-count-test.true (rw c.in-Some.is at (c.in_ok-end.ensures.ok _ c.loop-count.invariant.answered.counts))
