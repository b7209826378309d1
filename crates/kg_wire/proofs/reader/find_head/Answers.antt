use Rattle.std.proofs.Common.{◌∙◌, subst}
use Rattle.kg_wire.specs.ReadingSteps.{IsOpen}
use Rattle.kg_wire.proofs.ReaderLemmas.{grows_on}
use Rattle.kg_wire.proofs.reader.find_head.Goals as goal

-- a piece was read behind bytes that have no whole head yet
pub loop-spans-preserved : goal.loop-spans-preserved
loop-spans-preserved g c =
    let judged = rw c.in-Open.is at c.in_ok-spans.ensures in
    let filled = c.in_ok-ended.ensures.ok in
    record {
      grows = grows_on _ _ _ _ _ _ c.loop-spans.invariant.grows filled.grows;
      at_end = filled.ended;
      unread = λ closed.
          absurd (closed (subst IsOpen (c.loop-spans.invariant.unread closed).0 (subst IsOpen c.as_slice.ensures judged)));
      kept = c.in_ok-ended.ensures.kept ∙ c.loop-spans.invariant.kept;
      beside = c.fill_head.ensures.beside ∙ c.loop-spans.invariant.beside;
    }
