use Rattle.std.proofs.Common.{◌∙◌, ap, sym, cond, true, get_or}
use Rattle.std.specs.Str.{bytes_eq}
use Rattle.kg_bodies.proofs.DistinctTexts.{among_one_more, new_text, no_text, not_false, not_true, repeated_text}
use Rattle.kg_bodies.proofs.texts.are_distinct_strs.Goals as goal

-- the text is among those in front
pub returns-then-not-branch : goal.returns-then-not-branch
returns-then-not-branch c =
    let text = get_or c.args.texts.now c.loop-text.text-index no_text in
    sym (repeated_text c.args.texts.now c.loop-text.text-index no_text c.loop-text-test.true
    (sym (c.loop-text.invariant.seen text) ∙ not_false _ (sym c.in_ok-insert.ensures.added ∙ c.if-not-branch.true)))

pub loop-text-preserved : goal.loop-text-preserved
loop-text-preserved c =
    let text = get_or c.args.texts.now c.loop-text.text-index no_text in
    record {
      seen = λ other. c.in_ok-insert.ensures.updates.0 other
          ∙ ap (λ among. cond (bytes_eq text.now other.now) true among) (c.loop-text.invariant.seen other)
          ∙ sym (among_one_more other.now c.args.texts.now c.loop-text.text-index no_text c.loop-text-test.true);
      distinct = new_text c.args.texts.now c.loop-text.text-index no_text c.loop-text-test.true
          (sym (c.loop-text.invariant.seen text) ∙ not_true _ (sym c.in_ok-insert.ensures.added ∙ c.if-not-branch.false)) c.loop-text.invariant.distinct;
    }
