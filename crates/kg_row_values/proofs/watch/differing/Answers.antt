use Rattle.std.proofs.Common.{◌≡◌, ◌∷◌, [], length, ap, arith, length-append}
use Rattle.kg_row_values.specs.Watching.{IsOrderly}
use Rattle.kg_row_values.proofs.Differs.{differ_more, all_front, all_last}
use Rattle.kg_row_values.proofs.watch.differing.Goals as goal

-- a key is left, so there is room for it
pub note-requires : goal.note-requires
note-requires c =
    let e : c.loop-w.w-iterator.rest.items ≡ c.in-Some.w ∷ c.next.new.self.rest.items = c.in-Some.ensures.steps.0 in
    omega (arith, c.loop-w.invariant.room, ap length e)

-- one more key is noted
pub loop-w-preserved : goal.loop-w-preserved
loop-w-preserved c =
    let e : c.loop-w.w-iterator.rest.items ≡ c.in-Some.w ∷ c.next.new.self.rest.items = c.in-Some.ensures.steps.0 in
    record {
      room = omega (arith, c.loop-w.invariant.room, c.note.ensures.room, ap length e);
      differ = λ orderly.
          differ_more c.args.rows.now c.loop-w.yielded c.in-Some.w c.loop-w.keys.keys c.note.new.keys.keys
          (c.loop-w.invariant.differ (all_front (λ w. IsOrderly w.before) c.loop-w.yielded c.in-Some.w orderly))
          (c.note.ensures.noted (all_last (λ w. IsOrderly w.before) c.loop-w.yielded c.in-Some.w orderly));
      len = omega (arith, c.loop-w.invariant.len, c.note.ensures.len, length-append c.loop-w.yielded (c.in-Some.w ∷ []));
    }
