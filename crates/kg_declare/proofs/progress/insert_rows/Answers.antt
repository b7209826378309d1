use Rattle.std.proofs.Common.{◌+◌, ◌++◌, All, length, length-append, ◌∙◌, refl, sym, ap, subst}
use Rattle.std.proofs.lemmas.List.Elements.{All-head, All-tail}
use Rattle.kg_declare.specs.Inserting.{Stands, accepted_at, with_row, with_rows}
use Rattle.kg_declared_rows.specs.SeenRows.{seen, seen_all}
use Rattle.kg_declare.proofs.ProgressLemmas.{SoFar, ahead_row, nothing_ahead_yet, nothing_left, refused_later}
use Rattle.kg_declare.proofs.progress.insert_rows.Goals as goal

pub loop-row-init : goal.loop-row-init
loop-row-init g c = record {
  so_far = subst (λ items. SoFar g.I.Ids.draws c.args.ids.now c.args.ids.now c.args.made.now c.args.made.now c.args.now c.args.limit (seen_all c.args.rows.items) (seen_all items))
      (sym c.into_iter-row-iterator.ensures.into_iter_gives.0)
      (nothing_ahead_yet g.I.Ids.draws c.args.ids.now c.args.made.now c.args.now c.args.limit (seen_all c.args.rows.items) (g.met.I.Ids.draws_none c.args.ids.now));
  stand = subst (λ items. All Stands (seen_all items)) (sym c.into_iter-row-iterator.ensures.into_iter_gives.0) c.requires;
  consistent = λ is. is;
}

pub insert_row-requires : goal.insert_row-requires
insert_row-requires g c =
    All-head Stands (seen c.in-Some.row) (seen_all c.next.new.self.rest.items)
    (subst (λ items. All Stands (seen_all items)) c.in-Some.ensures.steps.0 c.loop-row.invariant.stand)

pub loop-row-preserved : goal.loop-row-preserved
loop-row-preserved g c =
    let so_far = c.loop-row.invariant.so_far in
    let drawn = so_far.drawn in
    let step = c.in-Ok.ensures.steps.drawn in
    let all = seen_all c.args.rows.items in
    let rest = seen_all c.next.new.self.rest.items in
    record {
      so_far = record {
        drawn = drawn ++ step;
        moved = g.met.I.Ids.draws_on _ _ _ _ _ so_far.moved c.in-Ok.ensures.steps.moved;
        ahead = λ more.
            ahead_row drawn step more c.args.now c.args.limit all rest (seen c.in-Some.row) c.args.made.now c.loop-row.made
            (λ more. so_far.ahead more
            ∙ ap (λ items. with_rows (drawn ++ more) c.args.now c.args.limit (seen_all items) (accepted_at c.loop-row.made (length drawn))) c.in-Some.ensures.steps.0)
            _ (c.in-Ok.ensures.steps.leaves drawn more)
            ∙ ap (λ count. with_rows (drawn ++ step ++ more) c.args.now c.args.limit rest (accepted_at c.insert_row.new.made count)) (sym (length-append drawn step));
      };
      stand = All-tail Stands (seen c.in-Some.row) rest
          (subst (λ items. All Stands (seen_all items)) c.in-Some.ensures.steps.0 c.loop-row.invariant.stand);
      consistent = λ is. c.in-Ok.ensures.consistent (c.loop-row.invariant.consistent is);
    }

pub returns-in-Err-clause-steps : goal.returns-in-Err-clause-steps
returns-in-Err-clause-steps g c =
    let so_far = c.loop-row.invariant.so_far in
    let drawn = so_far.drawn in
    let step = c.in-Err.ensures.steps.drawn in
    let all = seen_all c.args.rows.items in
    let rest = seen_all c.next.new.self.rest.items in
    record {
      drawn = drawn ++ step;
      moved = g.met.I.Ids.draws_on _ _ _ _ _ so_far.moved c.in-Err.ensures.steps.moved;
      leaves = λ more.
          refused_later c.in-Err.e (drawn ++ step ++ more) c.args.now c.args.limit rest
          (with_row (drawn ++ step ++ more) c.args.now c.args.limit (seen c.in-Some.row) (accepted_at c.loop-row.made (length drawn)))
          (with_rows (drawn ++ step ++ more) c.args.now c.args.limit all (accepted_at c.args.made.now 0))
          (length drawn + length step) (length (drawn ++ step)) (sym (length-append drawn step))
          (ahead_row drawn step more c.args.now c.args.limit all rest (seen c.in-Some.row) c.args.made.now c.loop-row.made
          (λ more. so_far.ahead more
          ∙ ap (λ items. with_rows (drawn ++ more) c.args.now c.args.limit (seen_all items) (accepted_at c.loop-row.made (length drawn))) c.in-Some.ensures.steps.0)
          _ refl)
          (c.in-Err.ensures.steps.leaves drawn more);
    }

pub returns-clause-steps : goal.returns-clause-steps
returns-clause-steps g c =
    let so_far = c.loop-row.invariant.so_far in
    let drawn = so_far.drawn in
    let none = nothing_left c.loop-row.row-iterator.rest.items (sym c.loop-row.row-iterator.rest.ok.0 ∙ c.in-None.ensures.steps.0) in
    record {
      drawn = drawn;
      moved = so_far.moved;
      leaves = λ more. so_far.ahead more
          ∙ ap (λ items. with_rows (drawn ++ more) c.args.now c.args.limit (seen_all items) (accepted_at c.loop-row.made (length drawn))) none;
    }

pub returns-clause-consistent : goal.returns-clause-consistent
returns-clause-consistent g c = c.loop-row.invariant.consistent
