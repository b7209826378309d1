use Rattle.std.proofs.Common.{◌≡◌, [], ◌∷◌, ◌++◌, All, length, sym, ap, subst, arith}
use Rattle.std.proofs.lemmas.List.Elements.{All-nil}
use Rattle.kg_history.specs.Sights.{IsFresh}
use Rattle.kg_store_shared.proofs.MakingLemmas.{fresh_seat, last_moved, when_ok}
use Rattle.kg_store_shared.specs.Seated.{Seated, new_seat}
use Rattle.kg_store_shared.proofs.making.make.Goals as goal

-- no seat yet
pub loop-init : goal.loop-init
loop-init g c =
    let is_seated : Seated → Type 0 = λ seat. seat ≡ new_seat c.args.commands.now c.args.rows c.args.feed in (
      ap length c.new-all.ensures,
      omega (arith, c.in_ok-store.ensures.passes),
      subst (All is_seated) (sym c.new-all.ensures) (All-nil is_seated),
      subst (λ commits. All (λ pass. IsFresh pass commits) c.in_ok-store.passes.items) c.as_slice.ensures c.in_ok-store.ensures.seen,
    )

-- one seat more, of the last pass that was left
pub loop-preserved : goal.loop-preserved
loop-preserved g c =
    let before = c.loop.invariant in
    let commits = c.args.commands.now in
    let added = when_ok c.add_seat.result (c.add_seat.new.all ≡ c.loop.all ++ c.new-hand.result ∷ []) c.if-is_err.ensures.value c.add_seat.ensures in
    let moved = last_moved (λ seat. seat ≡ new_seat commits c.args.rows c.args.feed) (λ pass. IsFresh pass commits) c.loop.all c.add_seat.new.all
    c.loop.passes.items c.pop.new.self.items c.new-hand.result c.in-Some.pass c.args.blank.passes c.loop.counter
    c.in-Some.ensures.items added (fresh_seat c.in-Some.pass c.new-hand.result commits c.args.rows c.args.feed c.new-hand.ensures) before.0 before.1 before.2 before.3 in
    (moved.0, moved.1, moved.2, moved.3)
