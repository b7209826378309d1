use Rattle.std.proofs.Common.{◌+◌, ap, sym, subst, ◌∙◌, map}
use Rattle.std.specs.Prelude.{IsSomeAnd}
use Rattle.std.specs.List.{list_all}
use Rattle.kg_limit.specs.Counting.{is_free, key_of, left_after}
use Rattle.kg_limit.specs.Representing.{IsRoomFor}
use Rattle.kg_limit.proofs.HitLemmas.{stands_after, verdict_is}
use Rattle.kg_limit.proofs.windows.Windows.hit.Goals as goal

pub returns : goal.returns
returns c =
    let windows = c.args.self.now in
    let hit = c.args.hit.now in
    let time = c.max-time.result in
    let counts = c.at-counts.result in
    let room : IsRoomFor windows.table hit c.in-Some.field-0 =
    subst (λ r. IsSomeAnd r (IsRoomFor windows.table hit)) (sym c.take.ensures.value ∙ c.in-Some.is) c.requires.room in
    let there = c.at-counts.ensures.kept (key_of hit.row hit.identity) room.entry in
    let limits = c.as_slice.ensures ∙ room.left in
    let through = c.is_let_through-let_through.ensures ∙ ap (list_all (is_free counts time)) limits in
    let left = c.count_down.ensures ∙ (λ i. map (left_after counts time (through i)) (room.left i)) in
    λ hits is. (
      (λ i. record { place = windows.place + 1; time = time; let_through = through i; left = left i })
          ∙ verdict_is windows hits hit counts time is c.max-time.ensures there,
      stands_after windows hits hit counts time is c.max-time.ensures there c.count.new.table c.take.new.self c.in-Some.field-0.at
          c.is_let_through-let_through.result c.requires.place through room.entry c.count.ensures,
    )
