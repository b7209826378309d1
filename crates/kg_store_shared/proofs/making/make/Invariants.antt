use Rattle.std.proofs.Common.{◌≡◌, ◌+◌, All, length}
use Rattle.kg_history.specs.Sights.{IsFresh}
use Rattle.kg_store_shared.specs.Seated.{new_seat}
use Rattle.kg_store_shared.proofs.making.make.Given as goal

-- so many seats were made, each of a pass that has seen the commands
abbrev pub invariant-loop : goal.invariant-loop
invariant-loop g l =
    (length l.all ≡ l.counter) × (length l.passes.items + l.counter ≡ l.fn.blank.passes)
    × All (λ seat. seat ≡ new_seat l.fn.commands l.fn.rows l.fn.feed) l.all
    × All (λ pass. IsFresh pass l.fn.commands) l.passes.items
