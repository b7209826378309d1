use Rattle.std.proofs.Common.{◌≡◌, ◌+◌, [], All, length}
use Rattle.kg_history.specs.Sights.{IsFresh}
use Rattle.kg_store_shared.proofs.making.show_all.Given as goal

-- those so far have seen the commits, those that are left nothing
abbrev pub invariant-loop-pass : goal.invariant-loop-pass
invariant-loop-pass g l =
    (l.store ≡ l.initial.store)
    × (length l.passes.items + length l.pass-iterator.rest.items ≡ length l.fn.fresh.items)
    × All (λ pass. IsFresh pass l.initial.store) l.passes.items
    × All (λ pass. IsFresh pass []) l.pass-iterator.rest.items
