use Rattle.std.proofs.Common.{◌≡◌, Bool, true, false, cond, is_eq, refl, ◌∙◌}
use Rattle.kg_tables.specs.PlaceIndexes.{is_listed, pair_cmp}
use Rattle.kg_tables.proofs.listing.PlaceIndex.note.Goals as goal

-- what was listed is still
pub returns-in_ok-insert-clause-kept : goal.returns-in_ok-insert-clause-kept
returns-in_ok-insert-clause-kept c = λ id at was.
    c.in_ok-insert.ensures.updates.0 (id, at)
    ∙ (elim (is_eq (pair_cmp (c.in-Some.id, c.args.place) (id, at))) as (λ b. cond {A = Bool} b true (is_listed c.args.self.now id at) ≡ true) [ true ↦ refl | false ↦ was ])
