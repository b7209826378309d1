use Rattle.std.proofs.Common.{Bool, false, cond, ap, sym, ◌∙◌}
use Rattle.kg_tables.proofs.PairLemmas.{goes}
use Rattle.kg_tables.specs.PlaceIndexes.{is_listed}
use Rattle.kg_tables.proofs.listing.PlaceIndex.forget.Goals as goal

-- the pair that goes isn't one that stays
pub returns-then-ne : goal.returns-then-ne
returns-then-ne c = λ id at out was.
    c.remove.ensures.updates.0 (id, at)
    ∙ ap (λ b. cond {A = Bool} b false (is_listed c.args.self.now id at)) (goes c.in-Some.id c.args.place id at c.args.now (sym c.ne.ensures ∙ c.if-ne.true) out)
    ∙ was
