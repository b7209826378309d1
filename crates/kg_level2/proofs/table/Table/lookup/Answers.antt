use Rattle.std.proofs.Common.{◌≡◌, refl, sym, ap, ◌∙◌}
use Rattle.kg_level2.specs.Claims.{claim_on}
use Rattle.kg_level2.specs.Shared.{Shared}
use Rattle.kg_level2.proofs.table.Table.lookup.Goals as goal

pub returns-in-Some-clause-ok : goal.returns-in-Some-clause-ok
returns-in-Some-clause-ok g c =
    let claims : c.as_slice.result.now ≡ c.args.self.now.out = c.as_slice.ensures.value ∙ ap (λ (t : Shared g.row.K.Denot g.row.V.Denot). t.out) c.self.view_is in
    ((c.in-Some.claim.now, ap (claim_on g.K.PartialEq.eq c.args.key.now) (sym claims) ∙ sym c.in-Some.ensures, sym c.taker.ensures), refl)
