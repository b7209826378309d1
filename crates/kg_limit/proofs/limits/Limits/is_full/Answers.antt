use Rattle.std.proofs.Common.{◌≡◌, length, sym, ap, subst, ◌∙◌, ◌≤◌, arith, length-take-le}
use Rattle.std.proofs.lemmas.Bool.{le-leb, leb-true}
use Rattle.kg_limit.proofs.limits.Limits.is_full.Goals as goal

pub returns : goal.returns
returns c =
    let len = c.self.inside.len in
    let size : length c.args.self.now ≡ len = ap length (sym c.self.view_is) ∙ length-take-le len _ (omega (arith, c.self.invariant.0, c.self.invariant.1)) in
    (λ yes. subst (λ n. 4 ≤ n) (sym size) (leb-true 4 len yes), λ most. le-leb 4 len (subst (λ n. 4 ≤ n) size most))
