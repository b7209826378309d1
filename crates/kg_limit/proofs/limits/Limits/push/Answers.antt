use Rattle.std.proofs.Common.{◌≡◌, ◌∷◌, [], ◌++◌, length, sym, ap, ◌∙◌, arith, length-take-le}
use Rattle.std.proofs.lemmas.List.{take_more_set}
use Rattle.kg_limit.proofs.limits.Limits.push.Goals as goal

pub returns : goal.returns
returns c =
    let len = c.self.inside.len in
    let size : length c.args.self.now ≡ len = ap length (sym c.self.view_is) ∙ length-take-le len _ (omega (arith, c.self.invariant.0, c.self.invariant.1)) in
    take_more_set _ len c.args.limit (omega (arith, c.requires, size, c.self.invariant.1)) ∙ ap (λ l. l ++ c.args.limit ∷ []) c.self.view_is
