use Rattle.std.proofs.Common.{◌==◌, ◌∙◌, ap}
use Rattle.kg_bodies.proofs.ItemLemmas.{is_set-array}
use Rattle.kg_bodies.proofs.judge.is_set.Goals as goal

pub returns-in-Some : goal.returns-in-Some
returns-in-Some c = is_set-array _ _ _ c.in-Some.ensures (c.is_empty.ensures ∙ ap (λ n. n == 0) c.in-Some.items.now.ok.0)
