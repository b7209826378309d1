use Rattle.std.proofs.Common.{ap, take, ◌∙◌, map}
use Rattle.std.proofs.lemmas.List.{take-map}
use Rattle.kg_limit.specs.Counting.{left_after}
use Rattle.kg_limit.proofs.limits.Limits.count_down.Goals as goal

pub returns : goal.returns
returns c =
    let f = left_after c.args.counts.now c.args.time c.args.let_through in
    ap (take c.self.inside.len) c.count_down.ensures ∙ take-map f c.self.inside.len _ ∙ ap (map f) c.self.view_is
