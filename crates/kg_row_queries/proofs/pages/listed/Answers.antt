use Rattle.std.proofs.Common.{◌≡◌, ◌++◌, take, sym, ap, ◌∙◌, append-nil}
use Rattle.std.proofs.lemmas.List.{take_all, take_at}
use Rattle.kg_row_queries.proofs.pages.listed.Goals as goal

-- as many as are asked for are there
pub returns-then-len-most : goal.returns-then-len-most
returns-then-len-most c =
    sym (take_at c.loop-id.list c.loop-id.id-iterator c.args.most (sym c.len.ensures ∙ c.if-len-most.true))
    ∙ ap (take c.args.most) c.loop-id.invariant.0

-- nothing is left
pub returns : goal.returns
returns c =
    let all : c.loop-id.list ≡ c.args.ids.keys =
    sym (append-nil c.loop-id.list) ∙ ap (λ rest. c.loop-id.list ++ rest) (sym c.in-None.ensures.steps.0) ∙ c.loop-id.invariant.0 in
    sym (take_all c.args.most c.loop-id.list c.loop-id.invariant.1) ∙ ap (take c.args.most) all
