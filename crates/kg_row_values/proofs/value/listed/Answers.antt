use Rattle.std.proofs.Common.{◌≡◌, [], ◌∷◌, ◌++◌, sym, ap, ◌∙◌, append-nil}
use Rattle.std.proofs.lemmas.List.{append_assoc}
use Rattle.kg_row_values.proofs.value.listed.Goals as goal

-- one more is listed, and one fewer is left
pub loop-group-preserved : goal.loop-group-preserved
loop-group-preserved c =
    let more : c.loop-group.group-iterator ≡ c.in-Some.group ∷ c.next.new.self = c.in-Some.ensures.steps in
    ap (λ list. list ++ c.next.new.self) c.in_ok-push.ensures.ok
    ∙ append_assoc c.loop-group.list (c.in-Some.group ∷ []) c.next.new.self
    ∙ ap (λ rest. c.loop-group.list ++ rest) (sym more) ∙ c.loop-group.invariant

-- nothing is left
pub returns : goal.returns
returns c = sym (append-nil c.loop-group.list) ∙ ap (λ rest. c.loop-group.list ++ rest) (sym c.in-None.ensures.steps.0) ∙ c.loop-group.invariant
