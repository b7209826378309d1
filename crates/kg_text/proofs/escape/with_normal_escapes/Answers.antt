-- what is out and the normal form of the rest are together the normal form of the whole
use Rattle.std.proofs.Common.{◌++◌, sym, ap, ◌∙◌, append_assoc}
use Rattle.std.proofs.lemmas.List.{append-nil}
use Rattle.kg_text.proofs.EscapeLemmas.{normal_escapes-nil, normal_escapes-escape, normal_escapes-byte}
use Rattle.kg_text.proofs.escape.with_normal_escapes.Goals as goal

pub loop-first-preserved-in_ok-push_escape-in-Some-split_escape :
    goal.loop-first-preserved-in_ok-push_escape-in-Some-split_escape
loop-first-preserved-in_ok-push_escape-in-Some-split_escape c =
    let read = normal_escapes-escape _ _ _ _ c.in-Some-split_escape.ensures in
    rw (c.in_ok-push_escape-in-Some-split_escape.ensures, append_assoc, ← read) c.loop-first.invariant

pub loop-first-preserved : goal.loop-first-preserved
loop-first-preserved c =
    let read = normal_escapes-byte _ _ _ c.in-Some.ensures.cases.0 c.in-None.ensures in
    rw (c.in_ok-push-in-None.ensures.items, append_assoc, ← read) c.loop-first.invariant

pub returns : goal.returns
returns c =
    let out = c.loop-first.out.items in
    sym (append-nil out)
    ∙ ap (λ rest. out ++ rest) (sym (normal_escapes-nil _ c.in_default.ensures.cases))
    ∙ c.loop-first.invariant
