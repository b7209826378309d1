-- the whole is its own normal form just where the rest is
use Rattle.std.proofs.Common.{sym, ◌∙◌, refl}
use Rattle.std.proofs.lemmas.Bool.{both_ways}
use Rattle.std.proofs.lemmas.List.{nil_from_length}
use Rattle.kg_text.proofs.EscapeLemmas.{normal_escapes-nil, normal_escapes-byte, normal_escapes-escape_same, normal_escapes-escape_kept}
use Rattle.kg_text.proofs.escape.has_normal_escapes.Goals as goal

pub returns-then-not-is_normal_escape : goal.returns-then-not-is_normal_escape
returns-then-not-is_normal_escape c = (
  λ no. cc,
  λ whole.
      let same = normal_escapes-escape_same _ _ _ _ c.in-Some-split_escape.ensures (c.loop-tail.invariant.0 whole) in
      absurd (both_ways _ c.if-not-is_normal_escape.true (c.is_normal_escape.ensures.1 same.0)),
)

pub loop-tail-preserved-else-not-is_normal_escape :
    goal.loop-tail-preserved-else-not-is_normal_escape
loop-tail-preserved-else-not-is_normal_escape c =
    let escape = c.in-Some-split_escape.ensures in (
      λ whole. (normal_escapes-escape_same _ _ _ _ escape (c.loop-tail.invariant.0 whole)).1,
      λ rest. c.loop-tail.invariant.1 (
          normal_escapes-escape_kept _ _ _ _ escape (c.is_normal_escape.ensures.0 c.if-not-is_normal_escape.false) rest),
    )

pub loop-tail-preserved : goal.loop-tail-preserved
loop-tail-preserved c =
    let parts = c.in-Some.ensures.cases.0 in
    let read = normal_escapes-byte _ _ _ parts c.in-None.ensures in (
      λ whole. let same = c.loop-tail.invariant.0 whole in cc,
      λ rest. c.loop-tail.invariant.1 cc,
    )

pub returns : goal.returns
returns c =
    let none = c.in_default.ensures.cases in
    (λ yes. c.loop-tail.invariant.1 (normal_escapes-nil _ none ∙ sym (nil_from_length _ none)), λ whole. refl)
