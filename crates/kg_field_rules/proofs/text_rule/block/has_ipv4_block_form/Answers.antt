use Rattle.std.proofs.Common.{◌≡◌, ◌∙◌, ◌==◌, true, ap, sym}
use Rattle.std.specs.List.{before_first}
use Rattle.kg_text.specs.Paths.{slash}
use Rattle.kg_row_types.specs.ConfigTexts.{is_ipv4}
use Rattle.kg_field_rules.proofs.TextLemmas.{behind_first, from_first-empty}
use Rattle.kg_field_rules.proofs.text_rule.block.has_ipv4_block_form.Goals as goal

pub returns-then-branch : goal.returns-then-branch
returns-then-branch c =
    let front : is_ipv4 (before_first (λ b. b == slash) c.args.text.now) ≡ true =
    ap is_ipv4 (sym c.split_before.ensures.front) ∙ sym c.in_ok-is_ipv4.ensures ∙ c.if-branch.true in
    rw (← from_first-empty (λ b. b == slash) c.args.text.now, ← behind_first (λ b. b == slash) c.args.text.now, front, ← c.split_before.ensures.back) c.is_length.ensures
