use Rattle.kg_row_types.specs.ConfigTexts.{is_decimal_within}
use Rattle.kg_field_rules.proofs.TextLemmas.{length-now, list_all-now}
use Rattle.kg_field_rules.proofs.text_rule.block.is_ipv4.Goals as goal

pub returns : goal.returns
returns c = rw (← c.in_ok-parts_of.ensures, ← list_all-now (is_decimal_within 255) c.in_ok-parts_of.field-0.items, ← length-now c.in_ok-parts_of.field-0.items)
    (rw c.as_slice.ensures.value at c.are_four_octets.ensures)
