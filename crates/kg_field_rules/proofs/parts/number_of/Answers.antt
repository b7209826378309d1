use Rattle.std.proofs.Common.{◌∙◌}
use Rattle.kg_field_rules.proofs.TextLemmas.{digits-IsAscii, number_parsed}
use Rattle.kg_field_rules.proofs.parts.number_of.Goals as goal

pub ascii_str-requires : goal.ascii_str-requires
ascii_str-requires c = digits-IsAscii c.args.digits.now c.requires.digits

pub returns : goal.returns
returns c = c.ok.ensures.value ∙ number_parsed c.args.digits.now c.parse.result c.requires.some c.requires.digits (rw c.ascii_str.ensures at c.parse.ensures.value.0)
