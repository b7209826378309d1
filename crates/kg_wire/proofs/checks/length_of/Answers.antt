use Rattle.std.proofs.Common.{sym, ◌∙◌}
use Rattle.kg_wire.proofs.ChecksLemmas.{is_length-IsAscii, length_parsed}
use Rattle.kg_wire.proofs.checks.length_of.Goals as goal

pub digits_str-requires : goal.digits_str-requires
digits_str-requires c = is_length-IsAscii c.args.value.now (sym c.is_length.ensures ∙ c.if-not-is_length.false)

pub returns : goal.returns
returns c = c.ok.ensures.value ∙ length_parsed c.args.value.now c.parse.result (sym c.is_length.ensures ∙ c.if-not-is_length.false) (rw c.digits_str.ensures at c.parse.ensures.value.0)
