use Rattle.std.proofs.Common.{◌∙◌}
use Rattle.kg_guard.proofs.AddressLemmas.{bits_by_rest, length_form}
use Rattle.kg_guard.proofs.address.block_bits.Goals as goal

pub bits_of-requires : goal.bits_of-requires
bits_of-requires c = rw (c.split_before.ensures.back) (length_form c.args.block.now c.requires)

pub returns-clause-value : goal.returns-clause-value
returns-clause-value c = rw (c.split_before.ensures.back) at c.bits_of.ensures.value ∙ bits_by_rest c.args.block.now
