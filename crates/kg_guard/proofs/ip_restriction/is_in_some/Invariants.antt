use Rattle.std.proofs.Common.{◌≡◌, false, take}
use Rattle.std.specs.List.{list_any}
use Rattle.kg_guard.specs.Addresses.{is_in_block}
use Rattle.kg_guard.proofs.ip_restriction.is_in_some.Given as goal

-- none of the blocks so far has the address
abbrev pub invariant-loop-block : goal.invariant-loop-block
invariant-loop-block l = list_any (is_in_block l.address) (take l.block-index l.blocks) ≡ false
