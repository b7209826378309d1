use Rattle.std.proofs.Common.{◌≡◌, filter, take}
use Rattle.kg_message.specs.HopByHop.{passes}
use Rattle.kg_message.proofs.hop_by_hop.end_to_end.Given as goal

abbrev pub invariant-loop-field : goal.invariant-loop-field
invariant-loop-field l = l.kept ≡ filter (passes l.headers) (take l.field-index l.field-items)
