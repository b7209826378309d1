use Rattle.std.proofs.Common.{◌≡◌, ◌++◌, take}
use Rattle.std.specs.List.{flat_map}
use Rattle.kg_print.specs.UpstreamText.{forwarded_value}
use Rattle.kg_print.proofs.upstream.put_forwarded_values.Given as goal

abbrev pub invariant-loop-field : goal.invariant-loop-field
invariant-loop-field l = l.out ≡ l.initial.out ++ flat_map forwarded_value (take l.field-index l.field-items)
