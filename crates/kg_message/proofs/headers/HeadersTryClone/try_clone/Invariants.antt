use Rattle.std.proofs.Common.{◌≡◌, take}
use Rattle.kg_message.proofs.headers.HeadersTryClone.try_clone.Given as goal

abbrev pub invariant-loop-field : goal.invariant-loop-field
invariant-loop-field l = l.copy ≡ take l.field-index l.field-items
