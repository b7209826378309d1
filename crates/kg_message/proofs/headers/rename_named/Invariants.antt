use Rattle.std.proofs.Common.{◌≡◌, ◌++◌, ◌-◌, length, take, drop, replicate}
use Rattle.std.specs.List.{count_by}
use Rattle.kg_message.specs.HeaderLists.{is_named, renamed}
use Rattle.kg_message.proofs.headers.rename_named.Given as goal

abbrev pub invariant-loop-i : goal.invariant-loop-i
invariant-loop-i l =
    (length l.fields.items ≡ length l.fn.fields.items)
    × (l.fields.items ≡ renamed l.old l.new (take l.i l.fn.fields.items) ++ drop l.i l.fn.fields.items)
    × (l.names.items ≡ replicate (count_by (is_named l.old) (drop l.i l.fn.fields.items)) l.new)

abbrev pub decreases-loop-i : goal.decreases-loop-i
decreases-loop-i l = length l.fields.items - l.i
