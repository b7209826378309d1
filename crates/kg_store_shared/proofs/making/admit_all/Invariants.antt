use Rattle.std.proofs.Common.{◌≡◌, take}
use Rattle.kg_store_shared.proofs.making.admit_all.Given as goal

-- those so far are committed
abbrev pub invariant-loop-command : goal.invariant-loop-command
invariant-loop-command g l = l.store ≡ take l.command-index l.commands
