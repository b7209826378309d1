use Rattle.kg_row_types.specs.RowLists.{no_rows}
use Rattle.kg_store_shared.proofs.AdmitLemmas.{allowed_at}
use Rattle.kg_store_shared.proofs.making.admit_all.Goals as goal

-- a command that is allowed after those before it is valid
pub admit-requires-clause-valid : goal.admit-requires-clause-valid
admit-requires-clause-valid g c =
    (allowed_at c.args.commands.now no_rows c.requires.allowed.0 c.loop-command.command-index c.command-item.result c.requires.allowed.1 c.loop-command-test.true c.command-item.is).0

-- and keeps the rows after those before it, which are the store's, consistent
pub admit-requires-clause-consistent : goal.admit-requires-clause-consistent
admit-requires-clause-consistent g c =
    rw c.loop-command.invariant
    (allowed_at c.args.commands.now no_rows c.requires.allowed.0 c.loop-command.command-index c.command-item.result c.requires.allowed.1 c.loop-command-test.true c.command-item.is).1
