use Rattle.std.proofs.Common.{sym}
use Rattle.kg_row_values.proofs.command.CommandTryClone.try_clone.Goals as goal

-- both fields are copied
pub returns-in-Delete : goal.returns-in-Delete
returns-in-Delete c = sym c.in-Delete.is
