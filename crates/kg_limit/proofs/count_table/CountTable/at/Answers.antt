use Rattle.std.proofs.Common.{sym}
use Rattle.kg_limit.proofs.count_table.CountTable.at.Goals as goal

pub returns-clause-entry : goal.returns-clause-entry
returns-clause-entry c = (c.in-Some.field-0-0.now, sym c.in-Some.ensures.entry)
