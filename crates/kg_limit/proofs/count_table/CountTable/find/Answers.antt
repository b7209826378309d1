use Rattle.kg_limit.proofs.CountLemmas.{stands_found}
use Rattle.kg_limit.proofs.count_table.CountTable.find.Goals as goal

pub returns-in-Some-clause-found : goal.returns-in-Some-clause-found
returns-in-Some-clause-found c =
    stands_found c.args.self.now c.args.key.now c.in-Some.field-0-1.now c.in-Some.field-0-2.now c.in-Some.at c.in-Some.ensures.key c.in-Some.ensures.entry
