use Rattle.std.proofs.Common.{◌<◌, ◌^◌, arith}
use Rattle.std.proofs.lemmas.List.Elements.{All-from_get_or}
use Rattle.kg_keeper.proofs.plan.numbers_are_small.Goals as goal

-- each place has a number of the type
pub returns-clause-numbers : goal.returns-clause-numbers
returns-clause-numbers c = All-from_get_or (λ n. n < 2 ^ 64) c.args.numbers.now 0 (λ i within. omega (arith, c.type_inv.numbers i))
