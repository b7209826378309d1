-- a text that is not empty and has a tchar at each place is a token
use Rattle.std.proofs.Common.{arith}
use Rattle.std.proofs.lemmas.Bool.Decides.{nat_tests}
use Rattle.std.proofs.lemmas.List.Sums.{prefix_len-le-length}
use Rattle.kg_text.specs.Names.{is_tchar}
use Rattle.kg_text.proofs.name.Name.of.Goals as goal

pub of_token-requires : goal.of_token-requires
of_token-requires c = grind (arith, nat_tests, prefix_len-le-length is_tchar c.args.raw.now)

pub returns : goal.returns
returns c = grind (arith, nat_tests, prefix_len-le-length is_tchar c.args.raw.now)
