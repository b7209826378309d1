use Rattle.std.proofs.Common.{arith}
use Rattle.std.proofs.lemmas.Str.Pattern.{strip_prefix_char}
use Rattle.kg_match.proofs.CompileLemmas.{stripped}
use Rattle.kg_match.proofs.path.pattern_text.Goals as goal

pub returns : goal.returns
returns c = stripped c.args.path.now c.strip_prefix.result (strip_prefix_char 126 c.args.path.now c.strip_prefix.result c.strip_prefix.ensures.cases (omega arith))
