use Rattle.std.proofs.lemmas.Bool.Decides.{Decides-at}
use Rattle.std.specs.Cmp.Lexicographic.{pointwise}
use Rattle.kg_row_values.proofs.SameLemmas.{same_header, headers_decide}
use Rattle.kg_row_values.proofs.same.are_same_headers.Goals as goal

-- lists of headers compare as equal where they are the same
pub returns : goal.returns
returns c = Decides-at c.eq.result (pointwise same_header c.args.a.now c.args.b.now) c.eq.ensures (headers_decide c.args.a.now c.args.b.now)
