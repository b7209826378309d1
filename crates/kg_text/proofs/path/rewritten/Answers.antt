-- the first slash stays
use Rattle.std.proofs.Common.{length, ap, ◌∙◌, arith}
use Rattle.std.proofs.lemmas.Bool.{and_parts}
use Rattle.kg_text.proofs.PathLemmas.{escapes_first}
use Rattle.kg_text.proofs.path.rewritten.Goals as goal

pub without_dots-requires : goal.without_dots-requires
without_dots-requires c =
    let found = escapes_first c.args.path.now (and_parts _ _ c.requires).0 in
    omega (arith, ap length (c.as_slice.ensures.value ∙ c.in_ok-escaped.ensures ∙ found.1))
