-- ASCII is UTF-8
use Rattle.std.proofs.lemmas.Bool.{false≢true}
use Rattle.std.proofs.lemmas.Str.{IsUtf8-from_ascii}
use Rattle.kg_text.proofs.path.text_of.Goals as goal

pub unreachable-requires : goal.unreachable-requires
unreachable-requires c =
    false≢true (c.in_default.ensures.succeeds (IsUtf8-from_ascii c.args.ascii.items c.requires))
