use Rattle.std.proofs.lemmas.Str.{IsUtf8-from_ascii}
use Rattle.kg_wire.proofs.checks.digits_str.Goals as goal

pub unreachable-requires : goal.unreachable-requires
unreachable-requires c = c.in-Err.ensures.cases.0 (IsUtf8-from_ascii c.args.value.now c.requires)
