-- a name is ASCII, and so UTF-8
use Rattle.std.proofs.lemmas.Str.{IsUtf8-from_ascii}
use Rattle.kg_text.proofs.NameLemmas.{name_ascii}
use Rattle.kg_text.proofs.name.Name.as_str.Goals as goal

pub unreachable-requires : goal.unreachable-requires
unreachable-requires c =
    let name = c.self.inside.raw.items in
    c.in-Err.ensures.cases.0 (rw c.as_slice.ensures.value (IsUtf8-from_ascii name (name_ascii name c.self.invariant)))
