use Rattle.std.proofs.Common.{◌≡◌, map, take}
use Rattle.httparse.specs.Spans.{header_bytes}
use Rattle.kg_wire.specs.Messages.{header_of}
use Rattle.kg_wire.proofs.head.copy_headers.Given as goal

abbrev pub invariant-loop-field : goal.invariant-loop-field
invariant-loop-field l = l.headers ≡ map header_of (map (header_bytes l.held) (take l.field-index l.fields))
