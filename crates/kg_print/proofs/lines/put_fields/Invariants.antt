use Rattle.std.proofs.Common.{◌≡◌, ◌++◌, take}
use Rattle.kg_print.specs.FieldLines.{field_lines}
use Rattle.kg_print.proofs.lines.put_fields.Given as goal

abbrev pub invariant-loop-field : goal.invariant-loop-field
invariant-loop-field l = l.out ≡ l.initial.out ++ field_lines (take l.field-index l.field-items)
