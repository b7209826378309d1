use Rattle.std.proofs.Common.{◌≡◌, map, take}
use Rattle.kg_field_rules.specs.TextRules.{stored}
use Rattle.kg_bodies.proofs.texts.stored_texts.Given as goal

abbrev pub invariant-loop-text : goal.invariant-loop-text
invariant-loop-text l = l.all ≡ map (stored l.text_kind) (take l.text-index l.texts)
