use Rattle.std.proofs.Common.{◌≡◌, drop}
use Rattle.std.specs.List.{list_all}
use Rattle.kg_field_rules.specs.TextRules.{has_form}
use Rattle.kg_bodies.proofs.judge.have_form.Given as goal

abbrev pub invariant-loop-text : goal.invariant-loop-text
invariant-loop-text l = list_all (has_form l.text_kind) (drop l.text-index l.texts) ≡ list_all (has_form l.text_kind) l.texts
