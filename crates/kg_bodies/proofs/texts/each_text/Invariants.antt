use Rattle.std.proofs.Common.{◌≡◌}
use Rattle.serde_json.specs.View.{items_view}
use Rattle.kg_field_tables.specs.Judging.{each_text}
use Rattle.kg_bodies.proofs.ItemLemmas.{found_and_ahead}
use Rattle.kg_bodies.proofs.texts.each_text.Given as goal

abbrev pub invariant-loop-item : goal.invariant-loop-item
invariant-loop-item l = found_and_ahead l.texts l.item-index l.items ≡ each_text (items_view l.items)
