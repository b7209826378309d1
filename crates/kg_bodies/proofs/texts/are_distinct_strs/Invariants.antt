use Rattle.std.proofs.Common.{◌≡◌, List, ℕ, Bor, true}
use Rattle.std.specs.List.{list_any}
use Rattle.std.specs.Str.{bytes_eq}
use Rattle.std.specs.HashSet.{contains}
use Rattle.kg_row_types.specs.TextForms.{are_distinct}
use Rattle.kg_bodies.proofs.DistinctTexts.{in_front}
use Rattle.kg_bodies.proofs.texts.are_distinct_strs.Given as goal

abbrev pub invariant-loop-text : goal.invariant-loop-text
invariant-loop-text l = record {
  seen : (text : Bor (List ℕ)) → contains (λ a b. bytes_eq a.now b.now) l.seen text ≡ list_any (bytes_eq text.now) (in_front l.texts l.text-index);
  distinct : are_distinct (in_front l.texts l.text-index) ≡ true;
}
