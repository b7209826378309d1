use Rattle.std.proofs.Common.{◌≡◌, [], ◌∷◌, ◌++◌, length, sym, ap, ◌∙◌, arith}
use Rattle.std.proofs.lemmas.List.{append_assoc}
use Rattle.kg_row_values.proofs.watch.listed.Goals as goal

-- one more is listed, and one fewer is left
pub loop-key-preserved : goal.loop-key-preserved
loop-key-preserved c =
    let more : c.loop-key.key-iterator ≡ c.in-Some.key ∷ c.next.new.self = c.in-Some.ensures.steps in
    record {
      all = ap (λ items. items ++ c.next.new.self) c.add.ensures.items
          ∙ append_assoc c.loop-key.list.items (c.in-Some.key ∷ []) c.next.new.self
          ∙ ap (λ rest. c.loop-key.list.items ++ rest) (sym more) ∙ c.loop-key.invariant.all;
      room = omega (arith, c.loop-key.invariant.room, c.add.ensures.room, c.add.ensures.len, ap length more);
    }
