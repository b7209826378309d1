use Rattle.std.proofs.Common.{◌≡◌, ◌++◌, map, take}
use Rattle.kg_field_tables.proofs.default_value.add_texts.Given as goal

-- the texts so far stand behind what was there
abbrev pub invariant-loop-text : goal.invariant-loop-text
invariant-loop-text l = l.list ≡ l.initial.list ++ map (λ text. text.now) (take l.text-index l.texts)
