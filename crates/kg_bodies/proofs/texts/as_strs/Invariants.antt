use Rattle.std.proofs.Common.{◌≡◌, map, take}
use Rattle.kg_bodies.proofs.texts.as_strs.Given as goal

abbrev pub invariant-loop-text : goal.invariant-loop-text
invariant-loop-text l = map (λ str. str.now) l.strs.items ≡ take l.text-index l.texts
