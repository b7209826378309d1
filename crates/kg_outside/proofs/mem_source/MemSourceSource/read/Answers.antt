-- What was copied is a front of the bytes left.
use Rattle.std.specs.Prelude.{◌≡◌, length, take, drop}
use Rattle.std.proofs.Common.{sym, ap, ◌∙◌, arith}
use Rattle.std.proofs.lemmas.List.{drop-drop}
use Rattle.kg_outside.specs.Memory.{MemorySource}
use Rattle.kg_outside.proofs.ReadLemmas.{Reads-front}
use Rattle.kg_outside.proofs.mem_source.MemSourceSource.read.Goals as goal

pub returns-clause-bytes : goal.returns-clause-bytes
returns-clause-bytes c =
    let n = c.copy_front-count.result in
    let place = c.self.inside.place in
    let bytes = c.self.inside.bytes in
    let before : c.args.self.now.left ≡ drop place bytes = ap (λ (source : MemorySource). source.left) (sym c.self.view_is) in
    let given : c.split_at.result.1.now ≡ drop place bytes = c.split_at.ensures.back ∙ ap (drop place) c.as_slice.ensures in
    let lengths = ap length given in
    rw (before, ← drop-drop n place bytes)
    (Reads-front _ _ c.self.inside.piece n (omega arith) (omega arith) (omega arith) (c.copy_front-count.ensures.copied ∙ ap (take n) given))
