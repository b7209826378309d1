-- One read of a source in memory.
use Rattle.std.specs.Prelude.{◌≡◌, ℕ, ◌<◌, min, List, ◌++◌, length, take, drop, Some, Ok}
use Rattle.std.proofs.Common.{sym, ap, ◌∙◌, arith}
use Rattle.std.proofs.lemmas.List.{nil_from_length, take-append-drop}
use Rattle.kg_outside.specs.Moves.{Reads}

-- a read that moved a front of the bytes left, as much as a piece and the room take
pub Reads-front : {E : Type 0} (left room : List ℕ) (piece n : ℕ) → 0 < piece → 0 < length room
    → n ≡ min (length room) (min piece (length left)) → take n room ≡ take n left
    → Reads {E = E} (Some left) (Some (drop n left)) room (Ok n)
Reads-front left room piece n some_piece some_room count copied = record {
  within = omega arith;
  moved = ap Some (sym (ap (λ front. front ++ drop n left) copied ∙ take-append-drop n left));
  ended = λ bytes same.
      let all : left ≡ bytes = cc in
      let same_length : length left ≡ length bytes = ap length all in
      (λ none. nil_from_length bytes (omega arith), λ empty. let no_length : length bytes ≡ 0 = ap length empty in omega arith);
  failed = tt;
}
