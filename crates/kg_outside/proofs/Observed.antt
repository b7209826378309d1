-- What moved bytes and counts of faults say over several calls.
use Rattle.std.specs.Prelude.{◌≡◌, ℕ, ◌≤◌, List, [], ◌++◌, Option, Some, None, refl}
use Rattle.std.proofs.Common.{sym, ap, arith}
use Rattle.std.proofs.lemmas.List.{append-nil, append_assoc}
use Rattle.kg_outside.specs.Causes.{Rose}
use Rattle.kg_outside.specs.Moves.{with_front, with_end}

-- no bytes in front
pub with_front-nil : (left : Option (List ℕ)) → with_front [] left ≡ left
with_front-nil None = refl
with_front-nil (Some more) = refl

-- where what is left is observable, so is the whole
pub with_front-Some : (bytes more : List ℕ) → with_front bytes (Some more) ≡ Some (bytes ++ more)
with_front-Some bytes more = refl

-- two pieces in front, one after the other
pub with_front-append : (a b : List ℕ) (left : Option (List ℕ)) → with_front (a ++ b) left ≡ with_front a (with_front b left)
with_front-append a b None = refl
with_front-append a b (Some more) = ap Some (append_assoc a b more)

-- no bytes at the end
pub with_end-nil : (written : Option (List ℕ)) → with_end written [] ≡ written
with_end-nil None = refl
with_end-nil (Some before) = ap Some (append-nil before)

-- where what was written is observable, so is the whole
pub with_end-Some : (before bytes : List ℕ) → with_end (Some before) bytes ≡ Some (before ++ bytes)
with_end-Some before bytes = refl

-- two pieces at the end, one after the other
pub with_end-append : (written : Option (List ℕ)) (a b : List ℕ) → with_end written (a ++ b) ≡ with_end (with_end written a) b
with_end-append None a b = refl
with_end-append (Some before) a b = ap Some (sym (append_assoc before a b))

-- a count that has risen has risen at each later state
pub Rose_later : (a b c : ℕ) → Rose a b → b ≤ c → Rose a c
Rose_later a b c rose later = omega arith

-- a count that has risen has risen since each earlier state
pub Rose_earlier : (a b c : ℕ) → a ≤ b → Rose b c → Rose a c
Rose_earlier a b c later rose = omega arith
