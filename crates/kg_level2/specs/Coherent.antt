-- When the shared table is coherent with a history, told as in the first level by what a key's value shows after its
-- first n commits.
use Rattle.std.specs.Prelude.{◌≡◌, ℕ, ◌≤◌, ◌<◌, ◌⊎◌, Bool, false, List, [], ◌∷◌, All}
use Rattle.std.specs.List.{list_any}
use Rattle.kg_level1.specs.Coherent.{IsCoherentLevel, Leaves}
use Rattle.kg_level2.specs.Shared.{Shared}
use Rattle.kg_level2.specs.declared.notes.OpenClaim.{OpenClaim}

-- a claim was taken at a position that the table had, its last touch came since then, and no commit after the last
-- touch changes its key, up to the table's position
pub record IsCoherentClaim {K X : Type 0} (value : K → ℕ → X) (position : ℕ) (o : OpenClaim K) : Type 0 where
  pub started : o.start ≤ position
  pub touched : (o.touch ≡ 0) ⊎ ((o.start < o.touch) × (o.touch ≤ position))
  pub steady : (n : ℕ) → o.start ≤ n → o.touch ≤ n → n < position → Leaves value o.key n

-- no key has two claims out: no claim is on the key of one behind it
abbrev pub ClaimsExclude : {K : Type 0} → (K → K → Bool) → List (OpenClaim K) → Type 0
ClaimsExclude eq [] = Unit {0}
ClaimsExclude eq (o ∷ out) = (list_any (λ other. eq o.key other.key) out ≡ false) × ClaimsExclude eq out

pub record IsCoherentTable {K V X : Type 0} (shows : V → X) (value : K → ℕ → X) (eq : K → K → Bool) (size : ℕ) (t : Shared K V) : Type 0 where
  pub level : IsCoherentLevel shows value size t.level
  pub exclusive : ClaimsExclude eq t.out
  pub each : All (IsCoherentClaim value t.level.pos) t.out
