-- When a level is coherent with a history. The history is any function that tells what a key's value shows after its
-- first n commits, so that a level needn't know what commits are. `shows` is what a kept value shows: for an entity
-- itself, for a compiled value what it was compiled from.
use Rattle.std.specs.Prelude.{◌≡◌, ℕ, ◌+◌, ◌≤◌, ◌<◌, Bool, false, List, [], ◌∷◌, Contains}
use Rattle.kg_level1.specs.Changing.{names}
use Rattle.kg_level1.specs.Entries.{Kept, Level}

module _ {K X : Type 0} (value : K → ℕ → X) where
  -- commit number n + 1 leaves the key's value as it was
  abbrev pub Leaves : K → ℕ → Type 0
  Leaves k n = value k n ≡ value k (n + 1)

  -- each list, the first for commit number from + 1, names every key whose value its commit changes
  abbrev pub NamesChanges : (K → K → Bool) → ℕ → List (List K) → Type 0
  NamesChanges eq from [] = Unit {0}
  NamesChanges eq from (keys ∷ lists) = ((k : K) → names eq keys k ≡ false → Leaves k from) × NamesChanges eq (from + 1) lists

-- a longer history begins as one of this length does
abbrev pub Agrees : {K X : Type 0} → (K → ℕ → X) → (K → ℕ → X) → ℕ → Type 0
Agrees {K} value longer size = (k : K) (n : ℕ) → n ≤ size → value k n ≡ longer k n

module _ {K V X : Type 0} (shows : V → X) (value : K → ℕ → X) (size : ℕ) where
  -- the entry's value is the key's at its stamp, and no commit from there up to the position changes it
  pub record IsCoherentEntry (position : ℕ) (k : K) (e : Kept V) : Type 0 where
    pub within : e.stamp ≤ size
    pub same : shows e.val ≡ value k e.stamp
    pub steady : (n : ℕ) → e.stamp ≤ n → n < position → Leaves value k n

  -- of the first `size` commits the level knows those up to its position, and each entry is coherent, also one whose
  -- life is over. A stamp may be above the position.
  pub record IsCoherentLevel (l : Level K V) : Type 0 where
    pub within : l.pos ≤ size
    pub each : (k : K) (e : Kept V) → Contains l.entries (k, e) → IsCoherentEntry l.pos k e

  -- an answer's value is the key's at the answer's position, which is at least `least`
  pub record Holds (least : ℕ) (k : K) (e : Kept V) : Type 0 where
    pub same : shows e.val ≡ value k e.stamp
    pub from : least ≤ e.stamp
    pub within : e.stamp ≤ size
