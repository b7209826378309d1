-- How far a fetch has come, with values in place of their shares.
use Rattle.std.specs.Prelude.{ℕ, Option}
use Rattle.kg_level.specs.declared.level.Level.{Level}
use Rattle.kg_level2.specs.declared.claim.Claim.{Claim}

-- a value, the position at which it holds, where it was found, and the end of life with which it may be kept
pub record Got (V : Type 0) : Type 0 where
  pub val : V
  pub at : ℕ
  pub level : Level
  pub keep : Option ℕ

pub data Stage (K V : Type 0) : Type 0 where
  Looking : Stage K V
  Loading : Claim K → Stage K V
  Settling : Claim K → V → ℕ → Stage K V
  Handed : V → ℕ → Stage K V
  Abandoning : Claim K → Stage K V
  Left : Stage K V
  Came : Got V → Stage K V
  Lost : Stage K V

-- the fetch of a key's value that holds at this position or later
pub record Fetching (K V : Type 0) : Type 0 where
  pub key : K
  pub pos : ℕ
  pub stage : Stage K V

module _ {K V : Type 0} where
  abbrev pub IsLooking : Stage K V → Type 0
  IsLooking Looking = Unit {0}
  IsLooking _ = ⊥

  abbrev pub IsLoading : Stage K V → Type 0
  IsLoading (Loading claim) = Unit {0}
  IsLoading _ = ⊥

  -- a value was loaded, and its claim isn't settled yet
  abbrev pub IsSettling : Stage K V → Type 0
  IsSettling (Settling claim v at) = Unit {0}
  IsSettling (Handed v at) = Unit {0}
  IsSettling _ = ⊥

  -- there is a claim to be settled or abandoned
  abbrev pub HoldsClaim : Stage K V → Type 0
  HoldsClaim (Settling claim v at) = Unit {0}
  HoldsClaim (Abandoning claim) = Unit {0}
  HoldsClaim _ = ⊥

  abbrev pub IsAbandoning : Stage K V → Type 0
  IsAbandoning (Abandoning claim) = Unit {0}
  IsAbandoning _ = ⊥

  abbrev pub IsHanded : Stage K V → Type 0
  IsHanded (Handed v at) = Unit {0}
  IsHanded _ = ⊥

  abbrev pub IsAbandoned : Stage K V → Type 0
  IsAbandoned Left = Unit {0}
  IsAbandoned _ = ⊥

  abbrev pub IsGot : Stage K V → Type 0
  IsGot (Came got) = Unit {0}
  IsGot _ = ⊥

  -- no claim was taken out that is still to be settled or abandoned
  abbrev pub IsBetweenSteps : Stage K V → Type 0
  IsBetweenSteps (Handed v at) = ⊥
  IsBetweenSteps Left = ⊥
  IsBetweenSteps _ = Unit {0}
