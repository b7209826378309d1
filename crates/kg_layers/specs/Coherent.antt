-- When a fetch is coherent with a history, told as in the levels by what a key's value shows after its first n commits:
-- what its driver may rely on from one step to the next.
use Rattle.std.specs.Prelude.{◌≡◌, ℕ, ◌≤◌, Bool, List, IfSome}
use Rattle.kg_level2.specs.Claims.{IsOutFor}
use Rattle.kg_level2.specs.declared.notes.OpenClaim.{OpenClaim}
use Rattle.kg_layers.specs.Fetching.{claim_of}
use Rattle.kg_layers.specs.Stages.{Fetching, Stage, Looking, Loading, Settling, Handed, Abandoning, Left, Came, Lost}

-- v is the key's value at this position of the history, which isn't below the one asked
pub record IsValueAt {K V X : Type 0} (shows : V → X) (value : K → ℕ → X) (size : ℕ) (key : K) (pos : ℕ) (v : V) (at : ℕ) : Type 0 where
  pub same : shows v ≡ value key at
  pub from : pos ≤ at
  pub within : at ≤ size

module _ {K V X : Type 0} (shows : V → X) (value : K → ℕ → X) (size : ℕ) (key : K) (pos : ℕ) where
  abbrev Reads : V → ℕ → Type 0
  Reads v at = IsValueAt shows value size key pos v at

  -- a claim is the key's and was taken at a position of the history, a value was read at that position or later; and no
  -- claim is in the hands of the driver
  abbrev pub IsCoherentStage : Stage K V → Type 0
  IsCoherentStage Looking = Unit {0}
  IsCoherentStage (Loading claim) = (claim.key ≡ key) × (claim.start ≤ size)
  IsCoherentStage (Settling claim v at) = (claim.key ≡ key) × (claim.start ≤ at) × Reads v at
  IsCoherentStage (Handed v at) = ⊥
  IsCoherentStage (Abandoning claim) = claim.key ≡ key
  IsCoherentStage Left = ⊥
  IsCoherentStage (Came got) = Reads got.val got.at
  IsCoherentStage Lost = Unit {0}

pub record IsCoherentFetch {K V X : Type 0} (shows : V → X) (value : K → ℕ → X) (size : ℕ) (fetch : Fetching K V) : Type 0 where
  pub asked : fetch.pos ≤ size
  pub stage : IsCoherentStage shows value size fetch.key fetch.pos fetch.stage

-- the claim that a fetch holds is out, as this worker took it
abbrev pub HasClaimOut : {K V : Type 0} → (K → K → Bool) → ℕ → Fetching K V → List (OpenClaim K) → Type 0
HasClaimOut eq who fetch out = IfSome (claim_of fetch.stage) (λ claim. IsOutFor eq who claim out)
