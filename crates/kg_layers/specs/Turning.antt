-- One step of a fetch over the shared table, as its driver takes it under one hold of that table.
use Rattle.std.specs.Prelude.{◌≡◌, ℕ, ◌⊎◌, Bool, Option, Some, None}
use Rattle.kg_level1.specs.Entries.{Kept as Entry}
use Rattle.kg_level1.specs.Reading.{shown}
use Rattle.kg_level2.specs.Answers.{Abandons, LooksUp, Settles}
use Rattle.kg_level2.specs.Shared.{Shared}
use Rattle.kg_level2.specs.declared.claim.Abandoned.{Abandoned}
use Rattle.kg_level2.specs.declared.claim.Abandoned.TheVariants as abandoned
use Rattle.kg_level2.specs.declared.claim.Found.{Found}
use Rattle.kg_level2.specs.declared.claim.Settled.{Settled}
use Rattle.kg_layers.specs.Fetching.{after_abandoned, after_found, after_settled}
use Rattle.kg_layers.specs.Stages.{Fetching, Stage, Looking, Loading, Settling, Handed, Abandoning}

-- the value that an abandoned claim leaves; want of memory leaves none
abbrev pub left_value : {V : Type 0} → Abandoned V → Option (Entry V)
left_value (abandoned.Stale held) = Some (shown held)
left_value abandoned.Nothing = None
left_value abandoned.NoMemory = None

-- worker `who` takes a step at the reading `now` of the clock, when the history has `size` commits: the table t is u
-- after it. A load reads the key's value in that history, or finds that it can't.
module _ {K V X : Type 0} (shows : V → X) (value : K → ℕ → X) (size : ℕ) (eq : K → K → Bool) (who now : ℕ) where
  abbrev pub StageTurns : K → ℕ → Stage K V → Shared K V → Stage K V → Shared K V → Type 0
  StageTurns key pos Looking t next u = (found : Found K V) × LooksUp eq t key pos now who found u × (next ≡ after_found found)
  StageTurns key pos (Loading claim) t next u = (((v : V) × (shows v ≡ value key size) × (next ≡ Settling claim v size)) ⊎ (next ≡ Abandoning claim)) × (u ≡ t)
  StageTurns key pos (Settling claim v at) t next u = (negative : Bool) × (settled : Settled) × Settles eq t claim.key v negative at now settled u
      × (next ≡ after_settled settled (Handed v at))
  StageTurns key pos (Abandoning claim) t next u = (answer : Abandoned V) × Abandons eq t claim.key now answer u × (next ≡ after_abandoned (left_value answer))
  StageTurns key pos _ t next u = ⊥

  pub record Turns (before : Fetching K V) (t : Shared K V) (after : Fetching K V) (u : Shared K V) : Type 0 where
    pub key : after.key ≡ before.key
    pub pos : after.pos ≡ before.pos
    pub stage : StageTurns before.key before.pos before.stage t after.stage u
