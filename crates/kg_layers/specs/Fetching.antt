-- The steps of a fetch.
use Rattle.std.specs.Prelude.{ℕ, Option, Some, None}
use Rattle.std.specs.Arc.{arc_value}
use Rattle.kg_level1.specs.Entries.{Kept as Entry}
use Rattle.kg_level2.specs.declared.claim.Claim.{Claim}
use Rattle.kg_level2.specs.declared.claim.Found.{Found}
use Rattle.kg_level2.specs.declared.claim.Found.TheVariants.{Hit, Claimed, Busy}
use Rattle.kg_level2.specs.declared.claim.Settled.{Settled}
use Rattle.kg_level2.specs.declared.claim.Settled.TheVariants as settled
use Rattle.kg_layers.specs.Stages.{Fetching, Got, Stage, Looking, Loading, Settling, Handed, Abandoning, Left, Came, Lost}
use Rattle.kg_layers.specs.declared.fetch.Ask.{Ask}
use Rattle.kg_layers.specs.declared.fetch.Ask.TheVariants as ask
use Rattle.kg_layers.specs.declared.fetch.Ready.{Ready}
use Rattle.kg_level.specs.declared.level.Level.TheVariants.{Shared, Loaded, Stale}

-- the value that a fetch came to, as contracts see it
abbrev pub shown_ready : {V : Type 0} → Ready V → Got V
shown_ready ready = record { val = arc_value ready.val; at = ready.at; level = ready.level; keep = ready.keep }

-- a value that the shared table kept may be kept by the worker, as long
abbrev pub keep_of : Settled → Option ℕ
keep_of (settled.Kept expires) = Some expires
keep_of (settled.Overtaken by) = None
keep_of settled.Unkept = None
keep_of settled.Stranger = None

module _ {K V : Type 0} where
  abbrev pub begun : K → ℕ → Fetching K V
  begun key pos = record { key = key; pos = pos; stage = Looking }

  abbrev pub ask_of : Stage K V → Ask
  ask_of Looking = ask.Table
  ask_of (Loading claim) = ask.Load
  ask_of (Settling claim v at) = ask.Settle
  ask_of (Handed v at) = ask.Settle
  ask_of (Abandoning claim) = ask.Abandon
  ask_of Left = ask.Abandon
  ask_of (Came got) = ask.Ready
  ask_of Lost = ask.Failed

  -- a hit ends the fetch, a claim is loaded, and a busy key is looked up again
  abbrev pub after_found : Found K V → Stage K V
  after_found (Hit held) = Came (record { val = arc_value held.val; at = held.at; level = Shared; keep = Some held.expires })
  after_found (Claimed claim) = Loading claim
  after_found (Busy other) = Looking

  -- a value that was loaded at this position goes with its claim
  abbrev pub after_load : V → ℕ → Stage K V → Stage K V
  after_load v at (Loading claim) = Settling claim v at
  after_load v at stage = stage

  abbrev pub after_fault : Stage K V → Stage K V
  after_fault (Loading claim) = Abandoning claim
  after_fault stage = stage

  -- the claim that a fetch holds
  abbrev pub claim_of : Stage K V → Option (Claim K)
  claim_of (Loading claim) = Some claim
  claim_of (Settling claim v at) = Some claim
  claim_of (Abandoning claim) = Some claim
  claim_of _ = None

  -- the claim was taken out
  abbrev pub after_claim : Stage K V → Stage K V
  after_claim (Settling claim v at) = Handed v at
  after_claim (Abandoning claim) = Left
  after_claim stage = stage

  -- the value that was loaded, and its position
  abbrev pub loaded_of : Stage K V → Option (V × ℕ)
  loaded_of (Settling claim v at) = Some (v, at)
  loaded_of (Handed v at) = Some (v, at)
  loaded_of _ = None

  abbrev pub after_settled : Settled → Stage K V → Stage K V
  after_settled end (Handed v at) = Came (record { val = v; at = at; level = Loaded; keep = keep_of end })
  after_settled end stage = stage

  -- what an abandoned claim leaves ends the fetch, with a value or without one
  abbrev pub after_abandoned : Option (Entry V) → Stage K V
  after_abandoned (Some e) = Came (record { val = e.val; at = e.stamp; level = Stale; keep = Some e.expires })
  after_abandoned None = Lost

  abbrev pub got_of : Stage K V → Option (Got V)
  got_of (Came got) = Some got
  got_of _ = None
