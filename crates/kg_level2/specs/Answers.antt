-- What the shared table answers, and what it holds then. The cases of an answer exclude each other, so each comes
-- exactly where its case says.
use Rattle.std.specs.Prelude.{◌≡◌, ◌≢◌, ℕ, ◌<◌, ◌≤◌, ◌⊎◌, Bool, Some, None, IsSome, if◌then◌else◌}
use Rattle.std.specs.Map.{lookup}
use Rattle.kg_level1.specs.Reading.{after_answer, found_entry, revived_entry, shown}
use Rattle.kg_level2.specs.Changing.{closed, end_of, kept, revived, taken}
use Rattle.kg_level2.specs.Claims.{claim_on}
use Rattle.kg_level2.specs.Shared.{Shared}
use Rattle.kg_level2.specs.declared.claim.Abandoned.{Abandoned}
use Rattle.kg_level2.specs.declared.claim.Abandoned.TheVariants.{Stale, Nothing, NoMemory}
use Rattle.kg_level2.specs.declared.claim.Found.{Found}
use Rattle.kg_level2.specs.declared.claim.Found.TheVariants.{Hit, Claimed, Busy}
use Rattle.kg_level2.specs.declared.claim.Settled.{Settled}
use Rattle.kg_level2.specs.declared.claim.Settled.TheVariants.{Kept, Overtaken, Unkept, Stranger}
use Rattle.kg_level2.specs.declared.notes.OpenClaim.{OpenClaim}

module _ {K V : Type 0} (eq : K → K → Bool) (t : Shared K V) (k : K) where
  -- a look-up by worker `who` of a value that holds at position `pos` or later, at the reading `now` of the clock:
  -- busy where a claim is out, a hit where there is such a live entry, and else a claim
  abbrev pub LooksUp : ℕ → ℕ → ℕ → Found K V → Shared K V → Type 0
  LooksUp pos now who (Busy other) after = ((o : OpenClaim K) × (claim_on eq k t.out ≡ Some o) × (o.who ≡ other)) × (after ≡ t)
  LooksUp pos now who (Hit held) after = (claim_on eq k t.out ≡ None) × (found_entry eq t.level k pos now ≡ Some (shown held))
      × (after ≡ record t { level = after_answer eq t.level k (found_entry eq t.level k pos now) })
  LooksUp pos now who (Claimed claim) after = (claim_on eq k t.out ≡ None) × (found_entry eq t.level k pos now ≡ None)
      × (claim.key ≡ k) × (claim.start ≡ t.level.pos) × (after ≡ taken eq k who t)

  -- a claim on the key is out, and was taken at this position or before
  abbrev pub IsOut : ℕ → OpenClaim K → Type 0
  IsOut at o = (claim_on eq k t.out ≡ Some o) × (o.start ≤ at)

  -- the value v that was read at position `at` is handed in with a claim
  abbrev pub Settles : V → Bool → ℕ → ℕ → Settled → Shared K V → Type 0
  Settles v negative at now Stranger after = ((o : OpenClaim K) → IsOut at o → ⊥) × (after ≡ closed eq k t)
  Settles v negative at now (Overtaken by) after = ((o : OpenClaim K) × IsOut at o × (at < o.touch) × (by ≡ o.touch)) × (after ≡ closed eq k t)
  Settles v negative at now (Kept expires) after = ((o : OpenClaim K) × IsOut at o × (o.touch ≤ at))
      × (expires ≡ end_of (if negative then t.neg_ttl else t.ttl) now) × (after ≡ kept eq k (record { val = v; stamp = at; expires = expires }) t)
  Settles v negative at now Unkept after = ((o : OpenClaim K) × IsOut at o × (o.touch ≤ at)) × (after ≡ closed eq k t)

  -- a claim is handed back without a value: the key's last one is used past its life, if that is allowed
  abbrev pub Abandons : ℕ → Abandoned V → Shared K V → Type 0
  Abandons now (Stale held) after = (t.stale ≢ 0) × (revived_entry eq t.level k (end_of t.stale now) ≡ Some (shown held)) × (after ≡ revived eq k (end_of t.stale now) t)
  Abandons now Nothing after = ((t.stale ≡ 0) ⊎ (lookup (eq k) t.level.entries ≡ None)) × (after ≡ closed eq k t)
  Abandons now NoMemory after = (t.stale ≢ 0) × IsSome (lookup (eq k) t.level.entries) × (after ≡ closed eq k t)
