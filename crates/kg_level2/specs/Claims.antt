-- The claims that are out.
use Rattle.std.specs.Prelude.{◌≡◌, ℕ, ◌+◌, Bool, ◌&&◌, not, nat_lt, List, [], ◌∷◌, Option, Some, filter, find, if◌then◌else◌}
use Rattle.kg_level1.specs.Changing.{names}
use Rattle.kg_level2.specs.declared.claim.Claim.{Claim}
use Rattle.kg_level2.specs.declared.notes.OpenClaim.{OpenClaim}

module _ {K : Type 0} (eq : K → K → Bool) where
  -- the claim that is out on a key
  abbrev pub claim_on : K → List (OpenClaim K) → Option (OpenClaim K)
  claim_on k out = find (λ o. eq k o.key) out

  -- the claims on other keys
  abbrev pub without : K → List (OpenClaim K) → List (OpenClaim K)
  without k out = filter (λ o. not (eq k o.key)) out

  -- each list has the keys that a commit touches, the first of them commit number from + 1. The last of these commits
  -- that is above `above` and touches the claim's key is its last touch.
  abbrev pub touched : ℕ → ℕ → List (List K) → OpenClaim K → OpenClaim K
  touched from above [] o = o
  touched from above (keys ∷ lists) o = touched (from + 1) above lists (if nat_lt above (from + 1) && names eq keys o.key then record o { touch = from + 1 } else o)

  -- the claim is out, as this worker took it
  abbrev pub IsOutFor : ℕ → Claim K → List (OpenClaim K) → Type 0
  IsOutFor who claim out = (o : OpenClaim K) × (claim_on claim.key out ≡ Some o) × (o.who ≡ who) × (o.start ≡ claim.start)

-- a jump to this position may have passed any commit
abbrev pub touched_by_jump : {K : Type 0} → ℕ → OpenClaim K → OpenClaim K
touched_by_jump to o = record o { touch = to }
