-- Machinery for proofs: a level as the commits come one by one.
use Rattle.std.specs.Prelude.{ℕ, ◌+◌, Bool, ◌&&◌, not, nat_lt, List, [], ◌∷◌, filter, if◌then◌else◌}
use Rattle.kg_level1.specs.Changing.{names}
use Rattle.kg_level1.specs.Entries.{Kept, Level}

module _ {K V : Type 0} (eq : K → K → Bool) where
  -- an entry that commit n, which touches these keys, leaves
  abbrev pub outlasts : ℕ → List K → K × Kept V → Bool
  outlasts n keys e = not (names eq keys e.0 && nat_lt e.1.stamp n)

  -- a commit that the level doesn't know yet
  abbrev pub after_commit : ℕ → List K → Level K V → Level K V
  after_commit n keys l = if nat_lt l.pos n then record l { pos = n; entries = filter (outlasts n keys) l.entries } else l

  -- the commits from number from + 1 on
  abbrev pub after_commits : ℕ → List (List K) → Level K V → Level K V
  after_commits from [] l = l
  after_commits from (keys ∷ lists) l = after_commits (from + 1) lists (after_commit (from + 1) keys l)
