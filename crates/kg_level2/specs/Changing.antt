-- What the calls leave of the shared table.
use Rattle.std.specs.Prelude.{ℕ, ◌+◌, ◌-◌, ◌^◌, min, Bool, ◌==◌, nat_lt, List, [], ◌∷◌, ◌++◌, map, if◌then◌else◌}
use Rattle.kg_level1.specs.Changing.{after_extend, after_put, after_sync, emptied}
use Rattle.kg_level1.specs.Entries.{Kept}
use Rattle.kg_level2.specs.Claims.{touched, touched_by_jump, without}
use Rattle.kg_level2.specs.Shared.{Shared}

-- when a life that begins now ends, in milliseconds; a life of 0 has no end
abbrev pub end_of : ℕ → ℕ → ℕ
end_of life now = if life == 0 then 0 else min (now + life) (2 ^ 64 - 1)

module _ {K V : Type 0} (eq : K → K → Bool) where
  -- the claim on a key is back
  abbrev pub closed : K → Shared K V → Shared K V
  closed k t = record t { out = without eq k t.out }

  -- worker `who` takes a claim on a key
  abbrev pub taken : K → ℕ → Shared K V → Shared K V
  taken k who t = record t { out = t.out ++ record { key = k; who = who; start = t.level.pos; touch = 0 } ∷ [] }

  -- the claim is back, and the key's entry is this one
  abbrev pub kept : K → Kept V → Shared K V → Shared K V
  kept k e t = record t { level = after_put eq t.level k e; out = without eq k t.out }

  -- the claim is back, and the key's entry has this end
  abbrev pub revived : K → ℕ → Shared K V → Shared K V
  revived k until t = record t { level = after_extend eq t.level k until; out = without eq k t.out }

  -- the level is synced, and each claim has its last touch
  abbrev pub after_catch_up : ℕ → List (List K) → Shared K V → Shared K V
  after_catch_up from lists t = record t { level = after_sync eq from lists t.level; out = map (touched eq from t.level.pos lists) t.out }

-- a jump ahead drops every entry, and touches every claimed key
abbrev pub after_jump : {K V : Type 0} → ℕ → Shared K V → Shared K V
after_jump to t = if nat_lt t.level.pos to then record t { level = emptied to t.level; out = map (touched_by_jump to) t.out } else t
