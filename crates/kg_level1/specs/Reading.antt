-- What a level answers.
use Rattle.std.specs.Prelude.{◌≡◌, ℕ, max, Bool, ◌||◌, ◌==◌, nat_lt, Contains, Option, Some, None, is_some, if◌then◌else◌}
use Rattle.std.specs.Arc.{arc_value}
use Rattle.std.specs.Map.{lookup}
use Rattle.std.specs.Option.{option_and_then, option_map}
use Rattle.lru.specs.LruCache.{promoted}
use Rattle.kg_level1.specs.Entries.{Kept, Level}
use Rattle.kg_level1.specs.declared.held.Held.{Held}

-- an entry without an end is always live, another before its end
abbrev pub is_live : {V : Type 0} → Kept V → ℕ → Bool
is_live e now = (e.expires == 0) || nat_lt now e.expires

-- an answer, as an entry whose stamp is the answer's position
abbrev pub shown : {V : Type 0} → Held V → Kept V
shown held = record { val = arc_value held.val; stamp = held.at; expires = held.expires }

module _ {K V : Type 0} (eq : K → K → Bool) (l : Level K V) (k : K) where
  -- the key's entry, if it is live. What touched the key up to the level's position is gone from the level, so the
  -- value holds at the greater of its stamp and that position.
  abbrev pub live_entry : ℕ → Option (Kept V)
  live_entry now = option_and_then (λ e. if is_live e now then Some (record e { stamp = max e.stamp l.pos }) else None) (lookup (eq k) l.entries)

  -- the same, if it holds at this position or a later one
  abbrev pub found_entry : ℕ → ℕ → Option (Kept V)
  found_entry least now = option_and_then (λ e. if nat_lt e.stamp least then None else Some e) (live_entry now)

  -- the key's entry, live or not, with this end of its life
  abbrev pub revived_entry : ℕ → Option (Kept V)
  revived_entry until = option_map (λ e. record { val = e.val; stamp = max e.stamp l.pos; expires = until }) (lookup (eq k) l.entries)

  -- an entry that is answered becomes the one used last
  abbrev pub after_answer : Option (Kept V) → Level K V
  after_answer answer = if is_some answer then record l { entries = promoted (eq k) l.entries } else l

-- both levels answer alike: they have the same entries, perhaps in another order
pub record HasSameEntries {K V : Type 0} (eq : K → K → Bool) (before after : Level K V) : Type 0 where
  pub room : after.room ≡ before.room
  pub pos : after.pos ≡ before.pos
  pub same : (k : K) → lookup (eq k) after.entries ≡ lookup (eq k) before.entries
  pub fewer : (e : K × Kept V) → Contains after.entries e → Contains before.entries e
