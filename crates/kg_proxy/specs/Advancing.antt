-- How a worker takes a request on by what it keeps for itself.
use Rattle.std.specs.Prelude.{◌≡◌, ℕ, Option, Some, None}
use Rattle.kg_level1.specs.Entries.{Kept, Level}
use Rattle.kg_level1.specs.Reading.{live_entry}
use Rattle.kg_course.specs.declared.want.Want.{Want}
use Rattle.kg_course.specs.declared.want.Want.TheVariants as want
use Rattle.kg_level.specs.declared.level.Level.TheVariants.{Local}
use Rattle.kg_row_types.specs.declared.key.Key.{Key}
use Rattle.kg_row_types.specs.declared.value.Value.{Value}
use Rattle.kg_visit.specs.Told.{Told, Use, want_after, with_use}
use Rattle.kg_proxy.specs.Workers.{key_eq}
use Rattle.kg_proxy.specs.declared.stop.Stop.{Stop}
use Rattle.kg_proxy.specs.declared.stop.Stop.TheVariants as stop

-- what a request waits for, of what it wants
abbrev pub IsStopAt : Want → Stop → Type 0
IsStopAt (want.Entity key) s = s ≡ stop.Entity key
IsStopAt (want.Count hit) s = s ≡ stop.Count
IsStopAt (want.Upstream message) s = s ≡ stop.Upstream
IsStopAt (want.Done reply) s = s ≡ stop.Done

-- the use of a worker's own entry of a key
abbrev pub local_use : Key → Kept Value → Use
local_use key e = record { key = key; value = e.val; at = e.stamp; level = Local }

module _ (l : Level Key Value) (now : ℕ) where
  -- from one state of a request to a later one: each key that it wants in turn is answered by its live entry
  pub data Advances (from : Told) : Told → Type 0 where
    Stays : Advances from from
    Answers : (told : Told) (key : Key) (e : Kept Value) → Advances from told → want_after told ≡ want.Entity key
        → live_entry key_eq l key now ≡ Some e → Advances from (with_use (local_use key e) told)

  -- what is wanted is no key of which there is a live entry
  abbrev pub IsLeft : Want → Type 0
  IsLeft (want.Entity key) = live_entry key_eq l key now ≡ None
  IsLeft _ = Unit {0}

  -- the use of the live entry of the key that is wanted, where there is one
  abbrev pub OwnUse : Want → Option Use → Type 0
  OwnUse wanted None = IsLeft wanted
  OwnUse wanted (Some used) = (key : Key) × (e : Kept Value) × (wanted ≡ want.Entity key) × (live_entry key_eq l key now ≡ Some e) × (used ≡ local_use key e)
