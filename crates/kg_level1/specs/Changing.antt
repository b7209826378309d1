-- What the calls leave of a level.
use Rattle.std.specs.Prelude.{ℕ, ◌+◌, max, Bool, ◌&&◌, ◌||◌, not, false, nat_lt, List, [], ◌∷◌, length, filter, if◌then◌else◌}
use Rattle.std.specs.List.{list_any}
use Rattle.std.specs.Map.{lookup, set_value}
use Rattle.std.specs.Option.{option_map_or}
use Rattle.lru.specs.LruCache.{lru_cache, promoted, put_entries}
use Rattle.kg_level1.specs.Entries.{Kept, Level}

module _ {K : Type 0} (eq : K → K → Bool) where
  -- the key is among these
  abbrev pub names : List K → K → Bool
  names keys k = list_any (λ j. eq j k) keys

  -- each list has the keys that a commit touches, the first of them commit number from + 1: one of these commits is
  -- numbered above `above` and touches the key
  abbrev pub is_touched : ℕ → ℕ → List (List K) → K → Bool
  is_touched from above [] k = false
  is_touched from above (keys ∷ lists) k = (nat_lt above (from + 1) && names keys k) || is_touched (from + 1) above lists k

module _ {K V : Type 0} (eq : K → K → Bool) where
  -- the key's entry is this one, and the one used last. A new key in a full level drops the one not used for longest.
  abbrev pub after_put : Level K V → K → Kept V → Level K V
  after_put l k e = record l { entries = put_entries eq (lru_cache l.entries l.room) k e }

  -- the key's entry, if there is one, has this end and is the one used last
  abbrev pub after_extend : Level K V → K → ℕ → Level K V
  after_extend l k until = option_map_or (λ e. record l { entries = set_value (eq k) (promoted (eq k) l.entries) (record e { expires = until }) }) (lookup (eq k) l.entries) l

  -- each entry goes that a commit touches whose number is above both the entry's stamp and the level's position
  abbrev pub after_sync : ℕ → List (List K) → Level K V → Level K V
  after_sync from lists l = record {
    room = l.room;
    pos = max l.pos (from + length lists);
    entries = filter (λ e. not (is_touched eq from (max e.1.stamp l.pos) lists e.0)) l.entries;
  }

-- without entries, at this position
abbrev pub emptied : {K V : Type 0} → ℕ → Level K V → Level K V
emptied to l = record l { pos = to; entries = [] }

-- a jump ahead drops every entry, since what was touched on the way isn't known
abbrev pub after_jump : {K V : Type 0} → ℕ → Level K V → Level K V
after_jump to l = if nat_lt l.pos to then emptied to l else l
