-- The parts of shown rows. What isn't set is null.
use Rattle.std.specs.Prelude.{ℕ, ◌==◌, List, [], ◌∷◌, map, length, Option, codes, if◌then◌else◌}
use Rattle.std.specs.Option.{option_map_or}
use Rattle.kg_row_types.specs.Ids.{printed}
use Rattle.serde_json.specs.Data.{Data, null, number, unsigned, string, array, object, Members, member, no_members}
use Rattle.serde_json.specs.View.{items_of}

-- names with their values
abbrev pub Named : Type 0
Named = List (List ℕ × Data)

-- the members with these names and values, which are given in byte order of their names
abbrev pub members_of : Named → Members
members_of [] = no_members
members_of (m ∷ ms) = member m.0 m.1 (members_of ms)

abbrev pub object_of : Named → Data
object_of members = object (members_of members)

-- a whole number
abbrev pub shown_number : ℕ → Data
shown_number n = number (unsigned n)

-- a whole number that may be unset
abbrev pub shown_option : Option ℕ → Data
shown_option n = option_map_or shown_number n null

-- a text that may be unset
abbrev pub shown_text : Option (List ℕ) → Data
shown_text text = option_map_or string text null

-- a list of texts
abbrev pub shown_texts : List (List ℕ) → Data
shown_texts texts = if length texts == 0 then null else array (items_of (map string texts))

-- an id
abbrev pub shown_id : ℕ → Data
shown_id id = string (printed id)

-- a row that another names
abbrev pub shown_reference : ℕ → Data
shown_reference id = object_of ((codes "id", shown_id id) ∷ [])

-- a row that another may name
abbrev pub shown_link : Option ℕ → Data
shown_link id = option_map_or shown_reference id null
