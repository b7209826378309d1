-- What contracts see of a history (this project's own).
use Rattle.std.specs.Prelude.{◌≡◌, ℕ, List, []}
use Rattle.atomic_table.specs.Seated.{TableId}

-- a history without a name: which one it is, and how many passes it will have
pub record Unnamed : Type 0 where
  pub history : TableId
  pub passes : ℕ

-- what a pass has seen, how often it looked, and what the latest look answered, 0 before the first
pub record Sight (E : Type 0) : Type 0 where
  pub seen : List E
  pub looks : ℕ
  pub last : ℕ

-- it has seen just this and never looked
abbrev pub IsFresh : {E : Type 0} → Sight E → List E → Type 0
IsFresh sight list = sight ≡ record { seen = list; looks = 0; last = 0 }

-- the name of no history
abbrev pub no_history : TableId
no_history = record { words = 0; slots = 0; views_name = 0; atom = 0; block = 0; offset = 0; slot_names = [] }
