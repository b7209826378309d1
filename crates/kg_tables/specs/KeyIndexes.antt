-- Machinery for proofs: an index of rows by a key of theirs, which tells for each key which row has it.
use Rattle.std.specs.Prelude.{◌≡◌, ℕ, Bool, true, false, ◌&&◌, ◌==◌, cond, List, All, Option, Some, None}
use Rattle.std.specs.List.{list_any}
use Rattle.std.specs.Option.{option_map_or}
use Rattle.indexmap.specs.IndexMap.{get}
use Rattle.kg_tables.specs.declared.key_index.Holder.{Holder}
use Rattle.kg_tables.specs.declared.key_index.Holder.TheVariants.{Only, Several}
use Rattle.kg_tables.specs.declared.key_index.KeyIndex.{KeyIndex}

-- what the index says of a key
abbrev pub holder_of : {K : Type 0} → (K → K → Bool) → KeyIndex K → K → Option Holder
holder_of eq index key = get eq index.holders key

-- a key that is set to this one
abbrev pub is_key : {K : Type 0} → (K → K → Bool) → K → Option K → Bool
is_key eq key set = option_map_or (λ other. eq other key) set false

-- what it says is so for the row with this id: does the row have the key?
abbrev pub Tells : Option Holder → ℕ → Bool → Type 0
Tells None id has = has ≡ false
Tells (Some (Only holder)) id has = has ≡ (id == holder)
Tells (Some Several) id has = Unit {0}

-- what the index says is so for each row and key, and the one row that it names is there
pub record IsIndex {K T : Type 0} (number : T → ℕ) (has : K → T → Bool) (holder : K → Option Holder) (rows : List T) : Type 0 where
  pub tells : (key : K) → All (λ row. Tells (holder key) (number row) (has key row)) rows
  pub there : (key : K) (id : ℕ) → holder key ≡ Some (Only id) → list_any (λ row. number row == id) rows ≡ true

-- ---- changes of what is said of one key

-- one more row may have it
abbrev pub noted : Bool → ℕ → Option Holder → Option Holder
noted has id None = cond {A = Option Holder} has (Some (Only id)) None
noted has id (Some holder) = cond {A = Option Holder} has (Some Several) (Some holder)

-- it is this row that is named
abbrev pub is_only : ℕ → Option Holder → Bool
is_only id None = false
is_only id (Some (Only holder)) = id == holder
is_only id (Some Several) = false

-- the row of this id doesn't have it any more, if it had
abbrev pub forgotten : Bool → ℕ → Option Holder → Option Holder
forgotten has id holder = cond {A = Option Holder} (has && is_only id holder) None holder

-- the one row that is named is there
abbrev pub is_kept : {T : Type 0} → (T → ℕ) → List T → Holder → Bool
is_kept number rows (Only id) = list_any (λ row. number row == id) rows
is_kept number rows Several = true

-- nothing is said of a row that isn't there
abbrev pub kept : (Holder → Bool) → Option Holder → Option Holder
kept test None = None
kept test (Some holder) = cond {A = Option Holder} (test holder) (Some holder) None
