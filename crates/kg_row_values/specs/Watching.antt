-- Machinery for proofs: keys with their values before a change, and which of them differ after it.
use Rattle.std.specs.Prelude.{◌≡◌, ◌≢◌, ◌⊎◌, List, [], ◌∷◌, ◌++◌, All, Contains, ⊤}
use Rattle.std.specs.List.{AllPairs}
use Rattle.kg_row_types.specs.RowLists.{RowLists}
use Rattle.kg_row_types.specs.declared.key.Key.{Key}
use Rattle.kg_row_types.specs.declared.value.Value.{Value}
use Rattle.kg_row_types.specs.declared.value.Value.TheVariants as value
use Rattle.kg_row_values.specs.ByteOrder.{IsInByteOrder}
use Rattle.kg_row_values.specs.Values.{value_of}
use Rattle.kg_row_values.specs.declared.watch.Watched.{Watched}

-- a key with its value at these rows
abbrev pub watched_at : RowLists → Key → Watched
watched_at rows k = record { key = k; before = value_of rows k }

-- groups stand in byte order, as they do in the value of a key
abbrev pub IsOrderly : Value → Type 0
IsOrderly (value.Acls groups) = IsInByteOrder groups
IsOrderly _ = ⊤

-- one turn: the key is kept where its value differs and it isn't kept yet
abbrev pub Noted : RowLists → Watched → List Key → List Key → Type 0
Noted now w before after =
    ((after ≡ before) × ((value_of now w.key ≡ w.before) ⊎ Contains before w.key))
    ⊎ ((after ≡ before ++ w.key ∷ []) × (value_of now w.key ≢ w.before) × (¬ (Contains before w.key)))

-- the keys are those of the watched whose value differs, each once
pub record Differ (now : RowLists) (watched : List Watched) (keys : List Key) : Type 0 where
  pub sound : All (λ k. (w : Watched) × Contains watched w × (w.key ≡ k) × (value_of now k ≢ w.before)) keys
  pub whole : All (λ (w : Watched). (value_of now w.key ≡ w.before) ⊎ Contains keys w.key) watched
  pub distinct : AllPairs (λ a b. a ≢ b) keys
