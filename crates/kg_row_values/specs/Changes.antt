-- Which keys and generations a change of the rows changes.
use Rattle.std.specs.Prelude.{◌≡◌, ◌≢◌, ◌↔◌, ◌⊎◌, ℕ, ◌-◌, List, take, Contains}
use Rattle.std.specs.List.{AllPairs}
use Rattle.kg_row_types.specs.RowLists.{RowLists}
use Rattle.kg_row_types.specs.declared.key.GenKey.{GenKey}
use Rattle.kg_row_types.specs.declared.key.Key.{Key}
use Rattle.kg_row_values.specs.Values.{value_of, generation_of, value_at, generation_at}
use Rattle.kg_row_values.specs.declared.command.Command.{Command}
use Rattle.kg_row_values.specs.declared.touched.Touched.{Touched}

-- the command at place i of the history, counted from 1, changes the value of the key
abbrev pub Changes : List Command → ℕ → Key → Type 0
Changes history i k = value_at k (take (i - 1) history) ≢ value_at k (take i history)

-- it changes the generation
abbrev pub ChangesGeneration : List Command → ℕ → GenKey → Type 0
ChangesGeneration history i g = generation_at g (take (i - 1) history) ≢ generation_at g (take i history)

-- the keys are those whose value differs, each once; each other key keeps its value
pub record NamesChangedKeys (before after : RowLists) (keys : List Key) : Type 0 where
  pub each : (k : Key) → Contains keys k ↔ (value_of before k ≢ value_of after k)
  pub others : (k : Key) → Contains keys k ⊎ (value_of before k ≡ value_of after k)
  pub distinct : AllPairs (λ a b. a ≢ b) keys

-- the generations are those that differ, each once; the other one stays as it was
pub record NamesChangedGenerations (before after : RowLists) (gens : List GenKey) : Type 0 where
  pub each : (g : GenKey) → Contains gens g ↔ (generation_of before g ≢ generation_of after g)
  pub others : (g : GenKey) → Contains gens g ⊎ (generation_of before g ≡ generation_of after g)
  pub distinct : AllPairs (λ a b. a ≢ b) gens

-- what is touched is exactly what differs
pub record NamesChanges (before after : RowLists) (touched : Touched) : Type 0 where
  pub keys : NamesChangedKeys before after touched.keys
  pub gens : NamesChangedGenerations before after touched.gens
