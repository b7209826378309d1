-- What commits touch, in the form that cache levels take: the value of each key after any number of
-- commits, and for each commit the list of the keys that it touched.
use Rattle.std.specs.Prelude.{◌≡◌, ◌≢◌, ℕ, ◌+◌, Bool, true, false, List, [], ◌∷◌, take, All, ⊤}
use Rattle.std.specs.List.{list_any}
use Rattle.kg_row_types.specs.Values.{Generation}
use Rattle.kg_row_types.specs.declared.key.GenKey.{GenKey}
use Rattle.kg_row_types.specs.declared.key.Key.{Key}
use Rattle.kg_row_types.specs.declared.value.Value.{Value}
use Rattle.kg_row_values.specs.Changes.{NamesChangedKeys, NamesChangedGenerations}
use Rattle.kg_row_values.specs.Rows.{rows_after}
use Rattle.kg_row_values.specs.Values.{value_at, generation_at}
use Rattle.kg_row_values.specs.declared.command.Command.{Command}

-- ---- any values

-- the list names the key
abbrev pub names_key : {K : Type 0} → (K → K → Bool) → K → List K → Bool
names_key eq k keys = list_any (λ other. eq other k) keys

-- none of the lists names the key
abbrev pub AreSilent : {K : Type 0} → (K → K → Bool) → K → List (List K) → Type 0
AreSilent eq k lists = All (λ keys. names_key eq k keys ≡ false) lists

-- each commit after the first `from` leaves the values of the keys that its list doesn't name
abbrev pub LeaveUnnamed : {K X : Type 0} → (K → K → Bool) → (K → ℕ → X) → ℕ → List (List K) → Type 0
LeaveUnnamed eq value from [] = ⊤
LeaveUnnamed {K} eq value from (keys ∷ lists) =
    ((k : K) → names_key eq k keys ≡ false → value k from ≡ value k (from + 1)) × LeaveUnnamed eq value (from + 1) lists

-- each of them changes the values of the keys that its list names
abbrev pub ChangeNamed : {K X : Type 0} → (K → K → Bool) → (K → ℕ → X) → ℕ → List (List K) → Type 0
ChangeNamed eq value from [] = ⊤
ChangeNamed {K} eq value from (keys ∷ lists) =
    ((k : K) → names_key eq k keys ≡ true → value k from ≢ value k (from + 1)) × ChangeNamed eq value (from + 1) lists

-- ---- the values of rows, where each command of a history is a commit

-- the value of a key after the first n commits
abbrev pub value_after : List Command → Key → ℕ → Value
value_after history k n = value_at k (take n history)

-- a generation after the first n commits
abbrev pub generation_after : List Command → GenKey → ℕ → Generation
generation_after history g n = generation_at g (take n history)

-- the lists are those of the commits after the first `from`: each names the keys that its commit changes
abbrev pub AreTouchedKeys : List Command → ℕ → List (List Key) → Type 0
AreTouchedKeys history from [] = ⊤
AreTouchedKeys history from (keys ∷ lists) =
    NamesChangedKeys (rows_after (take from history)) (rows_after (take (from + 1) history)) keys × AreTouchedKeys history (from + 1) lists

-- the same for generations
abbrev pub AreTouchedGenerations : List Command → ℕ → List (List GenKey) → Type 0
AreTouchedGenerations history from [] = ⊤
AreTouchedGenerations history from (gens ∷ lists) =
    NamesChangedGenerations (rows_after (take from history)) (rows_after (take (from + 1) history)) gens × AreTouchedGenerations history (from + 1) lists
