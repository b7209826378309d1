-- Lists of query pairs: order is kept, and names are compared byte by byte.
use Rattle.std.specs.Prelude.{ℕ, Bool, List, [], ◌∷◌, ◌++◌, filter, map}
use Rattle.std.specs.List.{list_any}
use Rattle.std.specs.Str.{bytes_eq}
use Rattle.kg_text.specs.ListChanges.{without, one_changed, each_changed}
use Rattle.kg_text.specs.declared.pair.Pair.{Pair}

-- a pair of this name and value
abbrev pub pair : List ℕ → List ℕ → Pair
pair name value = record { name = name; value = value }

-- the pair has this name
abbrev pub has_pair_name : List ℕ → Pair → Bool
has_pair_name name one = bytes_eq one.name name

-- there is a pair of this name
abbrev pub has_pair : List ℕ → List Pair → Bool
has_pair name pairs = list_any (has_pair_name name) pairs

-- the values of all pairs of this name, in their order
abbrev pub pair_values : List ℕ → List Pair → List (List ℕ)
pair_values name pairs = map (λ one. one.value) (filter (has_pair_name name) pairs)

-- the pair with another value, and with another name
abbrev pub with_pair_value : List ℕ → Pair → Pair
with_pair_value value one = pair one.name value

abbrev pub with_pair_name : List ℕ → Pair → Pair
with_pair_name name one = pair name one.value

-- the pairs of this name are dropped
abbrev pub pairs_removed : List ℕ → List Pair → List Pair
pairs_removed name pairs = without (has_pair_name name) pairs

-- each pair of the old name gets the new one in its place
abbrev pub pairs_renamed : List ℕ → List ℕ → List Pair → List Pair
pairs_renamed old new pairs = each_changed (has_pair_name old) (with_pair_name new) pairs

-- the first pair of this name gets a new value, and the others of the name are dropped
abbrev pub pairs_replaced : List ℕ → List ℕ → List Pair → List Pair
pairs_replaced name value pairs = one_changed (has_pair_name name) (with_pair_value value) pairs

-- one more pair at the end
abbrev pub pair_added : List ℕ → List ℕ → List Pair → List Pair
pair_added name value pairs = pairs ++ pair name value ∷ []
