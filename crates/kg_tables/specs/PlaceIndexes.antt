-- Machinery for proofs: rows by their places, and which places hold rows that name a row.
use Rattle.std.specs.Prelude.{◌≡◌, ℕ, ◌<◌, Bool, true, false, List, All, Option, Some, None, find, filter, map, option_map, nat_eq}
use Rattle.std.specs.BTreeMap.{is_at}
use Rattle.std.specs.BTreeSet as sorted
use Rattle.std.specs.List.{IsDistinct, filter_map, list_any}
use Rattle.std.specs.List.Sorted.{IsStrictlySortedBy}
use Rattle.std.specs.Map.{keys_of, lookup, values_of}
use Rattle.std.specs.Ordering.{eq_by_cmp, nat_cmp, ordering_then}
use Rattle.std.specs.declared.cmp.Ordering.{Ordering}
use Rattle.std.specs.declared.ops.Bound.{Bound}
use Rattle.std.specs.declared.ops.Bound.TheVariants.{Excluded, Unbounded}
use Rattle.kg_row_types.specs.declared.entity.Kind.{Kind}
use Rattle.kg_row_types.specs.declared.entity.Kind.TheVariants as kind
use Rattle.kg_tables.specs.declared.listing.Listing.{Listing}
use Rattle.kg_tables.specs.declared.listing.PlaceIndex.{PlaceIndex}

-- pairs of an id and a place: by the id, and by the place where the ids are the same
abbrev pub pair_cmp : ℕ × ℕ → ℕ × ℕ → Ordering
pair_cmp a b = ordering_then (nat_cmp a.0 b.0) (nat_cmp a.1 b.1)

-- a place is listed for a row
abbrev pub is_listed : PlaceIndex → ℕ → ℕ → Bool
is_listed index id place = sorted.contains pair_cmp index.pairs (id, place)

-- the places of these pairs stand in order, and those below an end that are listed are among them
pub record HasPlaces (lists : ℕ → Bool) (end : ℕ) (pairs : List (ℕ × ℕ)) : Type 0 where
  pub order : IsStrictlySortedBy nat_cmp (map (λ pair. pair.1) pairs)
  pub among : (place : ℕ) → place < end → lists place ≡ true → list_any (eq_by_cmp nat_cmp place) (map (λ pair. pair.1) pairs) ≡ true

-- a place is listed for the row of a kind and id
abbrev pub listed_in : Listing → Kind → ℕ → ℕ → Bool
listed_in listing kind.Service id place = is_listed listing.of_services id place
listed_in listing kind.Route id place = is_listed listing.of_routes id place
listed_in listing kind.Consumer id place = is_listed listing.of_consumers id place
listed_in listing _ id place = false

-- the row at a place
abbrev pub row_at : {T : Type 0} → List (ℕ × T) → ℕ → Option T
row_at entries place = lookup (is_at (nat_cmp place)) entries

-- the place that an id has among these
abbrev pub place_at : List (ℕ × ℕ) → ℕ → Option ℕ
place_at places id = lookup (is_at (nat_cmp id)) places

-- the place of the row with an id
abbrev pub place_of : {T : Type 0} → (T → ℕ) → List (ℕ × T) → ℕ → Option ℕ
place_of number entries id = option_map (λ entry. entry.0) (find (λ entry. nat_eq (number entry.1) id) entries)

-- the rows that listed places still give: those that are there and pass
abbrev pub rows_at : {T : Type 0} → (T → Bool) → List (ℕ × T) → List (ℕ × ℕ) → List T
rows_at test entries pairs = filter test (filter_map (λ pair. row_at entries pair.1) pairs)

-- rows by place, found by id and by what they name: `place` tells the place of an id, `lists` the places of a kind and id
pub record IsTable {T : Type 0} (number : T → ℕ) (names : Kind → ℕ → T → Bool) (entries : List (ℕ × T)) (place : ℕ → Option ℕ) (lists : Kind → ℕ → ℕ → Bool) (next : ℕ) : Type 0 where
  pub order : IsStrictlySortedBy nat_cmp (keys_of entries)
  pub before : All (λ entry. entry.0 < next) entries
  pub found : (id : ℕ) → place id ≡ place_of number entries id
  pub ids : IsDistinct nat_eq (map number (values_of entries))
  pub listed : (of_kind : Kind) (id : ℕ) → All (λ entry. names of_kind id entry.1 ≡ true → lists of_kind id entry.0 ≡ true) entries

-- where a range of the ids above an offset begins
abbrev pub start_of : Option ℕ → Bound ℕ
start_of None = Unbounded
start_of (Some id) = Excluded id
