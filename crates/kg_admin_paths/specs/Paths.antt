-- The paths of the Admin API and their methods (Kong Admin API; which bytes of a path make a word is this
-- project's own).
use Rattle.std.specs.Prelude.{ℕ, ◌==◌, Bool, true, false, List, [], ◌∷◌, codes, length, Option, Some, None, option_map, if◌then◌else◌}
use Rattle.std.specs.List.{slice_split}
use Rattle.std.specs.Map.{lookup}
use Rattle.std.specs.Option.{option_map_or}
use Rattle.std.specs.Str.{bytes_eq, is_utf8}
use Rattle.percent_encoding.specs.Percent.{percent_decode}
use Rattle.kg_admin_paths.specs.declared.operation.Operation.{Operation}
use Rattle.kg_admin_paths.specs.declared.operation.Operation.TheVariants.{Page, Insert, Find, Patch, Put, Delete}
use Rattle.kg_admin_paths.specs.declared.place.Place.{Place}
use Rattle.kg_admin_paths.specs.declared.place.Place.TheVariants.{List as ListOf, Item}
use Rattle.kg_field_rules.specs.Urls.{◌>>=◌, only_if}
use Rattle.kg_row_queries.specs.declared.select.Parent.{Parent}
use Rattle.kg_row_queries.specs.declared.select.Select.{Select}
use Rattle.kg_row_queries.specs.declared.select.Select.TheVariants.{Id, Word}
use Rattle.kg_row_types.specs.Ids.{id_of}
use Rattle.kg_row_types.specs.declared.entity.Kind.{Kind}
use Rattle.kg_row_types.specs.declared.entity.Kind.TheVariants as kind
use Rattle.kg_rows.specs.Decision.{CanStandUnder}
use Rattle.kg_text.specs.Paths.{slash}

-- ---- the table

-- the lists of all rows of a kind
abbrev pub lists : List (List ℕ × Kind)
lists =
    (codes "services", kind.Service) ∷ (codes "routes", kind.Route) ∷ (codes "consumers", kind.Consumer)
    ∷ (codes "plugins", kind.Plugin) ∷ []

-- the lists of the rows under a row of a kind
abbrev pub lists_under : Kind → List (List ℕ × Kind)
lists_under kind.Service = (codes "routes", kind.Route) ∷ (codes "plugins", kind.Plugin) ∷ []
lists_under kind.Route = (codes "plugins", kind.Plugin) ∷ []
lists_under kind.Consumer =
    (codes "plugins", kind.Plugin) ∷ (codes "key-auth", kind.KeyCred) ∷ (codes "basic-auth", kind.BasicCred)
    ∷ (codes "acls", kind.Acl) ∷ []
lists_under _ = []

-- the kinds whose rows are items of a list under another row: credentials and groups, which have no list of
-- their own
abbrev pub has_items_under : Kind → Bool
has_items_under kind.KeyCred = true
has_items_under kind.BasicCred = true
has_items_under kind.Acl = true
has_items_under _ = false

-- the methods of a list and of an item, and what each asks for
abbrev pub operations : Place → List (List ℕ × Operation)
operations (ListOf kind parent) = (codes "GET", Page kind parent) ∷ (codes "POST", Insert kind parent) ∷ []
operations (Item kind parent select) =
    (codes "GET", Find kind parent select) ∷ (codes "PATCH", Patch kind parent select) ∷ (codes "PUT", Put kind parent select)
    ∷ (codes "DELETE", Delete kind parent select) ∷ []

abbrev pub operation_of : Place → List ℕ → Option Operation
operation_of place method = lookup (bytes_eq method) (operations place)

-- the kind of the rows in a list of this name
abbrev pub kind_listed : List ℕ → Option Kind
kind_listed name = lookup (bytes_eq name) lists

abbrev pub kind_listed_under : Kind → List ℕ → Option Kind
kind_listed_under kind name = lookup (bytes_eq name) (lists_under kind)

-- where the list has items
abbrev pub item_kind_under : Kind → List ℕ → Option Kind
item_kind_under kind name = do
  below ← kind_listed_under kind name
  only_if has_items_under below

-- ---- words

-- bytes as a text
abbrev pub text_of : List ℕ → Option (List ℕ)
text_of bytes = only_if is_utf8 bytes

-- the text that a segment spells, percent-decoded: none where it has no byte, or is no UTF-8 then
abbrev pub word_of : List ℕ → Option (List ℕ)
word_of segment = if length segment == 0 then None else text_of (percent_decode segment)

-- how a word selects a row: by the id that it tells, else by name, username or group. A key may look like an
-- id, so among keys the word stands for both
abbrev pub select_of : Kind → List ℕ → Select
select_of kind.KeyCred word = Word word
select_of _ word = option_map_or Id (id_of word) (Word word)

-- how a segment selects a row
abbrev pub select_at : Kind → List ℕ → Option Select
select_at kind segment = option_map (select_of kind) (word_of segment)

-- ---- paths

-- the segments of a path without its first slash
abbrev pub segments_of : List ℕ → List (List ℕ)
segments_of path = slice_split (λ b. b == slash) path

-- a row among all of its kind
abbrev pub row_at : List ℕ → List ℕ → Option Parent
row_at list own = do
  kind ← kind_listed list
  select ← select_at kind own
  Some (record { kind = kind; select = select })

-- the rows under a row
abbrev pub list_under : Parent → List ℕ → Option Place
list_under parent list = do
  kind ← kind_listed_under parent.kind list
  Some (ListOf kind (Some parent))

-- a row among those under a row
abbrev pub item_under : Parent → List ℕ → List ℕ → Option Place
item_under parent list own = do
  kind ← item_kind_under parent.kind list
  select ← select_at kind own
  Some (Item kind (Some parent) select)

-- `/services`
abbrev pub list_at : List ℕ → Option Place
list_at list = do
  kind ← kind_listed list
  Some (ListOf kind None)

-- `/services/W`
abbrev pub item_at : List ℕ → List ℕ → Option Place
item_at list own = do
  row ← row_at list own
  Some (Item row.kind None row.select)

-- `/services/W/routes`
abbrev pub nested_list_at : List ℕ → List ℕ → List ℕ → Option Place
nested_list_at list own below = do
  parent ← row_at list own
  list_under parent below

-- `/consumers/W/acls/V`
abbrev pub nested_item_at : List ℕ → List ℕ → List ℕ → List ℕ → Option Place
nested_item_at list own below word = do
  parent ← row_at list own
  item_under parent below word

-- what the segments of a path mean
abbrev pub place_at : List (List ℕ) → Option Place
place_at (list ∷ []) = list_at list
place_at (list ∷ own ∷ []) = item_at list own
place_at (list ∷ own ∷ below ∷ []) = nested_list_at list own below
place_at (list ∷ own ∷ below ∷ word ∷ []) = nested_item_at list own below word
place_at _ = None

-- what a path in normal form means, without its first slash
abbrev pub place_of : List ℕ → Option Place
place_of path = place_at (segments_of path)

-- ---- what fits

-- the kind stands under its parent, if it has one
abbrev pub FitsPlace : Place → Type 0
FitsPlace (ListOf kind parent) = CanStandUnder kind parent
FitsPlace (Item kind parent select) = CanStandUnder kind parent

abbrev pub FitsOperation : Operation → Type 0
FitsOperation (Page kind parent) = CanStandUnder kind parent
FitsOperation (Insert kind parent) = CanStandUnder kind parent
FitsOperation (Find kind parent select) = CanStandUnder kind parent
FitsOperation (Patch kind parent select) = CanStandUnder kind parent
FitsOperation (Put kind parent select) = CanStandUnder kind parent
FitsOperation (Delete kind parent select) = CanStandUnder kind parent
