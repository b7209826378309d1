-- What is decided of a change that is asked for: the command, or the first refusal in this order. The parent
-- or the row isn't there; rules between the fields are broken; a row that is named isn't there, or the
-- deleted row is still named; something is taken; the kind is full (Kong Admin API; the order is this
-- project's own).
use Rattle.std.specs.Prelude.{◌≡◌, ℕ, ◌/◌, Bool, true, false, nat_lt, List, [], ◌∷◌, codes, Option, Some, None, option_map, Result, Ok, Err, if◌then◌else◌, IsTrue, IfSome, ⊤}
use Rattle.std.specs.Option.{option_or}
use Rattle.serde_json.specs.Data.{Data}
use Rattle.serde_json.specs.View.{view}
use Rattle.kg_row_types.specs.Entities.{id_of_row}
use Rattle.kg_row_types.specs.Ids.{id_of}
use Rattle.kg_row_types.specs.RowChanges.{count_of}
use Rattle.kg_row_types.specs.RowLists.{RowLists}
use Rattle.kg_row_types.specs.declared.entity.Entity.{Entity}
use Rattle.kg_row_types.specs.declared.entity.Kind.{Kind}
use Rattle.kg_row_types.specs.declared.entity.Kind.TheVariants as kind
use Rattle.kg_row_changes.specs.Allowed.{is_unused}
use Rattle.kg_row_changes.specs.Claims.{claimed}
use Rattle.kg_rows.specs.References.{contradicted_field, dangling_field, fixed_links, link_of, links_in, links_of, targets_in}
use Rattle.kg_row_queries.specs.Selections.{collection_of, rows_in, selected}
use Rattle.kg_row_values.specs.declared.command.Command.{Command}
use Rattle.kg_row_values.specs.declared.command.Command.TheVariants as command
use Rattle.kg_rows.specs.declared.draft.DecideError.{DecideError}
use Rattle.kg_rows.specs.declared.draft.DecideError.TheVariants.{Refused, NoMemory}
use Rattle.kg_rows.specs.declared.draft.Draft.{Draft}
use Rattle.kg_rows.specs.declared.draft.Draft.TheVariants.{Insert, Patch, Put, Delete}
use Rattle.kg_rows.specs.declared.draft.Refusal.{Refusal}
use Rattle.kg_rows.specs.declared.draft.Refusal.TheVariants.{NotFound, Violation, Foreign, Unique, Full}
use Rattle.kg_rows.specs.declared.target.Targets.{Targets}
use Rattle.kg_row_queries.specs.declared.select.Parent.{Parent}
use Rattle.kg_row_queries.specs.declared.select.Select.{Select}
use Rattle.kg_row_queries.specs.declared.select.Select.TheVariants.{Id, Word}
use Rattle.kg_row_making.specs.Bases.{BaseValue, made_at}
use Rattle.kg_row_making.specs.Bases as base
use Rattle.kg_schema.specs.Between.{accepts_word, violations_between}
use Rattle.kg_schema.specs.Finished.{row_over}
use Rattle.kg_field_rules.specs.Rules.{BrokenRule, in_order, listed}
use Rattle.kg_row_making.specs.declared.base.Links.{Links}

-- ---- steps

-- what is there, or the refusal that it isn't
abbrev pub needed : {A B : Type 0} → Option A → (A → Result B Refusal) → Result B Refusal
needed None next = Err NotFound
needed (Some x) next = next x

-- the answer, unless it is refused
abbrev pub unless : {A : Type 0} → Option Refusal → Result A Refusal → Result A Refusal
unless None answer = answer
unless (Some refusal) answer = Err refusal

-- what is made of a row that isn't refused
abbrev pub and_then : {A B : Type 0} → Result A Refusal → (A → Result B Refusal) → Result B Refusal
and_then (Ok x) next = next x
and_then (Err refusal) next = Err refusal

-- ---- refusals

abbrev pub violation : List BrokenRule → Option Refusal
violation [] = None
violation (broken ∷ more) = Some (Violation (listed (in_order (broken ∷ more))))

abbrev pub missing : Option (List ℕ) → Option Refusal
missing field = option_map (λ name. Foreign name false) field

abbrev pub taken_by_other : Option (List ℕ × ℕ) → Option Refusal
taken_by_other claim = option_map (λ found. Unique found.0 found.1) claim

abbrev pub full : Kind → RowLists → ℕ → Option Refusal
full kind rows limit = if nat_lt (count_of kind rows) limit then None else Some Full

abbrev pub still_named : Kind → ℕ → RowLists → Option Refusal
still_named kind id rows = if is_unused kind id rows then None else Some (Foreign (codes "routes") true)

-- ---- rows

-- the id of the row that isn't there yet, or of the old row
abbrev pub own_id : BaseValue → ℕ
own_id (base.New id now) = id
own_id (base.Again id created_at now) = id
own_id (base.Word id word now) = id
own_id (base.Old old now) = id_of_row old

-- why the rows refuse a finished row: what it names isn't there, or another row has what only one may have
abbrev pub conflict : RowLists → Links → Targets → Entity → Option ℕ → Option Refusal
conflict rows above targets row replaced =
    option_or (missing (dangling_field rows above targets (links_of row))) (taken_by_other (claimed row replaced rows))

-- the row that a body makes over a base, under a parent or alone, in the place of a present row or as a new one
unfoldable pub proposed : RowLists → Kind → Data → BaseValue → Links → Option Entity → Result Entity Refusal
proposed rows kind body base above present =
    let targets = targets_in body rows in
    let links = links_in (own_id base) above targets in
    let row = row_over kind body base links in
    unless (violation (violations_between kind body base links (contradicted_field (fixed_links above present) targets)))
    (unless (conflict rows above targets row (option_map id_of_row present)) (Ok row))

-- a new row
unfoldable pub inserted : RowLists → Kind → Data → BaseValue → Links → ℕ → Result Command Refusal
inserted rows kind body base above limit =
    and_then (proposed rows kind body base above None) (λ row. unless (full kind rows limit) (Ok (command.Insert row)))

-- a row in the place of a present one
unfoldable pub replaced : RowLists → Kind → Data → BaseValue → Links → Entity → Result Command Refusal
replaced rows kind body base above present =
    and_then (proposed rows kind body base above (Some present)) (λ row. Ok (command.Update row))

-- ---- rows that are made by their id or word

abbrev pub base_by_word : Kind → List ℕ → ℕ → ℕ → Option BaseValue
base_by_word kind word id now = if accepts_word kind word then Some (base.Word id word now) else None

-- a key credential is made by a text that tells an id as by that id
abbrev pub base_by_text : Kind → List ℕ → ℕ → ℕ → Option BaseValue
base_by_text kind.KeyCred text id now =
    option_or (option_map (λ own. base.Again own (now / 1000) now) (id_of text)) (base_by_word kind.KeyCred text id now)
base_by_text kind text id now = base_by_word kind text id now

abbrev pub base_by : Kind → Select → ℕ → ℕ → Option BaseValue
base_by kind (Id own) id now = Some (base.Again own (now / 1000) now)
base_by kind (Word text) id now = base_by_text kind text id now

-- ---- decisions

abbrev pub insertion : RowLists → Kind → Option Parent → Data → ℕ → ℕ → ℕ → Result Command Refusal
insertion rows kind parent body id now limit =
    needed (collection_of parent rows) (λ collection. inserted rows kind body (base.New id now) (link_of collection) limit)

abbrev pub patched : RowLists → Kind → Option Parent → Select → Data → ℕ → Result Command Refusal
patched rows kind parent select body now =
    needed (collection_of parent rows) (λ collection. needed (selected kind select (rows_in collection rows)) (λ old.
    replaced rows kind body (base.Old old now) (link_of collection) old))

-- what a row that is put may need: an id that was drawn, the clock, and how many rows a kind may have
pub record Supply : Type 0 where
  pub id : ℕ
  pub now : ℕ
  pub limit : ℕ

-- the row as it is made again, where it is there; else a new one
abbrev pub put_over : RowLists → Kind → Select → Data → Links → Supply → Option Entity → Result Command Refusal
put_over rows kind select body above supply (Some old) =
    replaced rows kind body (base.Again (id_of_row old) (made_at old) supply.now) above old
put_over rows kind select body above supply None =
    needed (base_by kind select supply.id supply.now) (λ new. inserted rows kind body new above supply.limit)

abbrev pub put : RowLists → Kind → Option Parent → Select → Data → Supply → Result Command Refusal
put rows kind parent select body supply =
    needed (collection_of parent rows) (λ collection.
    put_over rows kind select body (link_of collection) supply (selected kind select (rows_in collection rows)))

abbrev pub deletion : RowLists → Kind → Option Parent → Select → Result Command Refusal
deletion rows kind parent select =
    needed (collection_of parent rows) (λ collection. needed (selected kind select (rows_in collection rows)) (λ old.
    unless (still_named kind (id_of_row old) rows) (Ok (command.Delete kind (id_of_row old)))))

-- the command, or why there is none
abbrev pub decision : RowLists → Draft → ℕ → Result Command Refusal
decision rows (Insert kind parent form id now) limit = insertion rows kind parent (view form.body) id now limit
decision rows (Patch kind parent select form now) limit = patched rows kind parent select (view form.body) now
decision rows (Put kind parent select form id now) limit = put rows kind parent select (view form.body) (record { id = id; now = now; limit = limit })
decision rows (Delete kind parent select) limit = deletion rows kind parent select

-- ---- what is asked of a draft, and of an answer

-- rows of the one kind stand under rows of the other
abbrev pub nests : Kind → Kind → Bool
nests kind.Service kind.Route = true
nests kind.Service kind.Plugin = true
nests kind.Route kind.Plugin = true
nests kind.Consumer kind.KeyCred = true
nests kind.Consumer kind.BasicCred = true
nests kind.Consumer kind.Acl = true
nests kind.Consumer kind.Plugin = true
nests _ _ = false

abbrev pub CanStandUnder : Kind → Option Parent → Type 0
CanStandUnder kind parent = IfSome parent (λ above. IsTrue (nests above.kind kind))

-- the form is of the draft's kind, and so the parent fits
abbrev pub IsProper : Draft → Type 0
IsProper (Insert kind parent form id now) = (form.kind ≡ kind) × CanStandUnder kind parent
IsProper (Patch kind parent select form now) = (form.kind ≡ kind) × CanStandUnder kind parent
IsProper (Put kind parent select form id now) = (form.kind ≡ kind) × CanStandUnder kind parent
IsProper (Delete kind parent select) = CanStandUnder kind parent

-- the error is this refusal; want of memory is free
abbrev pub Refuses : {A : Type 0} → DecideError → Result A Refusal → Type 0
Refuses (Refused refusal) meant = meant ≡ Err refusal
Refuses NoMemory meant = ⊤

-- the error is this refusal, if there is one; want of memory is free
abbrev pub IsRefusedBy : DecideError → Option Refusal → Type 0
IsRefusedBy (Refused refusal) told = told ≡ Some refusal
IsRefusedBy NoMemory told = ⊤

-- the answer is what is decided; want of memory is free
abbrev pub Decides : {A : Type 0} → Result A DecideError → Result A Refusal → Type 0
Decides (Ok x) meant = meant ≡ Ok x
Decides (Err (Refused refusal)) meant = meant ≡ Err refusal
Decides (Err NoMemory) meant = ⊤
