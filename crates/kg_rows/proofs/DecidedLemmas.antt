-- What is decided is allowed.
use Rattle.std.proofs.Common.{◌≡◌, ℕ, Bool, true, false, not, ◌&&◌, nat_lt, List, Option, None, Some, option_map, Result, Ok, Err, IfOk, if◌then◌else◌, refl, sym, ap, ap₂, subst, ◌∙◌, true≢false}
use Rattle.std.specs.Option.{option_or}
use Rattle.serde_json.specs.Data.{Data}
use Rattle.serde_json.specs.View.{view}
use Rattle.kg_row_types.specs.Entities.{id_of_row}
use Rattle.kg_row_types.specs.RowChanges.{count_of, has_row}
use Rattle.kg_row_types.specs.RowLists.{RowLists}
use Rattle.kg_row_types.specs.declared.entity.Entity.{Entity}
use Rattle.kg_row_types.specs.declared.entity.Kind.{Kind}
use Rattle.kg_row_changes.specs.Allowed.{has_named_rows, is_allowed, is_unused}
use Rattle.kg_row_changes.specs.Claims.{claimed}
use Rattle.kg_rows.specs.Decision.{base_by, own_id, Supply, Decides, decision, deletion, full, inserted, insertion, missing, needed, patched, proposed, put, put_over, replaced, still_named, taken_by_other, unless, violation}
use Rattle.kg_rows.specs.References.{contradicted_field, dangling_field, fixed_links, link_of, links_in, links_of, targets_in}
use Rattle.kg_row_queries.specs.Selections.{collection_of, rows_in, selected}
use Rattle.kg_row_values.specs.declared.command.Command.{Command}
use Rattle.kg_row_values.specs.declared.command.Command.TheVariants as command
use Rattle.kg_rows.specs.declared.draft.DecideError.{DecideError}
use Rattle.kg_rows.specs.declared.draft.Draft.{Draft}
use Rattle.kg_rows.specs.declared.draft.Draft.TheVariants.{Insert, Patch, Put, Delete}
use Rattle.kg_rows.specs.declared.draft.Refusal.{Refusal}
use Rattle.kg_rows.specs.declared.draft.Refusal.TheVariants.{Full}
use Rattle.kg_row_queries.specs.declared.collection.Collection.{Collection}
use Rattle.kg_row_queries.specs.declared.select.Parent.{Parent}
use Rattle.kg_row_queries.specs.declared.select.Select.{Select}
use Rattle.kg_rows.proofs.AnswerLemmas.{needed_parts, ok_is, then_parts, unless_none, unless_rest, unmapped}
use Rattle.kg_row_queries.proofs.FoundLemmas.{is_there}
use Rattle.kg_rows.proofs.FreeLemmas.{has_new_id, has_what_it_names, is_unique_new, is_unique_old, or_first, or_second}
use Rattle.kg_rows.proofs.MadeLemmas.{id_over_again, id_over_old, kind_over}
use Rattle.kg_row_making.specs.Bases.{BaseValue, Again, New, Old, made_at}
use Rattle.kg_schema.specs.Between.{violations_between}
use Rattle.kg_schema.specs.Finished.{row_over}
use Rattle.kg_row_making.specs.declared.base.Links.{Links}

-- ---- tests

three : (a b c : Bool) → a ≡ true → b ≡ true → c ≡ true → (a && b && c) ≡ true
three a b c x y z = ap₂ (λ p q. p && q && c) x y ∙ z

-- ---- a row that isn't refused

pub record IsFit (rows : RowLists) (new : Entity) (replaced_id : Option ℕ) : Type 0 where
  pub named : has_named_rows new rows ≡ true
  pub free : claimed new replaced_id rows ≡ None

module _ (rows : RowLists) (of_kind : Kind) (body : Data) (base : BaseValue) (above : Links) (present : Option Entity) where
  abbrev links : Links
  links = links_in (own_id base) above (targets_in body rows)

  abbrev made : Entity
  made = row_over of_kind body base links

  abbrev dangling : Option (List ℕ)
  dangling = dangling_field rows above (targets_in body rows) (links_of made)

  abbrev claim : Option (List ℕ × ℕ)
  claim = claimed made (option_map id_of_row present) rows

  abbrev refused : Option Refusal
  refused = option_or (missing dangling) (taken_by_other claim)

  is_later : (new : Entity) → proposed rows of_kind body base above present ≡ Ok new → unless refused (Ok made) ≡ Ok new
  unfolding proposed
  is_later new same = unless_rest (violation (violations_between of_kind body base links (contradicted_field (fixed_links above present) (targets_in body rows)))) (unless refused (Ok made)) new same

  is_made : (new : Entity) → proposed rows of_kind body base above present ≡ Ok new → made ≡ new
  is_made new same = ok_is (unless_rest refused (Ok made) new (is_later new same))

  is_fit : (new : Entity) → proposed rows of_kind body base above present ≡ Ok new → IsFit rows made (option_map id_of_row present)
  is_fit new same =
      let none : refused ≡ None = unless_none refused (Ok made) new (is_later new same) in
      record {
        named = has_what_it_names made rows above (targets_in body rows) (unmapped _ dangling (or_first (missing dangling) (taken_by_other claim) none));
        free = unmapped _ claim (or_second (missing dangling) (taken_by_other claim) none);
      }

-- ---- new rows

room_left : (b : Bool) → (if b then None else Some Full) ≡ None → b ≡ true
room_left true none = refl
room_left false none = absurd (true≢false (ap (λ o. elim o [ None ↦ false | Some z ↦ true ]) none))

module _ (rows : RowLists) (of_kind : Kind) (body : Data) (base : BaseValue) (above : Links) (limit : ℕ) where
  abbrev new_row : Entity
  new_row = made rows of_kind body base above None

  new_row_is_allowed : IsFit rows new_row None → full of_kind rows limit ≡ None → is_allowed rows (command.Insert new_row) limit ≡ true
  new_row_is_allowed fit room =
      ap₂ (λ p q. p && q)
      (three _ _ _ (ap not (has_new_id rows new_row fit.free)) fit.named (is_unique_new rows new_row fit.free))
      (ap (λ k. nat_lt (count_of k rows) limit) (kind_over of_kind body base (links_in (own_id base) above (targets_in body rows))) ∙ room_left (nat_lt (count_of of_kind rows) limit) room)

  inserted_is_allowed : (done : Command) → inserted rows of_kind body base above limit ≡ Ok done → is_allowed rows done limit ≡ true
  unfolding inserted
  inserted_is_allowed done same =
      let parts = then_parts (proposed rows of_kind body base above None) (λ new. unless (full of_kind rows limit) (Ok (command.Insert new))) done same in
      let room : full of_kind rows limit ≡ None = unless_none (full of_kind rows limit) (Ok (command.Insert parts.0)) done parts.2 in
      let is : command.Insert parts.0 ≡ done = ok_is (unless_rest (full of_kind rows limit) (Ok (command.Insert parts.0)) done parts.2) in
      let same_row : new_row ≡ parts.0 = is_made rows of_kind body base above None parts.0 parts.1 in
      subst (λ c. is_allowed rows c limit ≡ true) (ap command.Insert same_row ∙ is)
      (new_row_is_allowed (is_fit rows of_kind body base above None parts.0 parts.1) room)

-- ---- rows in the place of others

module _ (rows : RowLists) (of_kind : Kind) (body : Data) (base : BaseValue) (above : Links) (old : Entity) where
  abbrev other_row : Entity
  other_row = made rows of_kind body base above (Some old)

  other_row_is_allowed : (limit : ℕ) → id_of_row other_row ≡ id_of_row old → has_row of_kind (id_of_row old) rows ≡ true → IsFit rows other_row (Some (id_of_row old))
      → is_allowed rows (command.Update other_row) limit ≡ true
  other_row_is_allowed limit same_id there fit =
      ap (λ p. p && true)
      (three _ _ _
      (ap₂ (λ k i. has_row k i rows) (kind_over of_kind body base (links_in (own_id base) above (targets_in body rows))) same_id ∙ there)
      fit.named
      (is_unique_old rows other_row (subst (λ i. claimed other_row (Some i) rows ≡ None) (sym same_id) fit.free)))

  replaced_is_allowed : (limit : ℕ) (done : Command) → id_of_row other_row ≡ id_of_row old → has_row of_kind (id_of_row old) rows ≡ true
      → replaced rows of_kind body base above old ≡ Ok done → is_allowed rows done limit ≡ true
  unfolding replaced
  replaced_is_allowed limit done same_id there same =
      let parts = then_parts (proposed rows of_kind body base above (Some old)) (λ new. Ok (command.Update new)) done same in
      let same_row : other_row ≡ parts.0 = is_made rows of_kind body base above (Some old) parts.0 parts.1 in
      subst (λ c. is_allowed rows c limit ≡ true) (ap command.Update same_row ∙ ok_is parts.2)
      (other_row_is_allowed limit same_id there (is_fit rows of_kind body base above (Some old) parts.0 parts.1))

-- ---- drafts

insertion_is_allowed : (rows : RowLists) (of_kind : Kind) (parent : Option Parent) (body : Data) (id now limit : ℕ) (done : Command)
    → insertion rows of_kind parent body id now limit ≡ Ok done → is_allowed rows done limit ≡ true
insertion_is_allowed rows of_kind parent body id now limit done same =
    let parts = needed_parts (collection_of parent rows) (λ collection. inserted rows of_kind body (New id now) (link_of collection) limit) done same in
    inserted_is_allowed rows of_kind body (New id now) (link_of parts.0) limit done parts.2

patched_is_allowed : (rows : RowLists) (of_kind : Kind) (parent : Option Parent) (select : Select) (body : Data) (now limit : ℕ) (done : Command)
    → patched rows of_kind parent select body now ≡ Ok done → is_allowed rows done limit ≡ true
patched_is_allowed rows of_kind parent select body now limit done same =
    let parts = needed_parts (collection_of parent rows) (λ collection. needed (selected of_kind select (rows_in collection rows)) (λ old. replaced rows of_kind body (Old old now) (link_of collection) old)) done same in
    let further = needed_parts (selected of_kind select (rows_in parts.0 rows)) (λ old. replaced rows of_kind body (Old old now) (link_of parts.0) old) done parts.2 in
    replaced_is_allowed rows of_kind body (Old further.0 now) (link_of parts.0) further.0 limit done
    (id_over_old of_kind body further.0 now (links_in (id_of_row further.0) (link_of parts.0) (targets_in body rows)))
    (is_there rows parts.0 of_kind select further.0 further.1)
    further.2

put_over_is_allowed : (rows : RowLists) (collection : Collection) (of_kind : Kind) (select : Select) (body : Data) (supply : Supply) (done : Command) (old : Option Entity)
    → selected of_kind select (rows_in collection rows) ≡ old
    → put_over rows of_kind select body (link_of collection) supply old ≡ Ok done → is_allowed rows done supply.limit ≡ true
put_over_is_allowed rows collection of_kind select body supply done (Some old) found same =
    replaced_is_allowed rows of_kind body (Again (id_of_row old) (made_at old) supply.now) (link_of collection) old supply.limit done
    (id_over_again of_kind body (id_of_row old) (made_at old) supply.now (links_in (id_of_row old) (link_of collection) (targets_in body rows)))
    (is_there rows collection of_kind select old found)
    same
put_over_is_allowed rows collection of_kind select body supply done None found same =
    let parts = needed_parts (base_by of_kind select supply.id supply.now) (λ new. inserted rows of_kind body new (link_of collection) supply.limit) done same in
    inserted_is_allowed rows of_kind body parts.0 (link_of collection) supply.limit done parts.2

put_is_allowed : (rows : RowLists) (of_kind : Kind) (parent : Option Parent) (select : Select) (body : Data) (supply : Supply) (done : Command)
    → put rows of_kind parent select body supply ≡ Ok done → is_allowed rows done supply.limit ≡ true
put_is_allowed rows of_kind parent select body supply done same =
    let parts = needed_parts (collection_of parent rows) (λ collection. put_over rows of_kind select body (link_of collection) supply (selected of_kind select (rows_in collection rows))) done same in
    put_over_is_allowed rows parts.0 of_kind select body supply done (selected of_kind select (rows_in parts.0 rows)) refl parts.2

not_named : (b : Bool) (refusal : Refusal) → (if b then None else Some refusal) ≡ None → b ≡ true
not_named true refusal none = refl
not_named false refusal none = absurd (true≢false (ap (λ o. elim o [ None ↦ false | Some z ↦ true ]) none))

deletion_is_allowed : (rows : RowLists) (of_kind : Kind) (parent : Option Parent) (select : Select) (limit : ℕ) (done : Command)
    → deletion rows of_kind parent select ≡ Ok done → is_allowed rows done limit ≡ true
deletion_is_allowed rows of_kind parent select limit done same =
    let parts = needed_parts (collection_of parent rows) (λ collection. needed (selected of_kind select (rows_in collection rows)) (λ old. unless (still_named of_kind (id_of_row old) rows) (Ok (command.Delete of_kind (id_of_row old))))) done same in
    let further = needed_parts (selected of_kind select (rows_in parts.0 rows)) (λ old. unless (still_named of_kind (id_of_row old) rows) (Ok (command.Delete of_kind (id_of_row old)))) done parts.2 in
    let gone : Command = command.Delete of_kind (id_of_row further.0) in
    let unused : is_unused of_kind (id_of_row further.0) rows ≡ true = not_named _ _ (unless_none (still_named of_kind (id_of_row further.0) rows) (Ok gone) done further.2) in
    subst (λ c. is_allowed rows c limit ≡ true) (ok_is (unless_rest (still_named of_kind (id_of_row further.0) rows) (Ok gone) done further.2))
    (ap (λ p. p && true) (ap₂ (λ p q. p && q) (is_there rows parts.0 of_kind select further.0 further.1) unused))

pub is_allowed_if_decided : (rows : RowLists) (draft : Draft) (limit : ℕ) (done : Command) → decision rows draft limit ≡ Ok done → is_allowed rows done limit ≡ true
is_allowed_if_decided rows (Insert of_kind parent form id now) limit done same = insertion_is_allowed rows of_kind parent (view form.body) id now limit done same
is_allowed_if_decided rows (Patch of_kind parent select form now) limit done same = patched_is_allowed rows of_kind parent select (view form.body) now limit done same
is_allowed_if_decided rows (Put of_kind parent select form id now) limit done same = put_is_allowed rows of_kind parent select (view form.body) (record { id = id; now = now; limit = limit }) done same
is_allowed_if_decided rows (Delete of_kind parent select) limit done same = deletion_is_allowed rows of_kind parent select limit done same

pub is_allowed_if_ok : (rows : RowLists) (draft : Draft) (limit : ℕ) (answer : Result Command DecideError) → Decides answer (decision rows draft limit) → IfOk answer (λ done. is_allowed rows done limit ≡ true)
is_allowed_if_ok rows draft limit (Ok done) is = is_allowed_if_decided rows draft limit done is
is_allowed_if_ok rows draft limit (Err e) is = tt
