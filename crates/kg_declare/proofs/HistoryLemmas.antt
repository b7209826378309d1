-- The commands so far with one more.
use Rattle.std.proofs.Common.{◌≡◌, ℕ, Bool, true, false, not, List, [], ◌∷◌, ◌++◌, All, Option, Some, None, Result, Ok, Err, IsTrue, refl, sym, ap, subst, ◌∙◌, true≢false, ap₂}
use Rattle.std.specs.Bool.{⊤}
use Rattle.std.proofs.lemmas.Bool.{and_parts}
use Rattle.std.proofs.lemmas.List.Elements.{All-nil, All-push}
use Rattle.serde_json.specs.Data.{Data}
use Rattle.serde_json.specs.View.{view}
use Rattle.kg_row_types.specs.RowLists.{RowLists, no_rows}
use Rattle.kg_row_types.specs.ValidRows.{AreValidRows}
use Rattle.kg_row_types.specs.declared.entity.Entity.{Entity}
use Rattle.kg_row_types.specs.declared.entity.Kind.{Kind}
use Rattle.kg_row_changes.specs.Allowed.{is_allowed}
use Rattle.kg_rows.specs.Decision.{and_then, decision, full, inserted, needed, proposed, unless}
use Rattle.kg_rows.specs.References.{link_of}
use Rattle.kg_row_values.specs.Rows.{changed, rows_after, rows_from}
use Rattle.kg_row_queries.specs.Selections.{collection_of}
use Rattle.kg_row_changes.specs.ValidCommands.{AreAllowed, IsValidCommand}
use Rattle.kg_row_values.specs.declared.command.Command.{Command}
use Rattle.kg_row_values.specs.declared.command.Command.TheVariants as command
use Rattle.kg_rows.specs.declared.draft.Draft.{Draft}
use Rattle.kg_rows.specs.declared.draft.Draft.TheVariants.{Insert, Patch, Put, Delete}
use Rattle.kg_rows.specs.declared.draft.Refusal.{Refusal}
use Rattle.kg_rows.specs.declared.draft.Refusal.TheVariants.{NotFound}
use Rattle.kg_row_queries.specs.declared.collection.Collection.{Collection}
use Rattle.kg_row_making.specs.Bases.{New}
use Rattle.kg_declare.specs.Histories.{InsertsValidRow}
use Rattle.kg_declare.specs.Inserting.{InsertsNewRow, IsConsistent, IsDecided, IsInsertion, accepted_at, decided}
use Rattle.kg_declare.specs.declared.progress.Made.{Made}

-- ---- what is decided of an insertion

abbrev pub Inserts : Command → Type 0
Inserts (command.Insert new) = ⊤
Inserts (command.Update new) = ⊥
Inserts (command.Delete kind id) = ⊥

abbrev given : Result Command Refusal → Command → Command
given (Ok done) other = done
given (Err refusal) other = other

abbrev is_ok : Result Command Refusal → Bool
is_ok (Ok done) = true
is_ok (Err refusal) = false

no_command : {A : Type 0} (refusal : Refusal) (done : Command) → Err refusal ≡ Ok done → A
no_command refusal done same = absurd (true≢false (sym (ap is_ok same)))

unless_inserts : (refused : Option Refusal) (new : Entity) (done : Command) → unless refused (Ok (command.Insert new)) ≡ Ok done → Inserts done
unless_inserts None new done same = subst Inserts (ap (λ answer. given answer done) same) tt
unless_inserts (Some refusal) new done same = no_command refusal done same

then_inserts : (made : Result Entity Refusal) (refused : Option Refusal) (done : Command)
    → and_then made (λ new. unless refused (Ok (command.Insert new))) ≡ Ok done → Inserts done
then_inserts (Ok new) refused done same = unless_inserts refused new done same
then_inserts (Err refusal) refused done same = no_command refusal done same

placed_inserts : (rows : RowLists) (draft_kind : Kind) (body : Data) (id now limit : ℕ) (place : Option Collection) (done : Command)
    → needed place (λ found. inserted rows draft_kind body (New id now) (link_of found) limit) ≡ Ok done → Inserts done
unfolding inserted
placed_inserts rows draft_kind body id now limit (Some found) done same =
    then_inserts (proposed rows draft_kind body (New id now) (link_of found) None) (full draft_kind rows limit) done same
placed_inserts rows draft_kind body id now limit None done same = no_command NotFound done same

pub insertion_inserts : (rows : RowLists) (draft : Draft) (limit : ℕ) (done : Command) → IsInsertion draft → decision rows draft limit ≡ Ok done → Inserts done
insertion_inserts rows (Insert of_kind parent form id now) limit done is same = placed_inserts rows of_kind (view form.body) id now limit (collection_of parent rows) done same
insertion_inserts rows (Patch of_kind parent select form now) limit done is same = absurd is
insertion_inserts rows (Put of_kind parent select form id now) limit done is same = absurd is
insertion_inserts rows (Delete of_kind parent select) limit done is same = absurd is

-- ---- one command more

pub rows_from-push : (rows : RowLists) (commands : List Command) (done : Command) → rows_from rows (commands ++ done ∷ []) ≡ changed done (rows_from rows commands)
rows_from-push rows [] done = refl
rows_from-push rows (first ∷ commands) done = rows_from-push (changed first rows) commands done

allowed-push : (limit : ℕ) (rows : RowLists) (commands : List Command) (done : Command) → AreAllowed rows commands limit
    → IsValidCommand done → IsTrue (is_allowed (rows_from rows commands) done limit) → AreAllowed rows (commands ++ done ∷ []) limit
allowed-push limit rows [] done allowed valid may = (valid, may, tt)
allowed-push limit rows (first ∷ commands) done allowed valid may =
    (allowed.0, allowed.1, allowed-push limit (changed first rows) commands done allowed.2 valid may)

-- the row of an allowed insertion is new
untrue : (b : Bool) → not b ≡ true → b ≡ false
untrue true is = absurd (true≢false (sym is))
untrue false is = refl

pub new_row : (rows : RowLists) (limit : ℕ) (done : Command) → Inserts done → IsTrue (is_allowed rows done limit) → InsertsNewRow rows done
new_row rows limit (command.Insert new) is may = untrue _ ((and_parts _ _ ((and_parts _ _ ((and_parts _ _ may).0)).0)).0)
new_row rows limit (command.Update new) is may = absurd is
new_row rows limit (command.Delete kind id) is may = absurd is

inserts_if_new : (rows : RowLists) (done : Command) → InsertsNewRow rows done → IsValidCommand done → InsertsValidRow done
inserts_if_new rows (command.Insert new) is valid = valid
inserts_if_new rows (command.Update new) is valid = absurd is
inserts_if_new rows (command.Delete kind id) is valid = absurd is

module _ (limit : ℕ) (old new : Made) (draft : Draft) (done : Command) (decided_so : IsDecided limit old.rows draft done)
    (rows : new.rows ≡ changed done old.rows) (commands : new.commands ≡ old.commands ++ done ∷ []) where
  -- what a step means, it leaves
  pub step_leaves : (before drawn : ℕ) → decided (accepted_at old before) drawn (decision old.rows draft limit) ≡ Ok (accepted_at new drawn)
  step_leaves before drawn =
      ap (decided (accepted_at old before) drawn) decided_so.decides
      ∙ ap₂ (λ rows commands. Ok (record { rows = rows; commands = commands; drawn = drawn })) (sym rows) (sym commands)

  -- and the rows so far are again those after the commands so far
  pub step_consistent : AreValidRows old.rows → IsConsistent limit old → IsConsistent limit new
  step_consistent valid is = record {
    rows = rows ∙ ap (changed done) is.rows ∙ sym (rows_from-push no_rows old.commands done) ∙ ap rows_after (sym commands);
    inserts = subst (All InsertsValidRow) (sym commands)
        (All-push InsertsValidRow old.commands done is.inserts (inserts_if_new old.rows done decided_so.new (decided_so.valid valid)));
    allowed = subst (λ all. AreAllowed no_rows all limit) (sym commands)
        (allowed-push limit no_rows old.commands done is.allowed (decided_so.valid valid) (subst (λ rows. IsTrue (is_allowed rows done limit)) is.rows decided_so.allowed));
  }

pub nothing_consistent : (limit : ℕ) (made : Made) → made.rows ≡ no_rows → made.commands ≡ [] → IsConsistent limit made
nothing_consistent limit made rows commands = record {
  rows = rows ∙ ap rows_after (sym commands);
  inserts = subst (All InsertsValidRow) (sym commands) (All-nil InsertsValidRow);
  allowed = subst (λ all. AreAllowed no_rows all limit) (sym commands) tt;
}
