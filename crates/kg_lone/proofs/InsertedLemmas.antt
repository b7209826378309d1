-- The rows after commands that insert are those that they insert.
use Rattle.std.proofs.Common.{◌≡◌, ℕ, suc, ◌+◌, ◌<◌, Bool, true, false, not, ◌&&◌, IsTrue, List, [], ◌∷◌, ◌++◌, drop, get_or, length, refl, sym, ap, subst, ◌∙◌, All, drop-cons, arith}
use Rattle.std.specs.List.{fold}
use Rattle.std.proofs.lemmas.List.Elements.{All-head, All-tail}
use Rattle.std.proofs.lemmas.List.Sums.{fold-append}
use Rattle.kg_row_types.specs.Entities.{id_of_row, kind_of}
use Rattle.kg_row_types.specs.RowChanges.{has_row, inserted}
use Rattle.kg_row_types.specs.RowLists.{RowLists, no_rows}
use Rattle.kg_row_types.specs.declared.entity.Entity.{Entity}
use Rattle.kg_row_types.specs.declared.entity.Entity.TheVariants as row
use Rattle.kg_declare.specs.Histories.{AreInsertions, InsertsValidRow}
use Rattle.kg_declare.specs.Inserting.{InsertsNewRow}
use Rattle.kg_row_changes.specs.ValidCommands.{AreAllowed}
use Rattle.kg_row_values.specs.Rows.{changed, rows_after, rows_from}
use Rattle.kg_row_values.specs.declared.command.Command.{Command}
use Rattle.kg_row_values.specs.declared.command.Command.TheVariants.{Insert, Update, Delete}
use Rattle.kg_lone.specs.DryText.{most_rows}
use Rattle.kg_lone.specs.InsertedRows.{gateway_over, gateway_rows, listed_after, listed_in, no_lists, with_row}
use Rattle.kg_lone.specs.declared.rows.Listing.{Listing}

-- ---- the three lists

-- those of all rows
abbrev pub lists_of : RowLists → Listing
lists_of rows = record { services = rows.services; routes = rows.routes; plugins = rows.plugins }

with_inserted : (new : Entity) (before : RowLists) → with_row new (lists_of before) ≡ lists_of (inserted new before)
with_inserted (row.Service new) before = refl
with_inserted (row.Route new) before = refl
with_inserted (row.Consumer new) before = refl
with_inserted (row.KeyCred new) before = refl
with_inserted (row.BasicCred new) before = refl
with_inserted (row.Acl new) before = refl
with_inserted (row.Plugin new) before = refl

listed_from : (before : RowLists) (commands : List Command) → All InsertsValidRow commands
    → fold listed_after (lists_of before) commands ≡ lists_of (rows_from before commands)
listed_from before [] all = refl
listed_from before (Insert new ∷ commands) all =
    ap (λ listing. fold listed_after listing commands) (with_inserted new before)
    ∙ listed_from (inserted new before) commands (All-tail InsertsValidRow (Insert new) commands all)
listed_from before (Update new ∷ commands) all = absurd (All-head InsertsValidRow (Update new) commands all)
listed_from before (Delete kind id ∷ commands) all = absurd (All-head InsertsValidRow (Delete kind id) commands all)

pub listed_are : (commands : List Command) → All InsertsValidRow commands → listed_in commands ≡ lists_of (rows_after commands)
listed_are commands all = listed_from no_rows commands all

-- one command more
pub listed_push : (commands : List Command) (command : Command) → listed_in (commands ++ command ∷ []) ≡ listed_after (listed_in commands) command
listed_push commands command = fold-append listed_after no_lists commands (command ∷ [])

-- ---- the gateway

-- what holds of the lists of all rows holds of those that the commands insert
pub holds_of : (P : Listing → Type 0) (commands : List Command) (listing : Listing) → All InsertsValidRow commands → listing ≡ listed_in commands
    → P (lists_of (rows_after commands)) → P listing
holds_of P commands listing all is holds = subst P (sym (is ∙ listed_are commands all)) holds

-- a gateway over the lists that the commands insert is one over the rows after them
pub rows_are : (commands : List Command) (listing : Listing) (rows : RowLists) (count : ℕ) → All InsertsValidRow commands → listing ≡ listed_in commands
    → rows ≡ rows_after commands → gateway_over listing rows count ≡ gateway_rows rows count
rows_are commands listing rows count all is declared =
    ap (λ lists. gateway_over lists rows count) (is ∙ listed_are commands all ∙ ap lists_of (sym declared))

-- ---- one row after another

-- the rows so far, from which the commands that are left come to the rows after all
pub record IsOnWay (commands : List Command) (at : ℕ) (rows : RowLists) : Type 0 where
  pub rest : rows_from rows (drop at commands) ≡ rows_after commands
  pub inserts : All InsertsValidRow (drop at commands)
  pub allowed : AreAllowed rows (drop at commands) most_rows

-- before the first
pub none_yet : (commands : List Command) (rows : RowLists) → rows ≡ no_rows → AreInsertions most_rows commands → IsOnWay commands 0 rows
none_yet commands rows none inserts = record {
  rest = ap (λ r. rows_from r commands) none;
  inserts = inserts.inserts;
  allowed = subst (λ r. AreAllowed r commands most_rows) (sym none) inserts.allowed;
}

-- the next command
split_at : (commands : List Command) (at : ℕ) (command : Command) → at < length commands → command ≡ get_or commands at command
    → drop at commands ≡ command ∷ drop (at + 1) commands
split_at commands at command within is =
    drop-cons commands at command within
    ∙ ap (λ first. first ∷ drop (suc at) commands) (sym is)
    ∙ ap (λ n. command ∷ drop n commands) (let e : suc at ≡ at + 1 = omega arith in e)

-- one row more
pub one_more : (commands : List Command) (at : ℕ) (rows now : RowLists) (command : Command) → at < length commands → command ≡ get_or commands at command
    → now ≡ changed command rows → IsOnWay commands at rows → IsOnWay commands (at + 1) now
one_more commands at rows now command within is makes before =
    let later = drop (at + 1) commands in
    let split = split_at commands at command within is in
    record {
      rest = ap (λ r. rows_from r later) makes ∙ ap (rows_from rows) (sym split) ∙ before.rest;
      inserts = All-tail InsertsValidRow command later (subst (All InsertsValidRow) split before.inserts);
      allowed = subst (λ r. AreAllowed r later most_rows) (sym makes) (subst (λ cs. AreAllowed rows cs most_rows) split before.allowed).2;
    }

-- what is inserted next has a new id
inserts_new : (limit : ℕ) (rows : RowLists) (command : Command) (later : List Command) → All InsertsValidRow (command ∷ later)
    → AreAllowed rows (command ∷ later) limit → InsertsNewRow rows command
inserts_new limit rows (Insert new) later all allowed = is_new (has_row (kind_of new) (id_of_row new) rows) _ _ _ allowed.1
  where
    is_new : (has named unique room : Bool) → IsTrue (((not has && named) && unique) && room) → has ≡ false
    is_new false named unique room is = refl
    is_new true named unique room is = absurd (cc)
inserts_new limit rows (Update new) later all allowed = absurd (All-head InsertsValidRow (Update new) later all)
inserts_new limit rows (Delete kind id) later all allowed = absurd (All-head InsertsValidRow (Delete kind id) later all)

pub inserts_next : (commands : List Command) (at : ℕ) (rows : RowLists) (command : Command) → at < length commands → command ≡ get_or commands at command
    → IsOnWay commands at rows → InsertsNewRow rows command
inserts_next commands at rows command within is before =
    let split = split_at commands at command within is in
    inserts_new most_rows rows command (drop (at + 1) commands) (subst (All InsertsValidRow) split before.inserts)
    (subst (λ cs. AreAllowed rows cs most_rows) split before.allowed)
