-- What a store of rows answers: what the definitions say at all commands that it has seen by then (this
-- project's own; the rows and pages are those of the Kong Admin API).
use Rattle.std.specs.Prelude.{◌≡◌, ℕ, ◌+◌, ◌-◌, ◌<◌, ◌≤◌, nat_lt, Bool, true, false, List, [], ◌∷◌, ◌++◌, length, Option, Some, None, IfSome, Result, Ok, Err, if◌then◌else◌, IsTrue, ⊤}
use Rattle.kg_keeper.specs.Observed.{Observed}
use Rattle.kg_keeper.specs.declared.answer.CommitError.{CommitError}
use Rattle.kg_keeper.specs.declared.answer.CommitError.TheVariants as commit
use Rattle.kg_keeper.specs.declared.answer.Committed.{Committed}
use Rattle.kg_keeper.specs.declared.answer.Events.{Events}
use Rattle.kg_keeper.specs.declared.answer.Events.TheVariants.{Since, Gap}
use Rattle.kg_keeper.specs.declared.answer.GenRows.{GenRows}
use Rattle.kg_keeper.specs.declared.answer.GenRows.TheVariants as rows_of
use Rattle.kg_keeper.specs.declared.answer.KeepError.{KeepError}
use Rattle.kg_keeper.specs.declared.answer.KeepError.TheVariants as keep
use Rattle.kg_keeper.specs.declared.answer.Loaded.{Loaded}
use Rattle.kg_keeper.specs.declared.answer.LoadedRows.{LoadedRows}
use Rattle.kg_keeper.specs.declared.answer.PageAsk.{PageAsk}
use Rattle.kg_keeper.specs.declared.answer.PageGot.{PageGot}
use Rattle.kg_keeper.specs.declared.answer.Seen.{Seen}
use Rattle.kg_row_queries.specs.Pages.{page_of}
use Rattle.kg_row_queries.specs.Selections.{found}
use Rattle.kg_row_queries.specs.declared.pages.Page.{Page}
use Rattle.kg_row_queries.specs.declared.select.Parent.{Parent}
use Rattle.kg_row_queries.specs.declared.select.Select.{Select}
use Rattle.kg_row_types.specs.RowLists.{RowLists}
use Rattle.kg_row_types.specs.ValidRows.{AreValidRows, HasDistinctRows, HasReferences}
use Rattle.kg_row_types.specs.Values.{Generation, RouterRows, PluginRows}
use Rattle.kg_row_types.specs.declared.entity.Entity.{Entity}
use Rattle.kg_row_types.specs.declared.entity.Kind.{Kind}
use Rattle.kg_row_types.specs.declared.key.GenKey.{GenKey}
use Rattle.kg_row_types.specs.declared.key.Key.{Key}
use Rattle.kg_row_values.specs.Commits.{AreTouchedGenerations, AreTouchedKeys}
use Rattle.kg_row_values.specs.Rows.{rows_after}
use Rattle.kg_row_values.specs.Values.{generation_at, generation_of, value_at}
use Rattle.kg_row_values.specs.declared.command.Command.{Command}
use Rattle.kg_row_values.specs.declared.command.Command.TheVariants as of_command
use Rattle.kg_rows.specs.Decision.{and_then, decision}
use Rattle.kg_rows.specs.declared.draft.Draft.{Draft}
use Rattle.kg_rows.specs.declared.draft.Refusal.{Refusal}
use Rattle.kg_rows.specs.declared.draft.Refusal.TheVariants.{HistoryFull}

-- ---- faults

abbrev pub is_fault : {T : Type 0} → Result T KeepError → Bool
is_fault (Ok x) = false
is_fault (Err keep.Fault) = true
is_fault (Err keep.NoMemory) = false

abbrev pub is_commit_fault : {T : Type 0} → Result T CommitError → Bool
is_commit_fault (Ok x) = false
is_commit_fault (Err (commit.Refused why at)) = false
is_commit_fault (Err commit.Fault) = true
is_commit_fault (Err commit.NoMemory) = false

-- ---- values and generations

-- the value of the key at all that is seen
abbrev pub AnswersLoad : Observed → Key → Loaded → Type 0
AnswersLoad now key loaded = IfSome now.seen (λ seen. (loaded.at ≡ length seen) × (loaded.value ≡ value_at key seen))

abbrev pub generation_in : GenRows → Generation
generation_in (rows_of.Router services routes) = RouterRows services routes
generation_in (rows_of.Plugins plugins) = PluginRows plugins

-- the generation at all that is seen
abbrev pub AnswersRows : Observed → GenKey → LoadedRows → Type 0
AnswersRows now which loaded =
    IfSome now.seen (λ seen. (loaded.at ≡ length seen) × (generation_in loaded.rows ≡ generation_at which seen))

-- the rows of a generation are those of rows that are valid, share nothing that only one may have, and name
-- what is there
pub record AreFromValidRows (which : GenKey) (got : GenRows) : Type 0 where
  pub rows : RowLists
  pub generation : generation_in got ≡ generation_of rows which
  pub valid : AreValidRows rows
  pub distinct : HasDistinctRows rows
  pub references : HasReferences rows

-- ---- what commits touched

-- the first place from which on it is kept what commits touched
abbrev pub floor_of : ℕ → List Command → ℕ
floor_of feed seen = length seen - feed

-- the lists of what the commits from `from` + 1 to `to` touched
pub record AreEvents (seen : List Command) (from to : ℕ) (keys : List (List Key)) (gens : List (List GenKey)) : Type 0 where
  pub key_lists : length keys ≡ to - from
  pub gen_lists : length gens ≡ to - from
  pub of_keys : AreTouchedKeys seen from keys
  pub of_gens : AreTouchedGenerations seen from gens

-- the gap comes exactly below the floor
abbrev pub AnswersEvents : Observed → ℕ → ℕ → Events → Type 0
AnswersEvents now from to (Since keys gens) =
    IfSome now.seen (λ seen. (floor_of now.feed seen ≤ from) × AreEvents seen from to keys gens)
AnswersEvents now from to (Gap floor) = IfSome now.seen (λ seen. (floor ≡ floor_of now.feed seen) × (from < floor))

-- ---- commits

-- how many commits a history may have
abbrev pub most_commits : ℕ
most_commits = 4294967295

-- a decision after a history: that no more commits may be had is told last
abbrev pub unless_full : List Command → Result Command Refusal → Result Command Refusal
unless_full history decided = and_then decided (λ command. if nat_lt (length history) most_commits then Ok command else Err HistoryFull)

-- what is decided of a draft after a history
abbrev pub decision_at : List Command → Draft → ℕ → Result Command Refusal
decision_at history draft limit = unless_full history (decision (rows_after history) draft limit)

-- the row that a command puts, if it puts one
abbrev pub row_put : Command → Option Entity
row_put (of_command.Insert row) = Some row
row_put (of_command.Update row) = Some row
row_put (of_command.Delete kind id) = None

-- after what others may have committed meanwhile, just one more command is seen: the one that is decided there
pub record IsCommitted (before now : Observed) (seen : List Command) (draft : Draft) (answer : Committed) : Type 0 where
  pub others : List Command
  pub command : Command
  pub decided : decision_at (seen ++ others) draft before.limit ≡ Ok command
  pub appended : now.seen ≡ Some ((seen ++ others) ++ command ∷ [])
  pub place : answer.at ≡ length (seen ++ others) + 1
  pub row : answer.row ≡ row_put command
  pub alone : IsTrue before.alone → others ≡ []

abbrev pub AnswersCommit : Observed → Observed → Draft → Committed → Type 0
AnswersCommit before now draft answer = IfSome before.seen (λ seen. IsCommitted before now seen draft answer)

-- the refusal is what is decided at all that is seen
abbrev pub AnswersRefusal : Observed → Draft → CommitError → Type 0
AnswersRefusal now draft (commit.Refused why at) =
    IfSome now.seen (λ seen. (at ≡ length seen) × (decision_at seen draft now.limit ≡ Err why))
AnswersRefusal now draft commit.Fault = ⊤
AnswersRefusal now draft commit.NoMemory = ⊤

-- ---- rows that are asked for

abbrev pub AnswersFind : Observed → Kind → Option Parent → Select → Seen → Type 0
AnswersFind now kind parent select answer =
    IfSome now.seen (λ seen. (answer.at ≡ length seen) × (answer.row ≡ found kind parent select (rows_after seen)))

-- a page, or that the parent is missing, and its place
abbrev pub page_got : Option Page → ℕ → PageGot
page_got None at = record { rows = []; more = false; parent_missing = true; at = at }
page_got (Some page) at = record { rows = page.rows; more = page.more; parent_missing = false; at = at }

abbrev pub AnswersPage : Observed → PageAsk → PageGot → Type 0
AnswersPage now ask got =
    IfSome now.seen (λ seen. got ≡ page_got (page_of ask.kind ask.parent ask.after ask.size (rows_after seen)) (length seen))
