-- Commits of a store with one owner.
use Rattle.std.proofs.Common.{◌≡◌, ℕ, ◌+◌, List, [], ◌∷◌, ◌++◌, length, Some, Ok, refl, sym, ap, subst, ◌∙◌, append-nil}
use Rattle.kg_keeper.specs.Answers.{AnswersCommit, decision_at}
use Rattle.kg_keeper.specs.Histories.{IsAdded}
use Rattle.kg_keeper.specs.Stores.{Store, observed}
use Rattle.kg_keeper.specs.declared.answer.Committed.{Committed}
use Rattle.kg_row_values.specs.declared.command.Command.{Command}
use Rattle.kg_rows.specs.declared.draft.Draft.{Draft}

-- nobody else commits
pub commit_answered : (before now : Store) (draft : Draft) (answer : Committed) → IsAdded before.commands now.commands before.limit draft answer
    → AnswersCommit (observed before) (observed now) draft answer
commit_answered before now draft answer added =
    let none : before.commands ++ [] ≡ before.commands = append-nil before.commands in
    record {
      others = [];
      command = added.command;
      decided = subst (λ seen. decision_at seen draft before.limit ≡ Ok added.command) (sym none) added.decided;
      appended = ap Some added.added ∙ ap (λ seen. Some (seen ++ added.command ∷ [])) (sym none);
      place = added.place ∙ ap (λ seen. length seen + 1) (sym none);
      row = added.row;
      alone = λ _. refl;
    }

-- the same of the histories that the stores hold
pub commit_answered_by : (before now : Store) (history later : List Command) (limit : ℕ) (draft : Draft) (answer : Committed)
    → history ≡ before.commands → limit ≡ before.limit → later ≡ now.commands
    → IsAdded history later limit draft answer → AnswersCommit (observed before) (observed now) draft answer
commit_answered_by before now history later limit draft answer first most last added =
    commit_answered before now draft answer
    (subst (λ to. IsAdded before.commands to before.limit draft answer) last
    (subst (λ from. IsAdded from later before.limit draft answer) first (subst (λ under. IsAdded history later under draft answer) most added)))
