-- A history with one more command.
use Rattle.std.proofs.Common.{◌≡◌, ◌≢◌, ◌↔◌, ℕ, ◌≤◌, ◌+◌, ◌-◌, List, [], ◌∷◌, ◌++◌, length, take, refl, sym, ap, ◌∙◌, arith, length-append, le_of_eq}
use Rattle.std.proofs.lemmas.List.{take-append-le, take_all}
use Rattle.std.proofs.Math.Seq.{take-append_seam}
use Rattle.kg_row_types.specs.RowLists.{RowLists, no_rows}
use Rattle.kg_row_types.specs.declared.key.GenKey.{GenKey}
use Rattle.kg_row_types.specs.declared.key.Key.{Key}
use Rattle.kg_row_values.specs.Changes.{Changes, ChangesGeneration}
use Rattle.kg_row_values.specs.Rows.{changed, rows_from, rows_after}
use Rattle.kg_row_values.specs.Values.{value_of, generation_of, value_at, generation_at}
use Rattle.kg_row_values.specs.declared.command.Command.{Command}

-- the rows after one more command are the changed rows
pub rows_from-push : (rows : RowLists) (history : List Command) (command : Command) → rows_from rows (history ++ command ∷ []) ≡ changed command (rows_from rows history)
rows_from-push rows [] command = refl
rows_from-push rows (first ∷ history) command = rows_from-push (changed first rows) history command

module _ (history : List Command) (command : Command) where
  -- the commands before the last, and all of them
  before_last : take (length history + 1 - 1) (history ++ command ∷ []) ≡ history
  before_last =
      let n : length history + 1 - 1 ≡ length history = omega arith in
      ap (λ k. take k (history ++ command ∷ [])) n ∙ take-append_seam history (command ∷ [])

  all_of_them : take (length history + 1) (history ++ command ∷ []) ≡ history ++ command ∷ []
  all_of_them = take_all (length history + 1) (history ++ command ∷ []) (le_of_eq (length-append history (command ∷ [])))

  pub last_changes : (k : Key) → Changes (history ++ command ∷ []) (length history + 1) k ↔ (value_of (rows_after history) k ≢ value_of (changed command (rows_after history)) k)
  last_changes k =
      let before : value_at k (take (length history + 1 - 1) (history ++ command ∷ [])) ≡ value_of (rows_after history) k = ap (value_at k) before_last in
      let after : value_at k (take (length history + 1) (history ++ command ∷ [])) ≡ value_of (changed command (rows_after history)) k =
      ap (value_at k) all_of_them ∙ ap (λ rows. value_of rows k) (rows_from-push no_rows history command) in
      ((λ differs same. differs (before ∙ same ∙ sym after)), (λ differs same. differs (sym before ∙ same ∙ after)))

  pub last_changes_generation : (g : GenKey) → ChangesGeneration (history ++ command ∷ []) (length history + 1) g ↔ (generation_of (rows_after history) g ≢ generation_of (changed command (rows_after history)) g)
  last_changes_generation g =
      let before : generation_at g (take (length history + 1 - 1) (history ++ command ∷ [])) ≡ generation_of (rows_after history) g = ap (generation_at g) before_last in
      let after : generation_at g (take (length history + 1) (history ++ command ∷ [])) ≡ generation_of (changed command (rows_after history)) g =
      ap (generation_at g) all_of_them ∙ ap (λ rows. generation_of rows g) (rows_from-push no_rows history command) in
      ((λ differs same. differs (before ∙ same ∙ sym after)), (λ differs same. differs (sym before ∙ same ∙ after)))

-- ---- places before further commands

module _ (history more : List Command) (n : ℕ) (within : n ≤ length history) where
  front : take n (history ++ more) ≡ take n history
  front = take-append-le n history more within

  pub value_stays : (k : Key) → value_at k (take n (history ++ more)) ≡ value_at k (take n history)
  value_stays k = ap (value_at k) front

  pub generation_stays : (g : GenKey) → generation_at g (take n (history ++ more)) ≡ generation_at g (take n history)
  generation_stays g = ap (generation_at g) front

module _ (history more : List Command) (i : ℕ) (within : i ≤ length history) where
  before_within : i - 1 ≤ length history
  before_within = omega (arith, within)

  pub changes_stay : (k : Key) → Changes (history ++ more) i k ↔ Changes history i k
  changes_stay k =
      let before = value_stays history more (i - 1) before_within k in
      let after = value_stays history more i within k in
      ((λ differs same. differs (before ∙ same ∙ sym after)), (λ differs same. differs (sym before ∙ same ∙ after)))

  pub generation_changes_stay : (g : GenKey) → ChangesGeneration (history ++ more) i g ↔ ChangesGeneration history i g
  generation_changes_stay g =
      let before = generation_stays history more (i - 1) before_within g in
      let after = generation_stays history more i within g in
      ((λ differs same. differs (before ∙ same ∙ sym after)), (λ differs same. differs (sym before ∙ same ∙ after)))
