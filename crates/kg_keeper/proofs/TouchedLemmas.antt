-- What commits touched, commit by commit.
use Rattle.std.proofs.Common.{◌≡◌, ℕ, zero, suc, ◌+◌, ◌-◌, ◌≤◌, List, [], ◌∷◌, ◌++◌, drop, length, map, take, ap, subst, ◌∙◌, arith, length-append}
use Rattle.std.proofs.lemmas.List.{length-drop, length-map, length-take, take-append-le, take_all}
use Rattle.kg_keeper.specs.Answers.{AreEvents}
use Rattle.kg_keeper.specs.Histories.{AreTouched}
use Rattle.kg_row_types.specs.RowLists.{no_rows}
use Rattle.kg_row_values.proofs.HistoryLemmas.{rows_from-push}
use Rattle.kg_row_values.specs.Changes.{NamesChanges}
use Rattle.kg_row_values.specs.Commits.{AreTouchedGenerations, AreTouchedKeys}
use Rattle.kg_row_values.specs.Rows.{changed, rows_after}
use Rattle.kg_row_values.specs.declared.command.Command.{Command}
use Rattle.kg_row_values.specs.declared.touched.Touched.{Touched}

-- ---- one more commit

module _ (history : List Command) (command : Command) where
  -- up to a place of the history, one command more changes nothing
  earlier : (n : ℕ) → n ≤ length history → rows_after (take n (history ++ command ∷ [])) ≡ rows_after (take n history)
  earlier n within = ap rows_after (take-append-le n history (command ∷ []) within)

  before_it : (n : ℕ) → n ≡ length history → rows_after (take n (history ++ command ∷ [])) ≡ rows_after history
  before_it n end = earlier n (omega (arith, end)) ∙ ap rows_after (take_all n history (omega (arith, end)))

  with_it : (n : ℕ) → n ≡ length history → rows_after (take (n + 1) (history ++ command ∷ [])) ≡ changed command (rows_after history)
  with_it n end =
      ap rows_after (take_all (n + 1) (history ++ command ∷ []) (omega (arith, end, length-append history (command ∷ []))))
      ∙ rows_from-push no_rows history command

  -- what it touched stands at the end
  pub touched_more : (lists : List Touched) (from : ℕ) (one : Touched) → from + length lists ≡ length history
      → AreTouched history from lists → NamesChanges (rows_after history) (changed command (rows_after history)) one
      → AreTouched (history ++ command ∷ []) from (lists ++ one ∷ [])
  touched_more [] from one end told last =
      let at : from ≡ length history = omega (arith, end) in
      (rw (before_it from at, with_it from at) last, tt)
  touched_more (first ∷ lists) from one end told last =
      let here : from ≤ length history = omega (arith, end) in
      let next : from + 1 ≤ length history = omega (arith, end) in
      (rw (earlier from here, earlier (from + 1) next) told.0, touched_more lists (from + 1) one (omega (arith, end)) told.1 last)

-- ---- a part of the lists

module _ (history : List Command) where
  pub touched_later : (n : ℕ) (lists : List Touched) (from : ℕ) → AreTouched history from lists → AreTouched history (from + n) (drop n lists)
  touched_later zero lists from told =
      let same : from ≡ from + 0 = omega arith in
      subst (λ k. AreTouched history k lists) same told
  touched_later (suc n) [] from told = tt
  touched_later (suc n) (first ∷ lists) from told =
      let same : from + 1 + n ≡ from + suc n = omega arith in
      subst (λ k. AreTouched history k (drop n lists)) same (touched_later n lists (from + 1) told.1)

  pub touched_front : (n : ℕ) (lists : List Touched) (from : ℕ) → AreTouched history from lists → AreTouched history from (take n lists)
  touched_front zero lists from told = tt
  touched_front (suc n) [] from told = tt
  touched_front (suc n) (first ∷ lists) from told = (told.0, touched_front n lists (from + 1) told.1)

  keys_told : (lists : List Touched) (from : ℕ) → AreTouched history from lists → AreTouchedKeys history from (map (λ one. one.keys) lists)
  keys_told [] from told = tt
  keys_told (first ∷ lists) from told = (told.0.keys, keys_told lists (from + 1) told.1)

  gens_told : (lists : List Touched) (from : ℕ) → AreTouched history from lists → AreTouchedGenerations history from (map (λ one. one.gens) lists)
  gens_told [] from told = tt
  gens_told (first ∷ lists) from told = (told.0.gens, gens_told lists (from + 1) told.1)

  -- those of the commits after the first `from`, up to number `to`
  pub events_between : (lists : List Touched) (from to : ℕ) → from ≤ to → to ≤ length lists → AreTouched history 0 lists
      → AreEvents history from to (map (λ one. one.keys) (take (to - from) (drop from lists))) (map (λ one. one.gens) (take (to - from) (drop from lists)))
  events_between lists from to order within told =
      let part = take (to - from) (drop from lists) in
      let start : 0 + from ≡ from = omega arith in
      let later : AreTouched history from (drop from lists) =
      subst (λ place. AreTouched history place (drop from lists)) start (touched_later from lists 0 told) in
      let some = touched_front (to - from) (drop from lists) from later in
      let size : length (take (to - from) (drop from lists)) ≡ to - from =
      omega (arith, order, within, length-take (to - from) (drop from lists), length-drop from lists) in
      record {
        key_lists = length-map part (λ one. one.keys) ∙ size;
        gen_lists = length-map part (λ one. one.gens) ∙ size;
        of_keys = keys_told part from some;
        of_gens = gens_told part from some;
      }
