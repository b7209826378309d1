-- Entries whose windows are over go when the hand comes to them.
use Rattle.std.proofs.Common.{◌≡◌, ℕ, ◌+◌, ◌-◌, ◌<◌, ◌≤◌, false, All, List, [], ◌∷◌, ◌++◌, Some, length, slice_get, slice_index_or, slice_set, swap_remove, take, unwrap_or, sym, ap, subst, ◌∙◌, arith}
use Rattle.std.proofs.lemmas.List.{length-set, length-take-le, take-set, take-take, take_more}
use Rattle.std.proofs.lemmas.List.Elements.{All-nil, All-push}
use Rattle.std.proofs.lemmas.Option.{slice_get_within, unwrap_or-slice_get}
use Rattle.kg_limit.specs.Counting.{GoesOn, is_over, passed}
use Rattle.kg_limit.specs.declared.count_table.CountKey.{CountKey}
use Rattle.kg_limit.specs.declared.count_table.CountTable.{CountTable}
use Rattle.kg_limit.specs.declared.counts.Counts.{Counts}

-- ---- lists

-- what stands in front of the place where one is taken out stays
front_kept : {X : Type 0} (xs : List X) (i : ℕ) (x : X) → i < length xs → take i (swap_remove xs i x) ≡ take i xs
front_kept xs i x within =
    take-take i (length xs - 1) (slice_set xs i (slice_index_or xs (length xs - 1) x)) (omega (arith, within))
    ∙ take-set xs i (slice_index_or xs (length xs - 1) x)

one_less : {X : Type 0} (xs : List X) (i : ℕ) (x : X) → i < length xs → length (swap_remove xs i x) + 1 ≡ length xs
one_less xs i x within =
    let set_long = length-set xs i (slice_index_or xs (length xs - 1) x) in
    let taken = length-take-le (length xs - 1) (slice_set xs i (slice_index_or xs (length xs - 1) x)) (omega (arith, set_long)) in
    omega (arith, taken, within)

-- ---- the hand

abbrev IsLive : ℕ → CountKey × Counts → Type 0
IsLive time entry = is_over entry.1 time ≡ false

-- at the end
pub round_begins : (time : ℕ) (old new : CountTable) → length old.entries.entries ≤ old.hand → new.hand ≡ 0 → GoesOn time old new
round_begins time old new at_end begins = record {
  live = λ _. subst (λ hand. All (IsLive time) (take hand new.entries.entries)) (sym begins) (All-nil (IsLive time));
  fewer = λ some. absurd (omega (arith, some, at_end));
  again = λ _. begins;
}

-- past an entry that isn't over
pub passes_on : (time : ℕ) (table new : CountTable) (key : CountKey) (counts : Counts) → slice_get table.entries.entries table.hand ≡ Some (key, counts)
    → is_over counts time ≡ false → new.entries.entries ≡ table.entries.entries → new.hand ≡ table.hand + 1 → GoesOn time table new
passes_on time table new key counts stands live same on = record {
  live = λ before. subst (λ entries. All (IsLive time) entries) (sym longer) (All-push (IsLive time) (passed table) (key, counts) before live);
  fewer = λ some. omega (arith, within, on, ap length same);
  again = λ none. absurd (omega (arith, none, within));
}
  where
    within : table.hand < length table.entries.entries
    within = slice_get_within table.entries.entries table.hand (key, counts) stands

    longer : passed new ≡ passed table ++ (key, counts) ∷ []
    longer =
        ap (λ n. take n new.entries.entries) on
        ∙ ap (take (table.hand + 1)) same
        ∙ take_more table.entries.entries table.hand (key, counts) within
        ∙ ap (λ entry. passed table ++ entry ∷ [])
        (sym (unwrap_or-slice_get table.entries.entries table.hand (key, counts)) ∙ ap (λ found. unwrap_or found (key, counts)) stands)

-- an entry that is over goes
pub goes : (time : ℕ) (old new : CountTable) (entry : CountKey × Counts) → old.hand < length old.entries.entries
    → new.entries.entries ≡ swap_remove old.entries.entries old.hand entry → new.hand ≡ old.hand → GoesOn time old new
goes time old new entry within without stays = record {
  live = λ before. subst (λ entries. All (IsLive time) entries) (sym (ap (λ n. take n new.entries.entries) stays ∙ ap (take old.hand) without ∙ front_kept old.entries.entries old.hand entry within)) before;
  fewer = λ some. let less = one_less old.entries.entries old.hand entry within in omega (arith, less, within, stays, ap length without);
  again = λ none. absurd (omega (arith, none, within));
}
