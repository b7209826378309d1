-- Lists of touched keys, commit by commit.
use Rattle.std.proofs.Common.{◌≡◌, ℕ, ◌+◌, Bool, true, false, List, [], ◌∷◌, All, Contains, length, sym, ap, ◌∙◌, true≢false, ⊎_elim, arith}
use Rattle.std.proofs.lemmas.List.Elements.{All-nil, All-cons, All-contains, All-head, All-tail}
use Rattle.std.proofs.lemmas.Map.Views.{Contains-from_any}
use Rattle.std.specs.List.{list_any}
use Rattle.kg_row_types.specs.declared.key.GenKey.{GenKey}
use Rattle.kg_row_types.specs.declared.key.Key.{Key}
use Rattle.kg_row_values.proofs.Searches.{or_left, or_right}
use Rattle.kg_row_values.specs.Commits.{names_key, AreSilent, LeaveUnnamed, ChangeNamed, value_after, generation_after, AreTouchedKeys, AreTouchedGenerations}
use Rattle.kg_row_values.specs.declared.command.Command.{Command}

module _ {K : Type 0} (eq : K → K → Bool) where
  all_fail : (p : K → Bool) (ks : List K) → list_any p ks ≡ false → All (λ k. p k ≡ false) ks
  all_fail p [] none = All-nil (λ k. p k ≡ false)
  all_fail p (k ∷ ks) none =
      All-cons (λ j. p j ≡ false) k ks (or_left (p k) (list_any p ks) none) (all_fail p ks (or_right (p k) (list_any p ks) none))

  -- a key that the list doesn't name isn't in it
  pub absent : ((k : K) → eq k k ≡ true) → (k : K) (keys : List K) → names_key eq k keys ≡ false → ¬ (Contains keys k)
  absent itself k keys unnamed there =
      true≢false (sym (itself k) ∙ All-contains (λ j. eq j k ≡ false) keys k (all_fail (λ j. eq j k) keys unnamed) there)

  -- a key that the list names is in it
  pub present : ((j k : K) → eq j k ≡ true → j ≡ k) → (k : K) (keys : List K) → names_key eq k keys ≡ true → Contains keys k
  present exact k keys named = Contains-from_any (λ i j same. sym (exact j i same)) k keys named

  module _ {X : Type 0} (value : K → ℕ → X) where
    -- over commits that don't name it, a key keeps its value
    pub stays : (k : K) (from : ℕ) (lists : List (List K)) → LeaveUnnamed eq value from lists → AreSilent eq k lists → value k from ≡ value k (from + length lists)
    stays k from [] leave silent = ap (value k) (omega arith)
    stays k from (keys ∷ lists) leave silent =
        leave.0 k (All-head (λ js. names_key eq k js ≡ false) keys lists silent)
        ∙ stays k (from + 1) lists leave.1 (All-tail (λ js. names_key eq k js ≡ false) keys lists silent)
        ∙ ap (value k) (omega arith)

module _ (history : List Command) where
  pub unnamed_keys : (eq : Key → Key → Bool) → ((k : Key) → eq k k ≡ true) → (from : ℕ) (lists : List (List Key)) → AreTouchedKeys history from lists → LeaveUnnamed eq (value_after history) from lists
  unnamed_keys eq itself from [] touched = tt
  unnamed_keys eq itself from (keys ∷ lists) touched = (
    (λ k unnamed. ⊎_elim (λ there. absurd (absent eq itself k keys unnamed there)) (λ same. same) (touched.0.others k)),
    unnamed_keys eq itself (from + 1) lists touched.1,
  )

  pub unnamed_gens : (eq : GenKey → GenKey → Bool) → ((g : GenKey) → eq g g ≡ true) → (from : ℕ) (lists : List (List GenKey)) → AreTouchedGenerations history from lists → LeaveUnnamed eq (generation_after history) from lists
  unnamed_gens eq itself from [] touched = tt
  unnamed_gens eq itself from (gens ∷ lists) touched = (
    (λ g unnamed. ⊎_elim (λ there. absurd (absent eq itself g gens unnamed there)) (λ same. same) (touched.0.others g)),
    unnamed_gens eq itself (from + 1) lists touched.1,
  )

  pub named_keys : (eq : Key → Key → Bool) → ((j k : Key) → eq j k ≡ true → j ≡ k) → (from : ℕ) (lists : List (List Key)) → AreTouchedKeys history from lists → ChangeNamed eq (value_after history) from lists
  named_keys eq exact from [] touched = tt
  named_keys eq exact from (keys ∷ lists) touched = (
    (λ k named. (touched.0.each k).0 (present eq exact k keys named)),
    named_keys eq exact (from + 1) lists touched.1,
  )

  pub named_gens : (eq : GenKey → GenKey → Bool) → ((g h : GenKey) → eq g h ≡ true → g ≡ h) → (from : ℕ) (lists : List (List GenKey)) → AreTouchedGenerations history from lists → ChangeNamed eq (generation_after history) from lists
  named_gens eq exact from [] touched = tt
  named_gens eq exact from (gens ∷ lists) touched = (
    (λ g named. (touched.0.each g).0 (present eq exact g gens named)),
    named_gens eq exact (from + 1) lists touched.1,
  )
