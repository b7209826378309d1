-- The keys that differ among the candidates are the keys that a command changes.
use Rattle.std.proofs.Common.{◌≡◌, ◌⊎◌, inl, inr, ⊎_elim, true, false, ◌||◌, List, [], ◌∷◌, map, All, Contains, refl, sym, ap, subst, ◌∙◌, true≢false, arith}
use Rattle.std.proofs.lemmas.Bool.{eqb-true}
use Rattle.std.proofs.lemmas.List.Elements.{All-contains, All-nil, All-cons, Contains-get_or, Contains-append_right}
use Rattle.std.specs.List.{list_any}
use Rattle.kg_text.specs.SameBytes.{same_bytes}
use Rattle.kg_row_types.specs.RowLists.{RowLists}
use Rattle.kg_row_types.specs.declared.key.Key.{Key}
use Rattle.kg_row_types.specs.declared.key.Key.TheVariants.{Cred, Basic, Consumer, Named, Acls}
use Rattle.kg_row_changes.specs.Candidates.{candidates}
use Rattle.kg_row_values.specs.Changes.{NamesChangedKeys}
use Rattle.kg_row_values.specs.Rows.{changed}
use Rattle.kg_row_values.specs.Values.{value_of}
use Rattle.kg_row_values.specs.Watching.{watched_at, Differ}
use Rattle.kg_row_values.specs.declared.command.Command.{Command}
use Rattle.kg_row_values.specs.declared.watch.Watched.{Watched}
use Rattle.kg_row_changes.proofs.Covers.{same_key, kept}
use Rattle.kg_row_values.proofs.Differs.{Sound, Whole}

-- keys that pass as the same are the same
same_key_is : (a b : Key) → same_key a b ≡ true → b ≡ a
same_key_is (Cred t) (Cred u) same = ap Cred (same_bytes u t same)
same_key_is (Basic t) (Basic u) same = ap Basic (same_bytes u t same)
same_key_is (Consumer i) (Consumer j) same = ap Consumer (eqb-true j i same)
same_key_is (Named t) (Named u) same = ap Named (same_bytes u t same)
same_key_is (Acls i) (Acls j) same = ap Acls (eqb-true j i same)
same_key_is _ _ same = absurd (true≢false (sym same))

module _ (before : RowLists) where
  abbrev Before : Watched → Type 0
  Before w = w.before ≡ value_of before w.key

  -- what is watched has its value before
  all_before : (ks : List Key) → All Before (map (watched_at before) ks)
  all_before [] = All-nil Before
  all_before (k ∷ ks) = All-cons Before (watched_at before k) (map (watched_at before) ks) refl (all_before ks)

  -- a key among the candidates is watched
  is_watched : (k : Key) (ks : List Key) → list_any (same_key k) ks ≡ true → Contains (map (watched_at before) ks) (watched_at before k)
  is_watched k [] among = absurd (true≢false (sym among))
  is_watched k (j ∷ ks) among =
      (elim (same_key k j) as (λ b. same_key k j ≡ b → (b || list_any (same_key k) ks) ≡ true → Contains (watched_at before j ∷ map (watched_at before) ks) (watched_at before k)) [
        | true ↦ λ same _. subst (λ i. Contains (watched_at before j ∷ map (watched_at before) ks) (watched_at before i)) (same_key_is k j same) (Contains-get_or (watched_at before j ∷ map (watched_at before) ks) 0 (watched_at before j) (omega arith))
        | false ↦ λ _ rest. Contains-append_right (watched_at before j ∷ []) (map (watched_at before) ks) (watched_at before k) (is_watched k ks rest)
      ]) refl among

  pub names_changed : (command : Command) (keys : List Key)
      → Differ (changed command before) (map (watched_at before) (candidates command before)) keys
      → NamesChangedKeys before (changed command before) keys
  names_changed command keys differ =
      let all = candidates command before in
      let told : (k : Key) → Contains keys k ⊎ (value_of before k ≡ value_of (changed command before) k) = λ k.
      (elim (list_any (same_key k) all) as (λ b. list_any (same_key k) all ≡ b → Contains keys k ⊎ (value_of before k ≡ value_of (changed command before) k)) [
        | true ↦ λ among. ⊎_elim (λ same. inr (sym same)) (λ there. inl there)
            (All-contains (Whole (changed command before) keys) (map (watched_at before) all) (watched_at before k) differ.whole (is_watched k all among))
        | false ↦ λ none. inr (sym (kept k command before none))
      ]) refl in
      record {
        each = λ k. (
          (λ there same.
              let found = All-contains (Sound (changed command before) (map (watched_at before) all)) keys k differ.sound there in
              let was : found.0.before ≡ value_of before k = All-contains Before (map (watched_at before) all) found.0 (all_before all) found.1 ∙ ap (value_of before) found.2 in
              found.3 (sym same ∙ sym was)),
          λ differs. ⊎_elim (λ there. there) (λ same. absurd (differs same)) (told k),
        );
        others = told;
        distinct = differ.distinct;
      }
