-- One turn of telling which watched keys differ.
use Rattle.std.proofs.Common.{◌≡◌, ◌≢◌, ◌⊎◌, Bool, true, false, true≢false, ap, ◌∙◌, if◌then◌else◌, List, [], ◌∷◌, ◌++◌, All, Contains, refl, sym, subst, inl, inr, ⊎_elim, arith}
use Rattle.std.proofs.lemmas.List.Elements.{All-nil, All-push, All-weaker, All-contains, All-contains_itself, Contains-push, Contains-append_left, Contains-get_or}
use Rattle.std.proofs.lemmas.List.Quantifiers.{all_pairs_push}
use Rattle.std.proofs.lemmas.Map.Views.{Contains-from_any, list_any-from_Contains}
use Rattle.std.specs.Cmp.{IsEquivalence}
use Rattle.std.specs.List.{AllPairs, list_any}
use Rattle.indexmap.specs.IndexSet.{insert_key}
use Rattle.kg_row_types.specs.RowLists.{RowLists}
use Rattle.kg_row_types.specs.declared.key.Key.{Key}
use Rattle.kg_row_values.specs.Values.{value_of}
use Rattle.kg_row_values.specs.Watching.{Noted, Differ}
use Rattle.kg_row_values.specs.declared.watch.Watched.{Watched}

module _ (now : RowLists) where
  -- a kept key differs from what one of the watched has
  abbrev pub Sound : List Watched → Key → Type 0
  Sound watched k = (w : Watched) × Contains watched w × (w.key ≡ k) × (value_of now k ≢ w.before)

  -- a watched key has the value that it had, or is kept
  abbrev pub Whole : List Key → Watched → Type 0
  Whole keys w = (value_of now w.key ≡ w.before) ⊎ Contains keys w.key

  -- what was sound stays so
  further : (watched : List Watched) (w : Watched) (keys : List Key) → All (Sound watched) keys → All (Sound (watched ++ w ∷ [])) keys
  further watched w keys sound =
      All-weaker (Sound watched) (Sound (watched ++ w ∷ [])) (λ k s. (s.0, Contains-append_left watched (w ∷ []) s.0 s.1, s.2, s.3)) keys sound

  -- nothing was watched
  pub differ_none : Differ now [] []
  differ_none = record {
    sound = All-nil (Sound []);
    whole = All-nil (Whole []);
    distinct = λ i j d before within. absurd (omega (arith, within));
  }

  -- one more was watched, and noted
  pub differ_more : (watched : List Watched) (w : Watched) (keys next : List Key) → Differ now watched keys → Noted now w keys next → Differ now (watched ++ w ∷ []) next
  differ_more watched w keys next differ (inl kept) =
      record {
        sound = subst (λ ks. All (Sound (watched ++ w ∷ [])) ks) (sym kept.0) (further watched w keys differ.sound);
        whole = subst (λ ks. All (Whole ks) (watched ++ w ∷ [])) (sym kept.0)
            (All-push (Whole keys) watched w differ.whole kept.1);
        distinct = subst (AllPairs (λ a b. a ≢ b)) (sym kept.0) differ.distinct;
      }
  differ_more watched w keys next differ (inr added) =
      record {
        sound = subst (λ ks. All (Sound (watched ++ w ∷ [])) ks) (sym added.0)
            (All-push (Sound (watched ++ w ∷ [])) keys w.key (further watched w keys differ.sound) (w, Contains-push watched w, refl, added.1));
        whole = subst (λ ks. All (Whole ks) (watched ++ w ∷ [])) (sym added.0)
            (All-push (Whole (keys ++ w.key ∷ [])) watched w
            (All-weaker (Whole keys) (Whole (keys ++ w.key ∷ [])) (λ v. ⊎_elim (λ same. inl same) (λ there. inr (Contains-append_left keys (w.key ∷ []) v.key there))) watched differ.whole)
            (inr (Contains-push keys w.key)));
        distinct = subst (AllPairs (λ a b. a ≢ b)) (sym added.0)
            (all_pairs_push (λ a b. a ≢ b) keys w.key differ.distinct (λ k d within same. added.2 (subst (Contains keys) same (Contains-get_or keys k d within))));
      }

-- what holds of all holds of a front part, and of the last
pub all_front : {X : Type 0} (P : X → Type 0) (xs : List X) (y : X) → All P (xs ++ y ∷ []) → All P xs
all_front P xs y all =
    All-weaker (Contains xs) P (λ x there. All-contains P (xs ++ y ∷ []) x all (Contains-append_left xs (y ∷ []) x there)) xs (All-contains_itself xs)

pub all_last : {X : Type 0} (P : X → Type 0) (xs : List X) (y : X) → All P (xs ++ y ∷ []) → P y
all_last P xs y all = All-contains P (xs ++ y ∷ []) y all (Contains-push xs y)

-- a key that is put into a set is there already, or comes last
pub kept_key : {K : Type 0} (eq : K → K → Bool) → IsEquivalence eq → ((x y : K) → eq x y ≡ true → x ≡ y) → (ks : List K) (k : K) (next : List K) → next ≡ insert_key eq ks k
    → ((next ≡ ks) × Contains ks k) ⊎ ((next ≡ ks ++ k ∷ []) × (¬ (Contains ks k)))
kept_key eq laws exact ks k next is = by (list_any (eq k) ks) refl
  where
    by : (b : Bool) → list_any (eq k) ks ≡ b → ((next ≡ ks) × Contains ks k) ⊎ ((next ≡ ks ++ k ∷ []) × (¬ (Contains ks k)))
    by true among = inl (is ∙ ap (λ b. if b then ks else ks ++ k ∷ []) among, Contains-from_any exact k ks among)
    by false among = inr (is ∙ ap (λ b. if b then ks else ks ++ k ∷ []) among, λ there. true≢false (sym (list_any-from_Contains laws k ks there) ∙ among))
