-- Each step keeps the rule.
use Rattle.std.proofs.Common.{◌≡◌, ◌≢◌, ◌⊎◌, ⊎_elim, subst, ℕ, zero, suc, ◌==◌, ◌+◌, Bool, true, false, true≢false, List, [], ◌∷◌, ◌++◌, length, set, refl, sym, ap, ◌∙◌, arith, length-append}
use Rattle.std.specs.Prelude.{slice_index}
use Rattle.std.proofs.lemmas.Bool.Decides.{nat_tests}
use Rattle.atomic_table.proofs.Lists.{at_set, at_snoc, set_again}
use Rattle.atomic_table.specs.Table.{Allows, Joins, Me, Splits, State, keeps, opening, step}
use Rattle.kg_history.proofs.Prefixes.{prefix_longer, prefix_self}
use Rattle.kg_history.specs.Views.{Appends, Fits, IsKept, Learns, Looks, Sees, first_view, noted, spent, told}
use Rattle.kg_history.specs.declared.view.View.{View}
use lib.ListN.{get_elem?}
use mathlib.Core.List.{IsPrefix}
use mathlib.Core.Option.{none, some, some-injective, some-ne-none}
use prog.Atomic.{either}

off : false ≡ true → ⊥
off e = true≢false (sym e)

-- ---- the word

word_after : (words : List ℕ) (n m : ℕ) (f : ℕ → ℕ) → words ≡ n ∷ [] → f n ≡ m → set words 0 (f (slice_index words 0)) ≡ m ∷ []
word_after words n m f is to = subst (λ (l : List ℕ). set l 0 (f (slice_index l 0)) ≡ m ∷ []) (sym is) (ap (λ k. k ∷ []) to)

word_is : (words : List ℕ) (n : ℕ) → words ≡ n ∷ [] → slice_index words 0 ≡ n
word_is words n is = ap (λ l. slice_index l 0) is

next_word : (n len : ℕ) → n ≡ len → either (n == len) (len + 1) n ≡ len + 1
next_word n len is = go (n == len) (grind (arith, nat_tests))
  where
    go : (b : Bool) → b ≡ true → either b (len + 1) n ≡ len + 1
    go true e = refl
    go false e = absurd (off e)

module _ {E : Type 0} where
  -- ---- the views

  -- what the rule says of one view
  record Sits (history : List E) (writer at : ℕ) (view : View E) : Type 0 where
    fits : Fits history view
    alone : view.writes ≡ true → at ≡ writer

  sits : (state : State E (View E)) (kept : IsKept state) (at : ℕ) (view : View E) → get_elem? state.views at ≡ some view
      → Sits kept.history kept.writer at view
  sits state kept at view e = record { fits = kept.fits at view e; alone = kept.alone at view e }

  -- the rule of a state from what it says of each view
  kept_of : (state : State E (View E)) (history : List E) (writer : ℕ) → state.words ≡ length history ∷ []
      → ((at : ℕ) (view : View E) → get_elem? state.views at ≡ some view → Sits history writer at view) → IsKept state
  kept_of state history writer word all = record {
    history = history;
    writer = writer;
    word = word;
    fits = λ at view e. (all at view e).fits;
    alone = λ at view e. (all at view e).alone;
  }

  -- one view is set
  sits_set : (history : List E) (writer : ℕ) (views : List (View E)) (at : ℕ) (new : View E)
      → ((j : ℕ) (view : View E) → j ≢ at → get_elem? views j ≡ some view → Sits history writer j view) → Sits history writer at new
      → (j : ℕ) (view : View E) → get_elem? (set views at new) j ≡ some view → Sits history writer j view
  sits_set history writer views at new others mine j view e =
      ⊎_elim
      (λ (x : (j ≡ at) × (new ≡ view)). subst (λ (y : ℕ × View E). Sits history writer y.0 y.1) (λ k. (sym x.0 k, x.1 k)) mine)
      (λ (x : (j ≢ at) × (get_elem? views j ≡ some view)). others j view x.0 x.1)
      (at_set views at j new view e)

  nothing_fits : (history : List E) (writer at : ℕ) → Sits history writer at spent
  nothing_fits history writer at = record {
    fits = record { seen = (history, refl); told = (history, refl); whole = λ w. absurd (off w) };
    alone = λ w. absurd (off w);
  }

  -- ---- the first state

  pub begins : IsKept (opening {S = E} (0 ∷ []) [] first_view)
  begins = kept_of (opening {S = E} (0 ∷ []) [] first_view) [] 0 refl one
    where
      first : Sits [] 0 0 first_view
      first = record { fits = record { seen = ([], refl); told = ([], refl); whole = λ _. refl }; alone = λ _. refl }

      one : (at : ℕ) (view : View E) → get_elem? (first_view ∷ []) at ≡ some view → Sits [] 0 at view
      one zero view e = subst (Sits [] 0 0) (some-injective _ _ e) first
      one (suc at) view e = absurd (some-ne-none view (sym e))

  -- ---- append

  pub appends : (slots id len : ℕ) (me : Me E (View E)) (entry : E) → me.0.writes ≡ true → len ≡ length me.0.seen
      → Allows IsKept slots id me 0 (λ n. either (n == len) (len + 1) n) (Appends (step slots 0 len (len + 1) (some entry)) me)
  appends slots id len me entry writes is state kept _ at _ =
      let history = kept.history in
      let mine = sits state kept id me.0 at in
      let here : me.0.seen ≡ history = mine.fits.whole writes in
      let found : length history ≡ len = ap length (sym here) ∙ sym is in
      let longer = history ++ entry ∷ [] in
      let new : View E = record me.0 { seen = me.0.seen ++ entry ∷ [] } in
      let whole : new.seen ≡ longer = ap (λ l. l ++ entry ∷ []) here in
      let others : (j : ℕ) (view : View E) → j ≢ id → get_elem? state.views j ≡ some view → Sits longer kept.writer j view =
      λ j view apart e. let it = sits state kept j view e in record {
        fits = record {
          seen = prefix_longer view.seen history (entry ∷ []) it.fits.seen;
          told = prefix_longer view.told history (entry ∷ []) it.fits.told;
          whole = λ w. absurd (apart (it.alone w ∙ sym (mine.alone writes)));
        };
        alone = it.alone;
      } in
      let now : Sits longer kept.writer id new = record {
        fits = record {
          seen = subst (λ l. IsPrefix l longer) (sym whole) (prefix_self longer);
          told = prefix_longer me.0.told history (entry ∷ []) mine.fits.told;
          whole = λ _. whole;
        };
        alone = mine.alone;
      } in (
        new,
        keeps,
        tt,
        kept_of _ longer kept.writer
            (word_after state.words (length history) (length longer) (λ n. either (n == len) (len + 1) n) kept.word
            (next_word (length history) len found ∙ omega (arith, length-append history (entry ∷ []), found)))
            (sits_set longer kept.writer state.views id new others now),
        record { word = word_is state.words (length history) kept.word ∙ ap length (sym here); view = refl; slots = refl },
      )

  -- ---- loads

  -- a load after which the whole history is seen
  loads : (id : ℕ) (old : View E) (looks last : ℕ) (state : State E (View E)) (kept : IsKept state) → get_elem? state.views id ≡ some old
      → IsKept record {
        words = set state.words 0 (slice_index state.words 0);
        homes = state.homes;
        views = set state.views id (record old { seen = kept.history; told = []; looks = looks; last = last });
      }
      × Sees old (slice_index state.words 0) kept.history
  loads id old looks last state kept at =
      let history = kept.history in
      let mine = sits state kept id old at in
      let new : View E = record old { seen = history; told = []; looks = looks; last = last } in
      let now : Sits history kept.writer id new = record {
        fits = record { seen = prefix_self history; told = (history, refl); whole = λ _. refl };
        alone = mine.alone;
      } in (
        kept_of _ history kept.writer (word_after state.words (length history) (length history) (λ n. n) kept.word refl)
            (sits_set history kept.writer state.views id new (λ j view _ e. sits state kept j view e) now),
        record {
          seen = mine.fits.seen;
          told = mine.fits.told;
          word = sym (word_is state.words (length history) kept.word);
          whole = mine.fits.whole;
        },
      )

  pub looks : (slots id : ℕ) (me : Me E (View E)) → Allows IsKept slots id me 0 (λ n. n) (Looks (step slots 0 0 0 none) me)
  looks slots id me state kept _ at _ =
      let n = slice_index state.words 0 in
      let loaded = loads id me.0 (me.0.looks + 1) n state kept at in
      (_, keeps, tt, loaded.0, record { history = kept.history; sees = loaded.1; view = refl; slots = refl })

  pub learns : (slots id : ℕ) (me : Me E (View E)) → Allows IsKept slots id me 0 (λ n. n) (Learns (step slots 0 0 0 none) me)
  learns slots id me state kept _ at _ =
      let loaded = loads id me.0 me.0.looks me.0.last state kept at in
      (_, keeps, tt, loaded.0, record { history = kept.history; sees = loaded.1; view = refl; slots = refl })

  -- ---- notes

  pub notes : (id : ℕ) (view : View E) → Splits IsKept id view view (noted view)
  notes id view state kept at =
      let mine = sits state kept id view at in
      let note : (j : ℕ) → Sits kept.history kept.writer j (noted view) =
      λ j. record { fits = record { seen = mine.fits.seen; told = (kept.history, refl); whole = λ w. absurd (off w) }; alone = λ w. absurd (off w) } in
      kept_of _ kept.history kept.writer kept.word
      (λ j other e. ⊎_elim
      (λ was. sits state kept j other (subst (λ l. get_elem? l j ≡ some other) (set_again state.views id view at) was))
      (λ (same : noted view ≡ other). subst (Sits kept.history kept.writer j) same (note j))
      (at_snoc (set state.views id view) (noted view) other j e))

  pub joins : (id : ℕ) (view : View E) (other : ℕ) (note : View E) → Joins IsKept id view other note (told view note) spent
  joins id view other note state kept at apart there =
      let history = kept.history in
      let new = told view note in
      let mine = sits state kept id view at in
      let theirs : Sits history kept.writer other note = ⊎_elim
      (λ (t : (other ≡ id) × (new ≡ note)). absurd (apart t.0))
      (λ (t : (other ≢ id) × (get_elem? state.views other ≡ some note)). sits state kept other note t.1)
      (at_set state.views id other new note there) in
      let now : Sits history kept.writer id new = record {
        fits = record { seen = mine.fits.seen; told = theirs.fits.seen; whole = mine.fits.whole };
        alone = mine.alone;
      } in
      kept_of _ history kept.writer kept.word
      (sits_set history kept.writer (set state.views id new) other spent
      (λ j one _ e. sits_set history kept.writer state.views id new (λ i it _ found. sits state kept i it found) now j one e)
      (nothing_fits history kept.writer other))
