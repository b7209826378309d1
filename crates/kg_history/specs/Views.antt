-- The rule of a history (this project's own): one word, which is its length, and what each holder knows of it.
use Rattle.std.specs.Prelude.{◌≡◌, ℕ, ◌+◌, Bool, true, false, List, [], ◌∷◌, ◌++◌, length}
use Rattle.atomic_table.specs.Table.{Me, State, Step}
use Rattle.kg_history.specs.declared.view.View.{View}
use lib.ListN.{get_elem?}
use mathlib.Core.List.{IsPrefix}
use mathlib.Core.Option.{Option, none, some}

module _ {E : Type 0} where
  -- ---- views

  abbrev pub first_view : View E
  first_view = record { writes = true; seen = []; told = []; looks = 0; last = 0 }

  -- a view that has seen this, and no more
  abbrev pub noted : View E → View E
  noted view = record { writes = false; seen = view.seen; told = []; looks = 0; last = 0 }

  -- a view that was told what another has seen
  abbrev pub told : View E → View E → View E
  told view other = record view { told = other.seen }

  -- what is left of a note that was taken
  abbrev pub spent : View E
  spent = record { writes = false; seen = []; told = []; looks = 0; last = 0 }

  -- ---- the rule

  -- what is seen and what was told are fronts of the history; the writer has seen it all
  pub record Fits (history : List E) (view : View E) : Type 0 where
    pub seen : IsPrefix view.seen history
    pub told : IsPrefix view.told history
    pub whole : view.writes ≡ true → view.seen ≡ history

  -- the word is the history's length, and one at most writes
  pub record IsKept (state : State E (View E)) : Type 0 where
    pub history : List E
    pub writer : ℕ
    pub word : state.words ≡ length history ∷ []
    pub fits : (at : ℕ) (view : View E) → get_elem? state.views at ≡ some view → Fits history view
    pub alone : (at : ℕ) (view : View E) → get_elem? state.views at ≡ some view → view.writes ≡ true → at ≡ writer

  -- ---- the steps

  abbrev pub entries_said : Option E → List E
  entries_said none = []
  entries_said (some entry) = entry ∷ []

  -- the word was as long as what the writer has seen, and the entry is added
  pub record Appends (step : Step E) (old : Me E (View E)) (found : ℕ) (new : Me E (View E)) : Type 0 where
    pub word : found ≡ length old.0.seen
    pub view : new.0 ≡ record old.0 { seen = old.0.seen ++ entries_said step.said }
    pub slots : new.1 ≡ old.1

  -- all of the history is seen, as long as the word was
  pub record Sees (old : View E) (found : ℕ) (history : List E) : Type 0 where
    pub seen : IsPrefix old.seen history
    pub told : IsPrefix old.told history
    pub word : length history ≡ found
    pub whole : old.writes ≡ true → old.seen ≡ history

  pub record Looks (step : Step E) (old : Me E (View E)) (found : ℕ) (new : Me E (View E)) : Type 0 where
    pub history : List E
    pub sees : Sees old.0 found history
    pub view : new.0 ≡ record old.0 { seen = history; told = []; looks = old.0.looks + 1; last = found }
    pub slots : new.1 ≡ old.1

  pub record Learns (step : Step E) (old : Me E (View E)) (found : ℕ) (new : Me E (View E)) : Type 0 where
    pub history : List E
    pub sees : Sees old.0 found history
    pub view : new.0 ≡ record old.0 { seen = history; told = [] }
    pub slots : new.1 ≡ old.1
