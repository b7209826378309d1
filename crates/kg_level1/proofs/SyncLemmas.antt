-- A level as the commits come one by one, against what all of them leave of it.
use Rattle.std.proofs.Common.{◌≡◌, ℕ, ◌+◌, ◌<◌, ◌≤◌, max, Bool, true, false, not, ◌&&◌, ◌||◌, nat_lt, List, [], ◌∷◌, length, filter, refl, sym, ap, ap₂, ◌∙◌, arith, le_refl, ltb-true, ltb-false, lt-ltb, le-ltb}
use Rattle.std.proofs.lemmas.Bool.{cond_both}
use Rattle.std.proofs.lemmas.List.Elements.{filter_agree}
use Rattle.kg_level1.specs.Changing.{after_sync, is_touched, names}
use Rattle.kg_level1.specs.Commits.{after_commit, after_commits, outlasts}
use Rattle.kg_level1.specs.Entries.{Kept, Level}
use Rattle.kg_level1.proofs.DropLemmas.{filter_all, filter_filter}

module _ {K : Type 0} (eq : K → K → Bool) where
  -- every commit of the lists is numbered above both
  pub is_touched_above : (lists : List (List K)) (from a b : ℕ) (k : K) → a ≤ from → b ≤ from → is_touched eq from a lists k ≡ is_touched eq from b lists k
  is_touched_above [] from a b k first second = refl
  is_touched_above (keys ∷ lists) from a b k first second = ap₂ (λ x y. (x && names eq keys k) || y)
      (lt-ltb a (from + 1) (omega arith) ∙ sym (lt-ltb b (from + 1) (omega arith)))
      (is_touched_above lists (from + 1) a b k (omega arith) (omega arith))

  -- a commit of this number or an earlier one isn't above it
  pub is_touched_late : (keys : List K) (lists : List (List K)) (from above : ℕ) (k : K) → from + 1 ≤ above
      → is_touched eq from above (keys ∷ lists) k ≡ is_touched eq (from + 1) above lists k
  is_touched_late keys lists from above k late = ap (λ x. (x && names eq keys k) || is_touched eq (from + 1) above lists k) (le-ltb above (from + 1) late)

  pub is_touched_early : (keys : List K) (lists : List (List K)) (from above : ℕ) (k : K) → above ≤ from
      → is_touched eq from above (keys ∷ lists) k ≡ (names eq keys k || is_touched eq (from + 1) above lists k)
  is_touched_early keys lists from above k early = ap (λ x. (x && names eq keys k) || is_touched eq (from + 1) above lists k) (lt-ltb above (from + 1) (omega arith))

module _ {K V : Type 0} (eq : K → K → Bool) where
  -- an entry outlasts the first commit and the later ones, where it outlasts all
  outlasts_all : (keys : List K) (lists : List (List K)) (from pos : ℕ) (e : K × Kept V) → from ≡ pos
      → not (is_touched eq from (max e.1.stamp pos) (keys ∷ lists) e.0)
      ≡ (outlasts eq (from + 1) keys e && not (is_touched eq (from + 1) (max e.1.stamp (from + 1)) lists e.0))
  outlasts_all keys lists from pos e here = by_age (nat_lt e.1.stamp (from + 1)) refl
    where
      both : (named later : Bool) → not (named || later) ≡ (not (named && true) && not later)
      both true later = refl
      both false later = refl

      younger : (named later : Bool) → not later ≡ (not (named && false) && not later)
      younger true later = refl
      younger false later = refl

      by_age : (b : Bool) → nat_lt e.1.stamp (from + 1) ≡ b
          → not (is_touched eq from (max e.1.stamp pos) (keys ∷ lists) e.0)
          ≡ (not (names eq keys e.0 && b) && not (is_touched eq (from + 1) (max e.1.stamp (from + 1)) lists e.0))
      by_age true is =
          let old : e.1.stamp < from + 1 = ltb-true e.1.stamp (from + 1) is in
          ap not (is_touched_early eq keys lists from (max e.1.stamp pos) e.0 (omega arith)
          ∙ ap (λ x. names eq keys e.0 || x) (is_touched_above eq lists (from + 1) (max e.1.stamp pos) (max e.1.stamp (from + 1)) e.0 (omega arith) (omega arith)))
          ∙ both (names eq keys e.0) (is_touched eq (from + 1) (max e.1.stamp (from + 1)) lists e.0)
      by_age false is =
          let young : from + 1 ≤ e.1.stamp = ltb-false e.1.stamp (from + 1) is in
          let above : max e.1.stamp pos ≡ max e.1.stamp (from + 1) = omega arith in
          ap not (is_touched_late eq keys lists from (max e.1.stamp pos) e.0 (omega arith) ∙ ap (λ a. is_touched eq (from + 1) a lists e.0) above)
          ∙ younger (names eq keys e.0) (is_touched eq (from + 1) (max e.1.stamp (from + 1)) lists e.0)

  abbrev made : ℕ → ℕ → List (K × Kept V) → Level K V
  made room pos entries = record { room = room; pos = pos; entries = entries }

  -- an entry that the commits leave which a level at this position doesn't know
  abbrev stays : ℕ → ℕ → List (List K) → K × Kept V → Bool
  stays from pos lists e = not (is_touched eq from (max e.1.stamp pos) lists e.0)

  new_commit : (keys : List K) (lists : List (List K)) (from : ℕ) (l : Level K V) → from ≡ l.pos
      → after_sync eq from (keys ∷ lists) l ≡ after_sync eq (from + 1) lists (made l.room (from + 1) (filter (outlasts eq (from + 1) keys) l.entries))
  new_commit keys lists from l here =
      let reach : max l.pos (from + length (keys ∷ lists)) ≡ max (from + 1) (from + 1 + length lists) = omega arith in
      ap₂ (made l.room) reach
      (filter_agree (stays from l.pos (keys ∷ lists)) (λ e. outlasts eq (from + 1) keys e && stays (from + 1) (from + 1) lists e)
      (λ e. outlasts_all keys lists from l.pos e here) l.entries
      ∙ sym (filter_filter (stays (from + 1) (from + 1) lists) (outlasts eq (from + 1) keys) l.entries))

  known_commit : (keys : List K) (lists : List (List K)) (from : ℕ) (l : Level K V) → from + 1 ≤ l.pos
      → after_sync eq from (keys ∷ lists) l ≡ after_sync eq (from + 1) lists l
  known_commit keys lists from l past =
      let reach : max l.pos (from + length (keys ∷ lists)) ≡ max l.pos (from + 1 + length lists) = omega arith in
      ap₂ (made l.room) reach (filter_agree (stays from l.pos (keys ∷ lists)) (stays (from + 1) l.pos lists)
      (λ e. ap not (is_touched_late eq keys lists from (max e.1.stamp l.pos) e.0 (omega arith))) l.entries)

  -- the first commit may come before the others
  pub sync_more : (keys : List K) (lists : List (List K)) (from : ℕ) (l : Level K V) → from ≤ l.pos
      → after_sync eq from (keys ∷ lists) l ≡ after_sync eq (from + 1) lists (after_commit eq (from + 1) keys l)
  sync_more keys lists from l start = cond_both (nat_lt l.pos (from + 1))
      (made l.room (from + 1) (filter (outlasts eq (from + 1) keys) l.entries)) l
      (λ m. after_sync eq from (keys ∷ lists) l ≡ after_sync eq (from + 1) lists m)
      (λ is. let next : l.pos < from + 1 = ltb-true l.pos (from + 1) is in new_commit keys lists from l (omega arith))
      (λ is. known_commit keys lists from l (ltb-false l.pos (from + 1) is))

  commit_reaches : (n : ℕ) (keys : List K) (l : Level K V) → n ≤ (after_commit eq n keys l).pos
  commit_reaches n keys l = cond_both (nat_lt l.pos n) (made l.room n (filter (outlasts eq n keys) l.entries)) l
      (λ m. n ≤ m.pos) (λ is. le_refl n) (λ is. ltb-false l.pos n is)

  -- commits that come one by one leave what all of them leave
  pub commits_sync : (lists : List (List K)) (from : ℕ) (l : Level K V) → from ≤ l.pos → after_commits eq from lists l ≡ after_sync eq from lists l
  commits_sync [] from l start = let here : l.pos ≡ max l.pos (from + 0) = omega arith in ap₂ (made l.room) here (sym (filter_all l.entries))
  commits_sync (keys ∷ lists) from l start =
      commits_sync lists (from + 1) (after_commit eq (from + 1) keys l) (commit_reaches (from + 1) keys l) ∙ sym (sync_more keys lists from l start)
