-- What a table of counts tells stays so when entries come, and when those go whose windows are over.
use Rattle.std.proofs.Common.{◌≡◌, ℕ, ◌≤◌, Bool, true, false, cond, ◌&&◌, nat_eq, List, [], ◌∷◌, ◌++◌, length, slice_get, Option, Some, None, IfSome, IfNone, refl, sym, ap, subst, ◌∙◌, true≢false, arith}
use Rattle.std.proofs.lemmas.Bool.{eqb-true}
use Rattle.std.proofs.lemmas.Map.Made.{lookup_key_passes}
use Rattle.std.proofs.lemmas.Cmp.{nat_eq_equiv}
use Rattle.std.specs.Map.{lookup, lookup_key}
use Rattle.std.specs.Cmp.{IsEquivalence, and_equiv, on_equiv}
use Rattle.std.specs.Cmp.Lexicographic.{on_texts_equal, pointwise}
use Rattle.indexmap.specs.IndexMap.{Updates}
use Rattle.kg_text.specs.SameBytes.{same_bytes}
use Rattle.kg_limit.specs.Counting.{Sets, StandsAt, TellsSame, count_of, is_over, kept, key_eq, used_in, used_of}
use Rattle.kg_limit.specs.declared.count_table.CountKey.{CountKey}
use Rattle.kg_limit.specs.declared.count_table.CountTable.{CountTable}
use Rattle.kg_limit.specs.declared.counts.Counts.{Counts}
use Rattle.kg_limit.specs.declared.window.Window.{Window}
use Rattle.kg_limit.proofs.WindowLemmas.{over_by}

-- ---- keys

pub key_laws : IsEquivalence key_eq
key_laws = and_equiv (on_equiv (λ (key : CountKey). key.row) nat_eq_equiv) (on_texts_equal (λ (key : CountKey). key.identity))

pub same_key : (a b : CountKey) → key_eq a b ≡ true → a ≡ b
same_key a b = both (nat_eq a.row b.row) (pointwise nat_eq a.identity b.identity) refl refl
  where
    both : (p q : Bool) → nat_eq a.row b.row ≡ p → pointwise nat_eq a.identity b.identity ≡ q → (p && q) ≡ true → a ≡ b
    both true true rows identities same =
        let row = eqb-true a.row b.row rows in
        let identity = same_bytes a.identity b.identity identities in
        λ i. record { row = row i; identity = identity i }
    both true false rows identities same = absurd (true≢false (sym same))
    both false q rows identities same = absurd (true≢false (sym same))

-- ---- one entry

-- nothing is told of a later time by an entry whose windows are over
pub over_unused : (counts : Counts) (by time : ℕ) (window : Window) → is_over counts by ≡ true → by ≤ time → used_in counts window time ≡ 0
over_unused counts by time window over later =
    ap (λ b. cond {A = ℕ} b (count_of counts window) 0) (over_by counts.last by time window over later)

module _ (old new : CountTable) (key : CountKey) where
  kept_of_same : (other : CountKey) → key_eq key other ≡ true → kept old other ≡ kept old key
  kept_of_same other same = ap (kept old) (sym (same_key key other same))

  -- a new entry without hits
  pub blank_added : (blank : Counts) → ((window : Window) (time : ℕ) → used_in blank window time ≡ 0) → blank.last ≡ 0
      → kept old key ≡ None → Sets old new key (Some blank) → TellsSame 0 old new
  blank_added blank unused first absent sets = record {
    used = λ other window time _. ap (λ k. used_of k window time) (sets other) ∙ told other window time (key_eq key other) refl;
    ahead = λ time not_ahead other. subst (λ k. IfSome k (λ counts. counts.last ≤ time)) (sym (sets other)) (not_ahead_still other time (key_eq key other) (not_ahead other));
  }
    where
      told : (other : CountKey) (window : Window) (time : ℕ) (same : Bool) → key_eq key other ≡ same
          → used_of (cond same (Some blank) (kept old other)) window time ≡ used_of (kept old other) window time
      told other window time true is = unused window time ∙ ap (λ k. used_of k window time) (sym (kept_of_same other is ∙ absent))
      told other window time false is = refl

      not_ahead_still : (other : CountKey) (time : ℕ) (same : Bool) → IfSome (kept old other) (λ counts. counts.last ≤ time)
          → IfSome (cond same (Some blank) (kept old other)) (λ counts. counts.last ≤ time)
      not_ahead_still other time true not_ahead = omega (arith, first)
      not_ahead_still other time false not_ahead = not_ahead

  -- an entry whose windows are over goes
  pub over_dropped : (time : ℕ) (counts : Counts) → kept old key ≡ Some counts → is_over counts time ≡ true → Sets old new key None
      → TellsSame time old new
  over_dropped time counts there over sets = record {
    used = λ other window at later. ap (λ k. used_of k window at) (sets other) ∙ told other window at later (key_eq key other) refl;
    ahead = λ at not_ahead other. subst (λ k. IfSome k (λ one. one.last ≤ at)) (sym (sets other)) (not_ahead_still other at (key_eq key other) (not_ahead other));
  }
    where
      told : (other : CountKey) (window : Window) (at : ℕ) → time ≤ at → (same : Bool) → key_eq key other ≡ same
          → used_of (cond same None (kept old other)) window at ≡ used_of (kept old other) window at
      told other window at later true is =
          sym (ap (λ k. used_of k window at) (kept_of_same other is ∙ there) ∙ over_unused counts time at window over later)
      told other window at later false is = refl

      not_ahead_still : (other : CountKey) (at : ℕ) (same : Bool) → IfSome (kept old other) (λ one. one.last ≤ at)
          → IfSome (cond same None (kept old other)) (λ one. one.last ≤ at)
      not_ahead_still other at true not_ahead = tt
      not_ahead_still other at false not_ahead = not_ahead

-- ---- tables

-- the same entries
pub unchanged : (from : ℕ) (old new : CountTable) → new.entries.entries ≡ old.entries.entries → TellsSame from old new
unchanged from old new same = record {
  used = λ key window time _. ap (λ k. used_of k window time) (kept_same key);
  ahead = λ time not_ahead key. subst (λ k. IfSome k (λ counts. counts.last ≤ time)) (sym (kept_same key)) (not_ahead key);
}
  where
    kept_same : (key : CountKey) → kept new key ≡ kept old key
    kept_same key = ap (lookup (key_eq key)) same

pub told_on : (from : ℕ) (first second third : CountTable) → TellsSame from first second → TellsSame from second third → TellsSame from first third
told_on from first second third one two = record {
  used = λ key window time later. two.used key window time later ∙ one.used key window time later;
  ahead = λ time not_ahead. two.ahead time (one.ahead time not_ahead);
}

-- one change after the other; the last one keeps all times
pub all_told : (from : ℕ) (first second third last : CountTable) → TellsSame from first second → TellsSame from second third → TellsSame 0 third last
    → TellsSame from first last
all_told from first second third last one two three = record {
  used = λ key window time later. three.used key window time (omega arith) ∙ two.used key window time later ∙ one.used key window time later;
  ahead = λ time not_ahead. three.ahead time (two.ahead time (one.ahead time not_ahead));
}

-- ---- where an entry stands

-- the entry that is found is that of the key
pub stands_found : (table : CountTable) (key other : CountKey) (counts : Counts) (at : ℕ) → Some other ≡ lookup_key (key_eq key) table.entries.entries
    → slice_get table.entries.entries at ≡ Some (other, counts) → StandsAt table key at
stands_found table key other counts at found stands =
    let same = same_key key other (lookup_key_passes (key_eq key) table.entries.entries other (sym found)) in
    (counts, stands ∙ ap (λ k. Some (k, counts)) (sym same))

-- a new entry stands last
pub stands_last : {X : Type 0} (old new : List X) (entry : X) (at : ℕ) → new ≡ old ++ entry ∷ [] → at ≡ length old → slice_get new at ≡ Some entry
stands_last old new entry at is last = ap (λ l. slice_get l at) is ∙ ap (slice_get (old ++ entry ∷ [])) last ∙ behind old entry
  where
    behind : {X : Type 0} (xs : List X) (x : X) → slice_get (xs ++ x ∷ []) (length xs) ≡ Some x
    behind [] x = refl
    behind (y ∷ ys) x = behind ys x

-- an entry that is taken out by its index, once its windows are over
pub taken_out : (old new : CountTable) (at time : ℕ) (counts : Counts) (taken : Option (CountKey × Counts)) → taken ≡ slice_get old.entries.entries at
    → IfSome taken (λ entry. Updates key_eq old.entries new.entries entry.0 None) → IfNone taken (new.entries.entries ≡ old.entries.entries)
    → ((key : CountKey) → StandsAt old key at → kept old key ≡ Some counts) → is_over counts time ≡ true → TellsSame time old new
taken_out old new at time counts None stood updates same there over = unchanged time old new same
taken_out old new at time counts (Some entry) stood updates same there over =
    over_dropped old new entry.0 time counts (there entry.0 (entry.1, sym stood)) over updates.0
