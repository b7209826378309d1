-- Coherent levels: what they answer holds, and each call leaves them coherent.
use Rattle.std.proofs.Common.{◌≡◌, ℕ, zero, suc, ◌+◌, ◌-◌, ◌<◌, ◌≤◌, max, ◌⊎◌, Bool, true, false, cond, not, ◌&&◌, nat_lt, List, [], ◌∷◌, length, filter, Contains, Option, Some, None, is_some, option_and_then, refl, sym, ap, subst, ◌∙◌, inl, inr, arith, le_trans, ltb-false, ltb-true, lt-ltb, if◌then◌else◌}
use Rattle.std.proofs.lemmas.Bool.{cond_both, not-true, or_parts}
use Rattle.std.proofs.lemmas.List.Elements.{All-contains, All-contains_itself, All-filter, filter_passes}
use Rattle.std.specs.Map.{lookup, set_value}
use Rattle.std.specs.Option.{option_map_or}
use Rattle.lru.specs.LruCache.{lru_cache, promoted, put_entries}
use Rattle.lru.proofs.CallerLemmas.{Contains-lookup, Contains-promoted, Contains-put_entries}
use Rattle.lru.proofs.Splits.{Contains-head, Contains-tail, Contains-cons, Contains-nil}
use Rattle.kg_level1.specs.Changing.{after_extend, after_jump, after_put, after_sync, emptied, is_touched, names}
use Rattle.kg_level1.specs.Coherent.{Agrees, Holds, IsCoherentEntry, IsCoherentLevel, Leaves, NamesChanges}
use Rattle.kg_level1.specs.Entries.{Kept, Level, empty_level}
use Rattle.kg_level1.specs.Reading.{after_answer, found_entry, is_live}

-- what a filter keeps was there, and passes
pub in_filter : {X : Type 0} (p : X → Bool) (xs : List X) (x : X) → Contains (filter p xs) x → Contains xs x × (p x ≡ true)
in_filter p xs x kept = (
  All-contains (Contains xs) (filter p xs) x (All-filter p (Contains xs) xs (All-contains_itself xs)) kept,
  All-contains (λ y. p y ≡ true) (filter p xs) x (filter_passes p xs) kept,
)

-- an entry is what it was, or has the new value
module _ {K X : Type 0} (test : K → Bool) where
  pub in_set : (es : List (K × X)) (w : X) (j : K) (d : X) → Contains (set_value test es w) (j, d) → Contains es (j, d) ⊎ ((d ≡ w) × (test j ≡ true))
  in_set [] w j d there = inl there
  in_set (e ∷ es) w j d there = by_test (test e.0) refl (in_set es w j d) there
    where
      by_test : (b : Bool) → test e.0 ≡ b → (Contains (set_value test es w) (j, d) → Contains es (j, d) ⊎ ((d ≡ w) × (test j ≡ true)))
          → Contains (cond b ((e.0, w) ∷ es) (e ∷ set_value test es w)) (j, d) → Contains (e ∷ es) (j, d) ⊎ ((d ≡ w) × (test j ≡ true))
      by_test true is rest found = elim (Contains-cons (e.0, w) es (j, d) found) [
        | inl here ↦ inr (sym (ap (λ p. p.1) here), ap test (sym (ap (λ p. p.0) here)) ∙ is)
        | inr behind ↦ inl (Contains-tail e es (j, d) behind)
      ]
      by_test false is rest found = elim (Contains-cons e (set_value test es w) (j, d) found) [
        | inl here ↦ inl (subst (Contains (e ∷ es)) here (Contains-head e es))
        | inr behind ↦ elim (rest behind) [ inl kept ↦ inl (Contains-tail e es (j, d) kept) | inr changed ↦ inr changed ]
      ]

-- ---- values over a stretch of commits

module _ {K X : Type 0} (value : K → ℕ → X) where
  stays_for : (d from : ℕ) (k : K) → ((n : ℕ) → from ≤ n → n < from + d → Leaves value k n) → value k from ≡ value k (from + d)
  stays_for zero from k steady = let here : from ≡ from + zero = omega arith in ap (value k) here
  stays_for (suc d) from k steady =
      let next : from + d + 1 ≡ from + suc d = omega arith in
      stays_for d from k (λ n low high. steady n low (omega arith)) ∙ steady (from + d) (omega arith) (omega arith) ∙ ap (value k) next

  -- a value that no commit up to the position changes is the key's there too
  pub stays_until : (from pos : ℕ) (k : K) → ((n : ℕ) → from ≤ n → n < pos → Leaves value k n) → value k from ≡ value k (max from pos)
  stays_until from pos k steady =
      let last : from + (pos - from) ≡ max from pos = omega arith in
      stays_for (pos - from) from k (λ n low high. steady n low (omega arith)) ∙ ap (value k) last

  -- a key that isn't touched keeps its value
  pub untouched_leaves : (eq : K → K → Bool) (lists : List (List K)) (from above : ℕ) (k : K) → NamesChanges value eq from lists
      → is_touched eq from above lists k ≡ false → (n : ℕ) → above ≤ n → from ≤ n → n < from + length lists → Leaves value k n
  untouched_leaves eq [] from above k exact untouched n later low high = absurd (omega arith)
  untouched_leaves eq (keys ∷ lists) from above k exact untouched n later low high = first_or_rest (nat_lt from n) refl
      (λ rest after before. untouched_leaves eq lists (from + 1) above k exact.1 rest n later after before)
    where
      parts : ((nat_lt above (from + 1) && names eq keys k) ≡ false) × (is_touched eq (from + 1) above lists k ≡ false)
      parts = or_parts (nat_lt above (from + 1) && names eq keys k) (is_touched eq (from + 1) above lists k) untouched

      first_or_rest : (b : Bool) → nat_lt from n ≡ b
          → (is_touched eq (from + 1) above lists k ≡ false → from + 1 ≤ n → n < from + 1 + length lists → Leaves value k n) → Leaves value k n
      first_or_rest true is behind = let past : from < n = ltb-true from n is in behind parts.1 (omega arith) (omega arith)
      first_or_rest false is behind = let not_past : n ≤ from = ltb-false from n is in let here : from ≡ n = omega arith in
          subst (Leaves value k) here (exact.0 k (ap (λ x. x && names eq keys k) (sym (lt-ltb above (from + 1) (omega arith))) ∙ parts.0))

-- ---- what a coherent level answers

module _ {K V X : Type 0} (shows : V → X) (value : K → ℕ → X) (size : ℕ) where
  -- an entry's value is the key's at the greater of its stamp and the position
  pub entry_holds : (pos : ℕ) (k : K) (e : Kept V) → pos ≤ size → IsCoherentEntry shows value size pos k e
      → Holds shows value size 0 k (record e { stamp = max e.stamp pos })
  entry_holds pos k e known coherent = record {
    same = coherent.same ∙ stays_until value e.stamp pos k coherent.steady;
    from = omega arith;
    within = let within : e.stamp ≤ size = coherent.within in omega arith;
  }

  module _ (eq : K → K → Bool) (same_key : (x y : K) → eq x y ≡ true → x ≡ y) (l : Level K V) (coherent : IsCoherentLevel shows value size l) where
    -- the entry that a look-up finds is coherent
    pub looked_up : (k : K) (e : Kept V) → lookup (eq k) l.entries ≡ Some e → IsCoherentEntry shows value size l.pos k e
    looked_up k e there = let at_key = Contains-lookup (eq k) l.entries e there in
        subst (λ j. IsCoherentEntry shows value size l.pos j e) (sym (same_key k at_key.0 at_key.2)) (coherent.each at_key.0 e at_key.1)

    pub found_holds : (k : K) (least now : ℕ) (e : Kept V) → found_entry eq l k least now ≡ Some e → Holds shows value size least k e
    found_holds k least now e found = by_entry (lookup (eq k) l.entries) refl found
      where
        by_age : (d : Kept V) (b : Bool) → nat_lt d.stamp least ≡ b → Holds shows value size 0 k d → cond b None (Some d) ≡ Some e → Holds shows value size least k e
        by_age d true is holds none = cc
        by_age d false is holds same = let here : d ≡ e = cc in
            subst (Holds shows value size least k) here (record { same = holds.same; from = ltb-false d.stamp least is; within = holds.within })

        by_life : (d : Kept V) (b : Bool) → Holds shows value size 0 k d
            → option_and_then (λ (c : Kept V). if nat_lt c.stamp least then None else Some c) (cond b (Some d) None) ≡ Some e → Holds shows value size least k e
        by_life d true holds is = by_age d (nat_lt d.stamp least) refl holds is
        by_life d false holds none = cc

        by_entry : (o : Option (Kept V)) → lookup (eq k) l.entries ≡ o
            → option_and_then (λ (c : Kept V). if nat_lt c.stamp least then None else Some c)
            (option_and_then (λ (d : Kept V). if is_live d now then Some (record d { stamp = max d.stamp l.pos }) else None) o) ≡ Some e
            → Holds shows value size least k e
        by_entry None absent none = cc
        by_entry (Some d) there is = by_life (record d { stamp = max d.stamp l.pos }) (is_live d now)
            (entry_holds l.pos k d coherent.within (looked_up k d there)) is

-- ---- what the calls leave

module _ {K V X : Type 0} (shows : V → X) (value : K → ℕ → X) (size : ℕ) (eq : K → K → Bool) where
  pub made_coherent : (room pos : ℕ) → pos ≤ size → IsCoherentLevel shows value size (empty_level {K = K} {V = V} room pos)
  made_coherent room pos known = record { within = known; each = λ k e none. absurd (Contains-nil (k, e) none) }

  promoted_coherent : (l : Level K V) (k : K) → IsCoherentLevel shows value size l → IsCoherentLevel shows value size (record l { entries = promoted (eq k) l.entries })
  promoted_coherent l k coherent = record {
    within = coherent.within;
    each = λ j e there. coherent.each j e (Contains-promoted (eq k) l.entries (j, e) there);
  }

  pub answer_coherent : (l : Level K V) (k : K) (answer : Option (Kept V)) → IsCoherentLevel shows value size l → IsCoherentLevel shows value size (after_answer eq l k answer)
  answer_coherent l k answer coherent = cond_both (is_some answer) (record l { entries = promoted (eq k) l.entries }) l
      (IsCoherentLevel shows value size) (λ is. promoted_coherent l k coherent) (λ is. coherent)

  -- a value that was read at a position not below the level's is a coherent entry
  pub read_coherent : (pos : ℕ) (k : K) (e : Kept V) → pos ≤ e.stamp → e.stamp ≤ size → shows e.val ≡ value k e.stamp → IsCoherentEntry shows value size pos k e
  read_coherent pos k e late known same = record { within = known; same = same; steady = λ n low high. absurd (omega arith) }

  module _ (same_key : (x y : K) → eq x y ≡ true → x ≡ y) where
    -- a coherent entry may be put
    pub put_coherent : (l : Level K V) (k : K) (e : Kept V) → IsCoherentEntry shows value size l.pos k e
        → IsCoherentLevel shows value size l → IsCoherentLevel shows value size (after_put eq l k e)
    put_coherent l k e entry coherent = record { within = coherent.within; each = each }
      where
        at_key : (j : K) (d : Kept V) → d ≡ e → k ≡ j → IsCoherentEntry shows value size l.pos j d
        at_key j d val key = subst (λ i. IsCoherentEntry shows value size l.pos i d) key (subst (IsCoherentEntry shows value size l.pos k) (sym val) entry)

        each : (j : K) (d : Kept V) → Contains (put_entries eq (lru_cache l.entries l.room) k e) (j, d) → IsCoherentEntry shows value size l.pos j d
        each j d there = elim (Contains-put_entries eq (lru_cache l.entries l.room) k e (j, d) there) [
          | inl before ↦ coherent.each j d before
          | inr put ↦ elim put.1 [ inl new ↦ at_key j d put.0 (sym new) | inr kept ↦ at_key j d put.0 (same_key k j kept.2) ]
        ]

    pub extend_coherent : (l : Level K V) (k : K) (until : ℕ) → IsCoherentLevel shows value size l → IsCoherentLevel shows value size (after_extend eq l k until)
    extend_coherent l k until coherent = by_entry (lookup (eq k) l.entries) refl
      where
        longer : (e : Kept V) (j : K) (d : Kept V) → lookup (eq k) l.entries ≡ Some e → d ≡ record e { expires = until } → eq k j ≡ true → IsCoherentEntry shows value size l.pos j d
        longer e j d there val key = let entry = looked_up shows value size eq same_key l coherent k e there in
            subst (λ i. IsCoherentEntry shows value size l.pos i d) (same_key k j key)
            (subst (IsCoherentEntry shows value size l.pos k) (sym val) (record { within = entry.within; same = entry.same; steady = entry.steady }))

        extended : (e : Kept V) → lookup (eq k) l.entries ≡ Some e
            → IsCoherentLevel shows value size (record l { entries = set_value (eq k) (promoted (eq k) l.entries) (record e { expires = until }) })
        extended e there = record {
          within = coherent.within;
          each = λ j d found. elim (in_set (eq k) (promoted (eq k) l.entries) (record e { expires = until }) j d found) [
            | inl kept ↦ coherent.each j d (Contains-promoted (eq k) l.entries (j, d) kept)
            | inr changed ↦ longer e j d there changed.0 changed.1
          ];
        }

        by_entry : (o : Option (Kept V)) → lookup (eq k) l.entries ≡ o
            → IsCoherentLevel shows value size (option_map_or (λ e. record l { entries = set_value (eq k) (promoted (eq k) l.entries) (record e { expires = until }) }) o l)
        by_entry None absent = coherent
        by_entry (Some e) there = extended e there

  -- the commits that a sync brings change what they touch alone
  pub sync_coherent : (from : ℕ) (lists : List (List K)) (l : Level K V) → from ≤ l.pos → from + length lists ≤ size → NamesChanges value eq from lists
      → IsCoherentLevel shows value size l → IsCoherentLevel shows value size (after_sync eq from lists l)
  sync_coherent from lists l start end exact coherent = record {
    within = let known : l.pos ≤ size = coherent.within in omega arith;
    each = λ k e there. kept k e (in_filter (λ (d : K × Kept V). not (is_touched eq from (max d.1.stamp l.pos) lists d.0)) l.entries (k, e) there);
  }
    where
      kept : (k : K) (e : Kept V) → Contains l.entries (k, e) × (not (is_touched eq from (max e.stamp l.pos) lists k) ≡ true)
          → IsCoherentEntry shows value size (max l.pos (from + length lists)) k e
      kept k e was = record { within = before.within; same = before.same; steady = λ n low high. steady n low high (nat_lt n l.pos) refl }
        where
          before : IsCoherentEntry shows value size l.pos k e
          before = coherent.each k e was.0

          steady : (n : ℕ) → e.stamp ≤ n → n < max l.pos (from + length lists) → (b : Bool) → nat_lt n l.pos ≡ b → Leaves value k n
          steady n low high true is = before.steady n low (ltb-true n l.pos is)
          steady n low high false is = let late : l.pos ≤ n = ltb-false n l.pos is in
              untouched_leaves value eq lists from (max e.stamp l.pos) k exact (not-true _ was.1) n (omega arith) (omega arith) (omega arith)

  pub emptied_coherent : (to : ℕ) (l : Level K V) → to ≤ size → IsCoherentLevel shows value size (emptied to l)
  emptied_coherent to l known = record { within = known; each = λ k e none. absurd (Contains-nil (k, e) none) }

  pub jump_coherent : (to : ℕ) (l : Level K V) → to ≤ size → IsCoherentLevel shows value size l → IsCoherentLevel shows value size (after_jump to l)
  jump_coherent to l known coherent = cond_both (nat_lt l.pos to) (emptied to l) l (IsCoherentLevel shows value size) (λ is. emptied_coherent to l known) (λ is. coherent)

-- a level is coherent with each longer history too
module _ {K V X : Type 0} (shows : V → X) (value longer : K → ℕ → X) (size more : ℕ) where
  pub longer_coherent : (l : Level K V) → Agrees value longer size → size ≤ more → IsCoherentLevel shows value size l → IsCoherentLevel shows longer more l
  longer_coherent l agrees grown coherent = record { within = le_trans coherent.within grown; each = each }
    where
      each : (k : K) (e : Kept V) → Contains l.entries (k, e) → IsCoherentEntry shows longer more l.pos k e
      each k e there = let entry = coherent.each k e there in let within : e.stamp ≤ size = entry.within in let known : l.pos ≤ size = coherent.within in record {
        within = omega arith;
        same = entry.same ∙ agrees k e.stamp within;
        steady = λ n low high. sym (agrees k n (omega arith)) ∙ entry.steady n low high ∙ agrees k (n + 1) (omega arith);
      }
