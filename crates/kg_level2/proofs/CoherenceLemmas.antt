-- Coherent tables: what they answer holds, and each call leaves them coherent.
use Rattle.std.proofs.Common.{◌≡◌, ℕ, ◌+◌, ◌<◌, ◌≤◌, max, ◌⊎◌, Bool, true, false, not, nat_lt, List, length, map, All, Contains, Option, Some, None, is_some, option_map, refl, sym, subst, ◌∙◌, inl, inr, arith, le_refl, le_trans, ltb-true, ltb-false}
use Rattle.std.proofs.lemmas.Bool.{cond_both}
use Rattle.std.proofs.lemmas.List.Elements.{All-contains, All-filter, All-map, All-nil, All-push, All-weaker}
use Rattle.std.specs.Map.{lookup, set_value}
use Rattle.std.specs.Option.{option_map_or}
use Rattle.lru.specs.LruCache.{promoted}
use Rattle.kg_level1.specs.Changing.{after_extend, after_put, emptied}
use Rattle.kg_level1.specs.Coherent.{Agrees, Holds, IsCoherentEntry, IsCoherentLevel, Leaves, NamesChanges}
use Rattle.kg_level1.specs.Entries.{Kept as Entry, Level}
use Rattle.kg_level1.specs.Reading.{after_answer, found_entry, shown}
use Rattle.kg_level1.specs.declared.held.Held.{Held}
use Rattle.kg_level1.proofs.CoherenceLemmas.{answer_coherent, emptied_coherent, entry_holds, extend_coherent, found_holds, longer_coherent, looked_up, made_coherent, put_coherent, sync_coherent}
use Rattle.kg_level2.specs.Answers.{Abandons, LooksUp, Settles}
use Rattle.kg_level2.specs.Changing.{after_catch_up, after_jump, closed, end_of}
use Rattle.kg_level2.specs.Claims.{claim_on, touched, touched_by_jump, without}
use Rattle.kg_level2.specs.Coherent.{IsCoherentClaim, IsCoherentTable}
use Rattle.kg_level2.specs.Shared.{Shared, empty_table}
use Rattle.kg_level2.specs.declared.claim.Abandoned.{Abandoned}
use Rattle.kg_level2.specs.declared.claim.Abandoned.TheVariants.{Stale, Nothing, NoMemory}
use Rattle.kg_level2.specs.declared.claim.Found.{Found}
use Rattle.kg_level2.specs.declared.claim.Found.TheVariants.{Hit, Claimed, Busy}
use Rattle.kg_level2.specs.declared.claim.Settled.{Settled}
use Rattle.kg_level2.specs.declared.claim.Settled.TheVariants.{Kept, Overtaken, Unkept, Stranger}
use Rattle.kg_level2.specs.declared.notes.OpenClaim.{OpenClaim}
use Rattle.kg_level2.proofs.ClaimLemmas.{Touches, exclude_filtered, exclude_mapped, exclude_taken, found_in, touched_touches}

module _ {K V X : Type 0} (shows : V → X) (value : K → ℕ → X) (size : ℕ) (eq : K → K → Bool) where
  abbrev Coherent : Shared K V → Type 0
  Coherent t = IsCoherentTable shows value eq size t

  pub made_coherent_table : (room pos ttl neg_ttl stale : ℕ) → pos ≤ size → Coherent (empty_table room pos ttl neg_ttl stale)
  made_coherent_table room pos ttl neg_ttl stale known = record {
    level = made_coherent shows value size eq room pos known;
    exclusive = tt;
    each = All-nil (IsCoherentClaim value pos);
  }

  -- claims that go, and a level that stays coherent at its position
  fewer : (t : Shared K V) (level : Level K V) (k : K) → level.pos ≡ t.level.pos → IsCoherentLevel shows value size level → Coherent t
      → Coherent (record t { level = level; out = without eq k t.out })
  fewer t level k here coherent before = record {
    level = coherent;
    exclusive = exclude_filtered eq (λ o. not (eq k o.key)) t.out before.exclusive;
    each = subst (λ pos. All (IsCoherentClaim value pos) (without eq k t.out)) (sym here)
        (All-filter (λ o. not (eq k o.key)) (IsCoherentClaim value t.level.pos) t.out before.each);
  }

  pub closed_coherent : (t : Shared K V) (k : K) → Coherent t → Coherent (closed eq k t)
  closed_coherent t k coherent = fewer t t.level k refl coherent.level coherent

  module _ (same_key : (x y : K) → eq x y ≡ true → x ≡ y) where
    pub hit_holds : (t : Shared K V) (after : Shared K V) → Coherent t → (k : K) (pos now who : ℕ) (held : Held V)
        → LooksUp eq t k pos now who (Hit held) after → Holds shows value size pos k (shown held)
    hit_holds t after coherent k pos now who held hit = found_holds shows value size eq same_key t.level coherent.level k pos now (shown held) hit.1

    pub stale_holds : (t : Shared K V) (after : Shared K V) → Coherent t → (k : K) (now : ℕ) (held : Held V)
        → Abandons eq t k now (Stale held) after → Holds shows value size t.level.pos k (shown held)
    stale_holds t after coherent k now held stale = by_entry (lookup (eq k) t.level.entries) refl stale.1
      where
        longer : Entry V → Entry V
        longer e = record { val = e.val; stamp = max e.stamp t.level.pos; expires = end_of t.stale now }

        by_entry : (o : Option (Entry V)) → lookup (eq k) t.level.entries ≡ o → option_map longer o ≡ Some (shown held) → Holds shows value size t.level.pos k (shown held)
        by_entry None absent none = cc
        by_entry (Some e) there is =
            let holds = entry_holds shows value size t.level.pos k e coherent.level.within (looked_up shows value size eq same_key t.level coherent.level k e there) in
            let same : longer e ≡ shown held = cc in
            subst (Holds shows value size t.level.pos k) same (record { same = holds.same; from = omega arith; within = holds.within })

    pub looked_up_coherent : (t after : Shared K V) (k : K) (pos now who : ℕ) (answer : Found K V) → LooksUp eq t k pos now who answer after → Coherent t → Coherent after
    looked_up_coherent t after k pos now who (Busy other) is coherent = subst Coherent (sym is.1) coherent
    looked_up_coherent t after k pos now who (Hit held) is coherent = subst Coherent (sym is.2) (record {
      level = answer_coherent shows value size eq t.level k (found_entry eq t.level k pos now) coherent.level;
      exclusive = coherent.exclusive;
      each = subst (λ p. All (IsCoherentClaim value p) t.out) (sym stays) coherent.each;
    })
      where
        stays : (after_answer eq t.level k (found_entry eq t.level k pos now)).pos ≡ t.level.pos
        stays = cond_both (is_some (found_entry eq t.level k pos now)) (record t.level { entries = promoted (eq k) t.level.entries }) t.level
            (λ m. m.pos ≡ t.level.pos) (λ is. refl) (λ is. refl)
    looked_up_coherent t after k pos now who (Claimed claim) is coherent = subst Coherent (sym is.4) (record {
      level = coherent.level;
      exclusive = exclude_taken eq same_key t.out (record { key = k; who = who; start = t.level.pos; touch = 0 }) is.0 coherent.exclusive;
      each = All-push (IsCoherentClaim value t.level.pos) t.out (record { key = k; who = who; start = t.level.pos; touch = 0 }) coherent.each
          (record { started = le_refl t.level.pos; touched = inl refl; steady = λ n low none high. absurd (omega arith) });
    })

    -- what was read at a claim's start or later, and isn't overtaken, is the key's value up to the position
    kept_entry : (t : Shared K V) (k : K) (e : Entry V) (o : OpenClaim K) → claim_on eq k t.out ≡ Some o → o.start ≤ e.stamp → o.touch ≤ e.stamp
        → shows e.val ≡ value k e.stamp → e.stamp ≤ size → Coherent t → IsCoherentEntry shows value size t.level.pos k e
    kept_entry t k e o out started untouched same known coherent = record { within = known; same = same; steady = steady }
      where
        here : Contains t.out o × (eq k o.key ≡ true)
        here = found_in (λ p. eq k p.key) t.out o out

        steady : (n : ℕ) → e.stamp ≤ n → n < t.level.pos → Leaves value k n
        steady n low high = subst (λ j. Leaves value j n) (sym (same_key k o.key here.1))
            ((All-contains (IsCoherentClaim value t.level.pos) t.out o coherent.each here.0).steady n (le_trans started low) (le_trans untouched low) high)

    pub settled_coherent : (t after : Shared K V) (k : K) (v : V) (negative : Bool) (at now : ℕ) (answer : Settled)
        → Settles eq t k v negative at now answer after → shows v ≡ value k at → at ≤ size → Coherent t → Coherent after
    settled_coherent t after k v negative at now Stranger is same known coherent = subst Coherent (sym is.1) (closed_coherent t k coherent)
    settled_coherent t after k v negative at now (Overtaken by) is same known coherent = subst Coherent (sym is.1) (closed_coherent t k coherent)
    settled_coherent t after k v negative at now Unkept is same known coherent = subst Coherent (sym is.1) (closed_coherent t k coherent)
    settled_coherent t after k v negative at now (Kept expires) is same known coherent = subst Coherent (sym is.2)
        (fewer t (after_put eq t.level k entry) k refl (put_coherent shows value size eq same_key t.level k entry
        (kept_entry t k entry is.0.0 is.0.1.0 is.0.1.1 is.0.2 same known coherent) coherent.level) coherent)
      where
        entry : Entry V
        entry = record { val = v; stamp = at; expires = expires }

    pub abandoned_coherent : (t after : Shared K V) (k : K) (now : ℕ) (answer : Abandoned V) → Abandons eq t k now answer after → Coherent t → Coherent after
    abandoned_coherent t after k now (Stale held) is coherent = subst Coherent (sym is.2)
        (fewer t (after_extend eq t.level k (end_of t.stale now)) k stays (extend_coherent shows value size eq same_key t.level k (end_of t.stale now) coherent.level) coherent)
      where
        of_entry : (o : Option (Entry V)) → (option_map_or (λ (e : Entry V). record t.level { entries = set_value (eq k) (promoted (eq k) t.level.entries) (record e { expires = end_of t.stale now }) }) o t.level).pos ≡ t.level.pos
        of_entry None = refl
        of_entry (Some e) = refl

        stays : (after_extend eq t.level k (end_of t.stale now)).pos ≡ t.level.pos
        stays = of_entry (lookup (eq k) t.level.entries)
    abandoned_coherent t after k now Nothing is coherent = subst Coherent (sym is.1) (closed_coherent t k coherent)
    abandoned_coherent t after k now NoMemory is coherent = subst Coherent (sym is.2) (closed_coherent t k coherent)

  -- ---- commits

  caught_up_claim : (from pos : ℕ) (lists : List (List K)) (o new : OpenClaim K) → from ≤ pos → Touches value from pos lists o new
      → IsCoherentClaim value pos o → IsCoherentClaim value (max pos (from + length lists)) new
  caught_up_claim from pos lists o new start touches before = record { started = started; touched = last touches.touch; steady = λ n a b c. steady n a b c (nat_lt n pos) refl }
    where
      from_start : new.start ≡ o.start
      from_start = touches.start

      taken_at : o.start ≤ pos
      taken_at = before.started

      started : new.start ≤ max pos (from + length lists)
      started = omega arith

      last : (new.touch ≡ o.touch) ⊎ ((pos < new.touch) × (from < new.touch) × (new.touch ≤ from + length lists))
          → (new.touch ≡ 0) ⊎ ((new.start < new.touch) × (new.touch ≤ max pos (from + length lists)))
      last (inl same) = elim before.touched [ inl none ↦ inl (same ∙ none) | inr old ↦ inr (omega arith, omega arith) ]
      last (inr more) = inr (omega arith, omega arith)

      steady : (n : ℕ) → new.start ≤ n → new.touch ≤ n → n < max pos (from + length lists) → (b : Bool) → nat_lt n pos ≡ b → Leaves value new.key n
      steady n a b c true is = let known : n < pos = ltb-true n pos is in
          subst (λ k. Leaves value k n) (sym touches.key) (before.steady n (omega arith) (elim touches.touch [ inl same ↦ omega arith | inr more ↦ absurd (omega arith) ]) known)
      steady n a b c false is = let late : pos ≤ n = ltb-false n pos is in
          subst (λ k. Leaves value k n) (sym touches.key) (touches.later n late (omega arith) (omega arith) b)

  pub caught_up_coherent : (from : ℕ) (lists : List (List K)) (t : Shared K V) → from ≤ t.level.pos → from + length lists ≤ size → NamesChanges value eq from lists
      → Coherent t → Coherent (after_catch_up eq from lists t)
  caught_up_coherent from lists t start end exact coherent = record {
    level = sync_coherent shows value size eq from lists t.level start end exact coherent.level;
    exclusive = exclude_mapped eq (touched eq from t.level.pos lists) (λ o. (touches o).key) t.out coherent.exclusive;
    each = All-map (IsCoherentClaim value (max t.level.pos (from + length lists))) (touched eq from t.level.pos lists) t.out
        (All-weaker (IsCoherentClaim value t.level.pos) (λ o. IsCoherentClaim value (max t.level.pos (from + length lists)) (touched eq from t.level.pos lists o))
        (λ o. caught_up_claim from t.level.pos lists o (touched eq from t.level.pos lists o) start (touches o)) t.out coherent.each);
  }
    where
      touches : (o : OpenClaim K) → Touches value from t.level.pos lists o (touched eq from t.level.pos lists o)
      touches o = touched_touches value eq lists from t.level.pos o exact

  pub jumped_coherent : (to : ℕ) (t : Shared K V) → to ≤ size → Coherent t → Coherent (after_jump to t)
  jumped_coherent to t known coherent = cond_both (nat_lt t.level.pos to)
      (record t { level = emptied to t.level; out = map (touched_by_jump to) t.out }) t Coherent ahead (λ is. coherent)
    where
      touched_claim : t.level.pos < to → (o : OpenClaim K) → IsCoherentClaim value t.level.pos o → IsCoherentClaim value to (record o { touch = to })
      touched_claim past o before = let taken_at : o.start ≤ t.level.pos = before.started in record {
        started = omega arith;
        touched = inr (omega arith, le_refl to);
        steady = λ n low high end. absurd (omega arith);
      }

      ahead : nat_lt t.level.pos to ≡ true → Coherent (record t { level = emptied to t.level; out = map (touched_by_jump to) t.out })
      ahead is = record {
        level = emptied_coherent shows value size eq to t.level known;
        exclusive = exclude_mapped eq (touched_by_jump to) (λ o. refl) t.out coherent.exclusive;
        each = All-map (IsCoherentClaim value to) (touched_by_jump to) t.out
            (All-weaker (IsCoherentClaim value t.level.pos) (λ o. IsCoherentClaim value to (record o { touch = to })) (touched_claim (ltb-true t.level.pos to is)) t.out coherent.each);
      }

-- a table is coherent with each longer history too
module _ {K V X : Type 0} (shows : V → X) (value longer : K → ℕ → X) (size more : ℕ) (eq : K → K → Bool) where
  pub longer_coherent_table : (t : Shared K V) → Agrees value longer size → size ≤ more → IsCoherentTable shows value eq size t → IsCoherentTable shows longer eq more t
  longer_coherent_table t agrees grown coherent = record {
    level = longer_coherent shows value longer size more t.level agrees grown coherent.level;
    exclusive = coherent.exclusive;
    each = All-weaker (IsCoherentClaim value t.level.pos) (IsCoherentClaim longer t.level.pos) claim t.out coherent.each;
  }
    where
      claim : (o : OpenClaim K) → IsCoherentClaim value t.level.pos o → IsCoherentClaim longer t.level.pos o
      claim o before = let known : t.level.pos ≤ size = coherent.level.within in record {
        started = before.started;
        touched = before.touched;
        steady = λ n a b c. sym (agrees o.key n (omega arith)) ∙ before.steady n a b c ∙ agrees o.key (n + 1) (omega arith);
      }
