-- Levels whose entries differ in their order alone.
use Rattle.std.proofs.Common.{◌≡◌, ℕ, max, Bool, true, false, cond, nat_lt, List, [], ◌∷◌, Option, Some, None, is_some, option_and_then, refl, sym, ap, ap₂, subst, ◌∙◌, true≢false, if◌then◌else◌}
use Rattle.std.proofs.lemmas.Bool.{cond_both}
use Rattle.std.specs.Map.{lookup, lookup_entry, remove_entry}
use Rattle.std.specs.Option.{option_map_or}
use Rattle.lru.specs.LruCache.{promoted}
use Rattle.lru.proofs.CallerLemmas.{Contains-lookup_entry, Contains-promoted}
use Rattle.kg_level1.specs.Coherent.{IsCoherentLevel}
use Rattle.kg_level1.specs.Entries.{Kept, Level}
use Rattle.kg_level1.specs.Reading.{HasSameEntries, after_answer, found_entry, is_live, live_entry}

module _ {K X : Type 0} (eq : K → K → Bool) (same_key : (x y : K) → eq x y ≡ true → x ≡ y) (j k : K) where
  -- an entry that went to the front is found there, or isn't the one looked for
  moved : (es : List (K × X)) (e : K × X) → lookup_entry (eq j) es ≡ Some e → cond (eq k e.0) (Some e.1) (lookup (eq k) (remove_entry (eq j) es)) ≡ lookup (eq k) es
  moved [] e found = cc
  moved (d ∷ es) e found = by_first (eq j d.0) refl (moved es e) found
    where
      other : eq j d.0 ≡ false → eq j e.0 ≡ true → eq k d.0 ≡ true → (b : Bool) → eq k e.0 ≡ b → cond b (Some e.1) (Some d.1) ≡ Some d.1
      other apart there here false is = refl
      other apart there here true is =
          let same : d.0 ≡ e.0 = sym (same_key k d.0 here) ∙ same_key k e.0 is in
          absurd (true≢false (sym there ∙ ap (eq j) (sym same) ∙ apart))

      by_second : eq j d.0 ≡ false → eq j e.0 ≡ true → (b : Bool) → eq k d.0 ≡ b
          → cond (eq k e.0) (Some e.1) (lookup (eq k) (remove_entry (eq j) es)) ≡ lookup (eq k) es
          → cond (eq k e.0) (Some e.1) (cond b (Some d.1) (lookup (eq k) (remove_entry (eq j) es))) ≡ cond b (Some d.1) (lookup (eq k) es)
      by_second apart there true is behind = other apart there is (eq k e.0) refl
      by_second apart there false is behind = behind

      by_first : (b : Bool) → eq j d.0 ≡ b
          → (lookup_entry (eq j) es ≡ Some e → cond (eq k e.0) (Some e.1) (lookup (eq k) (remove_entry (eq j) es)) ≡ lookup (eq k) es)
          → cond b (Some d) (lookup_entry (eq j) es) ≡ Some e
          → cond (eq k e.0) (Some e.1) (lookup (eq k) (cond b es (d ∷ remove_entry (eq j) es))) ≡ cond (eq k d.0) (Some d.1) (lookup (eq k) es)
      by_first true is behind here = let same : d ≡ e = cc in ap (λ (c : K × X). cond (eq k c.0) (Some c.1) (lookup (eq k) es)) (sym same)
      by_first false is behind later = by_second is (Contains-lookup_entry (eq j) es e later).1 (eq k d.0) refl (behind later)

  pub lookup_promoted : (es : List (K × X)) → lookup (eq k) (promoted (eq j) es) ≡ lookup (eq k) es
  lookup_promoted es = by_entry (lookup_entry (eq j) es) refl
    where
      by_entry : (o : Option (K × X)) → lookup_entry (eq j) es ≡ o → lookup (eq k) (option_map_or (λ e. e ∷ remove_entry (eq j) es) o es) ≡ lookup (eq k) es
      by_entry None absent = refl
      by_entry (Some e) found = moved es e found

module _ {K V : Type 0} (eq : K → K → Bool) where
  pub same_entries : (l : Level K V) → HasSameEntries eq l l
  same_entries l = record { room = refl; pos = refl; same = λ k. refl; fewer = λ e there. there }

  pub same_entries_then : (a b c : Level K V) → HasSameEntries eq a b → HasSameEntries eq b c → HasSameEntries eq a c
  same_entries_then a b c first second = record {
    room = second.room ∙ first.room;
    pos = second.pos ∙ first.pos;
    same = λ k. second.same k ∙ first.same k;
    fewer = λ e there. first.fewer e (second.fewer e there);
  }

  -- both answer alike
  pub same_live : (a b : Level K V) → HasSameEntries eq a b → (k : K) (now : ℕ) → live_entry eq b k now ≡ live_entry eq a k now
  same_live a b same k now = ap₂ (λ (o : Option (Kept V)) (pos : ℕ). option_and_then (λ (d : Kept V). if is_live d now then Some (record d { stamp = max d.stamp pos }) else None) o)
      (same.same k) same.pos

  pub same_found : (a b : Level K V) → HasSameEntries eq a b → (k : K) (least now : ℕ) → found_entry eq b k least now ≡ found_entry eq a k least now
  same_found a b same k least now = ap (option_and_then (λ (c : Kept V). if nat_lt c.stamp least then None else Some c)) (same_live a b same k now)

  module _ (same_key : (x y : K) → eq x y ≡ true → x ≡ y) where
    pub answer_same : (l : Level K V) (k : K) (answer : Option (Kept V)) → HasSameEntries eq l (after_answer eq l k answer)
    answer_same l k answer = cond_both (is_some answer) (record l { entries = promoted (eq k) l.entries }) l (HasSameEntries eq l)
        (λ is. record {
          room = refl;
          pos = refl;
          same = λ j. lookup_promoted eq same_key k j l.entries;
          fewer = Contains-promoted (eq k) l.entries;
        }) (λ is. same_entries l)

module _ {K V X : Type 0} (shows : V → X) (value : K → ℕ → X) (size : ℕ) (eq : K → K → Bool) where
  pub same_coherent : (a b : Level K V) → HasSameEntries eq a b → IsCoherentLevel shows value size a → IsCoherentLevel shows value size b
  same_coherent a b same coherent = subst (λ pos. IsCoherentLevel shows value size (record { room = b.room; pos = pos; entries = b.entries })) (sym same.pos)
      (record { within = coherent.within; each = λ k e there. coherent.each k e (same.fewer (k, e) there) })
