-- What holds of each entry of a level holds after each of its calls.
use Rattle.std.proofs.Common.{◌≡◌, ℕ, max, Bool, true, false, cond, not, List, Option, Some, None, IsTrue, is_some, option_and_then, refl, sym, subst, inl, inr, if◌then◌else◌}
use Rattle.std.proofs.lemmas.Bool.{cond_both}
use Rattle.std.specs.Map.{lookup}
use Rattle.lru.specs.LruCache.{lru_cache, promoted}
use Rattle.lru.proofs.CallerLemmas.{Contains-lookup, Contains-promoted, Contains-put_entries}
use Rattle.kg_level1.specs.Changing.{after_put, after_sync, is_touched}
use Rattle.kg_level1.specs.Entries.{Kept, Level}
use Rattle.kg_level1.specs.Reading.{after_answer, is_live, live_entry}
use Rattle.kg_level1.proofs.CoherenceLemmas.{in_filter}
use Rattle.kg_proxy.specs.Workers.{EachEntry}

module _ {K V : Type 0} (fits : K → V → Bool) (eq : K → K → Bool) where
  pub each_answer : (l : Level K V) (k : K) (answer : Option (Kept V)) → EachEntry fits l → EachEntry fits (after_answer eq l k answer)
  each_answer l k answer each = cond_both (is_some answer) (record l { entries = promoted (eq k) l.entries }) l (EachEntry fits)
      (λ is. λ j e there. each j e (Contains-promoted (eq k) l.entries (j, e) there)) (λ is. each)

  pub each_sync : (from : ℕ) (lists : List (List K)) (l : Level K V) → EachEntry fits l → EachEntry fits (after_sync eq from lists l)
  each_sync from lists l each = λ k e there.
      each k e (in_filter (λ (d : K × Kept V). not (is_touched eq from (max d.1.stamp l.pos) lists d.0)) l.entries (k, e) there).0

  module _ (same_key : (x y : K) → eq x y ≡ true → x ≡ y) where
    pub each_put : (l : Level K V) (k : K) (e : Kept V) → IsTrue (fits k e.val) → EachEntry fits l → EachEntry fits (after_put eq l k e)
    each_put l k e new each = λ j d there. elim (Contains-put_entries eq (lru_cache l.entries l.room) k e (j, d) there) [
      | inl before ↦ each j d before
      | inr put ↦ elim put.1 [ inl first ↦ at_key j d put.0 (sym first) | inr kept ↦ at_key j d put.0 (same_key k j kept.2) ]
    ]
      where
        at_key : (j : K) (d : Kept V) → d ≡ e → k ≡ j → IsTrue (fits j d.val)
        at_key j d val key = subst (λ i. IsTrue (fits i d.val)) key (subst (λ (c : Kept V). IsTrue (fits k c.val)) (sym val) new)

    -- what a level answers is such an entry
    pub each_found : (l : Level K V) → EachEntry fits l → (k : K) (now : ℕ) (e : Kept V) → live_entry eq l k now ≡ Some e → IsTrue (fits k e.val)
    each_found l each k now e found = by_entry (lookup (eq k) l.entries) refl found
      where
        by_life : (d : Kept V) (b : Bool) → IsTrue (fits k d.val) → cond b (Some (record d { stamp = max d.stamp l.pos })) None ≡ Some e → IsTrue (fits k e.val)
        by_life d true holds is = let same : record d { stamp = max d.stamp l.pos } ≡ e = cc in subst (λ (c : Kept V). IsTrue (fits k c.val)) same holds
        by_life d false holds none = cc

        by_entry : (o : Option (Kept V)) → lookup (eq k) l.entries ≡ o
            → option_and_then (λ (d : Kept V). if is_live d now then Some (record d { stamp = max d.stamp l.pos }) else None) o ≡ Some e → IsTrue (fits k e.val)
        by_entry None absent none = cc
        by_entry (Some d) there is = let at_key = Contains-lookup (eq k) l.entries d there in
            by_life d (is_live d now) (subst (λ j. IsTrue (fits j d.val)) (sym (same_key k at_key.0 at_key.2)) (each at_key.0 d at_key.1)) is
