-- What an index says of keys stays so when rows come, change and go.
use Rattle.std.proofs.Common.{◌≡◌, ℕ, Bool, true, false, cond, not, ◌||◌, ◌&&◌, nat_eq, List, [], ◌∷◌, ◌++◌, Option, Some, None, map, filter, find, All, refl, sym, ap, subst, ◌∙◌, inl, inr, ◌⊎◌, ⊎_elim, true≢false, is_some, unwrap_or}
use Rattle.std.proofs.lemmas.Bool.{eqb-true}
use Rattle.std.proofs.lemmas.Bool.Decides.{eqb_tells}
use Rattle.std.proofs.lemmas.List.Elements.{All-cons, All-filter, All-head, All-nil, All-push, All-tail, All-weaker}
use Rattle.std.proofs.lemmas.List.Folds.{list_any-append}
use Rattle.std.proofs.lemmas.Map.Keys.{IsDistinct-head, IsDistinct-tail}
use Rattle.std.specs.List.{list_any, AllByRecursion, IsDistinct}
use Rattle.kg_tables.proofs.TableLemmas.{flipped}
use Rattle.kg_row_types.specs.Tables.{replaced}
use Rattle.std.specs.Prelude.{if◌then◌else◌}
use Rattle.kg_tables.specs.Others.{is_other}
use Rattle.kg_tables.specs.KeyIndexes.{Tells, IsIndex, is_key, noted, forgotten, is_only, is_kept, kept}
use Rattle.kg_tables.specs.declared.key_index.Holder.{Holder}
use Rattle.kg_tables.specs.declared.key_index.Holder.TheVariants.{Only, Several}

pub same_number : (n : ℕ) → nat_eq n n ≡ true
same_number n = ⊎_elim (λ yes. yes.0) (λ no. absurd (no.1 refl)) (eqb_tells n n)

-- ---- one key

-- of a row with another id
noted_other : (holder : Option Holder) (id n : ℕ) (new has : Bool) → Tells holder n has → nat_eq n id ≡ false → Tells (noted new id holder) n has
noted_other None id n true has tells other = tells ∙ sym other
noted_other None id n false has tells other = tells
noted_other (Some holder) id n true has tells other = tt
noted_other (Some holder) id n false has tells other = tells

forgotten_other : (holder : Option Holder) (id n : ℕ) (old has : Bool) → Tells holder n has → nat_eq n id ≡ false → Tells (forgotten old id holder) n has
forgotten_other None id n false has tells other = tells
forgotten_other None id n true has tells other = tells
forgotten_other (Some Several) id n false has tells other = tells
forgotten_other (Some Several) id n true has tells other = tells
forgotten_other (Some (Only holder)) id n false has tells other = tells
forgotten_other (Some (Only holder)) id n true has tells other =
    (elim (nat_eq id holder) as (λ b. nat_eq id holder ≡ b → Tells (cond {A = Option Holder} b None (Some (Only holder))) n has) [
      | true ↦ λ is. tells ∙ ap (λ k. nat_eq n k) (sym (eqb-true id holder is)) ∙ other
      | false ↦ λ _. tells
    ]) refl

-- of the row with this id
noted_itself : (holder : Option Holder) (id : ℕ) (new : Bool) → is_only id holder ≡ false → Tells (noted new id holder) id new
noted_itself None id true free = sym (same_number id)
noted_itself None id false free = refl
noted_itself (Some holder) id true free = tt
noted_itself (Some (Only holder)) id false free = sym free
noted_itself (Some Several) id false free = tt

-- what it had is forgotten
forgotten_free : (holder : Option Holder) (id : ℕ) (old : Bool) → Tells holder id old → is_only id (forgotten old id holder) ≡ false
forgotten_free None id false tells = refl
forgotten_free None id true tells = refl
forgotten_free (Some Several) id false tells = refl
forgotten_free (Some Several) id true tells = refl
forgotten_free (Some (Only holder)) id true tells = ap (λ b. is_only id (cond {A = Option Holder} b None (Some (Only holder)))) (sym tells)
forgotten_free (Some (Only holder)) id false tells = sym tells

-- who is named at last was named before, or is the new one
abbrev id_in : Option Holder → ℕ
id_in None = 0
id_in (Some (Only id)) = id
id_in (Some Several) = 0

abbrev is_one : Option Holder → Bool
is_one None = false
is_one (Some (Only id)) = true
is_one (Some Several) = false

noted_names : (holder : Option Holder) (id a : ℕ) (new : Bool) → noted new id holder ≡ Some (Only a) → (holder ≡ Some (Only a)) ⊎ (id ≡ a)
noted_names None id a true is = inr (ap id_in is)
noted_names None id a false is = inl is
noted_names (Some holder) id a true is = absurd (true≢false (sym (ap is_one is)))
noted_names (Some holder) id a false is = inl is

forgotten_names : (holder : Option Holder) (id a : ℕ) (old : Bool) → forgotten old id holder ≡ Some (Only a) → holder ≡ Some (Only a)
forgotten_names None id a false is = is
forgotten_names None id a true is = is
forgotten_names (Some Several) id a false is = is
forgotten_names (Some Several) id a true is = is
forgotten_names (Some (Only holder)) id a false is = is
forgotten_names (Some (Only holder)) id a true is =
    (elim (nat_eq id holder) as (λ b. cond {A = Option Holder} b None (Some (Only holder)) ≡ Some (Only a) → Some (Only holder) ≡ Some (Only a)) [
      | true ↦ λ none. absurd (true≢false (sym (ap is_one none)))
      | false ↦ λ same. same
    ]) is

-- the same change of the same key
pub noted_alike : {K : Type 0} (eq : K → K → Bool) (key : K) {set other : Option K} {id n : ℕ} {holder h : Option Holder} → set ≡ other → id ≡ n → holder ≡ h → noted (is_key eq key set) id holder ≡ noted (is_key eq key other) n h
noted_alike eq key {set} {other} {id} {n} {holder} {h} sets ids holders =
    ap (λ s. noted (is_key eq key s) id holder) sets ∙ ap (λ k. noted (is_key eq key other) k holder) ids ∙ ap (noted (is_key eq key other) n) holders

pub forgotten_alike : {K : Type 0} (eq : K → K → Bool) (key : K) {set other : Option K} {id n : ℕ} {holder h : Option Holder} → set ≡ other → id ≡ n → holder ≡ h → forgotten (is_key eq key set) id holder ≡ forgotten (is_key eq key other) n h
forgotten_alike eq key {set} {other} {id} {n} {holder} {h} sets ids holders =
    ap (λ s. forgotten (is_key eq key s) id holder) sets ∙ ap (λ k. forgotten (is_key eq key other) k holder) ids ∙ ap (forgotten (is_key eq key other) n) holders

-- ---- the rows

module _ {T : Type 0} (number : T → ℕ) where
  abbrev pub has_id : ℕ → T → Bool
  has_id id row = nat_eq (number row) id

  -- a row that is named after the others went is there
  kept_names : (rows : List T) (holder : Option Holder) (a : ℕ) → kept (is_kept number rows) holder ≡ Some (Only a) → list_any (has_id a) rows ≡ true
  kept_names rows None a is = absurd (true≢false (sym (ap is_one is)))
  kept_names rows (Some Several) a is = absurd (true≢false (sym (ap is_one is)))
  kept_names rows (Some (Only id)) a is =
      (elim (list_any (has_id id) rows) as (λ b. list_any (has_id id) rows ≡ b → cond {A = Option Holder} b (Some (Only id)) None ≡ Some (Only a) → list_any (has_id a) rows ≡ true) [
        | true ↦ λ yes same. subst (λ k. list_any (has_id k) rows ≡ true) (ap id_in same) yes
        | false ↦ λ _ none. absurd (true≢false (sym (ap is_one none)))
      ]) refl is

  -- where no row has the id, what holds of rows with other ids holds of all
  others_of_none : (P Q : T → Type 0) (id : ℕ) → ((row : T) → P row → has_id id row ≡ false → Q row) → (rows : List T) → All P rows → list_any (has_id id) rows ≡ false → All Q rows
  others_of_none P Q id other [] all none = All-nil Q
  others_of_none P Q id other (row ∷ rows) all none =
      (elim (has_id id row) as (λ b. has_id id row ≡ b → (b || list_any (has_id id) rows) ≡ false → All Q (row ∷ rows)) [
        | true ↦ λ _ yes. absurd (true≢false yes)
        | false ↦ λ no rest. All-cons Q row rows (other row (All-head P row rows all) no) (others_of_none P Q id other rows (All-tail P row rows all) rest)
      ]) refl none

  -- so it does of rows whose ids differ from one
  others_of_distinct : (P Q : T → Type 0) (id : ℕ) → ((row : T) → P row → has_id id row ≡ false → Q row) → (rows : List T) → All P rows → AllByRecursion (λ n. nat_eq id n ≡ false) (map number rows) → All Q rows
  others_of_distinct P Q id other [] all differ = All-nil Q
  others_of_distinct P Q id other (row ∷ rows) all differ =
      All-cons Q row rows (other row (All-head P row rows all) (flipped (number row) id ∙ differ.0)) (others_of_distinct P Q id other rows (All-tail P row rows all) differ.1)

  -- what holds of the new row, and of rows with other ids, holds after a replacement
  all_replaced : (P Q : T → Type 0) (new : T) → ((row : T) → P row → has_id (number new) row ≡ false → Q row) → Q new → (rows : List T) → All P rows
      → IsDistinct nat_eq (map number rows) → list_any (has_id (number new)) rows ≡ true → All Q (replaced (has_id (number new)) new rows)
  all_replaced P Q new other now [] all distinct there = absurd (true≢false (sym there))
  all_replaced P Q new other now (row ∷ rows) all distinct there =
      (elim (has_id (number new) row) as (λ b. has_id (number new) row ≡ b → (b || list_any (has_id (number new)) rows) ≡ true → All Q (cond {A = List T} b (new ∷ rows) (row ∷ replaced (has_id (number new)) new rows))) [
        | true ↦ λ is _. All-cons Q new rows now (others_of_distinct P Q (number new) other rows (All-tail P row rows all)
            (subst (λ id. AllByRecursion (λ n. nat_eq id n ≡ false) (map number rows)) (eqb-true (number row) (number new) is) (IsDistinct-head nat_eq (number row) (map number rows) distinct)))
        | false ↦ λ no more. All-cons Q row (replaced (has_id (number new)) new rows) (other row (All-head P row rows all) no)
            (all_replaced P Q new other now rows (All-tail P row rows all) (IsDistinct-tail nat_eq (number row) (map number rows) distinct) more)
      ]) refl there

  -- a replacement keeps the ids
  ids_replaced : (test : ℕ → Bool) (new : T) (rows : List T) → list_any (λ row. test (number row)) (replaced (has_id (number new)) new rows) ≡ list_any (λ row. test (number row)) rows
  ids_replaced test new [] = refl
  ids_replaced test new (row ∷ rows) =
      (elim (has_id (number new) row) as (λ b. has_id (number new) row ≡ b → list_any (λ r. test (number r)) (cond {A = List T} b (new ∷ rows) (row ∷ replaced (has_id (number new)) new rows)) ≡ (test (number row) || list_any (λ r. test (number r)) rows)) [
        | true ↦ λ is. ap (λ n. test n || list_any (λ r. test (number r)) rows) (sym (eqb-true (number row) (number new) is))
        | false ↦ λ _. ap (λ rest. test (number row) || rest) (ids_replaced test new rows)
      ]) refl

  -- without the rows of one id, that id is gone and the others are there
  none_left : (id : ℕ) (rows : List T) → list_any (has_id id) (filter (λ row. not (has_id id row)) rows) ≡ false
  none_left id [] = refl
  none_left id (row ∷ rows) =
      (elim (has_id id row) as (λ b. has_id id row ≡ b → list_any (has_id id) (cond {A = List T} (not b) (row ∷ filter (λ r. not (has_id id r)) rows) (filter (λ r. not (has_id id r)) rows)) ≡ false) [
        | true ↦ λ _. none_left id rows
        | false ↦ λ no. ap (λ b. b || list_any (has_id id) (filter (λ r. not (has_id id r)) rows)) no ∙ none_left id rows
      ]) refl

  others_left : (id a : ℕ) → nat_eq id a ≡ false → (rows : List T) → list_any (has_id a) (filter (λ row. not (has_id id row)) rows) ≡ list_any (has_id a) rows
  others_left id a differ [] = refl
  others_left id a differ (row ∷ rows) =
      (elim (has_id id row) as (λ b. has_id id row ≡ b → list_any (has_id a) (cond {A = List T} (not b) (row ∷ filter (λ r. not (has_id id r)) rows) (filter (λ r. not (has_id id r)) rows)) ≡ (has_id a row || list_any (has_id a) rows)) [
        | true ↦ λ yes. others_left id a differ rows ∙ ap (λ b. b || list_any (has_id a) rows) (sym (ap (λ n. nat_eq n a) (eqb-true (number row) id yes) ∙ differ))
        | false ↦ λ _. ap (λ rest. has_id a row || rest) (others_left id a differ rows)
      ]) refl

  -- where no row has the id, all are left
  pub all_left : (id : ℕ) (rows : List T) → list_any (has_id id) rows ≡ false → rows ≡ filter (λ row. not (has_id id row)) rows
  all_left id [] none = refl
  all_left id (row ∷ rows) none =
      (elim (has_id id row) as (λ b. (b || list_any (has_id id) rows) ≡ false → row ∷ rows ≡ cond {A = List T} (not b) (row ∷ filter (λ r. not (has_id id r)) rows) (filter (λ r. not (has_id id r)) rows)) [
        | true ↦ λ yes. absurd (true≢false yes)
        | false ↦ λ rest. ap (λ more. row ∷ more) (all_left id rows rest)
      ]) none

  -- the row that is found passes what all pass, and has the id
  found_passes : (P : T → Type 0) (id : ℕ) (old : T) (rows : List T) → All P rows → find (has_id id) rows ≡ Some old → P old × (has_id id old ≡ true) × (list_any (has_id id) rows ≡ true)
  found_passes P id old [] all is = absurd (true≢false (sym (ap is_some is)))
  found_passes P id old (row ∷ rows) all is =
      (elim (has_id id row) as (λ b. has_id id row ≡ b → cond {A = Option T} b (Some row) (find (has_id id) rows) ≡ Some old → P old × (has_id id old ≡ true) × ((b || list_any (has_id id) rows) ≡ true)) [
        | true ↦ λ yes same. let e : row ≡ old = ap (λ o. unwrap_or o row) same in (subst P e (All-head P row rows all), subst (λ r. has_id id r ≡ true) e yes, refl)
        | false ↦ λ _ rest. found_passes P id old rows (All-tail P row rows all) rest
      ]) refl is

  -- tests that agree at each row find the same row, and a row alike
  pub find_same : (p q : T → Bool) (rows : List T) → All (λ row. p row ≡ q row) rows → find p rows ≡ find q rows
  find_same p q [] same = refl
  find_same p q (row ∷ rows) same =
      ap (λ b. cond {A = Option T} b (Some row) (find p rows)) (All-head (λ r. p r ≡ q r) row rows same)
      ∙ ap (λ rest. cond {A = Option T} (q row) (Some row) rest) (find_same p q rows (All-tail (λ r. p r ≡ q r) row rows same))

  pub any_same : (p q : T → Bool) (rows : List T) → All (λ row. p row ≡ q row) rows → list_any p rows ≡ list_any q rows
  any_same p q [] same = refl
  any_same p q (row ∷ rows) same =
      ap (λ b. b || list_any p rows) (All-head (λ r. p r ≡ q r) row rows same)
      ∙ ap (λ rest. q row || rest) (any_same p q rows (All-tail (λ r. p r ≡ q r) row rows same))

  pub find_none : (p : T → Bool) (rows : List T) → All (λ row. p row ≡ false) rows → find p rows ≡ None
  find_none p [] none = refl
  find_none p (row ∷ rows) none =
      ap (λ b. cond {A = Option T} b (Some row) (find p rows)) (All-head (λ r. p r ≡ false) row rows none)
      ∙ find_none p rows (All-tail (λ r. p r ≡ false) row rows none)

-- ---- the index

module _ {K T : Type 0} (number : T → ℕ) (has : K → T → Bool) where
  -- what the index says of a key is so for this row
  abbrev Says : (K → Option Holder) → K → T → Type 0
  Says holder key row = Tells (holder key) (number row) (has key row)

  -- no key, no row
  pub index_new : (holder : K → Option Holder) → ((key : K) → holder key ≡ None) → IsIndex number has holder []
  index_new holder none = record {
    tells = λ key. All-nil (Says holder key);
    there = λ key id is. absurd (true≢false (sym (ap is_one (sym (none key) ∙ is))));
  }

  -- the same holders
  pub index_same : (before now : K → Option Holder) (rows : List T) → ((key : K) → now key ≡ before key) → IsIndex number has before rows → IsIndex number has now rows
  index_same before now rows same index = record {
    tells = λ key. subst (λ h. All (λ row. Tells h (number row) (has key row)) rows) (sym (same key)) (index.tells key);
    there = λ key id is. index.there key id (sym (same key) ∙ is);
  }

  -- an id that no row has isn't named
  unnamed : (holder : K → Option Holder) (rows : List T) (id : ℕ) → IsIndex number has holder rows → list_any (has_id number id) rows ≡ false → (key : K) → is_only id (holder key) ≡ false
  unnamed holder rows id index free key = by (holder key) refl
    where
      by : (h : Option Holder) → holder key ≡ h → is_only id h ≡ false
      by None is = refl
      by (Some Several) is = refl
      by (Some (Only a)) is =
          (elim (nat_eq id a) as (λ b. nat_eq id a ≡ b → b ≡ false) [
            | true ↦ λ same. absurd (true≢false (sym (subst (λ k. list_any (has_id number k) rows ≡ true) (sym (eqb-true id a same)) (index.there key a is)) ∙ free))
            | false ↦ λ _. refl
          ]) refl

  -- the same after a row was noted, and after another was forgotten
  abbrev Noted : (K → Option Holder) → T → K → T → Type 0
  Noted holder new key row = Tells (noted (has key new) (number new) (holder key)) (number row) (has key row)

  abbrev less : (K → Option Holder) → T → ℕ → K → Option Holder
  less holder old id key = forgotten (has key old) id (holder key)

  -- a row with a new id comes last
  pub index_push : (before now : K → Option Holder) (new : T) (rows : List T) → ((key : K) → now key ≡ noted (has key new) (number new) (before key))
      → list_any (has_id number (number new)) rows ≡ false → IsIndex number has before rows → IsIndex number has now (rows ++ new ∷ [])
  index_push before now new rows says free index = record {
    tells = λ key. subst (λ h. All (λ row. Tells h (number row) (has key row)) (rows ++ new ∷ [])) (sym (says key))
        (All-push (Noted before new key) rows new
        (others_of_none number (Says before key) (Noted before new key) (number new) (λ row tells other. noted_other (before key) (number new) (number row) (has key new) (has key row) tells other) rows (index.tells key) free)
        (noted_itself (before key) (number new) (has key new) (unnamed before rows (number new) index free key)));
    there = λ key a is. list_any-append (has_id number a) rows (new ∷ [])
        ∙ ⊎_elim (λ was. ap (λ b. b || list_any (has_id number a) (new ∷ [])) (index.there key a was))
        (λ same. ap (λ b. list_any (has_id number a) rows || (b || false)) (ap (λ k. nat_eq (number new) k) (sym same) ∙ same_number (number new)) ∙ or_true (list_any (has_id number a) rows))
        (noted_names (before key) (number new) a (has key new) (sym (says key) ∙ is));
  }
    where
      or_true : (b : Bool) → (b || (true || false)) ≡ true
      or_true true = refl
      or_true false = refl

  -- a row in the place of the one with its id
  pub index_replaced : (before now : K → Option Holder) (old new : T) (rows : List T)
      → ((key : K) → now key ≡ noted (has key new) (number new) (forgotten (has key old) (number new) (before key)))
      → find (has_id number (number new)) rows ≡ Some old → IsDistinct nat_eq (map number rows) → IsIndex number has before rows
      → IsIndex number has now (replaced (has_id number (number new)) new rows)
  index_replaced before now old new rows says found distinct index = record {
    tells = λ key. subst (λ h. All (λ row. Tells h (number row) (has key row)) (replaced (has_id number (number new)) new rows)) (sym (says key))
        (let at = found_passes number (Says before key) (number new) old rows (index.tells key) found in
        all_replaced number (Says before key) (Noted (less before old (number new)) new key) new
        (λ row tells other. noted_other (less before old (number new) key) (number new) (number row) (has key new) (has key row)
        (forgotten_other (before key) (number new) (number row) (has key old) (has key row) tells other) other)
        (noted_itself (less before old (number new) key) (number new) (has key new)
        (forgotten_free (before key) (number new) (has key old) (subst (λ n. Tells (before key) n (has key old)) (eqb-true (number old) (number new) at.1) at.0)))
        rows (index.tells key) distinct at.2);
    there = λ key a is. ids_replaced number (λ n. nat_eq n a) new rows
        ∙ ⊎_elim (λ was. index.there key a (forgotten_names (before key) (number new) a (has key old) was))
        (λ same. subst (λ k. list_any (has_id number k) rows ≡ true) same (found_passes number (Says before key) (number new) old rows (index.tells key) found).2)
        (noted_names (less before old (number new) key) (number new) a (has key new) (sym (says key) ∙ is));
  }

  -- fewer rows
  index_filter : (before now : K → Option Holder) (keep : T → Bool) (rows left : List T) → left ≡ filter keep rows → ((key : K) → now key ≡ kept (is_kept number left) (before key))
      → IsIndex number has before rows → IsIndex number has now left
  index_filter before now keep rows left less says index = record {
    tells = λ key. subst (λ h. All (λ row. Tells h (number row) (has key row)) left) (sym (says key))
        (by key (before key) (subst (All (Says before key)) (sym less) (All-filter keep (Says before key) rows (index.tells key))));
    there = λ key a is. kept_names number left (before key) a (sym (says key) ∙ is);
  }
    where
      by : (key : K) (h : Option Holder) → All (λ row. Tells h (number row) (has key row)) left
          → All (λ row. Tells (kept (is_kept number left) h) (number row) (has key row)) left
      by key None tells = tells
      by key (Some Several) tells = tells
      by key (Some (Only a)) tells =
          (elim (list_any (has_id number a) left) as (λ b. list_any (has_id number a) left ≡ b → All (λ row. Tells (cond {A = Option Holder} b (Some (Only a)) None) (number row) (has key row)) left) [
            | true ↦ λ _. tells
            | false ↦ λ none. others_of_none number (λ row. has key row ≡ nat_eq (number row) a) (λ row. has key row ≡ false) a (λ row same other. same ∙ other) left tells none
          ]) refl

  -- the row with an id goes
  pub index_removed : (before now : K → Option Holder) (old : T) (id : ℕ) (rows left : List T) → left ≡ filter (λ row. not (has_id number id row)) rows
      → ((key : K) → now key ≡ forgotten (has key old) id (before key)) → find (has_id number id) rows ≡ Some old
      → IsIndex number has before rows → IsIndex number has now left
  index_removed before now old id rows left less says found index =
      index_filter before now (λ row. not (has_id number id row)) rows left less
      (λ key. says key ∙ by key (before key) refl (has key old)
      (let at = found_passes number (Says before key) id old rows (index.tells key) found in
      subst (λ n. Tells (before key) n (has key old)) (eqb-true (number old) id at.1) at.0))
      index
    where
      there : (a : ℕ) → list_any (has_id number a) left ≡ list_any (has_id number a) (filter (λ row. not (has_id number id row)) rows)
      there a = ap (list_any (has_id number a)) less

      by : (key : K) (h : Option Holder) → before key ≡ h → (b : Bool) → Tells h id b → forgotten b id h ≡ kept (is_kept number left) h
      by key None is true tells = refl
      by key None is false tells = refl
      by key (Some Several) is true tells = refl
      by key (Some Several) is false tells = refl
      by key (Some (Only a)) is true tells =
          ap (λ b. cond {A = Option Holder} b None (Some (Only a))) (sym tells)
          ∙ sym (ap (λ b. cond {A = Option Holder} b (Some (Only a)) None)
          (there a ∙ subst (λ k. list_any (has_id number k) (filter (λ row. not (has_id number id row)) rows) ≡ false) (eqb-true id a (sym tells)) (none_left number id rows)))
      by key (Some (Only a)) is false tells =
          sym (ap (λ b. cond {A = Option Holder} b (Some (Only a)) None) (there a ∙ others_left number id a (sym tells) rows ∙ index.there key a is))

  -- ---- what is found

  -- of rows of other ids
  abbrev Other : Option ℕ → K → T → Bool
  Other except key row = is_other except (number row) && has key row

  and_false : (b : Bool) → (b && false) ≡ false
  and_false true = refl
  and_false false = refl

  pub other_none : (holder : K → Option Holder) (key : K) (except : Option ℕ) (rows : List T) → IsIndex number has holder rows → holder key ≡ None
      → find (Other except key) rows ≡ None
  other_none holder key except rows index is =
      find_none number (Other except key) rows
      (All-weaker (λ row. has key row ≡ false) (λ row. Other except key row ≡ false) (λ row out. ap (λ b. is_other except (number row) && b) out ∙ and_false (is_other except (number row))) rows
      (subst (λ h. All (λ row. Tells h (number row) (has key row)) rows) is (index.tells key)))

  pub other_only : (holder : K → Option Holder) (key : K) (except : Option ℕ) (id : ℕ) (rows : List T) → IsIndex number has holder rows → holder key ≡ Some (Only id)
      → (if is_other except id then find (has_id number id) rows else None) ≡ find (Other except key) rows
  other_only holder key except id rows index is =
      by (is_other except id) refl
      ∙ sym (find_same number (Other except key) (λ row. is_other except id && has_id number id row) rows
      (All-weaker (λ row. has key row ≡ has_id number id row) (λ row. Other except key row ≡ (is_other except id && has_id number id row)) one rows
      (subst (λ h. All (λ row. Tells h (number row) (has key row)) rows) is (index.tells key))))
    where
      one : (row : T) → has key row ≡ has_id number id row → Other except key row ≡ (is_other except id && has_id number id row)
      one row same =
          ap (λ b. is_other except (number row) && b) same
          ∙ (elim (has_id number id row) as (λ b. has_id number id row ≡ b → (is_other except (number row) && b) ≡ (is_other except id && b)) [
            | true ↦ λ its. ap (λ n. is_other except n && true) (eqb-true (number row) id its)
            | false ↦ λ _. and_false (is_other except (number row)) ∙ sym (and_false (is_other except id))
          ]) refl

      no_row : (rs : List T) → None ≡ find (λ row. false) rs
      no_row [] = refl
      no_row (r ∷ rs) = no_row rs

      by : (b : Bool) → is_other except id ≡ b → (if is_other except id then find (has_id number id) rows else None) ≡ find (λ row. is_other except id && has_id number id row) rows
      by true its = ap (λ b. if b then find (has_id number id) rows else None) its ∙ sym (ap (λ b. find (λ row. b && has_id number id row) rows) its)
      by false its = ap (λ b. if b then find (has_id number id) rows else None) its ∙ no_row rows ∙ sym (ap (λ b. find (λ row. b && has_id number id row) rows) its)
