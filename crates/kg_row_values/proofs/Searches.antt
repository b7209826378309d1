-- Searches of a list that was changed where they don't look.
use Rattle.std.proofs.Common.{◌≡◌, Bool, true, false, cond, not, ◌&&◌, ◌||◌, List, [], ◌∷◌, ◌++◌, Option, None, Some, filter, find, refl, sym, ap, ◌∙◌, true≢false}
use Rattle.std.proofs.lemmas.List.Folds.{list_any-append}
use Rattle.std.specs.List.{list_any, flat_map}
use Rattle.std.specs.Option.{is_some}
use Rattle.kg_row_types.specs.Tables.{replaced}

pub or_left : (a b : Bool) → (a || b) ≡ false → a ≡ false
or_left false b h = refl
or_left true b h = h

pub or_right : (a b : Bool) → (a || b) ≡ false → b ≡ false
or_right false b h = h
or_right true b h = absurd (true≢false h)

module _ {X : Type 0} (p : X → Bool) where
  -- a member that fails is passed by
  pub filter_past_push : (x : X) → p x ≡ false → (xs : List X) → filter p (xs ++ x ∷ []) ≡ filter p xs
  filter_past_push x fails [] = ap (λ b. cond b (x ∷ []) []) fails
  filter_past_push x fails (y ∷ xs) = ap (λ rest. cond (p y) (y ∷ rest) rest) (filter_past_push x fails xs)

  -- members that are taken out and fail
  pub filter_past_filter : (gone : X → Bool) (xs : List X) → list_any p (filter gone xs) ≡ false → filter p (filter (λ x. not (gone x)) xs) ≡ filter p xs
  filter_past_filter gone [] none = refl
  filter_past_filter gone (x ∷ xs) none =
      (elim (gone x) as (λ g. list_any p (cond {A = List X} g (x ∷ filter gone xs) (filter gone xs)) ≡ false
      → filter p (cond {A = List X} (not g) (x ∷ filter (λ y. not (gone y)) xs) (filter (λ y. not (gone y)) xs)) ≡ cond {A = List X} (p x) (x ∷ filter p xs) (filter p xs)) [
        | true ↦ λ h. filter_past_filter gone xs (or_right (p x) (list_any p (filter gone xs)) h)
            ∙ sym (ap (λ b. cond {A = List X} b (x ∷ filter p xs) (filter p xs)) (or_left (p x) (list_any p (filter gone xs)) h))
        | false ↦ λ h. ap (λ rest. cond {A = List X} (p x) (x ∷ rest) rest) (filter_past_filter gone xs h)
      ]) none

  -- a member that fails is replaced by one that fails
  pub filter_past_replaced : (which : X → Bool) (new : X) → p new ≡ false → (xs : List X) → list_any p (filter which xs) ≡ false → filter p (replaced which new xs) ≡ filter p xs
  filter_past_replaced which new fails [] none = refl
  filter_past_replaced which new fails (x ∷ xs) none =
      (elim (which x) as (λ w. list_any p (cond {A = List X} w (x ∷ filter which xs) (filter which xs)) ≡ false
      → filter p (cond {A = List X} w (new ∷ xs) (x ∷ replaced which new xs)) ≡ cond {A = List X} (p x) (x ∷ filter p xs) (filter p xs)) [
        | true ↦ λ h. ap (λ b. cond {A = List X} b (new ∷ filter p xs) (filter p xs)) fails
            ∙ sym (ap (λ b. cond {A = List X} b (x ∷ filter p xs) (filter p xs)) (or_left (p x) (list_any p (filter which xs)) h))
        | false ↦ λ h. ap (λ rest. cond {A = List X} (p x) (x ∷ rest) rest) (filter_past_replaced which new fails xs h)
      ]) none

  -- the first that passes is the first of those that pass
  pub find_filter : (xs : List X) → find p xs ≡ find p (filter p xs)
  find_filter [] = refl
  find_filter (x ∷ xs) =
      (elim (p x) as (λ b. p x ≡ b → cond {A = Option X} b (Some x) (find p xs) ≡ find p (cond {A = List X} b (x ∷ filter p xs) (filter p xs))) [
        | true ↦ λ is. sym (ap (λ b. cond {A = Option X} b (Some x) (find p (filter p xs))) is)
        | false ↦ λ _. find_filter xs
      ]) refl

  -- where the same pass, the same is first
  pub find_by_filter : (xs ys : List X) → filter p xs ≡ filter p ys → find p xs ≡ find p ys
  find_by_filter xs ys same = find_filter xs ∙ ap (find p) same ∙ sym (find_filter ys)

-- one is found exactly where one passes
pub found_any : {X : Type 0} (p : X → Bool) (xs : List X) → is_some (find p xs) ≡ list_any p xs
found_any p [] = refl
found_any {X} p (x ∷ xs) = (elim (p x) as (λ b. is_some (cond {A = Option X} b (Some x) (find p xs)) ≡ (b || list_any p xs)) [ true ↦ refl | false ↦ found_any p xs ])

-- where the same pass, the same is found
same_found : {X : Type 0} (p q : X → Bool) → ((x : X) → p x ≡ q x) → (xs : List X) → find p xs ≡ find q xs
same_found p q same [] = refl
same_found {X} p q same (x ∷ xs) = ap (λ b. cond {A = Option X} b (Some x) (find p xs)) (same x) ∙ ap (λ rest. cond {A = Option X} (q x) (Some x) rest) (same_found p q same xs)

-- the first that passes both is the first of those that pass the one
pub find_below : {X : Type 0} (p q : X → Bool) (xs : List X) → find (λ x. p x && q x) xs ≡ find q (filter p xs)
find_below p q [] = refl
find_below {X} p q (x ∷ xs) =
    (elim (p x) as (λ b. cond {A = Option X} (b && q x) (Some x) (find (λ y. p y && q y) xs) ≡ find q (cond {A = List X} b (x ∷ filter p xs) (filter p xs))) [
      | true ↦ ap (λ rest. cond {A = Option X} (q x) (Some x) rest) (find_below p q xs)
      | false ↦ find_below p q xs
    ])

-- the first that passes two tests among those that pass a third is the first that passes them all
pub find_both : {X : Type 0} (p q r : X → Bool) (xs : List X) → find (λ x. q x && r x) (filter p xs) ≡ find (λ x. q x && (p x && r x)) xs
find_both p q r xs = sym (find_below p (λ x. q x && r x) xs) ∙ same_found (λ x. p x && (q x && r x)) (λ x. q x && (p x && r x)) (λ x. by (p x) (q x) (r x)) xs
  where
    by : (a b c : Bool) → (a && (b && c)) ≡ (b && (a && c))
    by true b c = refl
    by false true c = refl
    by false false c = refl

-- where no key of a list passes, no row passes whose keys are in it
pub none_of_all : {X K : Type 0} (q : K → Bool) (f : X → List K) (p : X → Bool) → ((x : X) → list_any q (f x) ≡ false → p x ≡ false)
    → (xs : List X) → list_any q (flat_map f xs) ≡ false → list_any p xs ≡ false
none_of_all q f p covers [] none = refl
none_of_all q f p covers (x ∷ xs) none =
    let parts : (list_any q (f x) || list_any q (flat_map f xs)) ≡ false = sym (list_any-append q (f x) (flat_map f xs)) ∙ none in
    ap (λ b. b || list_any p xs) (covers x (or_left (list_any q (f x)) (list_any q (flat_map f xs)) parts))
    ∙ none_of_all q f p covers xs (or_right (list_any q (f x)) (list_any q (flat_map f xs)) parts)

-- a front part, and a back part, of which none passes
pub none_of_front : {K : Type 0} (q : K → Bool) (xs ys : List K) → list_any q (xs ++ ys) ≡ false → list_any q xs ≡ false
none_of_front q xs ys none = or_left (list_any q xs) (list_any q ys) (sym (list_any-append q xs ys) ∙ none)

pub none_of_back : {K : Type 0} (q : K → Bool) (xs ys : List K) → list_any q (xs ++ ys) ≡ false → list_any q ys ≡ false
none_of_back q xs ys none = or_right (list_any q xs) (list_any q ys) (sym (list_any-append q xs ys) ∙ none)

-- ---- rows below a row

-- the tests may change places
both_ways : {X : Type 0} (p q : X → Bool) (xs : List X) → find (λ x. p x && q x) xs ≡ find (λ x. q x && p x) xs
both_ways p q xs = same_found (λ x. p x && q x) (λ x. q x && p x) (λ x. by (p x) (q x)) xs
  where
    by : (a b : Bool) → (a && b) ≡ (b && a)
    by true true = refl
    by true false = refl
    by false true = refl
    by false false = refl

-- the rows that pass the second test are given
pub found_among : {X : Type 0} (p q : X → Bool) (xs own : List X) → own ≡ filter q xs → find p own ≡ find q (filter p xs)
found_among p q xs own same = ap (find p) same ∙ sym (find_below q p xs) ∙ both_ways q p xs ∙ find_below p q xs

-- the first of all is one of those below
pub first_is_below : {X : Type 0} (p q : X → Bool) (xs : List X) (x : X) → Some x ≡ find q xs → p x ≡ true → Some x ≡ find q (filter p xs)
first_is_below {X} p q [] x first below = first
first_is_below {X} p q (y ∷ xs) x first below =
    (elim (q y) as (λ b. q y ≡ b → Some x ≡ cond {A = Option X} b (Some y) (find q xs) → Some x ≡ find q (cond {A = List X} (p y) (y ∷ filter p xs) (filter p xs))) [
      | true ↦ λ is same.
          let e : x ≡ y = ap (λ o. elim o [ None ↦ x | Some z ↦ z ]) same in
          ap Some e ∙ sym (ap (λ b. cond {A = Option X} b (Some y) (find q (filter p xs))) is)
          ∙ sym (ap (λ b. find q (cond {A = List X} b (y ∷ filter p xs) (filter p xs))) (sym (ap p e) ∙ below))
      | false ↦ λ is later.
          (elim (p y) as (λ b. Some x ≡ find q (cond {A = List X} b (y ∷ filter p xs) (filter p xs))) [
            | true ↦ first_is_below p q xs x later below ∙ sym (ap (λ b. cond {A = Option X} b (Some y) (find q (filter p xs))) is)
            | false ↦ first_is_below p q xs x later below
          ])
    ]) refl first

-- none of all is one of those below
pub none_is_below : {X : Type 0} (p q : X → Bool) (xs : List X) → None ≡ find q xs → None ≡ find q (filter p xs)
none_is_below p q [] none = refl
none_is_below {X} p q (y ∷ xs) none =
    (elim (q y) as (λ b. q y ≡ b → None ≡ cond {A = Option X} b (Some y) (find q xs) → None ≡ find q (cond {A = List X} (p y) (y ∷ filter p xs) (filter p xs))) [
      | true ↦ λ is wrong. absurd (true≢false (ap (λ o. elim o [ None ↦ true | Some z ↦ false ]) wrong))
      | false ↦ λ is later.
          (elim (p y) as (λ b. None ≡ find q (cond {A = List X} b (y ∷ filter p xs) (filter p xs))) [
            | true ↦ none_is_below p q xs later ∙ sym (ap (λ b. cond {A = Option X} b (Some y) (find q (filter p xs))) is)
            | false ↦ none_is_below p q xs later
          ])
    ]) refl none
