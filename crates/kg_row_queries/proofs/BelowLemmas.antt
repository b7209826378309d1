-- Searches of the rows that pass a test.
use Rattle.std.proofs.Common.{◌≡◌, Bool, true, false, cond, ◌&&◌, List, [], ◌∷◌, Option, None, Some, filter, find, refl, sym, ap, ◌∙◌, true≢false}

-- the first that passes both is the first of those that pass the one
find_below : {X : Type 0} (p q : X → Bool) (xs : List X) → find (λ x. p x && q x) xs ≡ find q (filter p xs)
find_below p q [] = refl
find_below {X} p q (x ∷ xs) =
    (elim (p x) as (λ b. cond {A = Option X} (b && q x) (Some x) (find (λ y. p y && q y) xs) ≡ find q (cond {A = List X} b (x ∷ filter p xs) (filter p xs))) [
      | true ↦ ap (λ rest. cond {A = Option X} (q x) (Some x) rest) (find_below p q xs)
      | false ↦ find_below p q xs
    ])

-- the tests may change places
both_ways : {X : Type 0} (p q : X → Bool) (xs : List X) → find (λ x. p x && q x) xs ≡ find (λ x. q x && p x) xs
both_ways p q [] = refl
both_ways {X} p q (x ∷ xs) =
    (elim (p x) as (λ a. cond {A = Option X} (a && q x) (Some x) (find (λ y. p y && q y) xs) ≡ cond {A = Option X} (q x && a) (Some x) (find (λ y. q y && p y) xs)) [
      | true ↦ (elim (q x) as (λ b. cond {A = Option X} b (Some x) (find (λ y. p y && q y) xs) ≡ cond {A = Option X} (b && true) (Some x) (find (λ y. q y && p y) xs)) [ true ↦ refl | false ↦ both_ways p q xs ])
      | false ↦ (elim (q x) as (λ b. find (λ y. p y && q y) xs ≡ cond {A = Option X} (b && false) (Some x) (find (λ y. q y && p y) xs)) [ true ↦ both_ways p q xs | false ↦ both_ways p q xs ])
    ])

-- the rows that pass the second test are given
pub found_among : {X : Type 0} (p q : X → Bool) (xs own : List X) → own ≡ filter q xs → find p own ≡ find q (filter p xs)
found_among p q xs own same = ap (find p) same ∙ sym (find_below q p xs) ∙ both_ways q p xs ∙ find_below p q xs

-- the first of all is one of those below
pub first_is_below : {X : Type 0} (p q : X → Bool) (xs : List X) (x : X) → Some x ≡ find q xs → p x ≡ true → Some x ≡ find q (filter p xs)
first_is_below {X} p q [] x first below = first
first_is_below {X} p q (y ∷ xs) x first below =
    (elim (q y) as (λ b. q y ≡ b → Some x ≡ cond {A = Option X} b (Some y) (find q xs) → Some x ≡ find q (cond {A = List X} (p y) (y ∷ filter p xs) (filter p xs))) [
      | true ↦ λ is same.
          let e : x ≡ y = ap (λ o. elim o [ None ↦ x | Some z ↦ z ]) same in
          ap Some e ∙ sym (ap (λ b. cond {A = Option X} b (Some y) (find q (filter p xs))) is)
          ∙ sym (ap (λ b. find q (cond {A = List X} b (y ∷ filter p xs) (filter p xs))) (sym (ap p e) ∙ below))
      | false ↦ λ is later.
          (elim (p y) as (λ b. Some x ≡ find q (cond {A = List X} b (y ∷ filter p xs) (filter p xs))) [
            | true ↦ first_is_below p q xs x later below ∙ sym (ap (λ b. cond {A = Option X} b (Some y) (find q (filter p xs))) is)
            | false ↦ first_is_below p q xs x later below
          ])
    ]) refl first

-- none of all is one of those below
pub none_is_below : {X : Type 0} (p q : X → Bool) (xs : List X) → None ≡ find q xs → None ≡ find q (filter p xs)
none_is_below p q [] none = refl
none_is_below {X} p q (y ∷ xs) none =
    (elim (q y) as (λ b. q y ≡ b → None ≡ cond {A = Option X} b (Some y) (find q xs) → None ≡ find q (cond {A = List X} (p y) (y ∷ filter p xs) (filter p xs))) [
      | true ↦ λ is wrong. absurd (true≢false (ap (λ o. elim o [ None ↦ true | Some z ↦ false ]) wrong))
      | false ↦ λ is later.
          (elim (p y) as (λ b. None ≡ find q (cond {A = List X} b (y ∷ filter p xs) (filter p xs))) [
            | true ↦ none_is_below p q xs later ∙ sym (ap (λ b. cond {A = Option X} b (Some y) (find q (filter p xs))) is)
            | false ↦ none_is_below p q xs later
          ])
    ]) refl none
