-- The one member of a list that passes a test.
use Rattle.std.proofs.Common.{◌≡◌, suc, ◌==◌, Bool, true, false, cond, List, [], ◌∷◌, length, filter, map, find, Option, Some, None, option_map, refl, sym, ap, ◌∙◌, true≢false, arith}
use Rattle.std.specs.List.{count_by}
use Rattle.std.proofs.lemmas.Bool.{eqb-true}
use Rattle.std.proofs.lemmas.List.{length-map}
use Rattle.std.proofs.lemmas.List.Sums.{length-filter}
use Rattle.kg_auth.specs.Single.{single}

-- the first member, if there is one
abbrev first : {X : Type 0} → List X → Option X
first [] = None
first (x ∷ xs) = Some x

first_of_one : {X : Type 0} (xs : List X) → length xs ≡ 1 → first xs ≡ single xs
first_of_one [] one = refl
first_of_one (x ∷ []) one = refl
first_of_one (x ∷ y ∷ rest) one = let two : suc (suc (length rest)) ≡ 1 = one in absurd (omega arith)

none_of_others : {X : Type 0} (xs : List X) → (length xs == 1) ≡ false → None ≡ single xs
none_of_others [] other = refl
none_of_others (x ∷ []) other = absurd (true≢false other)
none_of_others (x ∷ y ∷ rest) other = refl

module _ {X Y : Type 0} (p : X → Bool) (f : X → Y) where
  first_found : (xs : List X) → first (map f (filter p xs)) ≡ option_map f (find p xs)
  first_found [] = refl
  first_found (x ∷ xs) = by_test (p x) (first_found xs)
    where
      by_test : (passes : Bool) → first (map f (filter p xs)) ≡ option_map f (find p xs)
          → first (map f (cond passes (x ∷ filter p xs) (filter p xs))) ≡ option_map f (cond passes (Some x) (find p xs))
      by_test true later = refl
      by_test false later = later

  passing : (xs : List X) → length (map f (filter p xs)) ≡ count_by p xs
  passing xs = length-map (filter p xs) f ∙ length-filter p xs

  pub one_passes : (xs : List X) → (count_by p xs == 1) ≡ true → option_map f (find p xs) ≡ single (map f (filter p xs))
  one_passes xs one =
      sym (first_found xs) ∙ first_of_one (map f (filter p xs)) (passing xs ∙ eqb-true (count_by p xs) 1 one)

  pub others_pass : (xs : List X) → (count_by p xs == 1) ≡ false → None ≡ single (map f (filter p xs))
  others_pass xs other = none_of_others (map f (filter p xs)) (ap (λ n. n == 1) (passing xs) ∙ other)
