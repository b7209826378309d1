-- A search over what each item of a list gives, item by item.
use Rattle.std.proofs.Common.{◌≡◌, ℕ, ◌+◌, ◌<◌, Bool, List, [], ◌∷◌, ◌++◌, length, take, drop, get_or, find, Some, None, sym, ap, ◌∙◌}
use Rattle.std.specs.List.{flat_map}
use Rattle.std.specs.Option.{option_or}
use Rattle.std.proofs.lemmas.Grind.{flat_map-append}
use Rattle.std.proofs.lemmas.List.{append-nil, take_more, take-append-drop}
use Rattle.std.proofs.lemmas.List.Folds.{find-append}

-- nothing was found among the first i items; x is the next one
module _ {X A : Type 0} (p : A → Bool) (f : X → List A) (xs : List X) (i : ℕ) (x : X)
    (within : i < length xs) (here : x ≡ get_or xs i x) (none : find p (flat_map f (take i xs)) ≡ None) where
  pub found_here : find p (flat_map f (take (i + 1) xs)) ≡ find p (f x)
  found_here =
      ap (λ l. find p (flat_map f l)) (take_more xs i x within ∙ ap (λ y. take i xs ++ y ∷ []) (sym here))
      ∙ ap (find p) (flat_map-append f (take i xs) (x ∷ []))
      ∙ find-append p (flat_map f (take i xs)) (f x ++ [])
      ∙ ap (λ o. option_or o (find p (f x ++ []))) none
      ∙ ap (find p) (append-nil (f x))

  pub found_in_all : (y : A) → find p (f x) ≡ Some y → Some y ≡ find p (flat_map f xs)
  found_in_all y is = sym (
      ap (λ l. find p (flat_map f l)) (sym (take-append-drop (i + 1) xs))
      ∙ ap (find p) (flat_map-append f (take (i + 1) xs) (drop (i + 1) xs))
      ∙ find-append p (flat_map f (take (i + 1) xs)) (flat_map f (drop (i + 1) xs))
      ∙ ap (λ o. option_or o (find p (flat_map f (drop (i + 1) xs)))) (found_here ∙ is))
