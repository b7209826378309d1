-- A loop over two lists side by side.
use Rattle.std.proofs.Common.{◌≡◌, ℕ, ◌+◌, ◌<◌, min, List, ◌∷◌, [], ◌++◌, length, get_or, take, map, zip, sym, ap, ◌∙◌, arith}
use Rattle.std.proofs.lemmas.List.{get_or-map, length-map, take_more, take_all}
use Rattle.std.proofs.lemmas.Slice.Zip.{get_or-zip, length-zip}

module _ {A B C : Type 0} (f : A × B → C) (xs : List A) (ys : List B) where
  -- one more of both
  pub zip_more : (n : ℕ) (x : A) (y : B) → n < length xs → n < length ys → ((d : A) → x ≡ get_or xs n d) → ((d : B) → y ≡ get_or ys n d)
      → take (n + 1) (map f (zip xs ys)) ≡ take n (map f (zip xs ys)) ++ f (x, y) ∷ []
  zip_more n x y in_xs in_ys is_x is_y =
      let long = length-zip xs ys in
      let within : n < length (zip xs ys) = omega (arith, long, in_xs, in_ys) in
      let mapped = length-map (zip xs ys) f in
      let a : get_or xs n x ≡ x = sym (is_x x) in
      let b : get_or ys n y ≡ y = sym (is_y y) in
      take_more (map f (zip xs ys)) n (f (x, y)) (omega (arith, mapped, within))
      ∙ ap (λ c. take n (map f (zip xs ys)) ++ c ∷ [])
      (get_or-map f (zip xs ys) n (x, y) (f (x, y)) within ∙ ap f (get_or-zip xs ys n (x, y) in_xs in_ys ∙ (λ j. (a j, b j))))

  -- all of both
  pub zip_all : (n : ℕ) → n ≡ min (length xs) (length ys) → take n (map f (zip xs ys)) ≡ map f (zip xs ys)
  zip_all n is =
      let long = length-zip xs ys in
      let mapped = length-map (zip xs ys) f in
      take_all n (map f (zip xs ys)) (omega (arith, mapped, long, is))
