-- Lists of texts of which none stands twice.
use Rattle.std.proofs.Common.{◌≡◌, ℕ, suc, ◌+◌, ◌<◌, Bool, true, false, not, ◌&&◌, ◌||◌, cond, List, [], ◌∷◌, ◌++◌, length, get_or, drop, take, map, Bor, refl, ap, ◌∙◌}
use Rattle.std.proofs.Math.Seq.{split_at}
use Rattle.std.proofs.lemmas.Cmp.{nat_list_eq_equiv}
use Rattle.std.proofs.lemmas.List.{map-append, take_more}
use Rattle.std.proofs.lemmas.List.Folds.{list_any-append}
use Rattle.std.specs.List.{list_any}
use Rattle.std.specs.Str.{bytes_eq}
use Rattle.kg_row_types.specs.TextForms.{are_distinct}

both : (a b : Bool) → (a && b) ≡ true → (a ≡ true) × (b ≡ true)
both true true h = (refl, refl)
both true false h = cc
both false b h = cc

neither : (a b : Bool) → (a || b) ≡ false → (a ≡ false) × (b ≡ false)
neither true b h = cc
neither false b h = (refl, h)

pub not_true : (b : Bool) → not b ≡ true → b ≡ false
not_true true h = cc
not_true false h = refl

pub not_false : (b : Bool) → not b ≡ false → b ≡ true
not_false true h = refl
not_false false h = cc

list_any-middle : (test : List ℕ → Bool) (xs : List (List ℕ)) (y : List ℕ) (ys : List (List ℕ)) → test y ≡ true → list_any test (xs ++ y ∷ ys) ≡ true
list_any-middle test [] y ys passes = rw passes
list_any-middle test (x ∷ xs) y ys passes = rw (list_any-middle test xs y ys passes) (or-true (test x))
  where
    or-true : (b : Bool) → (b || true) ≡ true
    or-true true = refl
    or-true false = refl

and-false : (b : Bool) → (b && false) ≡ false
and-false true = refl
and-false false = refl

-- a text that stands in front already
pub are_distinct-repeated : (xs : List (List ℕ)) (y : List ℕ) (ys : List (List ℕ)) → list_any (bytes_eq y) xs ≡ true → are_distinct (xs ++ y ∷ ys) ≡ false
are_distinct-repeated [] y ys again = cc
are_distinct-repeated (x ∷ xs) y ys again = at_first (bytes_eq y x) refl again (λ later. are_distinct-repeated xs y ys later)
  where
    at_first : (b : Bool) → bytes_eq y x ≡ b → (b || list_any (bytes_eq y) xs) ≡ true → (list_any (bytes_eq y) xs ≡ true → are_distinct (xs ++ y ∷ ys) ≡ false)
        → are_distinct (x ∷ xs ++ y ∷ ys) ≡ false
    at_first true same h later =
        ap (λ b. not b && are_distinct (xs ++ y ∷ ys)) (list_any-middle (bytes_eq x) xs y ys (nat_list_eq_equiv.symm x y ∙ same))
    at_first false same h later = ap (λ b. not (list_any (bytes_eq x) (xs ++ y ∷ ys)) && b) (later h) ∙ and-false _

-- a text that doesn't stand in front yet
pub are_distinct-push : (xs : List (List ℕ)) (y : List ℕ) → are_distinct xs ≡ true → list_any (bytes_eq y) xs ≡ false → are_distinct (xs ++ y ∷ []) ≡ true
are_distinct-push [] y distinct new = refl
are_distinct-push (x ∷ xs) y distinct new =
    let first = both _ _ distinct in
    let apart = neither _ _ new in
    let absent : list_any (bytes_eq x) (xs ++ y ∷ []) ≡ false =
    list_any-append (bytes_eq x) xs (y ∷ []) ∙ ap (λ b. b || (bytes_eq x y || false)) (not_true _ first.0) ∙ ap (λ b. b || false) (nat_list_eq_equiv.symm x y ∙ apart.0) in
    rw absent (are_distinct-push xs y first.1 apart.1)

-- the borrowed texts in front of a place
abbrev pub in_front : List (Bor (List ℕ)) → ℕ → List (List ℕ)
in_front texts i = map (λ text. text.now) (take i texts)

one_more_in_front : (texts : List (Bor (List ℕ))) (i : ℕ) (d : Bor (List ℕ)) → i < length texts → in_front texts (i + 1) ≡ in_front texts i ++ (get_or texts i d).now ∷ []
one_more_in_front texts i d within = ap (map (λ text. text.now)) (take_more texts i d within) ∙ map-append (λ text. text.now) (take i texts) (get_or texts i d ∷ [])

-- which texts are among those in front, with one more of them
pub among_one_more : (q : List ℕ) (texts : List (Bor (List ℕ))) (i : ℕ) (d : Bor (List ℕ)) → i < length texts
    → list_any (bytes_eq q) (in_front texts (i + 1)) ≡ cond (bytes_eq (get_or texts i d).now q) true (list_any (bytes_eq q) (in_front texts i))
among_one_more q texts i d within =
    ap (list_any (bytes_eq q)) (one_more_in_front texts i d within) ∙ list_any-append (bytes_eq q) (in_front texts i) ((get_or texts i d).now ∷ [])
    ∙ ap (λ b. list_any (bytes_eq q) (in_front texts i) || (b || false)) (nat_list_eq_equiv.symm q (get_or texts i d).now) ∙ last_first _ _
  where
    last_first : (a b : Bool) → (a || (b || false)) ≡ cond b true a
    last_first true true = refl
    last_first true false = refl
    last_first false true = refl
    last_first false false = refl

-- what `get_or` answers past the end
abbrev pub no_text : Bor (List ℕ)
no_text = record { ref_ptr = (0, 0); now = [] }

-- a text that stands in front already
pub repeated_text : (texts : List (Bor (List ℕ))) (i : ℕ) (d : Bor (List ℕ)) → i < length texts
    → list_any (bytes_eq (get_or texts i d).now) (in_front texts i) ≡ true → are_distinct (map (λ text. text.now) texts) ≡ false
repeated_text texts i d within again =
    ap are_distinct (ap (map (λ text. text.now)) (split_at texts i d within) ∙ map-append (λ text. text.now) (take i texts) (get_or texts i d ∷ drop (suc i) texts))
    ∙ are_distinct-repeated (in_front texts i) (get_or texts i d).now (map (λ text. text.now) (drop (suc i) texts)) again

-- a text that doesn't stand in front yet
pub new_text : (texts : List (Bor (List ℕ))) (i : ℕ) (d : Bor (List ℕ)) → i < length texts
    → list_any (bytes_eq (get_or texts i d).now) (in_front texts i) ≡ false → are_distinct (in_front texts i) ≡ true → are_distinct (in_front texts (i + 1)) ≡ true
new_text texts i d within new distinct =
    ap are_distinct (one_more_in_front texts i d within) ∙ are_distinct-push (in_front texts i) (get_or texts i d).now distinct new
