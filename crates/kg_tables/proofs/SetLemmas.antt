-- Sets as lists in order: what they have, and that they are told by it.
use Rattle.std.proofs.Common.{◌≡◌, Bool, true, false, ◌||◌, ◌&&◌, List, [], ◌∷◌, Ordering, Less, Equal, Greater, is_eq, refl, sym, ap, ◌∙◌, true≢false}
use Rattle.std.specs.BTreeSet.{insert_key}
use Rattle.std.specs.Cmp.{IsTotalOrder}
use Rattle.std.specs.List.{fold, list_any, list_all, AllByRecursion}
use Rattle.std.specs.List.Sorted.{IsStrictlySortedBy}
use Rattle.std.specs.Ordering.{match_ordering, ordering_reverse}
use Rattle.kg_tables.specs.InOrder.{in_order}

-- ---- or

or_twice : (a b : Bool) → (a || b) ≡ (a || (a || b))
or_twice true b = refl
or_twice false b = refl

or_swap : (a b c : Bool) → (a || (b || c)) ≡ (b || (a || c))
or_swap true true c = refl
or_swap true false c = refl
or_swap false b c = refl

or_turn : (a b c : Bool) → ((a || b) || c) ≡ (b || (a || c))
or_turn true true c = refl
or_turn true false c = refl
or_turn false b c = refl

-- two tests that imply each other
pub both : (a b : Bool) → (a ≡ true → b ≡ true) → (b ≡ true → a ≡ true) → a ≡ b
both true b to from = sym (to refl)
both false true to from = from refl
both false false to from = refl

less≢greater : Less ≡ Greater → ⊥
less≢greater same = true≢false (ap (λ r. match_ordering r true false false) same)

module _ {K : Type 0} {R : K → K → Ordering} (o : IsTotalOrder R) (exact : (x y : K) → R x y ≡ Equal → x ≡ y) where
  abbrev Sorted : List K → Type 0
  Sorted xs = IsStrictlySortedBy R xs

  -- the key is one of them
  abbrev pub has : K → List K → Bool
  has t xs = list_any (λ x. is_eq (R t x)) xs

  turned : (x y : K) → R x y ≡ Greater → R y x ≡ Less
  turned x y greater = o.antisymm y x ∙ ap ordering_reverse greater

  back : (x y : K) → R x y ≡ Less → R y x ≡ Greater
  back x y less = o.antisymm y x ∙ ap ordering_reverse less

  own_reverse : (r : Ordering) → r ≡ ordering_reverse r → r ≡ Equal
  own_reverse Less same = absurd (less≢greater same)
  own_reverse Equal same = refl
  own_reverse Greater same = absurd (less≢greater (sym same))

  itself : (x : K) → R x x ≡ Equal
  itself x = own_reverse (R x x) (o.antisymm x x)

  is_equal : (r : Ordering) → is_eq r ≡ true → r ≡ Equal
  is_equal Less wrong = absurd (true≢false (sym wrong))
  is_equal Equal _ = refl
  is_equal Greater wrong = absurd (true≢false (sym wrong))

  -- ---- one more key

  all_insert : (P : K → Type 0) (k : K) → P k → (xs : List K) → AllByRecursion P xs → AllByRecursion P (insert_key R xs k)
  all_insert P k own [] all = (own, tt {0})
  all_insert P k own (x ∷ xs) all = by (R k x) (all_insert P k own xs all.1)
    where
      by : (r : Ordering) → AllByRecursion P (insert_key R xs k) → AllByRecursion P (match_ordering r (k ∷ x ∷ xs) (x ∷ xs) (x ∷ insert_key R xs k))
      by Less rest = (own, all)
      by Equal rest = all
      by Greater rest = (all.0, rest)

  all_above : (k x : K) → R k x ≡ Less → (xs : List K) → AllByRecursion (λ y. R x y ≡ Less) xs → AllByRecursion (λ y. R k y ≡ Less) xs
  all_above k x less [] all = tt {0}
  all_above k x less (y ∷ xs) all = (o.trans k x y less all.0, all_above k x less xs all.1)

  sorted_insert : (k : K) (xs : List K) → Sorted xs → Sorted (insert_key R xs k)
  unfolding IsStrictlySortedBy
  sorted_insert k [] sorted = (tt {0}, tt {0})
  sorted_insert k (x ∷ xs) sorted = by (R k x) refl (sorted_insert k xs sorted.1)
    where
      by : (r : Ordering) → R k x ≡ r → Sorted (insert_key R xs k) → Sorted (match_ordering r (k ∷ x ∷ xs) (x ∷ xs) (x ∷ insert_key R xs k))
      by Less is rest = ((is, all_above k x is xs sorted.0), sorted)
      by Equal is rest = sorted
      by Greater is rest = (all_insert (λ y. R x y ≡ Less) k (turned k x is) xs sorted.0, rest)

  has_insert : (t k : K) (xs : List K) → has t (insert_key R xs k) ≡ (is_eq (R t k) || has t xs)
  has_insert t k [] = refl
  has_insert t k (x ∷ xs) = by (R k x) refl (has_insert t k xs)
    where
      by : (r : Ordering) → R k x ≡ r → has t (insert_key R xs k) ≡ (is_eq (R t k) || has t xs)
          → has t (match_ordering r (k ∷ x ∷ xs) (x ∷ xs) (x ∷ insert_key R xs k)) ≡ (is_eq (R t k) || (is_eq (R t x) || has t xs))
      by Less is rest = refl
      by Equal is rest = or_twice (is_eq (R t x)) (has t xs) ∙ ap (λ z. is_eq (R t z) || (is_eq (R t x) || has t xs)) (sym (exact k x is))
      by Greater is rest = ap (λ more. is_eq (R t x) || more) rest ∙ or_swap (is_eq (R t x)) (is_eq (R t k)) (has t xs)

  -- ---- keys put in one after another

  pub sorted_fold : (xs done : List K) → Sorted done → Sorted (fold (insert_key R) done xs)
  sorted_fold [] done sorted = sorted
  sorted_fold (x ∷ xs) done sorted = sorted_fold xs (insert_key R done x) (sorted_insert x done sorted)

  pub has_fold : (t : K) (xs done : List K) → has t (fold (insert_key R) done xs) ≡ (has t done || has t xs)
  has_fold t [] done = by (has t done)
    where
      by : (b : Bool) → b ≡ (b || false)
      by true = refl
      by false = refl
  has_fold t (x ∷ xs) done =
      has_fold t xs (insert_key R done x) ∙ ap (λ b. b || has t xs) (has_insert t x done) ∙ or_turn (is_eq (R t x)) (has t done) (has t xs)

  -- ---- sorted lists that have the same are the same

  above : (x t : K) (xs : List K) → AllByRecursion (λ y. R x y ≡ Less) xs → has t xs ≡ true → R x t ≡ Less
  above x t [] all there = absurd (true≢false (sym there))
  above x t (y ∷ xs) all there = by (is_eq (R t y)) refl there (above x t xs all.1)
    where
      by : (b : Bool) → is_eq (R t y) ≡ b → (b || has t xs) ≡ true → (has t xs ≡ true → R x t ≡ Less) → R x t ≡ Less
      by true is _ rest = ap (R x) (exact t y (is_equal (R t y) is)) ∙ all.0
      by false is more rest = rest more

  absent : (x : K) (xs : List K) → AllByRecursion (λ y. R x y ≡ Less) xs → has x xs ≡ false
  absent x xs all = by (has x xs) refl
    where
      by : (b : Bool) → has x xs ≡ b → b ≡ false
      by true is = absurd (true≢false (ap (λ r. match_ordering r true false false) (sym (above x x xs all is) ∙ itself x)))
      by false is = refl

  same_rest : (x y : K) → x ≡ y → (xs ys : List K) → AllByRecursion (λ z. R x z ≡ Less) xs → AllByRecursion (λ z. R y z ≡ Less) ys
      → (t : K) → (is_eq (R t x) || has t xs) ≡ (is_eq (R t y) || has t ys) → has t xs ≡ has t ys
  same_rest x y one xs ys all_x all_y t same = by (is_eq (R t x)) refl same
    where
      by : (b : Bool) → is_eq (R t x) ≡ b → (b || has t xs) ≡ (is_eq (R t y) || has t ys) → has t xs ≡ has t ys
      by true is _ =
          let own = exact t x (is_equal (R t x) is) in
          ap (λ z. has z xs) own ∙ absent x xs all_x ∙ sym (absent y ys all_y) ∙ ap (λ z. has z ys) (sym (own ∙ one))
      by false is more = more ∙ ap (λ b. b || has t ys) (ap (λ z. is_eq (R t z)) (sym one) ∙ is)

  pub same_sorted : (xs ys : List K) → Sorted xs → Sorted ys → ((t : K) → has t xs ≡ has t ys) → xs ≡ ys
  unfolding IsStrictlySortedBy
  same_sorted [] [] sorted_x sorted_y same = refl
  same_sorted [] (y ∷ ys) sorted_x sorted_y same = absurd (true≢false (sym (same y ∙ ap (λ r. is_eq r || has y ys) (itself y))))
  same_sorted (x ∷ xs) [] sorted_x sorted_y same = absurd (true≢false (sym (ap (λ r. is_eq r || has x xs) (itself x)) ∙ same x))
  same_sorted (x ∷ xs) (y ∷ ys) sorted_x sorted_y same = by (R x y) refl (same_sorted xs ys sorted_x.1 sorted_y.1)
    where
      by : (r : Ordering) → R x y ≡ r → (((t : K) → has t xs ≡ has t ys) → xs ≡ ys) → x ∷ xs ≡ y ∷ ys
      by Equal is rest =
          ap (λ z. z ∷ xs) (exact x y is) ∙ ap (λ zs. y ∷ zs) (rest (λ t. same_rest x y (exact x y is) xs ys sorted_x.0 sorted_y.0 t (same t)))
      by Less is rest =
          let there : has x ys ≡ true = ap (λ r. is_eq r || has x ys) (sym is) ∙ sym (same x) ∙ ap (λ r. is_eq r || has x xs) (itself x) in
          absurd (less≢greater (sym (above y x ys sorted_y.0 there) ∙ back x y is))
      by Greater is rest =
          let there : has y xs ≡ true = ap (λ r. is_eq r || has y xs) (sym (turned x y is)) ∙ same y ∙ ap (λ r. is_eq r || has y ys) (itself y) in
          absurd (less≢greater (sym (above x y xs sorted_x.0 there) ∙ is))

  -- ---- keys in order

  pub sorted_order : (xs : List K) → Sorted (in_order R xs)
  unfolding IsStrictlySortedBy
  sorted_order [] = tt {0}
  sorted_order (x ∷ xs) = sorted_insert x (in_order R xs) (sorted_order xs)

  pub has_order : (t : K) (xs : List K) → has t (in_order R xs) ≡ has t xs
  has_order t [] = refl
  has_order t (x ∷ xs) = has_insert t x (in_order R xs) ∙ ap (λ b. is_eq (R t x) || b) (has_order t xs)

  -- keys that are put in one after another stand in order
  pub fold_is_order : (xs : List K) → fold (insert_key R) [] xs ≡ in_order R xs
  unfolding IsStrictlySortedBy
  fold_is_order xs =
      same_sorted (fold (insert_key R) [] xs) (in_order R xs) (sorted_fold xs [] (tt {0})) (sorted_order xs)
      (λ t. has_fold t xs [] ∙ sym (has_order t xs))

  -- ---- inclusion

  and_left : (a b : Bool) → (a && b) ≡ true → a ≡ true
  and_left true b both_true = refl
  and_left false b both_true = both_true

  and_right : (a b : Bool) → (a && b) ≡ true → b ≡ true
  and_right true b both_true = both_true
  and_right false b both_true = absurd (true≢false (sym both_true))

  or_of : (a b : Bool) → b ≡ true → (a || b) ≡ true
  or_of true b _ = refl
  or_of false b is = is

  -- where each of xs is one of ys, what xs has, ys has
  pub included : (xs ys : List K) → list_all (λ x. has x ys) xs ≡ true → (t : K) → has t xs ≡ true → has t ys ≡ true
  included [] ys all t there = absurd (true≢false (sym there))
  included (x ∷ xs) ys all t there = by (is_eq (R t x)) refl there (included xs ys (and_right (has x ys) (list_all (λ z. has z ys) xs) all) t)
    where
      by : (b : Bool) → is_eq (R t x) ≡ b → (b || has t xs) ≡ true → (has t xs ≡ true → has t ys ≡ true) → has t ys ≡ true
      by true is _ rest = ap (λ z. has z ys) (exact t x (is_equal (R t x) is)) ∙ and_left (has x ys) (list_all (λ z. has z ys) xs) all
      by false is more rest = rest more

  pub includes_itself : (xs ys : List K) → ((t : K) → has t xs ≡ true → has t ys ≡ true) → list_all (λ x. has x ys) xs ≡ true
  includes_itself [] ys sub = refl
  includes_itself (x ∷ xs) ys sub =
      ap (λ b. b && list_all (λ z. has z ys) xs) (sub x (ap (λ r. is_eq r || has x xs) (itself x)))
      ∙ includes_itself xs ys (λ t there. sub t (or_of (is_eq (R t x)) (has t xs) there))
