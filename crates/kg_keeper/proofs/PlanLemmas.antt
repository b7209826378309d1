-- The numbers of the calls that fail, call by call.
use Rattle.std.proofs.Common.{◌≡◌, ◌⊎◌, ⊎_elim, inl, inr, subst, ℕ, zero, suc, ◌≤◌, ◌+◌, ◌-◌, ◌<◌, ◌^◌, nat_lt, Bool, true, false, cond, if◌then◌else◌, List, [], ◌∷◌, ◌++◌, All, Contains, filter, map, refl, sym, ap, ◌∙◌, true≢false, arith}
use Rattle.std.proofs.lemmas.List.Elements.{All-head, All-tail, Contains-append_cases, Contains-append_left, Contains-append_right, Contains-push, Contains-push_cases, filter-append}
use Rattle.std.proofs.lemmas.List.{map-append}
use Rattle.std.specs.List.{range_with_len}
use Rattle.kg_outside.specs.Counts.{one_more}
use Rattle.std.proofs.lemmas.Bool.{ltb-true, ltb-false, lt-ltb, ltb_from_iff}
use Rattle.kg_keeper.specs.Observed.{after_call}
use Rattle.kg_keeper.specs.Plans.{coming, moved_on}

-- a number is left after one call more where it is left and isn't the next
left_after : (made n : ℕ) → nat_lt (made + 1) n ≡ nat_lt 1 (n - made)
left_after made n = ltb_from_iff (
  (λ left. let above = ltb-true (made + 1) n left in omega arith),
  (λ above. lt-ltb (made + 1) n (omega arith)),
)

module _ (made n : ℕ) where
  one_more_number : (b after : Bool) (now later : List ℕ) → (b ≡ false → after ≡ false) → nat_lt 1 (n - made) ≡ after
      → map (λ k. k - (made + 1)) later ≡ after_call (map (λ k. k - made) now)
      → map (λ k. k - (made + 1)) (cond after (n ∷ later) later) ≡ after_call (map (λ k. k - made) (cond b (n ∷ now) now))
  one_more_number true true now later none next rest =
      let less : n - (made + 1) ≡ n - made - 1 = omega arith in
      rw next (cc)
  one_more_number true false now later none next rest = rw next rest
  one_more_number false true now later none next rest = absurd (true≢false (none refl))
  one_more_number false false now later none next rest = rest

-- after one more call the numbers that are left are less by one
pub coming_after : (made : ℕ) (fails : List ℕ) → coming (made + 1) fails ≡ after_call (coming made fails)
coming_after made [] = refl
coming_after made (n ∷ fails) =
    one_more_number made n (nat_lt made n) (nat_lt (made + 1) n) (filter (nat_lt made) fails) (filter (nat_lt (made + 1)) fails)
    (none_after (nat_lt (made + 1) n) refl) (sym (left_after made n)) (coming_after made fails)
  where
    none_after : (after : Bool) → nat_lt (made + 1) n ≡ after → nat_lt made n ≡ false → nat_lt (made + 1) n ≡ false
    none_after true left gone = absurd (true≢false (sym (lt-ltb made n (let above = ltb-true (made + 1) n left in omega arith)) ∙ gone))
    none_after false left gone = left

-- where the count stands still, no number is left
none_coming : (made : ℕ) (fails : List ℕ) → All (λ n. n < 2 ^ 64) fails → made + 1 ≡ 2 ^ 64 → coming made fails ≡ []
none_coming made [] below end = refl
none_coming made (n ∷ fails) below end =
    let small : n < 2 ^ 64 = All-head (λ k. k < 2 ^ 64) n fails below in
    rw (not_above (nat_lt made n) refl small) (none_coming made fails (All-tail (λ k. k < 2 ^ 64) n fails below) end)
  where
    not_above : (b : Bool) → nat_lt made n ≡ b → n < 2 ^ 64 → nat_lt made n ≡ false
    not_above true above small = absurd (let more = ltb-true made n above in omega arith)
    not_above false is small = is

-- the numbers of the coming calls, after one more call
pub coming_moved : (made : ℕ) (fails : List ℕ) → All (λ n. n < 2 ^ 64) fails → made < 2 ^ 64 → coming (one_more made) fails ≡ after_call (coming made fails)
coming_moved made fails below bound = by_end (nat_lt (made + 1) (2 ^ 64)) refl
  where
    by_end : (b : Bool) → nat_lt (made + 1) (2 ^ 64) ≡ b → coming (one_more made) fails ≡ after_call (coming made fails)
    by_end true more =
        let less = ltb-true (made + 1) (2 ^ 64) more in
        let next : one_more made ≡ made + 1 = omega arith in
        ap (λ m. coming m fails) next ∙ coming_after made fails
    by_end false last =
        let end = ltb-false (made + 1) (2 ^ 64) last in
        let stands : one_more made ≡ made = omega arith in
        let none = none_coming made fails below (omega arith) in
        ap (λ m. coming m fails) stands ∙ none ∙ ap after_call (sym none)

-- ---- the next call

only_one : (x y : ℕ) → Contains (x ∷ []) y → x ≡ y
only_one x y there = ⊎_elim (λ none. absurd (omega (arith, none.1))) (λ same. same) (Contains-push_cases [] x y there)

first_or_later : (x y : ℕ) (xs : List ℕ) → Contains (x ∷ xs) y → (x ≡ y) ⊎ Contains xs y
first_or_later x y xs there = ⊎_elim (λ one. inl (only_one x y one)) (λ more. inr more) (Contains-append_cases (x ∷ []) xs y there)

here : (x : ℕ) (xs : List ℕ) → Contains (x ∷ xs) x
here x xs = Contains-append_left (x ∷ []) xs x (Contains-push [] x)

later : (x y : ℕ) (xs : List ℕ) → Contains xs y → Contains (x ∷ xs) y
later x y xs there = Contains-append_right (x ∷ []) xs y there

module _ (made n : ℕ) (fails : List ℕ) where
  next_further : (b : Bool) → nat_lt made n ≡ b → (n ≡ made + 1) ⊎ Contains (coming made fails) 1
      → Contains (map (λ k. k - made) (cond b (n ∷ filter (nat_lt made) fails) (filter (nat_lt made) fails))) 1
  next_further true above (inl first) =
      let one : n - made ≡ 1 = omega arith in
      subst (λ k. Contains (k ∷ coming made fails) 1) (sym one) (here 1 (coming made fails))
  next_further true above (inr more) = later (n - made) 1 (coming made fails) more
  next_further false below (inl first) = absurd (let up = ltb-false made n below in omega arith)
  next_further false below (inr more) = more

  listed_first : nat_lt made n ≡ true → (n - made ≡ 1) ⊎ Contains fails (made + 1) → Contains (n ∷ fails) (made + 1)
  listed_first above (inl first) =
      let up = ltb-true made n above in
      let is : n ≡ made + 1 = omega arith in
      subst (λ k. Contains (k ∷ fails) (made + 1)) (sym is) (here (made + 1) fails)
  listed_first above (inr more) = later n (made + 1) fails more

  listed_further : (b : Bool) → nat_lt made n ≡ b → (Contains (coming made fails) 1 → Contains fails (made + 1))
      → Contains (map (λ k. k - made) (cond b (n ∷ filter (nat_lt made) fails) (filter (nat_lt made) fails))) 1
      → Contains (n ∷ fails) (made + 1)
  listed_further true above listed there =
      listed_first above (⊎_elim (λ first. inl first) (λ more. inr (listed more)) (first_or_later (n - made) 1 (coming made fails) there))
  listed_further false below listed there = later n (made + 1) fails (listed there)

-- the next call is listed where its number is
pub next_from_listed : (made : ℕ) (fails : List ℕ) → Contains fails (made + 1) → Contains (coming made fails) 1
next_from_listed made [] there = absurd (omega (arith, there.1))
next_from_listed made (n ∷ fails) there =
    next_further made n fails (nat_lt made n) refl
    (⊎_elim (λ first. inl first) (λ more. inr (next_from_listed made fails more)) (first_or_later n (made + 1) fails there))

pub listed_from_next : (made : ℕ) (fails : List ℕ) → Contains (coming made fails) 1 → Contains fails (made + 1)
listed_from_next made [] there = absurd (omega (arith, there.1))
listed_from_next made (n ∷ fails) there =
    listed_further made n fails (nat_lt made n) refl (listed_from_next made fails) there

-- ---- the announced calls

-- after one more call one less is announced
announced_after : (from n : ℕ) → 1 ≤ from → after_call (range_with_len (from + 1) n) ≡ range_with_len from n
announced_after from zero low = refl
announced_after from (suc n) low =
    let above : nat_lt 1 (from + 1) ≡ true = lt-ltb 1 (from + 1) (omega arith) in
    let less : from + 1 - 1 ≡ from = omega arith in
    let rest = announced_after (from + 1) n (omega arith) in
    rw above (cc)

pub failing_after : (announced : ℕ) (listed : List ℕ) → after_call (range_with_len 1 announced ++ listed) ≡ range_with_len 1 (announced - 1) ++ after_call listed
failing_after zero listed = refl
failing_after (suc n) listed =
    let one : suc n - 1 ≡ n = omega arith in
    rw one
    (ap (map (λ k. k - 1)) (filter-append (nat_lt 1) (range_with_len 2 n) listed)
    ∙ map-append (λ k. k - 1) (filter (nat_lt 1) (range_with_len 2 n)) (filter (nat_lt 1) listed)
    ∙ ap (λ front. front ++ after_call listed) (announced_after 1 n (omega arith)))

-- an announced call is the next
pub next_announced : (announced : ℕ) (listed : List ℕ) → 0 < announced → Contains (range_with_len 1 announced ++ listed) 1
next_announced zero listed some = absurd (omega arith)
next_announced (suc n) listed some = here 1 (range_with_len 2 n ++ listed)

-- where none is announced, those that are listed fail
pub none_announced : (announced : ℕ) (listed : List ℕ) → announced ≤ 0 → range_with_len 1 announced ++ listed ≡ listed
none_announced zero listed none = refl
none_announced (suc n) listed none = absurd (omega arith)

-- ---- the plan

-- the fields of a plan after one more call
pub plan_moved : (made faults announced : ℕ) (fails : List ℕ) (fault : Bool) (made' faults' announced' : ℕ)
    → made' ≡ one_more made → faults' ≡ (if fault then one_more faults else faults) → announced' ≡ announced - 1
    → coming (one_more made) fails ≡ after_call (coming made fails)
    → record { calls = made'; faults = faults'; announced = announced'; listed = coming made' fails }
    ≡ moved_on fault (record { calls = made; faults = faults; announced = announced; listed = coming made fails })
plan_moved made faults announced fails fault made' faults' announced' calls failed less moved = rw (calls, failed, less, moved) refl
