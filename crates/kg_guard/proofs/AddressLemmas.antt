-- Addresses in dotted decimal, part by part, and the parts of a block.
use Rattle.std.proofs.Common.{◌≡◌, ℕ, zero, suc, ◌+◌, ◌-◌, ◌*◌, ◌^◌, ◌<◌, ◌≤◌, ◌==◌, if◌then◌else◌, Bool, true, false, not, ◌||◌, List, [], ◌∷◌, length, take, drop, map, refl, sym, ap, subst, ◌∙◌, arith}
use Rattle.std.proofs.lemmas.Bool.{and_parts}
use Rattle.std.proofs.lemmas.List.{drop-drop, length-drop, take_all}
use Rattle.std.proofs.lemmas.List.Splits.{slice_split_first, slice_split_none}
use Rattle.std.proofs.lemmas.List.Sums.{fails_before_first}
use Rattle.std.specs.List.{after_first, before_first, list_all, list_any, position_or_len}
use Rattle.std.specs.Str.Parse.{digits_value}
use Rattle.kg_field_rules.proofs.TextLemmas.{behind_first, from_first-empty}
use Rattle.kg_field_rules.specs.Urls.{from_first}
use Rattle.kg_row_types.specs.ConfigTexts.{is_decimal_within, is_ipv4, is_ipv4_block}
use Rattle.kg_guard.specs.Addresses.{block_bits, is_dot, is_slash, octets_of, with_octets}
use Rattle.kg_guard.specs.DottedSteps.{IsLeft, parts_of}

-- ---- the parts of an address

-- those of what stands from the first dot on
abbrev parts_behind : List ℕ → List (List ℕ)
parts_behind [] = []
parts_behind (dot ∷ more) = parts_of more

-- the parts are what stands before the first dot, and those behind it
parts_are : (text rest : List ℕ) → from_first is_dot text ≡ rest → parts_of text ≡ before_first is_dot text ∷ parts_behind rest
parts_are text [] none =
    let far : length text ≤ position_or_len is_dot text = omega (arith, length-drop (position_or_len is_dot text) text, ap length none) in
    slice_split_none is_dot text (λ k d within. fails_before_first is_dot text k d (omega (arith, within, far)))
    ∙ ap (λ part. part ∷ []) (sym (take_all (position_or_len is_dot text) text far))
parts_are text (dot ∷ more) is =
    let within : position_or_len is_dot text < length text = omega (arith, length-drop (position_or_len is_dot text) text, ap length is) in
    let behind : after_first is_dot text ≡ more = sym (drop-drop 1 (position_or_len is_dot text) text) ∙ ap (λ l. drop 1 l) is in
    slice_split_first is_dot text 0 within ∙ ap (λ rest. before_first is_dot text ∷ parts_of rest) behind

-- the part before the first dot is an octet
pub first_octet : (text : List ℕ) → list_all (is_decimal_within 255) (parts_of text) ≡ true → is_decimal_within 255 (before_first is_dot text) ≡ true
first_octet text octets = (and_parts _ _ (sym (ap (list_all (is_decimal_within 255)) (parts_are text _ refl)) ∙ octets)).0

-- while octets are left, at most three were read
pub has_room : (whole : List ℕ) (number : ℕ) (text : List ℕ) → IsLeft whole number text → number < 256 ^ 3
has_room whole number text left =
    let some : length (parts_of text) ≡ suc (length (parts_behind (from_first is_dot text))) = ap length (parts_are text _ refl) in
    by_left (length (parts_behind (from_first is_dot text))) (subst (λ n. n ≤ 4) some left.few) (subst (λ n. number < 256 ^ (4 - n)) some left.small)
  where
    by_left : (n : ℕ) → suc n ≤ 4 → number < 256 ^ (4 - suc n) → number < 256 ^ 3
    by_left zero few small = small
    by_left (suc zero) few small = omega (arith, small)
    by_left (suc (suc zero)) few small = omega (arith, small)
    by_left (suc (suc (suc zero))) few small = omega (arith, small)
    by_left (suc (suc (suc (suc n)))) few small = absurd (omega (arith, few))

-- with one octet more the number keeps below what so many octets can tell
grows : (number octet left : ℕ) → octet ≤ 255 → suc left ≤ 4 → number < 256 ^ (4 - suc left) → number * 256 + octet < 256 ^ (4 - left)
grows number octet zero byte few small = omega (arith, byte, small)
grows number octet (suc zero) byte few small = omega (arith, byte, small)
grows number octet (suc (suc zero)) byte few small = omega (arith, byte, small)
grows number octet (suc (suc (suc zero))) byte few small = omega (arith, byte, small)
grows number octet (suc (suc (suc (suc left)))) byte few small = absurd (omega (arith, few))

-- a part further
pub next_part : (whole : List ℕ) (number octet : ℕ) (text : List ℕ) (dot : ℕ) (more : List ℕ) → from_first is_dot text ≡ dot ∷ more
    → octet ≡ digits_value 10 (before_first is_dot text) → octet ≤ 255 → IsLeft whole number text → IsLeft whole (number * 256 + octet) more
next_part whole number octet text dot more is told byte left =
    let parts = parts_are text (dot ∷ more) is in
    let fewer : suc (length (parts_of more)) ≤ 4 = subst (λ n. n ≤ 4) (ap length parts) left.few in
    record {
      total = ap (λ n. with_octets (number * 256 + n) (octets_of more)) told ∙ sym (ap (λ all. with_octets number (map (digits_value 10) all)) parts) ∙ left.total;
      octets = (and_parts _ _ (sym (ap (list_all (is_decimal_within 255)) parts) ∙ left.octets)).1;
      few = omega (arith, fewer);
      small = grows number octet (length (parts_of more)) byte fewer (subst (λ n. number < 256 ^ (4 - n)) (ap length parts) left.small);
    }

-- the last part
pub last_part : (whole : List ℕ) (number octet : ℕ) (text rest : List ℕ) → from_first is_dot text ≡ rest → length rest < 1
    → octet ≡ digits_value 10 (before_first is_dot text) → IsLeft whole number text → number * 256 + octet ≡ with_octets 0 (octets_of whole)
last_part whole number octet text [] none empty told left =
    ap (λ n. number * 256 + n) told ∙ sym (ap (λ all. with_octets number (map (digits_value 10) all)) (parts_are text [] none)) ∙ left.total
last_part whole number octet text (dot ∷ more) is empty told left = absurd (omega (arith, empty))

-- the first member of a list, and those behind it
pub with_head : (xs : List ℕ) → 1 ≤ length xs → (x : ℕ) × (xs ≡ x ∷ take (length xs - 1) (drop 1 xs))
with_head [] some = absurd (omega (arith, some))
with_head (x ∷ xs) some = (x, ap (λ rest. x ∷ rest) (sym (take_all (length (x ∷ xs) - 1) xs (omega arith))))

-- ---- the parts of a block

block_form : (block : List ℕ) → is_ipv4_block block ≡ true
    → (is_ipv4 (before_first is_slash block) ≡ true) × ((not (list_any is_slash block) || is_decimal_within 32 (after_first is_slash block)) ≡ true)
block_form block is = and_parts _ _ (and_parts _ _ is).1

-- what stands before the `/` is an address
pub address_form : (block : List ℕ) → is_ipv4_block block ≡ true → is_ipv4 (before_first is_slash block) ≡ true
address_form block is = (block_form block is).0

-- what stands behind it is a number of bits
pub length_form : (block : List ℕ) → is_ipv4_block block ≡ true
    → (length (from_first is_slash block) == 0 || is_decimal_within 32 (drop 1 (from_first is_slash block))) ≡ true
length_form block is = rw (from_first-empty is_slash block, behind_first is_slash block) (block_form block is).1

-- the number of bits, by what stands from the `/` on
pub bits_by_rest : (block : List ℕ) → (if length (from_first is_slash block) == 0 then 32 else digits_value 10 (drop 1 (from_first is_slash block))) ≡ block_bits block
bits_by_rest block = rw (from_first-empty is_slash block, behind_first is_slash block) (by_test (list_any is_slash block))
  where
    by_test : (b : Bool) → (if not b then 32 else digits_value 10 (drop (position_or_len is_slash block + 1) block)) ≡ (if b then digits_value 10 (drop (position_or_len is_slash block + 1) block) else 32)
    by_test true = refl
    by_test false = refl
