-- A host of a route is one in lower case too.
use Rattle.std.proofs.Common.{◌≡◌, ℕ, ◌+◌, ◌-◌, ◌≤◌, ◌<◌, ◌==◌, nat_eq, nat_le, nat_lt, Bool, true, false, ◌&&◌, ◌||◌, cond, List, [], ◌∷◌, length, take, drop, codes, refl, sym, ap, ◌∙◌, inl, inr, ◌⊎◌, arith}
use Rattle.std.proofs.lemmas.Bool.{and_from, and_parts, le-leb, ltb-false, ltb-true, or_cases, or_left, or_right}
use Rattle.std.proofs.lemmas.List.{drop-map, length-map, take-map}
use Rattle.std.proofs.lemmas.Slice.Eq.{bytes_eq-Decides}
use Rattle.std.proofs.lemmas.Str.Ascii.{lowercase-lowercase}
use Rattle.std.specs.Char.{is_ascii_alphanumeric, to_ascii_lowercase}
use Rattle.std.specs.Int.{is_in_range}
use Rattle.std.specs.List.{ends_with, list_any, starts_with}
use Rattle.std.specs.Str.{bytes_eq, str_to_ascii_lowercase}
use Rattle.kg_text.specs.SameBytes.{same_bytes}
use Rattle.kg_text.specs.Hosts.{has_host_form, is_host_byte}
use Rattle.kg_row_types.specs.TextForms.{has_length, has_route_host_form, has_wildcard_form, is_stored_route_host, is_route_host}
use Rattle.kg_schema.proofs.ReadTexts.{Takes, bounded}
use Rattle.kg_field_rules.specs.declared.text_kind.TextKind.TheVariants as text_kind

-- equal bytes compare as equal
same : (xs ys : List ℕ) → xs ≡ ys → bytes_eq xs ys ≡ true
same xs ys is = (bytes_eq-Decides xs ys).1 is

lower_twice : (text : List ℕ) → str_to_ascii_lowercase (str_to_ascii_lowercase text) ≡ str_to_ascii_lowercase text
lower_twice [] = refl
lower_twice (b ∷ text) =
    ap (λ c. c ∷ str_to_ascii_lowercase (str_to_ascii_lowercase text)) (lowercase-lowercase b)
    ∙ ap (λ cs. to_ascii_lowercase b ∷ cs) (lower_twice text)

-- ---- hosts without `*`

lower_letter : (b : ℕ) → nat_lt b 65 ≡ false → nat_lt b 91 ≡ true → is_in_range 97 122 (b + 32) ≡ true
lower_letter b low high =
    let above : 65 ≤ b = ltb-false b 65 low in
    let below : b < 91 = ltb-true b 91 high in
    and_from (nat_le 97 (b + 32)) (nat_le (b + 32) 122) (le-leb 97 (b + 32) (omega arith)) (le-leb (b + 32) 122 (omega arith))

lower_byte : (b : ℕ) → is_host_byte b ≡ true → is_host_byte (to_ascii_lowercase b) ≡ true
lower_byte b is = at_tests (nat_lt b 65) (nat_lt b 91) refl refl
  where
    at_tests : (low high : Bool) → nat_lt b 65 ≡ low → nat_lt b 91 ≡ high → is_host_byte (cond low b (cond high (b + 32) b)) ≡ true
    at_tests true high x y = is
    at_tests false false x y = is
    at_tests false true x y =
        or_left (is_ascii_alphanumeric (b + 32)) (list_any (λ mark. mark == b + 32) (codes ".-_"))
        (or_right (is_in_range 48 57 (b + 32) || is_in_range 65 90 (b + 32)) (is_in_range 97 122 (b + 32)) (lower_letter b x y))

lower_host : (text : List ℕ) → has_host_form text ≡ true → has_host_form (str_to_ascii_lowercase text) ≡ true
lower_host [] is = refl
lower_host (b ∷ text) is =
    let parts = and_parts (is_host_byte b) (has_host_form text) is in
    and_from (is_host_byte (to_ascii_lowercase b)) (has_host_form (str_to_ascii_lowercase text)) (lower_byte b parts.0) (lower_host text parts.1)

-- ---- hosts with `*`

-- a part of a text that is these bytes, which have no upper case, is so in lower case
lower_part : (mark part low : List ℕ) → str_to_ascii_lowercase mark ≡ mark → low ≡ str_to_ascii_lowercase part → bytes_eq mark part ≡ true → bytes_eq mark low ≡ true
lower_part mark part low none is equal =
    same mark low (sym none ∙ ap str_to_ascii_lowercase (same_bytes mark part equal) ∙ sym is)

lower_star : (text : List ℕ) → bytes_eq text (codes "*") ≡ true → bytes_eq (str_to_ascii_lowercase text) (codes "*") ≡ true
lower_star text is = same (str_to_ascii_lowercase text) (codes "*") (ap str_to_ascii_lowercase (same_bytes text (codes "*") is))

lower_front : (text : List ℕ) → (starts_with nat_eq text (codes "*.") && has_host_form (drop 1 text)) ≡ true
    → (starts_with nat_eq (str_to_ascii_lowercase text) (codes "*.") && has_host_form (drop 1 (str_to_ascii_lowercase text))) ≡ true
lower_front text is =
    let parts = and_parts (starts_with nat_eq text (codes "*.")) (has_host_form (drop 1 text)) is in
    and_from (starts_with nat_eq (str_to_ascii_lowercase text) (codes "*.")) (has_host_form (drop 1 (str_to_ascii_lowercase text)))
    (lower_part (codes "*.") (take 2 text) (take 2 (str_to_ascii_lowercase text)) refl (take-map to_ascii_lowercase 2 text) parts.0)
    (ap has_host_form (drop-map to_ascii_lowercase 1 text) ∙ lower_host (drop 1 text) parts.1)

lower_back : (text : List ℕ) → (ends_with nat_eq text (codes ".*") && has_host_form (take (length text - 1) text)) ≡ true
    → (ends_with nat_eq (str_to_ascii_lowercase text) (codes ".*") && has_host_form (take (length (str_to_ascii_lowercase text) - 1) (str_to_ascii_lowercase text))) ≡ true
lower_back text is =
    let low = str_to_ascii_lowercase text in
    let long : length low ≡ length text = length-map text to_ascii_lowercase in
    let parts = and_parts (ends_with nat_eq text (codes ".*")) (has_host_form (take (length text - 1) text)) is in
    and_from (ends_with nat_eq low (codes ".*")) (has_host_form (take (length low - 1) low))
    (lower_part (codes ".*") (drop (length text - 2) text) (drop (length low - 2) low) refl (ap (λ n. drop (n - 2) low) long ∙ drop-map to_ascii_lowercase (length text - 2) text) parts.0)
    (ap (λ n. has_host_form (take (n - 1) low)) long ∙ ap has_host_form (take-map to_ascii_lowercase (length text - 1) text) ∙ lower_host (take (length text - 1) text) parts.1)

-- the three forms in which `*` stands
abbrev star : List ℕ → Bool
star text = bytes_eq text (codes "*")

abbrev front : List ℕ → Bool
front text = starts_with nat_eq text (codes "*.") && has_host_form (drop 1 text)

abbrev back : List ℕ → Bool
back text = ends_with nat_eq text (codes ".*") && has_host_form (take (length text - 1) text)

lower_wildcard : (text : List ℕ) → has_wildcard_form text ≡ true → has_wildcard_form (str_to_ascii_lowercase text) ≡ true
lower_wildcard text is = at_back (or_cases (star text || front text) (back text) is)
  where
    at_front : (star text ≡ true) ⊎ (front text ≡ true) → (star (str_to_ascii_lowercase text) || front (str_to_ascii_lowercase text) || back (str_to_ascii_lowercase text)) ≡ true
    at_front (inl found) = or_left (star (str_to_ascii_lowercase text) || front (str_to_ascii_lowercase text)) (back (str_to_ascii_lowercase text)) (or_left (star (str_to_ascii_lowercase text)) (front (str_to_ascii_lowercase text)) (lower_star text found))
    at_front (inr found) = or_left (star (str_to_ascii_lowercase text) || front (str_to_ascii_lowercase text)) (back (str_to_ascii_lowercase text)) (or_right (star (str_to_ascii_lowercase text)) (front (str_to_ascii_lowercase text)) (lower_front text found))

    at_back : ((star text || front text) ≡ true) ⊎ (back text ≡ true) → (star (str_to_ascii_lowercase text) || front (str_to_ascii_lowercase text) || back (str_to_ascii_lowercase text)) ≡ true
    at_back (inl found) = at_front (or_cases (star text) (front text) found)
    at_back (inr found) = or_right (star (str_to_ascii_lowercase text) || front (str_to_ascii_lowercase text)) (back (str_to_ascii_lowercase text)) (lower_back text found)

-- ---- hosts of routes

lower_form : (text : List ℕ) → has_route_host_form text ≡ true → has_route_host_form (str_to_ascii_lowercase text) ≡ true
lower_form text is = at_form (or_cases (has_host_form text) (has_wildcard_form text) is)
  where
    at_form : (has_host_form text ≡ true) ⊎ (has_wildcard_form text ≡ true) → has_route_host_form (str_to_ascii_lowercase text) ≡ true
    at_form (inl plain) = or_left (has_host_form (str_to_ascii_lowercase text)) (has_wildcard_form (str_to_ascii_lowercase text)) (lower_host text plain)
    at_form (inr wildcard) = or_right (has_host_form (str_to_ascii_lowercase text)) (has_wildcard_form (str_to_ascii_lowercase text)) (lower_wildcard text wildcard)

pub takes_route_host : Takes text_kind.RouteHost is_stored_route_host
takes_route_host text ok =
    let low = str_to_ascii_lowercase text in
    let parts = and_parts (has_length 255 text) (has_route_host_form text) (bounded text_kind.RouteHost 255 refl text ok) in
    let long : has_length 255 low ≡ true = ap (λ n. nat_lt 0 n && nat_le n 255) (length-map text to_ascii_lowercase) ∙ parts.0 in
    and_from (is_route_host low) (bytes_eq (str_to_ascii_lowercase low) low)
    (and_from (has_length 255 low) (has_route_host_form low) long (lower_form text parts.1))
    (same (str_to_ascii_lowercase low) low (lower_twice text))
