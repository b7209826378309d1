-- Who stands for requests without a consumer is stored as a free text, and an id is stored printed.
use Rattle.std.proofs.Common.{◌≡◌, ℕ, zero, suc, ◌+◌, ◌*◌, ◌^◌, ◌<◌, ◌==◌, nat_lt, nat_le, if◌then◌else◌, Bool, true, false, not, ◌&&◌, List, [], ◌∷◌, ◌++◌, length, drop, take, slice_index, Option, Some, None, option_map, refl, ap, ◌∙◌, arith}
use Rattle.std.proofs.lemmas.Bool.{and_from, and_parts, or_from, or_parts}
use Rattle.std.proofs.lemmas.Bool.Decides.{nat_tests}
use Rattle.std.proofs.lemmas.Slice.Eq.{bytes_eq-Decides}
use Rattle.std.proofs.lemmas.Str.{chars-IsAscii}
use Rattle.std.specs.Char.{is_control}
use Rattle.std.specs.Int.{from_be_bytes, to_be_bytes, w128}
use Rattle.std.specs.List.{list_all, list_any}
use Rattle.std.specs.Option.{option_map_or}
use Rattle.std.specs.Prelude.{IfSome, IsTrue}
use Rattle.std.specs.Str.{IsAscii, bytes_eq}
use Rattle.uuid.proofs.TextLemmas.{by_index_ascii, by_index_at, by_index_length, nibble_small}
use Rattle.uuid.specs.Text.{by_index, byte_of_digits, digit_place, digits_of, has_hyphens, has_urn_prefix, hex_digit, hyphen, hyphenated_text, is_hex_digit, is_hyphen_place, lower, nibble, open_brace, close_brace, parsed, parsed_braced, parsed_hyphenated, parsed_simple, parsed_urn, value_of}
use Rattle.kg_row_types.proofs.IdLemmas.{id_of-printed}
use Rattle.kg_row_types.specs.Ids.{id_of, printed}
use Rattle.kg_row_types.specs.TextForms.{has_length, has_no_controls, is_free_text, is_printed_if_id}
use Rattle.kg_schema.proofs.ReadTexts.{Takes, bounded}
use Rattle.kg_field_rules.specs.declared.text_kind.TextKind.TheVariants as text_kind

-- ---- the id that a text tells fits 128 bits

digit_small : (c : ℕ) → is_hex_digit c ≡ true → value_of c < 16
digit_small c is = grind (arith, nat_tests)

-- a digit of a list, or nothing behind its end
each_small : (digits : List ℕ) → list_all is_hex_digit digits ≡ true → (k : ℕ) → value_of (slice_index digits k) < 16
each_small [] all k = omega arith
each_small (c ∷ digits) all zero = digit_small c (and_parts (is_hex_digit c) (list_all is_hex_digit digits) all).0
each_small (c ∷ digits) all (suc k) = each_small digits (and_parts (is_hex_digit c) (list_all is_hex_digit digits) all).1 k

-- bytes, and nothing behind the end
abbrev AreBytes : List ℕ → Type 0
AreBytes bytes = (i : ℕ) → i < 16 → slice_index bytes i < 256

simple_ok : (digits : List ℕ) → IfSome (parsed_simple digits) AreBytes
simple_ok digits = at_test ((length digits == 32) && list_all is_hex_digit digits) refl
  where
    two : (a b : ℕ) → a < 16 → b < 16 → a * 16 + b < 256
    two a b first second = omega arith

    at_test : (b : Bool) → ((length digits == 32) && list_all is_hex_digit digits) ≡ b → IfSome (if b then Some (by_index 16 (byte_of_digits digits)) else None) AreBytes
    at_test true is =
        let all : list_all is_hex_digit digits ≡ true = (and_parts (length digits == 32) (list_all is_hex_digit digits) is).1 in
        λ i within. rw (by_index_at 16 (byte_of_digits digits) i 0 within)
        (two (value_of (slice_index digits (2 * i))) (value_of (slice_index digits (2 * i + 1))) (each_small digits all (2 * i)) (each_small digits all (2 * i + 1)))
    at_test false is = tt

either : (b : Bool) (one another : Option (List ℕ)) → IfSome one AreBytes → IfSome another AreBytes → IfSome (if b then one else another) AreBytes
either true one another ok other = ok
either false one another ok other = other

hyphenated_ok : (text : List ℕ) → IfSome (parsed_hyphenated text) AreBytes
hyphenated_ok text = either ((length text == 36) && has_hyphens text) (parsed_simple (digits_of text)) None (simple_ok (digits_of text)) tt

braced_ok : (text : List ℕ) → IfSome (parsed_braced text) AreBytes
braced_ok text = either ((length text == 38) && (slice_index text 0 == open_brace) && (slice_index text 37 == close_brace)) (parsed_hyphenated (take 36 (drop 1 text))) None (hyphenated_ok (take 36 (drop 1 text))) tt

urn_ok : (text : List ℕ) → IfSome (parsed_urn text) AreBytes
urn_ok text = either ((length text == 45) && has_urn_prefix text) (parsed_hyphenated (drop 9 text)) None (hyphenated_ok (drop 9 text)) tt

parsed_ok : (text : List ℕ) → IfSome (parsed text) AreBytes
parsed_ok text =
    let at_45 = either (length text == 45) (parsed_urn text) None (urn_ok text) tt in
    let at_38 = either (length text == 38) (parsed_braced text) (if length text == 45 then parsed_urn text else None) (braced_ok text) at_45 in
    let at_36 = either (length text == 36) (parsed_hyphenated text) (if length text == 38 then parsed_braced text else if length text == 45 then parsed_urn text else None) (hyphenated_ok text) at_38 in
    either (length text == 32) (parsed_simple text) (if length text == 36 then parsed_hyphenated text else if length text == 38 then parsed_braced text else if length text == 45 then parsed_urn text else None) (simple_ok text) at_36

-- the number of 16 bytes
sum_small : (a b c d e f g h i j k l m n o p : ℕ)
    → a < 256 → b < 256 → c < 256 → d < 256 → e < 256 → f < 256 → g < 256 → h < 256 → i < 256 → j < 256 → k < 256 → l < 256 → m < 256 → n < 256 → o < 256 → p < 256
    → a * 256 ^ 15 + b * 256 ^ 14 + c * 256 ^ 13 + d * 256 ^ 12 + e * 256 ^ 11 + f * 256 ^ 10 + g * 256 ^ 9 + h * 256 ^ 8 + i * 256 ^ 7 + j * 256 ^ 6 + k * 256 ^ 5 + l * 256 ^ 4 + m * 256 ^ 3 + n * 256 ^ 2 + o * 256 ^ 1 + p < 2 ^ 128
sum_small a b c d e f g h i j k l m n o p a1 b1 c1 d1 e1 f1 g1 h1 i1 j1 k1 l1 m1 n1 o1 p1 = omega arith

bytes_fit : (bytes : List ℕ) → AreBytes bytes → from_be_bytes w128 bytes < 2 ^ 128
bytes_fit bytes are =
    sum_small (slice_index bytes 0) (slice_index bytes 1) (slice_index bytes 2) (slice_index bytes 3) (slice_index bytes 4) (slice_index bytes 5) (slice_index bytes 6) (slice_index bytes 7)
    (slice_index bytes 8) (slice_index bytes 9) (slice_index bytes 10) (slice_index bytes 11) (slice_index bytes 12) (slice_index bytes 13) (slice_index bytes 14) (slice_index bytes 15)
    (are 0 (omega arith)) (are 1 (omega arith)) (are 2 (omega arith)) (are 3 (omega arith)) (are 4 (omega arith)) (are 5 (omega arith)) (are 6 (omega arith)) (are 7 (omega arith))
    (are 8 (omega arith)) (are 9 (omega arith)) (are 10 (omega arith)) (are 11 (omega arith)) (are 12 (omega arith)) (are 13 (omega arith)) (are 14 (omega arith)) (are 15 (omega arith))

pub id_fits : (text : List ℕ) → IfSome (id_of text) (λ id. id < 2 ^ 128)
unfolding id_of
id_fits text = at_parsed (parsed text) (parsed_ok text)
  where
    at_parsed : (o : Option (List ℕ)) → IfSome o AreBytes → IfSome (option_map (from_be_bytes w128) o) (λ id. id < 2 ^ 128)
    at_parsed None ok = tt
    at_parsed (Some bytes) ok = bytes_fit bytes ok

-- ---- a printed id is a free text

none_by_index : (test : ℕ → Bool) (n : ℕ) (f : ℕ → ℕ) → ((k : ℕ) → test (f k) ≡ false) → list_any test (by_index n f) ≡ false
unfolding by_index
none_by_index test zero f none = refl
none_by_index test (suc n) f none = behind (by_index n f) (f n) (none_by_index test n f none) (none n)
  where
    behind : (xs : List ℕ) (x : ℕ) → list_any test xs ≡ false → test x ≡ false → list_any test (xs ++ x ∷ []) ≡ false
    behind [] x front last = or_from (test x) false last refl
    behind (y ∷ xs) x front last =
        let parts = or_parts (test y) (list_any test xs) front in
        or_from (test y) (list_any test (xs ++ x ∷ [])) parts.0 (behind xs x parts.1 last)

plain_digit : (d : ℕ) → d < 16 → (hex_digit lower d < 128) × (is_control (hex_digit lower d) ≡ false)
plain_digit d small = (grind (arith, nat_tests), grind (arith, nat_tests))

plain_mark : (b : Bool) (d : ℕ) → d < 16 → ((if b then hyphen else hex_digit lower d) < 128) × (is_control (if b then hyphen else hex_digit lower d) ≡ false)
plain_mark true d small = (omega arith, refl)
plain_mark false d small = plain_digit d small

printed_is_free : (id : ℕ) → is_free_text (printed id) ≡ true
unfolding printed
printed_is_free id =
    let bytes = to_be_bytes w128 id in
    let text = hyphenated_text lower bytes in
    let mark = λ (k : ℕ). if is_hyphen_place k then hyphen else hex_digit lower (nibble bytes (digit_place k)) in
    let plain = λ (k : ℕ). plain_mark (is_hyphen_place k) (nibble bytes (digit_place k)) (nibble_small bytes (digit_place k)) in
    let ascii : IsAscii text = by_index_ascii 36 mark (λ k within. (plain k).0) in
    let none : list_any is_control text ≡ false = none_by_index is_control 36 mark (λ k. (plain k).1) in
    let long : has_length 255 text ≡ true = ap (λ n. nat_lt 0 n && nat_le n 255) (by_index_length 36 mark) in
    let no_controls : has_no_controls text ≡ true = ap (λ cs. not (list_any is_control cs)) (chars-IsAscii text ascii) ∙ ap not none in
    and_from (has_length 255 text) (has_no_controls text) long no_controls

-- ---- what is stored

pub takes_anonymous : Takes text_kind.Anonymous (λ text. is_free_text text && is_printed_if_id text)
takes_anonymous text ok = at_id (id_of text) refl (id_fits text)
  where
    at_id : (o : Option ℕ) → id_of text ≡ o → IfSome o (λ id. id < 2 ^ 128) → IsTrue (is_free_text (option_map_or printed o text) && is_printed_if_id (option_map_or printed o text))
    at_id None is fits =
        and_from (is_free_text text) (is_printed_if_id text) (bounded text_kind.Anonymous 255 refl text ok) (ap (λ o. option_map_or (λ id. bytes_eq text (printed id)) o true) is)
    at_id (Some id) is fits =
        and_from (is_free_text (printed id)) (is_printed_if_id (printed id)) (printed_is_free id)
        (ap (λ o. option_map_or (λ other. bytes_eq (printed id) (printed other)) o true) (id_of-printed id fits) ∙ (bytes_eq-Decides (printed id) (printed id)).1 refl)
