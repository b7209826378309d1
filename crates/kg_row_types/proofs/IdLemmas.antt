-- The number of 16 bytes, and what a printed id is read as.
use Rattle.std.proofs.Common.{◌≡◌, ℕ, zero, suc, ◌+◌, ◌*◌, ◌/◌, ◌%◌, ◌^◌, ◌<◌, List, Option, Some, None, option_map, All, arith, sym, ap, ◌∙◌, inl, refl}
use Rattle.std.proofs.Math.Nat.{add-mul, mul_assoc, mul_comm, div-div-eq-div-mul}
use Rattle.std.proofs.lemmas.List.Elements.{All-cons, All-nil}
use Rattle.std.specs.Int.{byte_at, bytes_high_first, from_be_bytes, to_be_bytes, w128}
use Rattle.uuid.specs.Text.{lower}
use Rattle.uuid.proofs.RoundTrips.{parses_hyphenated}
use Rattle.kg_row_types.specs.Ids.{id_of, printed}

-- a text that is read as nothing
pub unread : (read : Option (List ℕ)) → ¬ ((bytes : List ℕ) × (read ≡ Some bytes)) → read ≡ None
unread None never = refl
unread (Some bytes) never = absurd (never (bytes, refl))

-- a byte is below 256
byte_is_small : (i n : ℕ) → byte_at i n < 256
byte_is_small zero n = omega arith
byte_is_small (suc i) n = omega arith

bytes_are_small : (k n : ℕ) → All (λ b. b < 256) (bytes_high_first k n)
bytes_are_small zero n = All-nil (λ b. b < 256)
bytes_are_small (suc k) n = All-cons (λ b. b < 256) (byte_at k n) (bytes_high_first k n) (byte_is_small k n) (bytes_are_small k n)

-- a byte joins the bytes above it
next_byte : (n place above : ℕ) → above ≡ n / (place * 256) * (place * 256) → above + n / place % 256 * place ≡ n / place * place
next_byte n place above is =
    let high = n / (place * 256) in
    let low = n / place % 256 in
    let split : n / place ≡ high * 256 + low = omega (arith, div-div-eq-div-mul n place 256) in
    let moved : high * (place * 256) ≡ high * 256 * place = ap (λ m. high * m) (mul_comm place 256) ∙ sym (mul_assoc high 256 place) in
    ap (λ m. m + low * place) (is ∙ moved) ∙ sym (add-mul (high * 256) low place) ∙ ap (λ m. m * place) (sym split)

whole : (n : ℕ) → n / 256 * 256 + n % 256 ≡ n
whole n = omega arith

-- a number below 2^128 is that of its 16 bytes, which std says of 2, 4 and 8 bytes
pub from_be_bytes-to_be_bytes_16 : (n : ℕ) → n < 2 ^ 128 → from_be_bytes w128 (to_be_bytes w128 n) ≡ n
from_be_bytes-to_be_bytes_16 n fits =
    let at_15 : n / 256 ^ 15 % 256 * 256 ^ 15 ≡ n / 256 ^ 15 * 256 ^ 15 = omega arith in
    let at_14 = next_byte n (256 ^ 14) _ at_15 in
    let at_13 = next_byte n (256 ^ 13) _ at_14 in
    let at_12 = next_byte n (256 ^ 12) _ at_13 in
    let at_11 = next_byte n (256 ^ 11) _ at_12 in
    let at_10 = next_byte n (256 ^ 10) _ at_11 in
    let at_9 = next_byte n (256 ^ 9) _ at_10 in
    let at_8 = next_byte n (256 ^ 8) _ at_9 in
    let at_7 = next_byte n (256 ^ 7) _ at_8 in
    let at_6 = next_byte n (256 ^ 6) _ at_7 in
    let at_5 = next_byte n (256 ^ 5) _ at_6 in
    let at_4 = next_byte n (256 ^ 4) _ at_5 in
    let at_3 = next_byte n (256 ^ 3) _ at_4 in
    let at_2 = next_byte n (256 ^ 2) _ at_3 in
    let at_1 = next_byte n 256 _ at_2 in
    ap (λ m. m + n % 256) at_1 ∙ whole n

-- a printed id is read as the same id
pub id_of-printed : (n : ℕ) → n < 2 ^ 128 → id_of (printed n) ≡ Some n
unfolding id_of printed
id_of-printed n fits =
    ap (option_map (from_be_bytes w128)) (sym (parses_hyphenated lower (to_be_bytes w128 n) (inl refl) refl (bytes_are_small 16 n)))
    ∙ ap Some (from_be_bytes-to_be_bytes_16 n fits)
