-- What is stored of a password is 64 hexadecimal digits in lower case.
use Rattle.std.proofs.Common.{◌≡◌, ℕ, zero, suc, ◌*◌, ◌/◌, ◌%◌, ◌<◌, ◌==◌, nat_lt, Bool, true, ◌&&◌, ◌||◌, List, [], ◌∷◌, ◌++◌, length, slice_index, codes, refl, ◌∙◌, arith}
use Rattle.std.proofs.lemmas.Bool.{agree_below_at, and_from, and_parts, ltb-true}
use Rattle.std.proofs.lemmas.Bool.Decides.{nat_tests}
use Rattle.std.proofs.lemmas.List.Folds.{list_all-append}
use Rattle.std.specs.Char.{is_ascii_digit}
use Rattle.std.specs.Int.{byte_at, bytes_high_first, is_in_range, to_be_bytes, w32}
use Rattle.std.specs.List.{list_all}
use Rattle.hex.proofs.HexLemmas.{length-encode_with}
use Rattle.hex.specs.Hex.{encode_lower, encode_with, lower_digits}
use Rattle.sha2.proofs.Facts256.{length-sha256}
use Rattle.sha2.specs.Sha256.{digest_bytes, final_hash, initial_hash_256, sha256}
use Rattle.kg_row_types.specs.Ids.{printed}
use Rattle.kg_row_types.specs.StoredPassword.{stored_password}
use Rattle.kg_row_types.specs.TextForms.{is_hash}

-- ---- bytes

abbrev is_byte : ℕ → Bool
is_byte b = nat_lt b 256

byte_at_ok : (i n : ℕ) → is_byte (byte_at i n) ≡ true
byte_at_ok zero n = let small : n % 256 < 256 = omega arith in grind (arith, nat_tests)
byte_at_ok (suc i) n = let small : byte_at (suc i) n < 256 = omega arith in grind (arith, nat_tests)

bytes_ok : (k n : ℕ) → list_all is_byte (bytes_high_first k n) ≡ true
bytes_ok zero n = refl
bytes_ok (suc k) n = and_from (is_byte (byte_at k n)) (list_all is_byte (bytes_high_first k n)) (byte_at_ok k n) (bytes_ok k n)

digest_ok : (words : List ℕ) (n : ℕ) → list_all is_byte (digest_bytes words n) ≡ true
unfolding digest_bytes
digest_ok words zero = refl
digest_ok words (suc n) =
    list_all-append is_byte (digest_bytes words n) (to_be_bytes w32 (slice_index words n))
    ∙ and_from (list_all is_byte (digest_bytes words n)) (list_all is_byte (to_be_bytes w32 (slice_index words n))) (digest_ok words n) (bytes_ok 4 (slice_index words n))

sha256_ok : (message : List ℕ) → list_all is_byte (sha256 message) ≡ true
unfolding sha256
sha256_ok message = digest_ok (final_hash initial_hash_256 message) 8

-- ---- digits

abbrev is_hash_digit : ℕ → Bool
is_hash_digit b = is_ascii_digit b || is_in_range 0x61 0x66 b

digit_ok : (d : ℕ) → d < 16 → is_hash_digit (slice_index lower_digits d) ≡ true
digit_ok d small = agree_below_at (λ k. is_hash_digit (slice_index lower_digits k)) (λ k. true) 16 d refl small

digits_ok : (bytes : List ℕ) → list_all is_byte bytes ≡ true → list_all is_hash_digit (encode_lower bytes) ≡ true
unfolding encode_with
digits_ok [] small = refl
digits_ok (b ∷ bytes) small =
    let parts = and_parts (is_byte b) (list_all is_byte bytes) small in
    let byte : b < 256 = ltb-true b 256 parts.0 in
    let high : b / 16 < 16 = omega arith in
    let low : b % 16 < 16 = omega arith in
    and_from (is_hash_digit (slice_index lower_digits (b / 16))) (is_hash_digit (slice_index lower_digits (b % 16)) && list_all is_hash_digit (encode_lower bytes)) (digit_ok (b / 16) high)
    (and_from (is_hash_digit (slice_index lower_digits (b % 16))) (list_all is_hash_digit (encode_lower bytes)) (digit_ok (b % 16) low) (digits_ok bytes parts.1))

-- ---- hashes

twice : (n m : ℕ) → n ≡ 2 * m → m ≡ 32 → (n == 64) ≡ true
twice n m double is = grind (arith, nat_tests)

hash_of_ok : (message : List ℕ) → is_hash (encode_lower (sha256 message)) ≡ true
hash_of_ok message =
    and_from (length (encode_lower (sha256 message)) == 64) (list_all is_hash_digit (encode_lower (sha256 message)))
    (twice (length (encode_lower (sha256 message))) (length (sha256 message)) (length-encode_with lower_digits (sha256 message)) (length-sha256 message))
    (digits_ok (sha256 message) (sha256_ok message))

pub stored_password_ok : (consumer : ℕ) (password : List ℕ) → is_hash (stored_password consumer password) ≡ true
unfolding stored_password
stored_password_ok consumer password = hash_of_ok (printed consumer ++ codes ":" ++ password)
