-- Phrases of status codes.
use Rattle.std.proofs.Common.{◌≡◌, ℕ, Bool, true, false, nat_eq, nat_lt, arith, refl}
use Rattle.std.specs.Prelude.{None, ◌&&◌, nat_le}
use Rattle.std.proofs.lemmas.Bool.{ne_eqb}
use Rattle.std.proofs.lemmas.Bool.Decides.{nat_tests}
use Rattle.http.specs.StatusCode.{reason_phrase, IsStatusCode}

-- the number is a status code
is_code : ℕ → Bool
is_code n = nat_le 100 n && nat_lt n 1000

-- a number that is no status code is not the same as one that is
other_code : (n k : ℕ) → (IsStatusCode n → ⊥) → is_code k ≡ true → nat_eq n k ≡ false
unfolding is_code
other_code n k out code = ne_eqb n k (λ same. out (grind (arith, nat_tests), grind (arith, nat_tests)))

-- a number that is no status code has none
pub no_phrase : (n : ℕ) → (IsStatusCode n → ⊥) → reason_phrase n ≡ None
unfolding is_code
no_phrase n out =
    let code : true ≡ true = refl in
    let other : (k : ℕ) → is_code k ≡ true → nat_eq n k ≡ false = λ k. other_code n k out in
    simp other
