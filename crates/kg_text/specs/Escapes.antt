-- How a step over the escapes of a path reads the bytes that are left.
use Rattle.std.specs.Prelude.{◌≡◌, ℕ, false, Bool, List, ◌∷◌, IsTrue, Option, MatchOption, slice_index}
use Rattle.std.specs.Borrow.{Bor}
use Rattle.std.specs.Char.{is_digit}
use Rattle.kg_text.specs.Paths.{percent_sign, is_escape}

-- the first three bytes are an escape
abbrev pub begins_escape : List ℕ → Bool
begins_escape bytes = is_escape (slice_index bytes 0) (slice_index bytes 1) (slice_index bytes 2)

-- the bytes are an escape and the rest
pub record StartsEscape (bytes : List ℕ) (high low : ℕ) (rest : List ℕ) : Type 0 where
  pub parts : bytes ≡ percent_sign ∷ high ∷ low ∷ rest
  pub high_digit : IsTrue (is_digit high 16)
  pub low_digit : IsTrue (is_digit low 16)

-- the two digits of the escape at the front and what stands after it, if there is one
abbrev pub SplitsEscape : List ℕ → Option (ℕ × ℕ × Bor (List ℕ)) → Type 0
SplitsEscape bytes split =
    MatchOption split (begins_escape bytes ≡ false) (λ found. StartsEscape bytes found.0 found.1 found.2.now)
