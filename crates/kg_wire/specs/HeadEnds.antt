-- Machinery for proofs: how the bytes of a head end.
use Rattle.std.specs.Prelude.{◌≡◌, ◌≢◌, ℕ, List, [], ◌∷◌, ◌++◌}
use Rattle.httparse.specs.Ascii.{carriage_return, line_feed}
use Rattle.httparse.specs.Grammar.{LineEnd, print_end}

-- the last byte is no carriage return
abbrev pub HasNoReturn : List ℕ → Type 0
HasNoReturn bytes = (front : List ℕ) → bytes ≡ front ++ carriage_return ∷ [] → ⊥

-- there is a last byte, which belongs to no line end
pub record EndsInText (line : List ℕ) : Type 0 where
  pub front : List ℕ
  pub last : ℕ
  pub is : line ≡ front ++ last ∷ []
  pub no_return : last ≢ carriage_return
  pub no_feed : last ≢ line_feed

-- the bytes end in a line that isn't empty and an empty one
pub record EndsHead (bytes : List ℕ) : Type 0 where
  pub line : List ℕ
  pub text : EndsInText line
  pub first : LineEnd
  pub last : LineEnd
  pub is : bytes ≡ (line ++ print_end first) ++ print_end last
