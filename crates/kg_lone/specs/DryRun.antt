-- The exit statuses of a run (this project's own: docs/BEHAVIOUR.md, "Exit statuses").
use Rattle.std.specs.Prelude.{◌≡◌, ℕ, ◌⊎◌, List, [], ◌∷◌, codes}

-- the one word `dry`
abbrev pub IsDryWords : List (List ℕ) → Type 0
IsDryWords words = words ≡ codes "dry" ∷ []

-- the whole text was written: 0 where all was answered or an end of the connection was due, 3 where the
-- declaration was refused, 7 where a message was refused or cut
abbrev pub IsWhole : ℕ → Type 0
IsWhole status = (status ≡ 0) ⊎ (status ≡ 3) ⊎ (status ≡ 7)

-- a fault of the source, a fault of the sink, want of memory
abbrev pub IsCutShort : ℕ → Type 0
IsCutShort status = (status ≡ 4) ⊎ (status ≡ 5) ⊎ (status ≡ 6)

-- 2 is for other words
abbrev pub IsExit : ℕ → Type 0
IsExit status = (status ≡ 2) ⊎ IsWhole status ⊎ IsCutShort status
