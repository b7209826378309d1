-- The first line of a stream (this project's own).
use Rattle.std.specs.Prelude.{◌≡◌, ℕ, ◌<◌, ◌≤◌, Bool, ◌==◌, List, length, Option, Some}
use Rattle.std.specs.List.{before_first, after_first}
use Rattle.kg_lone.specs.declared.line.FirstLine.{FirstLine}
use Rattle.kg_lone.specs.declared.line.FirstLine.TheVariants.{Whole, TooLong}

abbrev pub is_line_feed : ℕ → Bool
is_line_feed b = b == 0x0A

-- what stands before the first line feed, or all where there is none
abbrev pub line_of : List ℕ → List ℕ
line_of bytes = before_first is_line_feed bytes

-- what stands after the first line feed
abbrev pub after_line : List ℕ → List ℕ
after_line bytes = after_first is_line_feed bytes

-- the line is the first of these bytes and within the limit, and what stands after it is left
pub record IsFirstLine (limit : ℕ) (bytes : List ℕ) (left_now : Option (List ℕ)) (line : List ℕ) : Type 0 where
  pub is : line ≡ line_of bytes
  pub within : length line ≤ limit
  pub after : left_now ≡ Some (after_line bytes)

-- what the answer says of a source whose bytes are observable
abbrev pub GivesLine : ℕ → List ℕ → Option (List ℕ) → FirstLine → Type 0
GivesLine limit bytes left_now (Whole line) = IsFirstLine limit bytes left_now line.items
GivesLine limit bytes left_now TooLong = limit < length (line_of bytes)
