-- How bytes move between a program and its environment (this project's own; the answers of `read` and
-- `write` are those of POSIX).
use Rattle.std.specs.Prelude.{◌≡◌, ℕ, ◌<◌, ◌≤◌, ◌↔◌, List, [], ◌++◌, length, take, Option, Some, Result, IfOk, OnErr, option_map}

-- these bytes, and then what is left, where that is observable
abbrev pub with_front : List ℕ → Option (List ℕ) → Option (List ℕ)
with_front bytes left = option_map (λ more. bytes ++ more) left

-- what was written, where that is observable, and then these bytes
abbrev pub with_end : Option (List ℕ) → List ℕ → Option (List ℕ)
with_end written bytes = option_map (λ before. before ++ bytes) written

-- a read into the room: the bytes left before the call and after it
pub record Reads {E : Type 0} (left_before left_now : Option (List ℕ)) (room : List ℕ) (result : Result ℕ E) : Type 0 where
  pub within : IfOk result (λ n. n ≤ length room)
  pub moved : IfOk result (λ n. left_before ≡ with_front (take n room) left_now)
  pub ended : IfOk result (λ n. (bytes : List ℕ) → left_before ≡ Some bytes → (n ≡ 0) ↔ (bytes ≡ []))
  pub failed : OnErr result (left_now ≡ left_before)

-- a write of the piece: the bytes written before the call and after it
pub record Writes {E : Type 0} (written_before written_now : Option (List ℕ)) (piece : List ℕ) (result : Result ℕ E) : Type 0 where
  pub some : IfOk result (λ n. 0 < n)
  pub within : IfOk result (λ n. n ≤ length piece)
  pub appended : IfOk result (λ n. written_now ≡ with_end written_before (take n piece))
  pub failed : OnErr result (written_now ≡ written_before)
