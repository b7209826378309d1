-- Two lists of bytes that compare as equal are the same list.
use Rattle.std.specs.Prelude.{◌≡◌, ℕ, List, true, nat_eq}
use Rattle.std.specs.Cmp.Lexicographic.{pointwise, same_text}
use Rattle.std.proofs.Common.{sym}

-- byte by byte
pub same_bytes : (xs ys : List ℕ) → pointwise nat_eq xs ys ≡ true → xs ≡ ys
same_bytes xs ys same = same_text xs ys (sym same)
