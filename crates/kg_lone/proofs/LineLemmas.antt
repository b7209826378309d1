-- Reading a line byte by byte.
use Rattle.std.proofs.Common.{◌≡◌, ℕ, ◌+◌, ◌<◌, ◌≤◌, not, cond, List, [], ◌∷◌, ◌++◌, length, take, drop, slice_index_or, Option, Some, None, refl, sym, ap, ◌∙◌, eq-eqb, arith}
use Rattle.std.specs.List.{position_or_len}
use Rattle.std.proofs.lemmas.Bool.{ne_eqb}
use Rattle.std.proofs.lemmas.List.{take_more, take_at}
use Rattle.std.proofs.lemmas.List.Folds.{prefix_len-append, length-prefix_len}
use Rattle.std.proofs.Math.Seq.{drop-append-add}
use Rattle.kg_outside.specs.Moves.{with_front}
use Rattle.kg_lone.specs.FirstLine.{is_line_feed, line_of, after_line, IsFirstLine}

-- where a front has no line feed, the first one is that of the rest
feed_free_append : (line rest : List ℕ) → position_or_len is_line_feed line ≡ length line
    → position_or_len is_line_feed (line ++ rest) ≡ length line + position_or_len is_line_feed rest
feed_free_append line rest free =
    prefix_len-append (λ b. not (is_line_feed b)) line rest
    ∙ ap (λ same. cond same (length line + position_or_len is_line_feed rest) (position_or_len is_line_feed line))
    (eq-eqb _ _ free)

-- a room of one byte that was filled
one_byte : (room : List ℕ) (n : ℕ) → length room ≡ 1 → n ≤ length room → (n ≡ 0 → ⊥)
    → take n room ≡ slice_index_or room 0 0 ∷ []
one_byte room n one within some =
    let is_one : n ≡ 0 + 1 = omega arith in
    ap (λ k. take k room) is_one ∙ take_more room 0 0 (omega arith)

-- the bytes of a source of which the line and one byte more were read
pub byte_further : (bytes line room : List ℕ) (n : ℕ) (start before now : Option (List ℕ))
    → start ≡ with_front line before → before ≡ with_front (take n room) now
    → length room ≡ 1 → n ≤ length room → (n ≡ 0 → ⊥) → start ≡ Some bytes
    → (more : List ℕ) × (now ≡ Some more) × (bytes ≡ line ++ (slice_index_or room 0 0 ∷ more))
byte_further bytes line room n start before None moved read one within some is = absurd (cc)
byte_further bytes line room n start before (Some more) moved read one within some is =
    let byte = one_byte room n one within some in
    let all : Some bytes ≡ Some (line ++ (take n room ++ more)) = sym is ∙ moved ∙ ap (with_front line) read in
    let whole : bytes ≡ line ++ (take n room ++ more) = cc in
    (more, refl, whole ∙ ap (λ front. line ++ (front ++ more)) byte)

-- a line feed behind the line ends it
pub line_at_feed : (limit : ℕ) (bytes line room : List ℕ) (n : ℕ) (start before now : Option (List ℕ))
    → position_or_len is_line_feed line ≡ length line → length line ≤ limit
    → start ≡ with_front line before → before ≡ with_front (take n room) now
    → length room ≡ 1 → n ≤ length room → (n ≡ 0 → ⊥) → slice_index_or room 0 0 ≡ 10 → start ≡ Some bytes
    → IsFirstLine limit bytes now line
line_at_feed limit bytes line room n start before now free fits moved read one within some feed is =
    let further = byte_further bytes line room n start before now moved read one within some is in
    let more = further.0 in
    let whole : bytes ≡ line ++ (10 ∷ more) = further.2 ∙ ap (λ b. line ++ (b ∷ more)) feed in
    let at : position_or_len is_line_feed bytes ≡ length line + 0 =
    ap (position_or_len is_line_feed) whole ∙ feed_free_append line (10 ∷ more) free in
    let line_is : line_of bytes ≡ line =
    ap (λ k. take k bytes) at ∙ ap (take (length line + 0)) whole ∙ take_at line (10 ∷ more) (length line + 0) (omega arith) in
    let after_is : after_line bytes ≡ more =
    ap (λ k. drop (k + 1) bytes) at ∙ ap (drop (length line + 0 + 1)) whole
    ∙ ap (λ k. drop k (line ++ (10 ∷ more))) (omega arith) ∙ drop-append-add line (10 ∷ more) 1 in
    record { is = sym line_is; within = fits; after = further.1 ∙ ap Some (sym after_is) }

-- another byte behind it makes it longer
pub line_past_limit : (limit : ℕ) (bytes line room : List ℕ) (n : ℕ) (start before now : Option (List ℕ))
    → position_or_len is_line_feed line ≡ length line → limit ≤ length line
    → start ≡ with_front line before → before ≡ with_front (take n room) now
    → length room ≡ 1 → n ≤ length room → (n ≡ 0 → ⊥) → (slice_index_or room 0 0 ≡ 10 → ⊥) → start ≡ Some bytes
    → limit < length (line_of bytes)
line_past_limit limit bytes line room n start before now free full moved read one within some no_feed is =
    let further = byte_further bytes line room n start before now moved read one within some is in
    let at = ap (position_or_len is_line_feed) further.2 ∙ feed_free_append line (slice_index_or room 0 0 ∷ further.0) free in
    let first : 0 < position_or_len is_line_feed (slice_index_or room 0 0 ∷ further.0) = past (slice_index_or room 0 0) further.0 no_feed in
    let len = length-prefix_len (λ b. not (is_line_feed b)) bytes in
    omega arith
  where
    past : (b : ℕ) (more : List ℕ) → (b ≡ 10 → ⊥) → 0 < position_or_len is_line_feed (b ∷ more)
    past b more differs = rw (ne_eqb b 10 differs) (omega arith)
