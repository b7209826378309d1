-- A path that stays as it is without its dots, by what it spells and by its length.
use Rattle.std.proofs.Common.{◌≡◌, ℕ, ◌+◌, ◌-◌, ◌<◌, ◌≤◌, Bool, true, false, not, ◌&&◌, ◌||◌, cond, eqb, List, [], ◌∷◌, ◌++◌, length, take, drop, get_or, refl, sym, ap, ◌∙◌, arith, append_assoc, fold, inl, inr}
use Rattle.std.specs.List.{join_with_byte}
use Rattle.std.proofs.lemmas.Bool.{and_parts, or_parts, or_from, cond-false, cases_Bool, eqb-true, eqb-false, not-true}
use Rattle.std.proofs.lemmas.List.{append-nil, take-append-drop, length-append, nil_from_length, at_drop_more}
use Rattle.std.proofs.lemmas.List.Concat.{flat_map-append}
use Rattle.std.proofs.lemmas.List.Splits.{length-slice_split, join_with_byte-slice_split}
use Rattle.std.specs.Str.{bytes_eq}
use Rattle.kg_text.specs.Paths.{slash, segments, is_idle, is_parent, is_dropped, keep, kept, without_dots}
use Rattle.kg_text.specs.Segments.{spelled, is_dots}
use Rattle.kg_text.proofs.SegmentLemmas.{spelled-push, spelled-join, without_dots-spelled}

-- no segment is `.` or `..`, and none is empty but the last; `ended` where the one before is empty
abbrev pub is_plain : Bool → List (List ℕ) → Bool
is_plain ended [] = true
is_plain ended (segment ∷ more) = not (ended || is_dots segment) && is_plain (eqb (length segment) 0) more

-- the last slash, where the path ends open
abbrev ending : List ℕ → List (List ℕ) → List ℕ
ending last more = cond (is_dropped (fold (λ _ segment. segment) last more)) (slash ∷ []) []

kept_segment : (segment : List ℕ) → eqb (length segment) 0 ≡ false → is_dots segment ≡ false → is_dropped segment ≡ false
kept_segment segment some named =
    let neither = or_parts _ _ named in or_from _ _ (or_from _ _ some neither.0) neither.1

keep_other : (parts : List (List ℕ)) (segment : List ℕ) → is_dropped segment ≡ false → keep parts segment ≡ parts ++ segment ∷ []
keep_other parts segment stays =
    let neither = or_parts _ _ stays in
    cond-false (is_idle segment) _ _ neither.0 ∙ cond-false (is_parent segment) _ _ neither.1

-- ---- by what it spells

last_spelled : (empty dot parent : Bool) (parts : List (List ℕ)) (segment : List ℕ) → (empty ≡ true → segment ≡ []) → (dot || parent) ≡ false → spelled (cond (empty || dot) parts (cond parent (take (length parts - 1) parts) (parts ++ segment ∷ []))) ++ cond ((empty || dot) || parent) (slash ∷ []) [] ≡ spelled parts ++ spelled (segment ∷ [])
last_spelled empty true parent parts segment none named = cc
last_spelled empty false true parts segment none named = cc
last_spelled true false false parts segment none named =
    ap (λ s. spelled parts ++ ((slash ∷ s) ++ [])) (sym (none refl))
last_spelled false false false parts segment none named =
    append-nil (spelled (parts ++ segment ∷ [])) ∙ spelled-push parts segment
    ∙ ap (λ s. spelled parts ++ s) (sym (append-nil (slash ∷ segment)))

no_bytes : (segment : List ℕ) → eqb (length segment) 0 ≡ true → segment ≡ []
no_bytes segment none = nil_from_length segment (eqb-true (length segment) 0 none)

plain_spelled : (parts : List (List ℕ)) (last segment : List ℕ) (more : List (List ℕ)) → is_plain false (segment ∷ more) ≡ true → spelled (fold keep parts (segment ∷ more)) ++ ending last (segment ∷ more) ≡ spelled parts ++ spelled (segment ∷ more)
plain_spelled parts last segment [] plain =
    last_spelled (eqb (length segment) 0) (bytes_eq segment (46 ∷ [])) (is_parent segment) parts segment (no_bytes segment) (not-true _ (and_parts _ _ plain).0)
plain_spelled parts last segment (next ∷ rest) plain =
    let both = and_parts (not (is_dots segment)) _ plain in
    let some = ended_stops (eqb (length segment) 0) next rest both.1 in
    let stays = keep_other parts segment (kept_segment segment some (not-true _ both.0)) in
    let further = ap (λ ended. is_plain ended (next ∷ rest)) (sym some) ∙ both.1 in
    ap (λ ps. spelled (fold keep ps (next ∷ rest)) ++ ending segment (next ∷ rest)) stays
    ∙ plain_spelled (parts ++ segment ∷ []) segment next rest further
    ∙ ap (λ s. s ++ spelled (next ∷ rest)) (spelled-push parts segment)
    ∙ append_assoc (spelled parts) (slash ∷ segment) (spelled (next ∷ rest))
  where
    ended_stops : (ended : Bool) (next : List ℕ) (rest : List (List ℕ)) → is_plain ended (next ∷ rest) ≡ true → ended ≡ false
    ended_stops true next rest h = cc
    ended_stops false next rest h = refl

-- ---- by its length

take_shorter : (n : ℕ) (parts : List (List ℕ)) → length (spelled (take n parts)) ≤ length (spelled parts)
take_shorter n parts =
    let front = spelled (take n parts) in
    let back = spelled (drop n parts) in
    let whole : spelled parts ≡ front ++ back =
    ap spelled (sym (take-append-drop n parts)) ∙ flat_map-append (λ part. slash ∷ part) (take n parts) (drop n parts)
    in
    omega (arith, ap length whole, length-append front back)

keep_shorter : (idle parent : Bool) (parts : List (List ℕ)) (segment : List ℕ) → (idle || parent) ≡ true → length (spelled (cond idle parts (cond parent (take (length parts - 1) parts) (parts ++ segment ∷ [])))) ≤ length (spelled parts)
keep_shorter true parent parts segment dropped = omega arith
keep_shorter false true parts segment dropped = take_shorter (length parts - 1) parts
keep_shorter false false parts segment dropped = cc

-- one byte, where a path is not plain
abbrev cost : Bool → ℕ
cost plain = cond plain 0 1

cost_le : (plain : Bool) → cost plain ≤ 1
cost_le true = omega arith
cost_le false = omega arith

named_segment : (segment : List ℕ) → is_dropped segment ≡ false → (eqb (length segment) 0 ≡ false) × (is_dots segment ≡ false)
named_segment segment stays =
    let neither = or_parts _ _ stays in
    let idle = or_parts _ _ neither.0 in
    (idle.0, or_from _ _ idle.1 neither.1)

plain_rest : (segment : List ℕ) (more : List (List ℕ)) → is_dropped segment ≡ false → is_plain false (segment ∷ more) ≡ is_plain false more
plain_rest segment more stays =
    let named = named_segment segment stays in
    ap (λ b. not b && is_plain (eqb (length segment) 0) more) named.1 ∙ ap (λ ended. is_plain ended more) named.0

last_length : (parts : List (List ℕ)) (segment : List ℕ) → length (spelled (keep parts segment)) + length (ending [] (segment ∷ [])) + cost (is_plain false (segment ∷ [])) ≤ length (spelled parts) + (1 + length segment)
last_length parts segment =
    elim (cases_Bool (is_dropped segment)) [
      | inl dropped ↦
          let open_end = ap (λ b. length (cond b (slash ∷ []) [])) dropped in
          let shorter = keep_shorter (is_idle segment) (is_parent segment) parts segment dropped in
          elim (cases_Bool (eqb (length segment) 0)) [
            | inl empty ↦
                let free = ap (λ s. cost (is_plain false (s ∷ []))) (no_bytes segment empty) in
                omega (arith, open_end, shorter, free)
            | inr some ↦ omega (arith, open_end, shorter, eqb-false (length segment) 0 some, cost_le (is_plain false (segment ∷ [])))
          ]
      | inr stays ↦
          let shut_end = ap (λ b. length (cond b (slash ∷ []) [])) stays in
          let free = ap cost (plain_rest segment [] stays) in
          let kept_whole = ap length (ap spelled (keep_other parts segment stays) ∙ spelled-push parts segment) in
          omega (arith, shut_end, free, kept_whole, length-append (spelled parts) (slash ∷ segment))
    ]

-- one segment further, where `here` and `there` are the costs with it and after it
length_step : (parts : List (List ℕ)) (segment : List ℕ) (out after here there : ℕ) → out + there ≤ length (spelled (keep parts segment)) + after → (is_dropped segment ≡ false → here ≡ there) → here ≤ 1 → out + here ≤ length (spelled parts) + (1 + length segment + after)
length_step parts segment out after here there h same small =
    elim (cases_Bool (is_dropped segment)) [
      | inl dropped ↦ omega (arith, keep_shorter (is_idle segment) (is_parent segment) parts segment dropped)
      | inr stays ↦ omega (arith, same stays, ap (λ ps. length (spelled ps)) (keep_other parts segment stays), ap length (spelled-push parts segment), length-append (spelled parts) (slash ∷ segment))
    ]

-- a path is shorter without its dots, unless it is plain
length_spelled : (parts : List (List ℕ)) (last segment : List ℕ) (more : List (List ℕ)) → length (spelled (fold keep parts (segment ∷ more))) + length (ending last (segment ∷ more)) + cost (is_plain false (segment ∷ more)) ≤ length (spelled parts) + length (spelled (segment ∷ more))
length_spelled parts last segment [] =
    omega (arith, last_length parts segment, ap length (append-nil (slash ∷ segment)))
length_spelled parts last segment (next ∷ rest) =
    let more = next ∷ rest in
    let out = length (spelled (fold keep (keep parts segment) more)) + length (ending segment more) in
    let longer = length_step parts segment out (length (spelled more)) (cost (is_plain false (segment ∷ more))) (cost (is_plain false more)) (length_spelled (keep parts segment) segment next rest) (λ stays. ap cost (plain_rest segment more stays)) (cost_le (is_plain false (segment ∷ more))) in
    omega (arith, longer, length-append (slash ∷ segment) (spelled more))

-- ---- the whole path

begins : (path : List ℕ) → 0 < length (segments path)
begins path = omega (arith, length-slice_split (λ b. eqb b slash) (drop 1 path))

join_spelled : (parts : List (List ℕ)) → 0 < length parts → slash ∷ join_with_byte slash parts ≡ spelled parts
join_spelled [] some = absurd (omega (arith, some))
join_spelled (part ∷ parts) some = spelled-join part parts

path_spelled : (path : List ℕ) → eqb (get_or path 0 0) slash ≡ true → path ≡ spelled (segments path)
path_spelled [] first = cc
path_spelled (b ∷ rest) first =
    ap (λ x. x ∷ rest) (eqb-true b slash first)
    ∙ ap (λ tail. slash ∷ tail) (sym (join_with_byte-slice_split slash rest))
    ∙ join_spelled (segments (b ∷ rest)) (begins (b ∷ rest))

plain_parts : (parts : List (List ℕ)) → 0 < length parts → is_plain false parts ≡ true → spelled (kept parts) ++ ending [] parts ≡ spelled parts
plain_parts [] some plain = absurd (omega (arith, some))
plain_parts (part ∷ parts) some plain = plain_spelled [] [] part parts plain

length_parts : (parts : List (List ℕ)) → 0 < length parts → length (spelled (kept parts) ++ ending [] parts) + cost (is_plain false parts) ≤ length (spelled parts)
length_parts [] some = absurd (omega (arith, some))
length_parts (part ∷ parts) some =
    omega (arith, length_spelled [] [] part parts, length-append (spelled (kept (part ∷ parts))) (ending [] (part ∷ parts)))

plain_path : (path : List ℕ) → eqb (get_or path 0 0) slash ≡ true → is_plain false (segments path) ≡ true → without_dots path ≡ path
plain_path path first plain =
    without_dots-spelled path ∙ plain_parts (segments path) (begins path) plain ∙ sym (path_spelled path first)

-- the path without dots is shorter, unless the path is plain
pub length_path : (path : List ℕ) → eqb (get_or path 0 0) slash ≡ true → length (without_dots path) + cond (is_plain false (segments path)) 0 1 ≤ length path
length_path path first =
    omega (arith, length_parts (segments path) (begins path), ap length (without_dots-spelled path), ap length (path_spelled path first))

-- a path is its own path without dots just where it is plain
pub dot_free_is : (path : List ℕ) → eqb (get_or path 0 0) slash ≡ true → (b : Bool) → is_plain false (segments path) ≡ b → (b ≡ true → without_dots path ≡ path) × (without_dots path ≡ path → b ≡ true)
dot_free_is path first true plain = (λ _. plain_path path first plain, λ _. refl)
dot_free_is path first false plain = (
  λ none. cc,
  λ same.
      let shorter = length_path path first in
      absurd (omega (arith, ap length same, ap (λ b. cond {A = ℕ} b 0 1) plain)),
)

-- ---- while the segments come

plain_at : (segs : List (List ℕ)) (n : ℕ) (ended : Bool) (segment : List ℕ) → (n < length segs) × (segment ≡ get_or segs n segment) → is_plain ended (drop n segs) ≡ (not (ended || is_dots segment) && is_plain (eqb (length segment) 0) (drop (n + 1) segs))
plain_at segs n ended segment here =
    at_drop_more (is_plain ended) segs n segment here.0
    ∙ ap (λ s. not (ended || is_dots s) && is_plain (eqb (length s) 0) (drop (n + 1) segs)) (sym here.1)

pub plain_stops : (segs : List (List ℕ)) (n : ℕ) (ended : Bool) (segment : List ℕ) → (n < length segs) × (segment ≡ get_or segs n segment) → (ended || is_dots segment) ≡ true → is_plain ended (drop n segs) ≡ false
plain_stops segs n ended segment here stop =
    plain_at segs n ended segment here ∙ ap (λ b. not b && is_plain (eqb (length segment) 0) (drop (n + 1) segs)) stop

pub plain_goes_on : (segs : List (List ℕ)) (n : ℕ) (ended : Bool) (segment : List ℕ) → (n < length segs) × (segment ≡ get_or segs n segment) → ended ≡ false → is_dots segment ≡ false → is_plain ended (drop n segs) ≡ is_plain (eqb (length segment) 0) (drop (n + 1) segs)
plain_goes_on segs n ended segment here more other =
    plain_at segs n ended segment here ∙ ap (λ b. not b && is_plain (eqb (length segment) 0) (drop (n + 1) segs)) (or_from _ _ more other)
