-- Parts of a path, and the path that they spell.
use denote.Param.Members.{Mut}
use denote.Ref.{Bor}
use Rattle.std.specs.Fn.{CalledAt}
use Rattle.std.specs.Slice.Iter as slice
use Rattle.std.proofs.lemmas.Iterator.{YieldsList}
use Rattle.std.proofs.lemmas.Iterator.Consumers.{YieldsList-at}
use Rattle.std.proofs.lemmas.Iterator.Splits.{YieldsList-from_slice_split}
use Rattle.std.proofs.Common.{◌≡◌, ℕ, ◌+◌, ◌-◌, ◌<◌, ◌≤◌, Bool, true, false, not, ◌&&◌, ◌||◌, cond, eqb, ltb, List, [], ◌∷◌, ◌++◌, length, take, drop, get_or, refl, sym, ap, ◌∙◌, arith, append_assoc, fold}
use Rattle.std.specs.List.{list_all, slice_split, onto_first, join_with_byte, before_last, suffix_len}
use Rattle.std.proofs.lemmas.Bool.{and_from, and_parts, not_from_false, lt-ltb}
use Rattle.std.proofs.lemmas.List.{append-nil, take_rest, take_more, take_all, length-append, length_push, get_or-append_right, get_or_at, take_at}
use Rattle.std.proofs.lemmas.List.Concat.{flat_map-append}
use Rattle.std.proofs.lemmas.List.Elements.{All-take}
use Rattle.std.proofs.lemmas.List.Folds.{list_all-append}
use Rattle.std.proofs.lemmas.List.Sums.{suffix_len_is, fold_push, AllPass-from_list_all, list_all-from_AllPass}
use Rattle.kg_text.specs.Paths.{slash, segments, is_idle, is_parent, is_dropped, keep, kept, ends_open, without_dots}
use Rattle.kg_text.specs.Segments.{spelled, further}

-- ---- what stands between the slashes

-- no byte of the part is a slash
abbrev pub no_slash : List ℕ → Bool
no_slash part = list_all (λ b. not (eqb b slash)) part

list_all-onto_first : (q : ℕ → Bool) (b : ℕ) (parts : List (List ℕ)) → q b ≡ true → list_all (list_all q) parts ≡ true → list_all (list_all q) (onto_first b parts) ≡ true
list_all-onto_first q b [] h all = and_from _ _ (and_from _ _ h refl) refl
list_all-onto_first q b (part ∷ parts) h all =
    let both = and_parts _ _ all in and_from _ _ (and_from _ _ h both.0) both.1

cut_here : (q : ℕ → Bool) (here : Bool) (b : ℕ) (parts : List (List ℕ)) → (here ≡ false → q b ≡ true) → list_all (list_all q) parts ≡ true → list_all (list_all q) (cond here ([] ∷ parts) (onto_first b parts)) ≡ true
cut_here q true b parts h all = all
cut_here q false b parts h all = list_all-onto_first q b parts (h refl) all

-- the parts of bytes that pass have bytes that pass
pub list_all-slice_split : (q : ℕ → Bool) (p : ℕ → Bool) (bytes : List ℕ) → list_all q bytes ≡ true → list_all (list_all q) (slice_split p bytes) ≡ true
list_all-slice_split q p [] all = refl
list_all-slice_split q p (b ∷ rest) all =
    let both = and_parts _ _ all in
    cut_here q (p b) b (slice_split p rest) (λ _. both.0) (list_all-slice_split q p rest both.1)

pub no_slash-slice_split : (bytes : List ℕ) → list_all no_slash (slice_split (λ b. eqb b slash) bytes) ≡ true
no_slash-slice_split [] = refl
no_slash-slice_split (b ∷ rest) =
    cut_here (λ x. not (eqb x slash)) (eqb b slash) b (slice_split (λ x. eqb x slash) rest) (λ h. not_from_false _ h) (no_slash-slice_split rest)

-- ---- one segment further

list_all-take : (q : List ℕ → Bool) (n : ℕ) (parts : List (List ℕ)) → list_all q parts ≡ true → list_all q (take n parts) ≡ true
list_all-take q n parts all =
    list_all-from_AllPass q _ (All-take (λ x. q x ≡ true) n parts (AllPass-from_list_all q parts all))

list_all-keep : (q : List ℕ → Bool) (idle parent : Bool) (parts : List (List ℕ)) (segment : List ℕ) → list_all q parts ≡ true → q segment ≡ true → list_all q (cond idle parts (cond parent (take (length parts - 1) parts) (parts ++ segment ∷ []))) ≡ true
list_all-keep q true parent parts segment all one = all
list_all-keep q false true parts segment all one =
    list_all-take q (length parts - 1) parts all
list_all-keep q false false parts segment all one =
    list_all-append q parts (segment ∷ []) ∙ and_from _ _ all (and_from _ _ one refl)

-- the kept segments are some of the segments
pub list_all-kept : (q : List ℕ → Bool) (parts more : List (List ℕ)) → list_all q parts ≡ true → list_all q more ≡ true → list_all q (fold keep parts more) ≡ true
list_all-kept q parts [] all rest = all
list_all-kept q parts (segment ∷ more) all rest =
    let both = and_parts _ _ rest in
    list_all-kept q (keep parts segment) more (list_all-keep q (is_idle segment) (is_parent segment) parts segment all both.0) both.1

-- ---- what they spell

pub spelled-push : (parts : List (List ℕ)) (segment : List ℕ) → spelled (parts ++ segment ∷ []) ≡ spelled parts ++ slash ∷ segment
spelled-push parts segment =
    flat_map-append (λ part. slash ∷ part) parts (segment ∷ []) ∙ ap (λ tail. spelled parts ++ slash ∷ tail) (append-nil segment)

-- what stands before the last slash
before_last-slash : (front part : List ℕ) → no_slash part ≡ true → before_last (λ b. eqb b slash) (front ++ slash ∷ part) ≡ front
before_last-slash front part none =
    let path = front ++ slash ∷ part in
    let n = length front + 1 in
    let count = length-append front (slash ∷ part) in
    let behind : (k : ℕ) → n ≤ k → k < length path → not (eqb (get_or path k 0) slash) ≡ true =
    λ k low high.
    let cut = get_or-append_right (front ++ slash ∷ []) part n k 0 (length_push front slash) low in
    ap (λ xs. not (eqb (get_or xs k 0) slash)) (sym (append_assoc front (slash ∷ []) part))
    ∙ ap (λ b. not (eqb b slash)) cut
    ∙ AllPass-from_list_all (λ b. not (eqb b slash)) part none (k - n) 0 (omega arith)
    in
    let at = get_or_at front slash part 0 (n - 1) (omega arith) in
    let tail = suffix_len_is (λ b. not (eqb b slash)) path n 0 (omega arith) behind (λ _. ap (λ b. not (eqb b slash)) at) in
    let here : length path - suffix_len (λ b. not (eqb b slash)) path - 1 ≡ length front = omega (arith, tail) in
    ap (λ k. take k path) here ∙ take_at front (slash ∷ part) (length front) refl

last_part : (parts : List (List ℕ)) → 0 < length parts → parts ≡ take (length parts - 1) parts ++ get_or parts (length parts - 1) [] ∷ []
last_part parts some =
    sym (take_all (length parts - 1 + 1) parts (omega arith)) ∙ take_more parts (length parts - 1) [] (omega arith)

drop_part : (parts : List (List ℕ)) → 0 < length parts → list_all no_slash parts ≡ true → before_last (λ b. eqb b slash) (spelled parts) ≡ spelled (take (length parts - 1) parts)
drop_part parts some none =
    let front = take (length parts - 1) parts in
    let part = get_or parts (length parts - 1) [] in
    ap (λ xs. before_last (λ b. eqb b slash) (spelled xs)) (last_part parts some)
    ∙ ap (λ path. before_last (λ b. eqb b slash) path) (spelled-push front part)
    ∙ before_last-slash (spelled front) part (AllPass-from_list_all no_slash parts none (length parts - 1) [] (omega arith))

drop_any : (parts : List (List ℕ)) → list_all no_slash parts ≡ true → before_last (λ b. eqb b slash) (spelled parts) ≡ spelled (take (length parts - 1) parts)
drop_any [] none = refl
drop_any (part ∷ parts) none = drop_part (part ∷ parts) (omega arith) none

further_step : (idle parent : Bool) (parts : List (List ℕ)) (segment : List ℕ) → list_all no_slash parts ≡ true → cond idle (spelled parts) (cond parent (before_last (λ b. eqb b slash) (spelled parts)) (spelled parts ++ slash ∷ segment)) ≡ spelled (cond idle parts (cond parent (take (length parts - 1) parts) (parts ++ segment ∷ [])))
further_step true parent parts segment none = refl
further_step false true parts segment none = drop_any parts none
further_step false false parts segment none = sym (spelled-push parts segment)

-- one segment further, what is spelled is what is kept
pub further_is : (parts : List (List ℕ)) (segment : List ℕ) → list_all no_slash parts ≡ true → further (spelled parts) segment ≡ spelled (keep parts segment)
further_is parts segment none = further_step (is_idle segment) (is_parent segment) parts segment none

-- ---- the whole path

pub spelled-join : (part : List ℕ) (parts : List (List ℕ)) → slash ∷ join_with_byte slash (part ∷ parts) ≡ spelled (part ∷ parts)
spelled-join part [] = sym (append-nil (slash ∷ part))
spelled-join part (next ∷ parts) = ap (λ tail. slash ∷ (part ++ tail)) (spelled-join next parts)

keep-some : (idle parent : Bool) (parts : List (List ℕ)) (segment : List ℕ) → (idle || parent) ≡ false → 0 < length (cond idle parts (cond parent (take (length parts - 1) parts) (parts ++ segment ∷ [])))
keep-some true parent parts segment none = cc
keep-some false true parts segment none = cc
keep-some false false parts segment none = omega (arith, length_push parts segment)

kept-some : (parts more : List (List ℕ)) (last : List ℕ) → (is_dropped last ≡ false → 0 < length parts) → is_dropped (fold (λ _ segment. segment) last more) ≡ false → 0 < length (fold keep parts more)
kept-some parts [] last some open_end = some open_end
kept-some parts (segment ∷ more) last some open_end =
    kept-some (keep parts segment) more segment (keep-some (is_idle segment) (is_parent segment) parts segment) open_end

spelled_whole : (parts : List (List ℕ)) (ends : Bool) → (ends ≡ false → 0 < length parts) → slash ∷ join_with_byte slash parts ++ cond (ends && ltb 0 (length parts)) (slash ∷ []) [] ≡ spelled parts ++ cond ends (slash ∷ []) []
spelled_whole [] true some = refl
spelled_whole [] false some = absurd (omega (arith, some refl))
spelled_whole (part ∷ parts) true some =
    let more : ltb 0 (length (part ∷ parts)) ≡ true = lt-ltb 0 (length (part ∷ parts)) (omega arith) in
    ap (λ b. slash ∷ join_with_byte slash (part ∷ parts) ++ cond b (slash ∷ []) []) more
    ∙ ap (λ path. path ++ (slash ∷ [])) (spelled-join part parts)
spelled_whole (part ∷ parts) false some = ap (λ path. path ++ []) (spelled-join part parts)

-- the path without dots is what is kept, and a slash where it ends open
pub without_dots-spelled : (path : List ℕ) → without_dots path ≡ spelled (kept (segments path)) ++ cond (ends_open (segments path)) (slash ∷ []) []
without_dots-spelled path =
    let all = segments path in
    spelled_whole (kept all) (ends_open all) (kept-some [] all [] (λ no. cc))

-- ---- the path while its segments come

-- `split` gives the segments, one after the other
pub segments_come : {F : Type 0} {s it : _} (g : Mut F (Bor ℕ × Unit {0}) Bool) {f : F} (path : List ℕ) → it ≡ s → slice.split_rest s ≡ take (length path - 1) (drop 1 path) → slice.split_done s ≡ false → slice.split_callee s ≡ f → ((x : ℕ) (b : Bool) (q : F) → CalledAt g f x b q → (q ≡ f) × (b ≡ eqb x slash)) → YieldsList (slice.split_steps g) (λ x. x.now) it (segments path)
segments_come g path same rest done closure test =
    YieldsList-at same (YieldsList-from_slice_split g (λ b. eqb b slash) (drop 1 path) (rest ∙ take_rest path 1) done closure test)

-- `out` spells what is kept of the segments that came, and the last of them was dropped or not
pub record IsSpelled (came : List (List ℕ)) (out : List ℕ) (ended : Bool) : Type 0 where
  pub spells : out ≡ spelled (kept came)
  pub ends : ended ≡ ends_open came

IsSpelled-push : (came : List (List ℕ)) (segment out : List ℕ) (ended : Bool) (next : List ℕ) (ends : Bool) → list_all no_slash came ≡ true → IsSpelled came out ended → next ≡ further out segment → ends ≡ is_dropped segment → IsSpelled (came ++ segment ∷ []) next ends
IsSpelled-push came segment out ended next ends none so_far grown told = record {
  spells = grown
      ∙ ap (λ o. further o segment) so_far.spells
      ∙ further_is (kept came) segment (list_all-kept no_slash [] came refl none)
      ∙ ap spelled (sym (fold_push keep [] came segment));
  ends = told ∙ ap is_dropped (sym (fold_push (λ _ s. s) [] came segment));
}

-- one more segment of the path comes
pub IsSpelled-more : (path : List ℕ) (n : ℕ) (segment out : List ℕ) (ended : Bool) (next : List ℕ) (ends : Bool) → (n < length (segments path)) × (segment ≡ get_or (segments path) n segment) → IsSpelled (take n (segments path)) out ended → next ≡ further out segment → ends ≡ is_dropped segment → IsSpelled (take (n + 1) (segments path)) next ends
IsSpelled-more path n segment out ended next ends here so_far grown told =
    let all = segments path in
    let one_more : take (n + 1) all ≡ take n all ++ segment ∷ [] = take_more all n segment here.0 ∙ ap (λ s. take n all ++ s ∷ []) (sym here.1) in
    rw one_more (IsSpelled-push (take n all) segment out ended next ends (list_all-take no_slash n all (no_slash-slice_split (drop 1 path))) so_far grown told)

-- each segment came
pub IsSpelled-whole : (path : List ℕ) (n : ℕ) (out : List ℕ) (ended : Bool) → n ≡ length (segments path) → IsSpelled (take n (segments path)) out ended → out ++ cond ended (slash ∷ []) [] ≡ without_dots path
IsSpelled-whole path n out ended all_came so_far =
    let all = segments path in
    let whole : take n all ≡ all = take_all n all (omega arith) in
    ap (λ o. o ++ cond ended (slash ∷ []) []) (so_far.spells ∙ ap (λ came. spelled (kept came)) whole)
    ∙ ap (λ e. spelled (kept all) ++ cond e (slash ∷ []) []) (so_far.ends ∙ ap ends_open whole)
    ∙ sym (without_dots-spelled path)
