-- The windows judge a hit as the list of all hits does, and then stand for the list with this one.
use Rattle.std.proofs.Common.{◌≡◌, ℕ, ◌+◌, ◌<◌, ◌≤◌, ◌^◌, max, Bool, true, false, cond, ◌&&◌, nat_eq, nat_lt, List, [], ◌∷◌, ◌++◌, count_by, fold, length, map, Option, Some, None, IfSome, refl, sym, ap, subst, ◌∙◌, true≢false, arith}
use Rattle.std.proofs.lemmas.Bool.{eq-eqb, eqb-true, false_from_ne_true}
use Rattle.std.proofs.lemmas.List.{length_push}
use Rattle.std.proofs.lemmas.List.Sums.{count_by-le-length, fold-append, sum_by-append}
use Rattle.std.specs.List.{list_all}
use Rattle.std.specs.Str.{bytes_eq}
use Rattle.kg_limit.specs.Counting.{Counted, IsNotAhead, StandsAt, TellsSame, count_of, counted, is_free, kept, key_eq, key_of, left_after, one_more, used_by, used_in, used_of}
use Rattle.kg_limit.specs.Judging.{Judged, counts_in, is_let_through, judged, judged_all, last_time, left_in, left_of, time_of, used, used_before, verdict_after}
use Rattle.kg_limit.specs.Representing.{Represents}
use Rattle.kg_limit.specs.WindowTimes.{window_number}
use Rattle.kg_limit.specs.declared.count_table.CountTable.{CountTable}
use Rattle.kg_limit.specs.declared.counts.Counts.{Counts}
use Rattle.kg_limit.specs.declared.hit.Hit.{Hit}
use Rattle.kg_limit.specs.declared.window.Window.{Window}
use Rattle.kg_limit.specs.declared.window.Window.TheVariants.{Second, Minute, Hour, Day}
use Rattle.kg_limit.specs.declared.windows.Room.{Room}
use Rattle.kg_limit.specs.declared.windows.Windows.{Windows}
use Rattle.kg_limit.proofs.CountLemmas.{same_key}
use Rattle.kg_limit.proofs.WindowLemmas.{not_before}

-- tables that tell the same from the last time on stand for the same hits
pub same_hits : (windows : Windows) (hits : List Hit) (table : CountTable) (room : Option Room) → TellsSame windows.time windows.table table → Represents windows hits
    → Represents (record { table = table; time = windows.time; place = windows.place; room = room }) hits
same_hits windows hits table room same is = record {
  time = is.time;
  place = is.place;
  counts = λ row identity window time later. same.used (key_of row identity) window time later ∙ is.counts row identity window time later;
  ahead = same.ahead windows.time is.ahead;
}

-- ---- one hit more

pub judged_more : (hits : List Hit) (hit : Hit) → judged_all (hits ++ hit ∷ []) ≡ judged_all hits ++ judged (judged_all hits) hit ∷ []
judged_more hits hit = fold-append (λ past one. past ++ judged past one ∷ []) [] hits (hit ∷ [])

judged_behind : (past : List Judged) (hits : List Hit) → length (fold (λ before hit. before ++ judged before hit ∷ []) past hits) ≡ length past + length hits
judged_behind past [] = omega arith
judged_behind past (hit ∷ hits) =
    let more = length_push past (judged past hit) in
    let rest = judged_behind (past ++ judged past hit ∷ []) hits in
    omega (arith, more, rest)

last_time_more : (past : List Judged) (one : Judged) → last_time (past ++ one ∷ []) ≡ one.time
last_time_more past one = fold-append (λ time other. other.time) 0 past (one ∷ [])

used_more : (past : List Judged) (one : Judged) (row : ℕ) (identity : List ℕ) (window : Window) (time : ℕ)
    → used (past ++ one ∷ []) row identity window time ≡ used past row identity window time + cond (counts_in row identity window time one) 1 0
used_more past one row identity window time =
    let split = sum_by-append (λ other. cond {A = ℕ} (counts_in row identity window time other) 1 0) past (one ∷ []) in
    omega (arith, split)

-- what is kept after one more hit, in each window
counted_is : (counts : Counts) (time : ℕ) (window : Window) → count_of (counted counts time) window ≡ one_more (used_in counts window time)
counted_is counts time Second = refl
counted_is counts time Minute = refl
counted_is counts time Hour = refl
counted_is counts time Day = refl

-- ---- the verdict

module _ (windows : Windows) (hits : List Hit) (hit : Hit) (counts : Counts) (time : ℕ) (is : Represents windows hits) (now : time ≡ max windows.time hit.now)
    (there : kept windows.table (key_of hit.row hit.identity) ≡ Some counts) where
  later : windows.time ≤ time
  later = omega (arith, now)

  time_is : time ≡ time_of (judged_all hits) hit
  time_is = now ∙ ap (λ t. max t hit.now) is.time

  -- what is kept is the count, from the hit's time on
  used_then : (window : Window) (at : ℕ) → windows.time ≤ at → used_in counts window at ≡ used (judged_all hits) hit.row hit.identity window at
  used_then window at after = ap (λ k. used_of k window at) (sym there) ∙ is.counts hit.row hit.identity window at after

  used_is : (window : Window) → used_in counts window time ≡ used_before (judged_all hits) hit window
  used_is window = used_then window time later ∙ ap (used (judged_all hits) hit.row hit.identity window) time_is

  through_is : list_all (is_free counts time) hit.limits ≡ is_let_through (judged_all hits) hit
  through_is = λ i. list_all (λ (limit : Window × ℕ). nat_lt (used_is limit.0 i) limit.1) hit.limits

  left_is : map (left_after counts time (list_all (is_free counts time) hit.limits)) hit.limits ≡ map (left_in (judged_all hits) hit) hit.limits
  left_is = λ i. map (λ (limit : Window × ℕ). (limit.0, left_of (through_is i) (used_is limit.0 i) limit.1)) hit.limits

  pub verdict_is : record {
    place = windows.place + 1;
    time = time;
    let_through = list_all (is_free counts time) hit.limits;
    left = map (left_after counts time (list_all (is_free counts time) hit.limits)) hit.limits;
  } ≡ verdict_after hits hit
  verdict_is = λ i. record { place = is.place i + 1; time = time_is i; let_through = through_is i; left = left_is i }

  -- ---- what is kept then

  not_ahead : counts.last ≤ windows.time
  not_ahead = subst (λ k. IfSome k (λ one. one.last ≤ windows.time)) there (is.ahead (key_of hit.row hit.identity))

  -- this hit is one of those that are counted
  abbrev is_counted : Bool → ℕ → List ℕ → Window → ℕ → Bool
  is_counted through row identity window at =
      through && (nat_eq hit.row row && bytes_eq hit.identity identity) && nat_eq (window_number window time) (window_number window at)

  fewer_than_hits : (row : ℕ) (identity : List ℕ) (window : Window) (at : ℕ) → used (judged_all hits) row identity window at ≤ windows.place
  fewer_than_hits row identity window at =
      let counted = count_by-le-length (counts_in row identity window at) (judged_all hits) in
      let all = judged_behind [] hits in
      omega (arith, counted, all, is.place)

  -- in the hit's window there is one more
  more_in_window : (window : Window) (at : ℕ) → windows.place < 2 ^ 62 → nat_eq (window_number window time) (window_number window at) ≡ true
      → count_of (counted counts time) window ≡ used (judged_all hits) hit.row hit.identity window at + 1
  more_in_window window at fits same =
      let before = used_then window time later in
      let number = eqb-true (window_number window time) (window_number window at) same in
      let alike : used (judged_all hits) hit.row hit.identity window time ≡ used (judged_all hits) hit.row hit.identity window at =
      ap (λ n. count_by (λ one. one.let_through && (nat_eq one.row hit.row && bytes_eq one.identity hit.identity) && nat_eq (window_number window one.time) n) (judged_all hits)) number in
      let few = fewer_than_hits hit.row hit.identity window time in
      let kept_now = counted_is counts time window in
      omega (arith, before, alike, few, kept_now, fits)

  -- of a later window there is none
  none_in_later : (window : Window) (at : ℕ) → time ≤ at → nat_eq (window_number window time) (window_number window at) ≡ false
      → used (judged_all hits) hit.row hit.identity window at ≡ 0
  none_in_later window at after other =
      sym (used_then window at (omega (arith, later, after)))
      ∙ ap (λ same. cond {A = ℕ} same (count_of counts window) 0)
      (false_from_ne_true (nat_eq (window_number window counts.last) (window_number window at)) (λ same.
      let number = eqb-true (window_number window counts.last) (window_number window at) same in
      let first = not_before window counts.last time (omega (arith, not_ahead, later)) in
      let second = not_before window time at after in
      true≢false (sym (eq-eqb (window_number window time) (window_number window at) (omega (arith, number, first, second))) ∙ other)))

  -- what is kept then is the count
  told : (table : CountTable) (place : ℕ) (through : Bool) → windows.place < 2 ^ 62 → StandsAt windows.table (key_of hit.row hit.identity) place
      → Counted through place counts time windows.table table → (row : ℕ) (identity : List ℕ) (window : Window) (at : ℕ) → time ≤ at
      → used_by table (key_of row identity) window at ≡ used (judged_all hits) row identity window at + cond (is_counted through row identity window at) 1 0
  told table place false fits stands same row identity window at after =
      let before = is.counts row identity window at (omega (arith, later, after)) in
      let kept_same = ap (λ t. used_by t (key_of row identity) window at) same in
      omega (arith, before, kept_same)
  told table place true fits stands sets row identity window at after =
      ap (λ k. used_of k window at) (sets (key_of hit.row hit.identity) stands (key_of row identity))
      ∙ by_key (key_eq (key_of hit.row hit.identity) (key_of row identity)) refl
    where
      by_window : (same : Bool) → nat_eq (window_number window time) (window_number window at) ≡ same
          → cond {A = ℕ} same (count_of (counted counts time) window) 0 ≡ used (judged_all hits) hit.row hit.identity window at + cond {A = ℕ} same 1 0
      by_window true same = more_in_window window at fits same
      by_window false other = let none = none_in_later window at after other in omega (arith, none)

      by_key : (same : Bool) → key_eq (key_of hit.row hit.identity) (key_of row identity) ≡ same
          → used_of (cond same (Some (counted counts time)) (kept windows.table (key_of row identity))) window at
          ≡ used (judged_all hits) row identity window at + cond {A = ℕ} (same && nat_eq (window_number window time) (window_number window at)) 1 0
      by_key true same =
          by_window (nat_eq (window_number window time) (window_number window at)) refl
          ∙ ap (λ k. used (judged_all hits) k.row k.identity window at + cond {A = ℕ} (nat_eq (window_number window time) (window_number window at)) 1 0)
          (same_key (key_of hit.row hit.identity) (key_of row identity) same)
      by_key false other = let before = is.counts row identity window at (omega (arith, later, after)) in omega (arith, before)

  still_not_ahead : (table : CountTable) (place : ℕ) (through : Bool) → StandsAt windows.table (key_of hit.row hit.identity) place
      → Counted through place counts time windows.table table → IsNotAhead table time
  still_not_ahead table place false stands same other = subst (λ t. IfSome (kept t other) (λ one. one.last ≤ time)) (sym same) (weaker (kept windows.table other) (is.ahead other))
    where
      weaker : (k : Option Counts) → IfSome k (λ one. one.last ≤ windows.time) → IfSome k (λ one. one.last ≤ time)
      weaker None before = tt
      weaker (Some one) before = omega (arith, before, later)
  still_not_ahead table place true stands sets other =
      subst (λ k. IfSome k (λ one. one.last ≤ time)) (sym (sets (key_of hit.row hit.identity) stands other))
      (by_key (key_eq (key_of hit.row hit.identity) other) (kept windows.table other) (is.ahead other))
    where
      by_key : (same : Bool) (k : Option Counts) → IfSome k (λ one. one.last ≤ windows.time)
          → IfSome (cond same (Some (counted counts time)) k) (λ one. one.last ≤ time)
      by_key true k before = omega arith
      by_key false None before = tt
      by_key false (Some one) before = omega (arith, before, later)

  -- the windows stand for the list with this hit
  pub stands_after : (table : CountTable) (room : Option Room) (place : ℕ) (through : Bool) → windows.place < 2 ^ 62
      → through ≡ list_all (is_free counts time) hit.limits → StandsAt windows.table (key_of hit.row hit.identity) place
      → Counted through place counts time windows.table table
      → Represents (record { table = table; time = time; place = windows.place + 1; room = room }) (hits ++ hit ∷ [])
  stands_after table room place through fits as_judged stands counted_so = record {
    time = time_is ∙ sym (last_time_more (judged_all hits) (judged (judged_all hits) hit)) ∙ ap last_time (sym (judged_more hits hit));
    place = let all = length_push hits hit in omega (arith, all, is.place);
    counts = λ row identity window at after.
        told table place through fits stands counted_so row identity window at after
        ∙ (λ i. used (judged_all hits) row identity window at + cond {A = ℕ} ((as_judged ∙ through_is) i && (nat_eq hit.row row && bytes_eq hit.identity identity)
        && nat_eq (window_number window (time_is i)) (window_number window at)) 1 0)
        ∙ sym (used_more (judged_all hits) (judged (judged_all hits) hit) row identity window at)
        ∙ ap (λ past. used past row identity window at) (sym (judged_more hits hit));
    ahead = still_not_ahead table place through stands counted_so;
  }
