-- Judging a hit: whether it is let through, after all the hits before it (Kong Gateway manual, "Rate Limiting"; that
-- counting and judging are one step, and that a refused hit isn't counted, is this project's own). It counts over the
-- whole list of hits, whatever limits they had.
use Rattle.std.specs.Prelude.{ℕ, ◌+◌, ◌-◌, max, Bool, ◌&&◌, nat_eq, nat_lt, List, [], ◌∷◌, ◌++◌, count_by, fold, length, map, if◌then◌else◌}
use Rattle.std.specs.List.{list_all}
use Rattle.std.specs.Str.{bytes_eq}
use Rattle.kg_limit.specs.WindowTimes.{window_number}
use Rattle.kg_limit.specs.declared.hit.Hit.{Hit}
use Rattle.kg_limit.specs.declared.hit.Verdict.{Verdict}
use Rattle.kg_limit.specs.declared.window.Window.{Window}

-- a hit that was judged, with its time
pub record Judged : Type 0 where
  pub row : ℕ
  pub identity : List ℕ
  pub time : ℕ
  pub let_through : Bool

-- the time of the last of these, and 0 before the first
abbrev pub last_time : List Judged → ℕ
last_time past = fold (λ time one. one.time) 0 past

-- a hit's time: times never go back
abbrev pub time_of : List Judged → Hit → ℕ
time_of past hit = max (last_time past) hit.now

-- ---- how many were let through

-- one that was let through, with this row and identity, in the window of this time
abbrev pub counts_in : ℕ → List ℕ → Window → ℕ → Judged → Bool
counts_in row identity window time one =
    one.let_through && (nat_eq one.row row && bytes_eq one.identity identity)
    && nat_eq (window_number window one.time) (window_number window time)

abbrev pub used : List Judged → ℕ → List ℕ → Window → ℕ → ℕ
used past row identity window time = count_by (counts_in row identity window time) past

-- how many this hit finds in a window
abbrev pub used_before : List Judged → Hit → Window → ℕ
used_before past hit window = used past hit.row hit.identity window (time_of past hit)

-- ---- the verdict

-- fewer came than may come, in each window
abbrev pub is_let_through : List Judged → Hit → Bool
is_let_through past hit = list_all (λ limit. nat_lt (used_before past hit limit.0) limit.1) hit.limits

-- how many further ones may come of this many, never below 0
abbrev pub left_of : Bool → ℕ → ℕ → ℕ
left_of let_through used limit = if let_through then limit - used - 1 else limit - used

abbrev pub left_in : List Judged → Hit → Window × ℕ → Window × ℕ
left_in past hit limit = (limit.0, left_of (is_let_through past hit) (used_before past hit limit.0) limit.1)

abbrev pub judged : List Judged → Hit → Judged
judged past hit = record {
  row = hit.row;
  identity = hit.identity;
  time = time_of past hit;
  let_through = is_let_through past hit;
}

-- hits as they were judged, one after the other
abbrev pub judged_all : List Hit → List Judged
judged_all hits = fold (λ past hit. past ++ judged past hit ∷ []) [] hits

-- what is judged of a hit after these
abbrev pub verdict_after : List Hit → Hit → Verdict
verdict_after hits hit =
    let past = judged_all hits in
    record {
      place = length hits + 1;
      time = time_of past hit;
      let_through = is_let_through past hit;
      left = map (left_in past hit) hit.limits;
    }
