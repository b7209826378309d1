-- Machinery for proofs: what is kept of the hits of each row and identity that were let through.
use Rattle.std.specs.Prelude.{◌≡◌, ℕ, ◌+◌, ◌-◌, ◌<◌, ◌≤◌, ◌^◌, min, Bool, true, false, nat_eq, nat_lt, List, Option, Some, None, All, IfSome, cond, length, slice_get, take, if◌then◌else◌}
use Rattle.std.specs.Cmp.Lexicographic.{pointwise}
use Rattle.std.specs.Ordering.{eq_of_both, on}
use Rattle.indexmap.specs.IndexMap.{get}
use Rattle.kg_limit.specs.Judging.{left_of}
use Rattle.kg_limit.specs.WindowTimes.{window_number}
use Rattle.kg_limit.specs.declared.count_table.CountKey.{CountKey}
use Rattle.kg_limit.specs.declared.count_table.CountTable.{CountTable}
use Rattle.kg_limit.specs.declared.counts.Counts.{Counts}
use Rattle.kg_limit.specs.declared.window.Window.{Window}
use Rattle.kg_limit.specs.declared.window.Window.TheVariants.{Second, Minute, Hour, Day}

-- ---- of one row and identity

abbrev pub count_of : Counts → Window → ℕ
count_of counts Second = counts.second
count_of counts Minute = counts.minute
count_of counts Hour = counts.hour
count_of counts Day = counts.day

-- how many were let through in the window of a time: none, where that isn't the window of the last
abbrev pub used_in : Counts → Window → ℕ → ℕ
used_in counts window time =
    if nat_eq (window_number window counts.last) (window_number window time) then count_of counts window else 0

-- one more, up to the greatest number that there is
abbrev pub one_more : ℕ → ℕ
one_more count = min (count + 1) (2 ^ 64 - 1)

-- one more is let through
abbrev pub counted : Counts → ℕ → Counts
counted counts time = record {
  last = time;
  second = one_more (used_in counts Second time);
  minute = one_more (used_in counts Minute time);
  hour = one_more (used_in counts Hour time);
  day = one_more (used_in counts Day time);
}

-- the longest window is over
abbrev pub is_over : Counts → ℕ → Bool
is_over counts time = nat_lt (window_number Day counts.last) (window_number Day time)

-- fewer were let through than may be
abbrev pub is_free : Counts → ℕ → Window × ℕ → Bool
is_free counts time limit = nat_lt (used_in counts limit.0 time) limit.1

-- what is left of a limit
abbrev pub left_after : Counts → ℕ → Bool → Window × ℕ → Window × ℕ
left_after counts time let_through limit = (limit.0, left_of let_through (used_in counts limit.0 time) limit.1)

-- ---- of all

abbrev pub key_eq : CountKey → CountKey → Bool
key_eq = eq_of_both (on (λ key. key.row) nat_eq) (on (λ key. key.identity) (pointwise nat_eq))

abbrev pub key_of : ℕ → List ℕ → CountKey
key_of row identity = record { row = row; identity = identity }

-- what is kept of a row and identity
abbrev pub kept : CountTable → CountKey → Option Counts
kept table key = get key_eq table.entries key

abbrev pub used_of : Option Counts → Window → ℕ → ℕ
used_of None window time = 0
used_of (Some counts) window time = used_in counts window time

-- how many of a row and identity were let through in the window of a time
abbrev pub used_by : CountTable → CountKey → Window → ℕ → ℕ
used_by table key window time = used_of (kept table key) window time

-- nothing that is kept lies ahead of this time
abbrev pub IsNotAhead : CountTable → ℕ → Type 0
IsNotAhead table time = (key : CountKey) → IfSome (kept table key) (λ counts. counts.last ≤ time)

-- the entry of a row and identity stands at this index
abbrev pub StandsAt : CountTable → CountKey → ℕ → Type 0
StandsAt table key at = (counts : Counts) × (slice_get table.entries.entries at ≡ Some (key, counts))

-- ---- changes

-- of each time from this one on both tell the same
pub record TellsSame (from : ℕ) (old new : CountTable) : Type 0 where
  pub used : (key : CountKey) (window : Window) (time : ℕ) → from ≤ time → used_by new key window time ≡ used_by old key window time
  pub ahead : (time : ℕ) → IsNotAhead old time → IsNotAhead new time

-- something else is kept of one row and identity, or nothing more
abbrev pub Sets : CountTable → CountTable → CountKey → Option Counts → Type 0
Sets old new key now = (other : CountKey) → kept new other ≡ cond (key_eq key other) now (kept old other)

-- one hit more is counted at an index, if it is let through
abbrev pub Counted : Bool → ℕ → Counts → ℕ → CountTable → CountTable → Type 0
Counted true at counts time old new = (key : CountKey) → StandsAt old key at → Sets old new key (Some (counted counts time))
Counted false at counts time old new = new ≡ old

-- ---- memory that is given back

-- the entries that the hand has passed in this round
abbrev pub passed : CountTable → List (CountKey × Counts)
passed table = take table.hand table.entries.entries

-- how many it has still to pass
abbrev pub to_pass : CountTable → ℕ
to_pass table = length table.entries.entries - table.hand

-- the hand passes one entry more, unless its windows are over: then the entry goes. At the end a round begins
pub record GoesOn (time : ℕ) (old new : CountTable) : Type 0 where
  pub live : All (λ entry. is_over entry.1 time ≡ false) (passed old) → All (λ entry. is_over entry.1 time ≡ false) (passed new)
  pub fewer : 0 < to_pass old → to_pass new + 1 ≡ to_pass old
  pub again : to_pass old ≡ 0 → new.hand ≡ 0
