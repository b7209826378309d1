-- The calls of a store in memory, and which of them fail (this project's own).
use Rattle.std.specs.Prelude.{ℕ, ◌-◌, nat_lt, Bool, List, ◌++◌, filter, map, if◌then◌else◌}
use Rattle.std.specs.List.{range_with_len}
use Rattle.kg_keeper.specs.Observed.{after_call}
use Rattle.kg_outside.specs.Counts.{one_more}

-- how many calls there were since the plan was made, how many failed, how many of the next ones fail, and the numbers of
-- further ones that fail, the next call being 1
pub record Planned : Type 0 where
  pub calls : ℕ
  pub faults : ℕ
  pub announced : ℕ
  pub listed : List ℕ

-- of numbers that count from the first call on, those after so many calls, counted from there
abbrev pub coming : ℕ → List ℕ → List ℕ
coming made fails = map (λ n. n - made) (filter (nat_lt made) fails)

-- the numbers of the coming calls that fail
abbrev pub failing : Planned → List ℕ
failing plan = range_with_len 1 plan.announced ++ plan.listed

-- after one more call, which failed or not
abbrev pub moved_on : Bool → Planned → Planned
moved_on fault plan = record {
  calls = one_more plan.calls;
  faults = if fault then one_more plan.faults else plan.faults;
  announced = plan.announced - 1;
  listed = after_call plan.listed;
}
