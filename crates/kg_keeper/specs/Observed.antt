-- What contracts see of a store of rows, and what its calls leave, whatever they answer (this project's own).
use Rattle.std.specs.Prelude.{◌≡◌, ℕ, ◌-◌, ◌≤◌, ◌++◌, ◌↔◌, nat_lt, Bool, false, Contains, List, filter, map, length, Option, IfSome, IsTrue, option_map}
use Rattle.kg_outside.specs.Causes.{Rose}
use Rattle.kg_outside.specs.Counts.{one_more}
use Rattle.kg_row_values.specs.declared.command.Command.{Command}

-- the commands that it has seen, from the first one on, where it tells them; how often it has failed; how many
-- calls there were other than `look`; the numbers of the coming ones that fail, from 1, where it tells them;
-- whether nobody else commits; how many rows a kind may have; of how many last commits it keeps what they touched
pub record Observed : Type 0 where
  pub seen : Option (List Command)
  pub faults : ℕ
  pub calls : ℕ
  pub failing : Option (List ℕ)
  pub alone : Bool
  pub limit : ℕ
  pub feed : ℕ

-- ---- what is seen

-- what was seen, and then these commands
abbrev pub with_end : Option (List Command) → List Command → Option (List Command)
with_end seen more = option_map (λ before. before ++ more) seen

-- what was seen is the front of what is seen now
abbrev pub Grows : Option (List Command) → Option (List Command) → Type 0
Grows before now = (more : List Command) × (now ≡ with_end before more)

-- where nobody else commits, nothing more is seen
abbrev pub Stays : Observed → Observed → Type 0
Stays before now = IsTrue before.alone → now.seen ≡ before.seen

-- ---- calls

-- the numbers of the coming calls that fail, after one more call
abbrev pub after_call : List ℕ → List ℕ
after_call numbers = map (λ n. n - 1) (filter (nat_lt 1) numbers)

-- a look: it tells how much is seen then, and nothing else changes
pub record IsLook (before now : Observed) (answer : ℕ) : Type 0 where
  pub place : IfSome now.seen (λ seen. answer ≡ length seen)
  pub grows : Grows before.seen now.seen
  pub stays : Stays before now
  pub rest : now ≡ record before { seen = now.seen }

-- a call other than a look: it is counted, and the numbers of those that fail move on
pub record IsCall (before now : Observed) : Type 0 where
  pub grows : Grows before.seen now.seen
  pub rest : now ≡ record before {
    seen = now.seen;
    faults = now.faults;
    calls = one_more before.calls;
    failing = option_map after_call before.failing;
  }

-- a fault comes only where the count rose, and else the count stays; where it is told which calls fail, just
-- these do
pub record HasFaults (before now : Observed) (fault : Bool) : Type 0 where
  pub later : before.faults ≤ now.faults
  pub rose : IsTrue fault → Rose before.faults now.faults
  pub kept : fault ≡ false → now.faults ≡ before.faults
  pub planned : IfSome before.failing (λ numbers. IsTrue fault ↔ Contains numbers 1)
