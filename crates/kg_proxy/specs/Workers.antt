-- What a worker keeps for itself, and what its calls leave of it.
use Rattle.std.specs.Prelude.{◌≡◌, ℕ, ◌+◌, Bool, IsTrue, length, Contains}
use Rattle.kg_level1.specs.Changing.{after_jump, after_sync}
use Rattle.kg_level1.specs.Entries.{Kept, Level, empty_level}
use Rattle.kg_level1.specs.Reading.{HasSameEntries}
use Rattle.kg_generation.specs.Generations.{is_of_kind}
use Rattle.kg_generation.specs.declared.generation.Gen.{Gen}
use Rattle.kg_keeper.specs.declared.answer.Events.{Events}
use Rattle.kg_keeper.specs.declared.answer.Events.TheVariants.{Since, Gap}
use Rattle.kg_row_types.specs.Values.{answers_key}
use Rattle.kg_row_types.specs.contracts.key.GenKeyPartialEq.TheImpl as kind_impl
use Rattle.kg_row_types.specs.contracts.key.KeyPartialEq.TheImpl as key_impl
use Rattle.kg_row_types.specs.declared.key.GenKey.{GenKey}
use Rattle.kg_row_types.specs.declared.key.Key.{Key}
use Rattle.kg_row_types.specs.declared.value.Value.{Value}

-- how keys are compared, and kinds of generation
abbrev pub key_eq : Key → Key → Bool
key_eq = (key_impl.ghosts).eq

abbrev pub kind_eq : GenKey → GenKey → Bool
kind_eq = (kind_impl.ghosts).eq

pub record Holding : Type 0 where
  pub number : ℕ
  pub keys : Level Key Value
  pub gens : Level GenKey Gen

-- each value fits its key
abbrev pub EachEntry : {K V : Type 0} → (K → V → Bool) → Level K V → Type 0
EachEntry {K} {V} fits l = (k : K) (e : Kept V) → Contains l.entries (k, e) → IsTrue (fits k e.val)

-- both levels stand at one position, each value is of the variant that its key asks for, and each generation of its kind
pub record IsWorker (w : Holding) : Type 0 where
  pub together : w.keys.pos ≡ w.gens.pos
  pub values : EachEntry answers_key w.keys
  pub kinds : EachEntry is_of_kind w.gens

-- a worker that keeps nothing: room for so many values, and for both generations
abbrev pub empty_worker : ℕ → ℕ → ℕ → Holding
empty_worker number room pos = record { number = number; keys = empty_level room pos; gens = empty_level 2 pos }

-- it is told of each commit after the first `from` up to number `to`, or of none
abbrev pub TellsAll : ℕ → Events → ℕ → Type 0
TellsAll from (Since keys gens) to = (from + length keys ≡ to) × (from + length gens ≡ to)
TellsAll from (Gap floor) to = Unit {0}

abbrev pub after_events : ℕ → Events → ℕ → Holding → Holding
after_events from (Since keys gens) to w = record w { keys = after_sync key_eq from keys w.keys; gens = after_sync kind_eq from gens w.gens }
after_events from (Gap floor) to w = record w { keys = after_jump to w.keys; gens = after_jump to w.gens }

-- both keep the same, the values perhaps in another order
pub record HasSameHolding (before after : Holding) : Type 0 where
  pub number : after.number ≡ before.number
  pub keys : HasSameEntries key_eq before.keys after.keys
  pub gens : after.gens ≡ before.gens
