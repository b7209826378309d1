-- When what a worker keeps is coherent with a history of commits.
use Rattle.std.specs.Prelude.{◌≡◌, ℕ, ◌+◌, ◌≤◌, List, length}
use Rattle.kg_level1.specs.Coherent.{IsCoherentLevel}
use Rattle.kg_generation.specs.Generations.{built_from}
use Rattle.kg_keeper.specs.declared.answer.Events.{Events}
use Rattle.kg_keeper.specs.declared.answer.Events.TheVariants.{Since, Gap}
use Rattle.kg_row_values.specs.Commits.{AreTouchedGenerations, AreTouchedKeys, generation_after, value_after}
use Rattle.kg_row_values.specs.declared.command.Command.{Command}
use Rattle.kg_visit.specs.Told.{Use}
use Rattle.kg_proxy.specs.Workers.{Holding}

-- each value is its key's at its stamp and up to the worker's position, and each generation was built from the rows there
pub record IsCoherentWorker (history : List Command) (w : Holding) : Type 0 where
  pub keys : IsCoherentLevel (λ value. value) (value_after history) (length history) w.keys
  pub gens : IsCoherentLevel built_from (generation_after history) (length history) w.gens

-- the events tell what the commits after the first `from` touched
abbrev pub TellsTouched : List Command → ℕ → Events → ℕ → Type 0
TellsTouched history from (Since keys gens) to = AreTouchedKeys history from keys × AreTouchedGenerations history from gens
    × (from + length keys ≡ to) × (from + length gens ≡ to)
TellsTouched history from (Gap floor) to = Unit {0}

-- a use is its key's value at a position of the history that isn't below this one
pub record HoldsSince (history : List Command) (pos : ℕ) (used : Use) : Type 0 where
  pub same : used.value ≡ value_after history used.key used.at
  pub from : pos ≤ used.at
  pub within : used.at ≤ length history
