-- Commands that are allowed, one after another.
use Rattle.std.proofs.Common.{◌≡◌, ◌<◌, ℕ, zero, suc, true, List, [], ◌∷◌, length, take, slice_index_or, sym, subst, arith}
use Rattle.kg_row_changes.proofs.DistinctLemmas.{both_first}
use Rattle.kg_row_changes.specs.Allowed.{has_room, is_consistent}
use Rattle.kg_row_changes.specs.ValidCommands.{AreAllowed, IsValidCommand}
use Rattle.kg_row_types.specs.RowLists.{RowLists}
use Rattle.kg_row_values.specs.Rows.{changed, rows_from}
use Rattle.kg_row_values.specs.declared.command.Command.{Command}

-- each of them is valid, and keeps the rows after those before it consistent
pub allowed_at : (commands : List Command) (rows : RowLists) (limit at : ℕ) (command : Command) → AreAllowed rows commands limit
    → at < length commands → command ≡ slice_index_or commands at command
    → IsValidCommand command × (is_consistent (rows_from rows (take at commands)) command ≡ true)
allowed_at [] rows limit at command all within there = absurd (omega (arith, within))
allowed_at (first ∷ commands) rows limit zero command all within there =
    subst (λ one. IsValidCommand one × (is_consistent rows one ≡ true)) (sym there)
    (all.0, both_first (is_consistent rows first) (has_room rows first limit) all.1)
allowed_at (first ∷ commands) rows limit (suc at) command all within there =
    allowed_at commands (changed first rows) limit at command all.2 (omega (arith, within)) there
