-- What it means that a row is chosen: of the rows that may run, none is tied more closely to the request.
use Rattle.std.specs.Prelude.{◌≡◌, ◌≤◌, ℕ, true, false, List, Option, None, Some, All}
use Rattle.std.specs.List.{Contains}
use Rattle.kg_row_types.specs.declared.plugin.PluginName.{PluginName}
use Rattle.kg_row_types.specs.declared.plugin.PluginRow.{PluginRow}
use Rattle.kg_row_types.specs.declared.plugin.Scope.{Scope}
use Rattle.kg_plugin_table.specs.Precedence.{runs_with}

-- the row is one of these and may run, and none of them that may has a smaller precedence
pub record IsClosest (rows : List PluginRow) (name : PluginName) (request : Scope) (row : PluginRow) : Type 0 where
  pub listed : Contains rows row
  pub precedence : ℕ
  pub runs : runs_with name request precedence row ≡ true
  pub least : All (λ other. (number : ℕ) → runs_with name request number other ≡ true → precedence ≤ number) rows

-- such a row, or none where none of them may run
abbrev pub IsChoice : List PluginRow → PluginName → Scope → Option PluginRow → Type 0
IsChoice rows name request (Some row) = IsClosest rows name request row
IsChoice rows name request None = All (λ other. (number : ℕ) → runs_with name request number other ≡ false) rows
