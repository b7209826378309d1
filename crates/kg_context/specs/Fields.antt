-- Fields that the gateway adds, and texts that are joined in their values.
use Rattle.std.specs.Prelude.{ℕ, List, [], ◌∷◌, Option, Some, None}
use Rattle.std.specs.List.{join_by}
use Rattle.kg_message.specs.declared.header.Header.{Header}

-- a field of this name and value
abbrev pub field : List ℕ → List ℕ → Header
field name value = record { name = name; value = value }

-- that field, if there is a value
abbrev pub set_field : List ℕ → Option (List ℕ) → List Header
set_field name None = []
set_field name (Some value) = field name value ∷ []

-- the texts with a separator between each two
abbrev pub joined : List ℕ → List (List ℕ) → List ℕ
joined separator texts = join_by (λ text. text) separator texts
