-- Over which bases a body makes a valid row: an old row is valid itself, and a row of the kind can be made
-- by a word that is given.
use Rattle.std.specs.Prelude.{◌≡◌, [], Option, IfSome, IsTrue, ⊤}
use Rattle.serde_json.specs.Data.{Data}
use Rattle.kg_row_types.specs.Ids.{IsId}
use Rattle.kg_row_types.specs.ValidRows.{IsValidRow}
use Rattle.kg_row_types.specs.declared.entity.Kind.{Kind}
use Rattle.kg_row_making.specs.Bases.{BaseValue, New, Again, Word, Old}
use Rattle.kg_schema.specs.Between.{accepts_word, violations_between}
use Rattle.kg_schema.specs.Finished.{row_over}
use Rattle.kg_row_making.specs.declared.base.Links.{Links}
use Rattle.kg_row_making.specs.declared.base.ParentField.{ParentField}

abbrev pub IsValidBase : Kind → BaseValue → Type 0
IsValidBase kind (New id now) = ⊤
IsValidBase kind (Again id created_at now) = ⊤
IsValidBase kind (Word id word now) = IsTrue (accepts_word kind word)
IsValidBase kind (Old old now) = IsValidRow old

-- the base's id is one; an old row's is, where the row is valid
abbrev pub HasId : BaseValue → Type 0
HasId (New id now) = IsId id
HasId (Again id created_at now) = IsId id
HasId (Word id word now) = IsId id
HasId (Old old now) = ⊤

-- the ids of the rows that a row names
pub record AreIds (links : Links) : Type 0 where
  pub service : IfSome links.service IsId
  pub route : IfSome links.route IsId
  pub consumer : IfSome links.consumer IsId

-- a body that breaks no rule between fields over such a base makes a valid row
abbrev pub MakesValidRows : Type 0
MakesValidRows = (kind : Kind) (body : Data) (base : BaseValue) (links : Links) (contradicted : Option ParentField)
    → HasId base → AreIds links → IsValidBase kind base → violations_between kind body base links contradicted ≡ [] → IsValidRow (row_over kind body base links)
