-- The id of a finished row is one.
use Rattle.std.proofs.Common.{ℕ, List, Option, Some, None, option_and_then, codes}
use Rattle.std.specs.Prelude.{IfSome}
use Rattle.serde_json.specs.Data.{Data}
use Rattle.serde_json.specs.Find.{as_str, get}
use Rattle.kg_row_types.specs.Entities.{id_of_row}
use Rattle.kg_row_types.specs.Ids.{IsId, id_of}
use Rattle.kg_row_types.specs.ValidRows.{IsValidRow}
use Rattle.kg_row_types.specs.declared.entity.Entity.{Entity}
use Rattle.kg_row_types.specs.declared.entity.Entity.TheVariants as row
use Rattle.kg_row_types.specs.declared.entity.Kind.{Kind}
use Rattle.kg_schema.proofs.StoredIds.{id_fits}
use Rattle.kg_schema.proofs.ValidParts.{unwrapped_ok}
use Rattle.kg_row_making.specs.Bases.{BaseValue, New, Again, Word, Old, stamps_of}
use Rattle.kg_bodies.specs.Settings.{id_at}
use Rattle.kg_schema.specs.ValidBases.{HasId, IsValidBase}

id_at_ok : (body : Data) → IfSome (id_at body) IsId
id_at_ok body = at_text (option_and_then as_str (get (codes "id") body))
  where
    at_text : (o : Option (List ℕ)) → IfSome (option_and_then id_of o) IsId
    at_text None = tt
    at_text (Some text) = id_fits text

old_id_ok : (old : Entity) → IsValidRow old → IsId (id_of_row old)
old_id_ok (row.Service old) ok = ok.id
old_id_ok (row.Route old) ok = ok.id
old_id_ok (row.Consumer old) ok = ok.id
old_id_ok (row.KeyCred old) ok = ok.id
old_id_ok (row.BasicCred old) ok = ok.id
old_id_ok (row.Acl old) ok = ok.id
old_id_ok (row.Plugin old) ok = ok.id

pub stamps_ok : (wanted : Kind) (body : Data) (base : BaseValue) → HasId base → IsValidBase wanted base → IsId (stamps_of base body).id
stamps_ok wanted body (New id now) is ok = unwrapped_ok IsId (id_at body) id (id_at_ok body) is
stamps_ok wanted body (Again id created_at now) is ok = is
stamps_ok wanted body (Word id word now) is ok = unwrapped_ok IsId (id_at body) id (id_at_ok body) is
stamps_ok wanted body (Old old now) is ok = old_id_ok old ok
