-- A finished service is valid.
use Rattle.std.proofs.Common.{◌≡◌, inl, inr, ℕ, ◌≤◌, ◌==◌, List, [], length, Option, Some, None, codes, refl, arith}
use Rattle.std.proofs.Math.Dec.{lit≤}
use Rattle.std.specs.Prelude.{IfSome, IsTrue}
use Rattle.serde_json.specs.Data.{Data}
use Rattle.kg_row_types.specs.Ids.{IsId}
use Rattle.kg_row_types.specs.ValidRows.{IsValidService}
use Rattle.kg_text.specs.Hosts.{is_host}
use Rattle.kg_row_types.specs.TextForms.{is_name, is_normal_path}
use Rattle.kg_row_types.specs.declared.entity.Entity.TheVariants as row
use Rattle.kg_row_types.specs.declared.entity.Kind.TheVariants as kind
use Rattle.kg_row_types.specs.declared.service.Service.{Service}
use Rattle.kg_schema.proofs.ReadNumbers.{whole_ok}
use Rattle.kg_schema.proofs.ReadTexts.{takes_accepted, takes_host, takes_name, takes_path, text_ok}
use Rattle.kg_schema.proofs.ReadUrls.{IsAddress, url_ok}
use Rattle.kg_schema.proofs.ValidIds.{stamps_ok}
use Rattle.kg_schema.proofs.ValidParts.{OrEmpty, filled, neither, not_broken, or_ok, unwrapped_ok}
use Rattle.kg_row_making.specs.Bases.{BaseValue, New, Again, Word, Old, stamps_of}
use Rattle.kg_schema.specs.Between.{doubles_url, violation_if, service_violations}
use Rattle.kg_row_making.specs.RowsBefore.{service_before}
use Rattle.kg_schema.specs.Finished.{address_over, service_over}
use Rattle.kg_field_tables.specs.Defaults.{default_whole}
use Rattle.kg_field_tables.specs.declared.table.Table.TheVariants as table
use Rattle.kg_bodies.specs.TableSettings.{text_in, whole_in}
use Rattle.kg_bodies.specs.Settings.{text_at, url_at, whole_at}
use Rattle.kg_schema.specs.ValidBases.{HasId, IsValidBase}
use Rattle.kg_row_making.specs.declared.base.Stamps.{Stamps}
use Rattle.kg_field_rules.specs.declared.rule.Rule.TheVariants.{Exclusive, Required}
use Rattle.kg_field_rules.specs.declared.url.Url.{Url}
use Rattle.kg_field_rules.specs.declared.text_kind.TextKind.TheVariants as text_kind

abbrev IsName : List ℕ → Type 0
IsName text = IsTrue (is_name text)

abbrev IsHost : List ℕ → Type 0
IsHost text = IsTrue (is_host text)

abbrev IsPath : List ℕ → Type 0
IsPath text = IsTrue (is_normal_path text)

abbrev IsPort : ℕ → Type 0
IsPort port = (1 ≤ port) × (port ≤ 65535)

abbrev AreRetries : ℕ → Type 0
AreRetries retries = (0 ≤ retries) × (retries ≤ 32767)

-- what stands in a service before a body sets anything, or before all of it is set: the host may be missing
record AreFields (service : Service) : Type 0 where
  id : IsId service.id
  name : IfSome service.name IsName
  host : OrEmpty IsHost service.host
  port : IsPort service.port
  path : IfSome service.path IsPath
  retries : AreRetries service.retries

-- the defaults of the table lie within its bounds
port_ok : IsPort (default_whole table.Service (codes "port"))
port_ok = (lit≤ tt, lit≤ tt)

retries_ok : AreRetries (default_whole table.Service (codes "retries"))
retries_ok = (lit≤ tt, lit≤ tt)

before_ok : (base : BaseValue) (stamps : Stamps) → IsId stamps.id → IsValidBase kind.Service base → AreFields (service_before base stamps)
before_ok (New id now) stamps is ok = record { id = is; name = tt; host = inr refl; port = port_ok; path = tt; retries = retries_ok }
before_ok (Again id created_at now) stamps is ok = record { id = is; name = tt; host = inr refl; port = port_ok; path = tt; retries = retries_ok }
before_ok (Word id text now) stamps is ok = record { id = is; name = takes_accepted text_kind.Name is_name takes_name text ok; host = inr refl; port = port_ok; path = tt; retries = retries_ok }
before_ok (Old (row.Service old) now) stamps is ok =
    let high = ok.retries in
    record { id = ok.id; name = ok.name; host = inl ok.host; port = ok.port; path = ok.path; retries = (omega arith, high) }
before_ok (Old old now) stamps is ok = record { id = is; name = tt; host = inr refl; port = port_ok; path = tt; retries = retries_ok }

host_ok : (o : Option (List ℕ)) → IfSome o IsHost → IfSome o (OrEmpty IsHost)
host_ok None ok = tt
host_ok (Some host) ok = inl ok

address_ok : (url : Option Url) (body : Data) (before : Service) → IfSome url IsAddress → AreFields before → AreFields (address_over url body before)
unfolding text_in whole_in
address_ok (Some url) body before ok old = record { id = old.id; name = old.name; host = inl ok.host; port = ok.port; path = ok.path; retries = old.retries }
address_ok None body before ok old = record {
  id = old.id;
  name = old.name;
  host = unwrapped_ok (OrEmpty IsHost) (text_at text_kind.Host (codes "host") body) before.host (host_ok (text_at text_kind.Host (codes "host") body) (text_ok text_kind.Host is_host takes_host (codes "host") body)) old.host;
  port = unwrapped_ok IsPort (whole_at 1 65535 (codes "port") body) before.port (whole_ok 1 65535 (codes "port") body) old.port;
  path = or_ok IsPath (text_at text_kind.Path (codes "path") body) before.path (text_ok text_kind.Path is_normal_path takes_path (codes "path") body) old.path;
  retries = old.retries;
}

over_ok : (body : Data) (before : Service) → AreFields before → service_violations body (service_over body before) ≡ [] → IsValidService (service_over body before)
unfolding text_in whole_in
over_ok body before old none =
    let service = address_over (url_at body) body before in
    let fields : AreFields service = address_ok (url_at body) body before (url_ok body) old in
    let told = neither (violation_if (doubles_url body) (codes "url") Exclusive) (violation_if (length service.host == 0) (codes "host") Required) none in
    let retries = unwrapped_ok AreRetries (whole_at 0 32767 (codes "retries") body) service.retries (whole_ok 0 32767 (codes "retries") body) fields.retries in
    record {
      id = fields.id;
      name = or_ok IsName (text_at text_kind.Name (codes "name") body) service.name (text_ok text_kind.Name is_name takes_name (codes "name") body) fields.name;
      host = filled IsHost service.host fields.host (not_broken (length service.host == 0) (codes "host") Required told.1);
      port = fields.port;
      path = fields.path;
      retries = retries.1;
    }

pub service_ok : (body : Data) (base : BaseValue) → HasId base → IsValidBase kind.Service base
    → service_violations body (service_over body (service_before base (stamps_of base body))) ≡ []
    → IsValidService (service_over body (service_before base (stamps_of base body)))
service_ok body base is ok none =
    over_ok body (service_before base (stamps_of base body)) (before_ok base (stamps_of base body) (stamps_ok kind.Service body base is ok) ok) none
