-- A shown service makes the service again.
use Rattle.std.proofs.Common.{◌≡◌, ℕ, ◌≤◌, ◌/◌, List, [], Option, refl, arith}
use Rattle.std.specs.Prelude.{IfSome}
use Rattle.kg_row_types.specs.ValidRows.{IsValidService}
use Rattle.kg_row_types.specs.TextForms.{is_name, is_normal_path}
use Rattle.kg_row_types.specs.declared.entity.Entity.{Entity}
use Rattle.kg_row_types.specs.declared.entity.Entity.TheVariants as row
use Rattle.kg_row_types.specs.declared.entity.Kind.TheVariants as kind
use Rattle.kg_row_types.specs.declared.service.Service.{Service}
use Rattle.kg_field_rules.specs.declared.text_kind.TextKind.TheVariants as text_kind
use Rattle.kg_field_tables.specs.BrokenRules.{violations_in}
use Rattle.kg_field_tables.specs.declared.table.Table.TheVariants as table
use Rattle.kg_bodies.specs.TableSettings.{text_in, whole_in}
use Rattle.kg_row_making.specs.Bases.{Again}
use Rattle.kg_schema.proofs.ReadBackParts.{each_fits, Fits, fits_host, fits_name, fits_path, none_broken, option_inside, option_over, option_rule, printed_id, text_over, whole_over, whole_rule_ok}
use Rattle.kg_schema.specs.Finished.{row_over}
use Rattle.kg_schema.specs.ReadBack.{IsReadBack, changed_at, named_by}
use Rattle.kg_shown_rows.specs.Shown.{service_members, shown}
use Rattle.kg_shown_rows.specs.ShownParts.{members_of}

module _ (service : Service) (valid : IsValidService service) where
  name : IfSome service.name (Fits text_kind.Name)
  name = each_fits text_kind.Name is_name fits_name service.name valid.name

  path : IfSome service.path (Fits text_kind.Path)
  path = each_fits text_kind.Path is_normal_path fits_path service.path valid.path

  low : 0 ≤ service.retries
  low = omega arith

  accepted : violations_in (members_of (service_members service)) table.Service [] ≡ []
  accepted = none_broken table.Service [] (service_members service) (
    record { rule = refl; inside = refl },
    (
      record { rule = refl; inside = refl },
      (
        record { rule = (fits_host service.host valid.host).rule; inside = refl },
        (
          record { rule = printed_id service.id valid.id; inside = refl },
          (
            record { rule = option_rule text_kind.Name service.name name; inside = option_inside service.name _ _ },
            (
              record { rule = option_rule text_kind.Path service.path path; inside = option_inside service.path _ _ },
              (
                record { rule = whole_rule_ok 1 65535 service.port valid.port.0 valid.port.1; inside = refl },
                (
                  record { rule = refl; inside = refl },
                  (
                    record { rule = whole_rule_ok 0 32767 service.retries low valid.retries; inside = refl },
                    (
                      record { rule = refl; inside = refl },
                      tt,
                    ),
                  ),
                ),
              ),
            ),
          ),
        ),
      ),
    ),
  )

  -- the service with what is read
  abbrev made : ℕ → Option (List ℕ) → List ℕ → ℕ → Option (List ℕ) → ℕ → Entity
  made now name host port path retries = row.Service (record {
    id = service.id;
    name = name;
    host = host;
    port = port;
    path = path;
    retries = retries;
    enabled = service.enabled;
    created_at = service.created_at;
    updated_at = now / 1000;
  })

  same : (now : ℕ) (name name_read : Option (List ℕ)) (host host_read : List ℕ) (port port_read : ℕ) (path path_read : Option (List ℕ)) (retries retries_read : ℕ)
      → name_read ≡ name → host_read ≡ host → port_read ≡ port → path_read ≡ path → retries_read ≡ retries
      → made now name_read host_read port_read path_read retries_read ≡ made now name host port path retries
  same now name name_read host host_read port port_read path path_read retries retries_read a b c d e = rw (a, b, c, d, e) refl

  again : (now : ℕ) → row_over kind.Service (shown (row.Service service)) (Again service.id service.created_at now) (named_by (row.Service service)) ≡ changed_at (now / 1000) (row.Service service)
  unfolding row_over text_in whole_in
  again now =
      same now service.name _ service.host _ service.port _ service.path _ service.retries _
      (option_over text_kind.Name service.name name) (text_over text_kind.Host service.host [] (fits_host service.host valid.host)) (whole_over 1 65535 service.port _ valid.port.0 valid.port.1)
      (option_over text_kind.Path service.path path) (whole_over 0 32767 service.retries _ low valid.retries)

pub service_read_back : (service : Service) → IsValidService service → IsReadBack (row.Service service)
service_read_back service valid = record { accepted = accepted service valid; again = again service valid }
