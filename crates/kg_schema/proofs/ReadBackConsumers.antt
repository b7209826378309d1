-- A shown consumer makes the consumer again.
use Rattle.std.proofs.Common.{◌≡◌, ℕ, ◌/◌, List, [], Option, refl}
use Rattle.std.specs.Prelude.{IfSome}
use Rattle.kg_row_types.specs.ValidRows.{IsValidConsumer}
use Rattle.kg_row_types.specs.TextForms.{is_free_text, is_username}
use Rattle.kg_row_types.specs.declared.consumer.Consumer.{Consumer}
use Rattle.kg_row_types.specs.declared.entity.Entity.{Entity}
use Rattle.kg_row_types.specs.declared.entity.Entity.TheVariants as row
use Rattle.kg_row_types.specs.declared.entity.Kind.TheVariants as kind
use Rattle.kg_field_rules.specs.declared.text_kind.TextKind.TheVariants as text_kind
use Rattle.kg_field_tables.specs.BrokenRules.{violations_in}
use Rattle.kg_field_tables.specs.declared.table.Table.TheVariants as table
use Rattle.kg_bodies.specs.TableSettings.{text_in}
use Rattle.kg_row_making.specs.Bases.{Again}
use Rattle.kg_schema.proofs.ReadBackParts.{each_fits, Fits, fits_free, fits_username, none_broken, option_inside, option_over, option_rule, printed_id}
use Rattle.kg_schema.specs.Finished.{row_over}
use Rattle.kg_schema.specs.ReadBack.{IsReadBack, changed_at, named_by}
use Rattle.kg_shown_rows.specs.Shown.{consumer_members, shown}
use Rattle.kg_shown_rows.specs.ShownParts.{members_of}

module _ (consumer : Consumer) (valid : IsValidConsumer consumer) where
  username : IfSome consumer.username (Fits text_kind.Username)
  username = each_fits text_kind.Username is_username fits_username consumer.username valid.username

  custom_id : IfSome consumer.custom_id (Fits text_kind.FreeText)
  custom_id = each_fits text_kind.FreeText is_free_text fits_free consumer.custom_id valid.custom_id

  accepted : violations_in (members_of (consumer_members consumer)) table.Consumer [] ≡ []
  accepted = none_broken table.Consumer [] (consumer_members consumer) (
    record { rule = refl; inside = refl },
    (
      record { rule = option_rule text_kind.FreeText consumer.custom_id custom_id; inside = option_inside consumer.custom_id _ _ },
      (
        record { rule = printed_id consumer.id valid.id; inside = refl },
        (
          record { rule = refl; inside = refl },
          (
            record { rule = option_rule text_kind.Username consumer.username username; inside = option_inside consumer.username _ _ },
            tt,
          ),
        ),
      ),
    ),
  )

  -- the consumer with what is read
  abbrev made : ℕ → Option (List ℕ) → Option (List ℕ) → Entity
  made now username custom_id = row.Consumer (record { id = consumer.id; username = username; custom_id = custom_id; created_at = consumer.created_at; updated_at = now / 1000 })

  same : (now : ℕ) (username username_read custom_id custom_id_read : Option (List ℕ)) → username_read ≡ username → custom_id_read ≡ custom_id → made now username_read custom_id_read ≡ made now username custom_id
  same now username username_read custom_id custom_id_read a b = rw (a, b) refl

  again : (now : ℕ) → row_over kind.Consumer (shown (row.Consumer consumer)) (Again consumer.id consumer.created_at now) (named_by (row.Consumer consumer)) ≡ changed_at (now / 1000) (row.Consumer consumer)
  unfolding row_over text_in
  again now = same now consumer.username _ consumer.custom_id _ (option_over text_kind.Username consumer.username username) (option_over text_kind.FreeText consumer.custom_id custom_id)

pub consumer_read_back : (consumer : Consumer) → IsValidConsumer consumer → IsReadBack (row.Consumer consumer)
consumer_read_back consumer valid = record { accepted = accepted consumer valid; again = again consumer valid }
