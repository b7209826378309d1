-- Shown credentials and memberships make them again, but for a password.
use Rattle.std.proofs.Common.{◌≡◌, ℕ, ◌<◌, ◌/◌, ◌==◌, nat_lt, nat_le, true, false, not, ◌&&◌, ◌||◌, List, [], ◌∷◌, length, refl, ap, ap₂, ◌∙◌, arith}
use Rattle.std.proofs.lemmas.Bool.{and_from, and_parts, or_from}
use Rattle.std.proofs.lemmas.Bool.Decides.{nat_tests}
use Rattle.std.proofs.lemmas.List.Elements.{All-from_recursion}
use Rattle.std.proofs.lemmas.Str.{chars-IsAscii}
use Rattle.std.proofs.lemmas.Str.Ascii.{IsAscii-from_all}
use Rattle.std.specs.Char.{is_ascii_digit, is_control}
use Rattle.std.specs.Int.{is_in_range}
use Rattle.std.specs.List.{AllByRecursion, list_all, list_any}
use Rattle.std.specs.Option.{option_map_or}
use Rattle.kg_row_types.specs.StoredPassword.{stored_password}
use Rattle.kg_row_types.specs.TextForms.{has_length, has_no_controls, is_free_text, is_hash}
use Rattle.kg_row_types.specs.ValidRows.{IsValidAcl, IsValidBasicCred, IsValidKeyCred}
use Rattle.kg_row_types.specs.declared.consumer.AclRow.{AclRow}
use Rattle.kg_row_types.specs.declared.consumer.BasicCred.{BasicCred}
use Rattle.kg_row_types.specs.declared.consumer.KeyCred.{KeyCred}
use Rattle.kg_row_types.specs.declared.entity.Entity.TheVariants as row
use Rattle.kg_row_types.specs.declared.entity.Kind.TheVariants as kind
use Rattle.kg_field_rules.specs.declared.text_kind.TextKind.TheVariants as text_kind
use Rattle.kg_field_tables.specs.BrokenRules.{violations_in}
use Rattle.kg_field_tables.specs.declared.reference.Mention.TheVariants as mention
use Rattle.kg_field_tables.specs.declared.table.Table.TheVariants as table
use Rattle.kg_bodies.specs.TableSettings.{text_in}
use Rattle.kg_row_making.specs.Bases.{Again}
use Rattle.kg_schema.proofs.ReadBackParts.{Fits, fits_free, none_broken, printed_id, reference_rule, text_again, text_over}
use Rattle.kg_schema.specs.Finished.{row_over}
use Rattle.kg_schema.specs.ReadBack.{IsReadBack, IsReadBackButPassword, changed_at, named_by}
use Rattle.kg_shown_rows.specs.Shown.{acl_members, basic_members, key_members, shown}
use Rattle.kg_shown_rows.specs.ShownParts.{members_of}

pub key_read_back : (credential : KeyCred) → IsValidKeyCred credential → IsReadBack (row.KeyCred credential)
unfolding row_over text_in
key_read_back credential valid = record { accepted = accepted; again = again }
  where
    accepted : violations_in (members_of (key_members credential)) table.KeyCred [] ≡ []
    accepted = none_broken table.KeyCred [] (key_members credential) (
      record { rule = reference_rule mention.Username credential.consumer valid.consumer; inside = refl },
      (
        record { rule = refl; inside = refl },
        (
          record { rule = printed_id credential.id valid.id; inside = refl },
          (
            record { rule = (fits_free credential.key valid.key).rule; inside = refl },
            tt,
          ),
        ),
      ),
    )

    again : (now : ℕ) → row_over kind.KeyCred (shown (row.KeyCred credential)) (Again credential.id credential.created_at now) (named_by (row.KeyCred credential)) ≡ changed_at (now / 1000) (row.KeyCred credential)
    again now = ap (λ key. row.KeyCred (record { id = credential.id; consumer = credential.consumer; key = key; created_at = credential.created_at })) (text_over text_kind.FreeText credential.key [] (fits_free credential.key valid.key))

pub acl_read_back : (membership : AclRow) → IsValidAcl membership → IsReadBack (row.Acl membership)
unfolding row_over text_in
acl_read_back membership valid = record { accepted = accepted; again = again }
  where
    accepted : violations_in (members_of (acl_members membership)) table.Acl [] ≡ []
    accepted = none_broken table.Acl [] (acl_members membership) (
      record { rule = reference_rule mention.Username membership.consumer valid.consumer; inside = refl },
      (
        record { rule = refl; inside = refl },
        (
          record { rule = (fits_free membership.group valid.group).rule; inside = refl },
          (
            record { rule = printed_id membership.id valid.id; inside = refl },
            tt,
          ),
        ),
      ),
    )

    again : (now : ℕ) → row_over kind.Acl (shown (row.Acl membership)) (Again membership.id membership.created_at now) (named_by (row.Acl membership)) ≡ changed_at (now / 1000) (row.Acl membership)
    again now = ap (λ group. row.Acl (record { id = membership.id; consumer = membership.consumer; group = group; created_at = membership.created_at })) (text_over text_kind.FreeText membership.group [] (fits_free membership.group valid.group))

-- ---- passwords

digit_is_plain : (b : ℕ) → (is_ascii_digit b || is_in_range 0x61 0x66 b) ≡ true → (b < 128) × (is_control b ≡ false)
digit_is_plain b is = (grind (arith, nat_tests), grind (arith, nat_tests))

digits_are_plain : (text : List ℕ) → list_all (λ b. is_ascii_digit b || is_in_range 0x61 0x66 b) text ≡ true → AllByRecursion (λ b. b < 128) text × (list_any is_control text ≡ false)
digits_are_plain [] all = (tt, refl)
digits_are_plain (b ∷ text) all =
    let parts = and_parts (is_ascii_digit b || is_in_range 0x61 0x66 b) (list_all (λ c. is_ascii_digit c || is_in_range 0x61 0x66 c) text) all in
    let first = digit_is_plain b parts.0 in
    let others = digits_are_plain text parts.1 in
    ((first.0, others.0), or_from (is_control b) (list_any is_control text) first.1 others.1)

has_some : (n : ℕ) → (n == 64) ≡ true → (nat_lt 0 n && nat_le n 255) ≡ true
has_some n is = grind (arith, nat_tests)

-- what is stored of a password is a free text
hash_is_free : (text : List ℕ) → is_hash text ≡ true → is_free_text text ≡ true
hash_is_free text is =
    let parts = and_parts (length text == 64) (list_all (λ b. is_ascii_digit b || is_in_range 0x61 0x66 b) text) is in
    let plain = digits_are_plain text parts.1 in
    and_from (has_length 255 text) (has_no_controls text) (has_some (length text) parts.0)
    (ap (λ cs. not (list_any is_control cs)) (chars-IsAscii text (IsAscii-from_all text (All-from_recursion (λ b. b < 128) text plain.0))) ∙ ap not plain.1)

pub basic_read_back : (credential : BasicCred) → IsValidBasicCred credential → IsReadBackButPassword credential
unfolding row_over text_in
basic_read_back credential valid = record { accepted = accepted; again = again }
  where
    hash : Fits text_kind.FreeText credential.hash
    hash = fits_free credential.hash (hash_is_free credential.hash valid.hash)

    username : Fits text_kind.FreeText credential.username
    username = fits_free credential.username valid.username

    accepted : violations_in (members_of (basic_members credential)) table.BasicCred [] ≡ []
    accepted = none_broken table.BasicCred [] (basic_members credential) (
      record { rule = reference_rule mention.Username credential.consumer valid.consumer; inside = refl },
      (
        record { rule = refl; inside = refl },
        (
          record { rule = printed_id credential.id valid.id; inside = refl },
          (
            record { rule = hash.rule; inside = refl },
            (
              record { rule = username.rule; inside = refl },
              tt,
            ),
          ),
        ),
      ),
    )

    again : (now : ℕ) → row_over kind.BasicCred (shown (row.BasicCred credential)) (Again credential.id credential.created_at now) (named_by (row.BasicCred credential)) ≡ row.BasicCred (record credential { hash = stored_password credential.consumer credential.hash })
    again now =
        ap₂ (λ name hashed. row.BasicCred (record { id = credential.id; consumer = credential.consumer; username = name; hash = hashed; created_at = credential.created_at }))
        (text_over text_kind.FreeText credential.username [] username)
        (ap (λ password. option_map_or (stored_password credential.consumer) password []) (text_again text_kind.FreeText credential.hash hash))
