-- Shown configs make them again.
use Rattle.std.proofs.Common.{◌≡◌, ℕ, ◌≤◌, ◌==◌, nat_lt, if◌then◌else◌, Bool, true, false, true≢false, ◌&&◌, List, [], ◌∷◌, ◌++◌, length, Option, Some, None, unwrap_or, codes, refl, sym, ap, ap₂, ◌∙◌, arith}
use Rattle.std.proofs.lemmas.Bool.{and_parts}
use Rattle.std.proofs.lemmas.Bool.Decides.{nat_tests}
use Rattle.std.specs.Option.{option_map_or}
use Rattle.std.specs.Prelude.{IfSome}
use Rattle.std.specs.Str.{bytes_eq}
use Rattle.serde_json.specs.Data.{Data, null, string}
use Rattle.kg_text.specs.SameBytes.{same_bytes}
use Rattle.kg_row_types.specs.ConfigTexts.{is_edit, is_header_edit, is_header_rename, is_ipv4_block, is_key_name}
use Rattle.kg_row_types.specs.Ids.{id_of, printed}
use Rattle.kg_row_types.specs.PluginNames.{plugin_of}
use Rattle.kg_row_types.specs.TextForms.{is_free_text, is_list_of, is_method, is_printed_if_id, is_text_within}
use Rattle.kg_row_types.specs.ValidRows.{IsAnonymous, IsValidAclConfig, IsValidBasicAuth, IsValidConfig, IsValidCors, IsValidIpRestriction, IsValidKeyAuth, IsValidRateLimiting, IsValidRequestTransformer, IsValidResponseTransformer, IsValidSizeLimit, IsValidTermination, are_edits}
use Rattle.kg_row_types.specs.declared.config.Acl.{Acl}
use Rattle.kg_row_types.specs.declared.config.BasicAuth.{BasicAuth}
use Rattle.kg_row_types.specs.declared.config.Config.{Config}
use Rattle.kg_row_types.specs.declared.config.Config.TheVariants as config_of
use Rattle.kg_row_types.specs.declared.config.Cors.{Cors}
use Rattle.kg_row_types.specs.declared.config.Edits.{Edits}
use Rattle.kg_row_types.specs.declared.config.IpRestriction.{IpRestriction}
use Rattle.kg_row_types.specs.declared.config.KeyAuth.{KeyAuth}
use Rattle.kg_row_types.specs.declared.config.LimitBy.{LimitBy}
use Rattle.kg_row_types.specs.declared.config.LimitBy.TheVariants as limit
use Rattle.kg_row_types.specs.declared.config.RateLimiting.{RateLimiting}
use Rattle.kg_row_types.specs.declared.config.RequestTransformer.{RequestTransformer}
use Rattle.kg_row_types.specs.declared.config.ResponseTransformer.{ResponseTransformer}
use Rattle.kg_row_types.specs.declared.config.SizeLimit.{SizeLimit}
use Rattle.kg_row_types.specs.declared.config.SizeUnit.{SizeUnit}
use Rattle.kg_row_types.specs.declared.config.SizeUnit.TheVariants as unit
use Rattle.kg_row_types.specs.declared.config.Termination.{Termination}
use Rattle.kg_row_types.specs.declared.plugin.PluginName.TheVariants as plugin
use Rattle.kg_bodies.specs.TableSettings.{text_in, texts_in, whole_in}
use Rattle.kg_field_rules.specs.Choices.{limit_by_named, size_unit_named}
use Rattle.kg_field_rules.specs.declared.text_kind.Choice.TheVariants as choice
use Rattle.kg_field_rules.specs.declared.text_kind.TextKind.TheVariants as text_kind
use Rattle.kg_field_tables.specs.BrokenRules.{object_rule, violations_in, violations_inside}
use Rattle.kg_field_tables.specs.FieldTables.{header_text_kind}
use Rattle.kg_field_tables.specs.Judging.{judged}
use Rattle.kg_field_tables.specs.declared.shape.Shape.TheVariants as shape
use Rattle.kg_field_tables.specs.declared.table.EditList.{EditList}
use Rattle.kg_field_tables.specs.declared.table.EditList.TheVariants as edits
use Rattle.kg_field_tables.specs.declared.table.Field.TheVariants.{Inside}
use Rattle.kg_field_tables.specs.declared.table.Table.TheVariants as table
use Rattle.kg_row_making.specs.FinishedConfigs.{config_over, default_config, edits_over, header_edits_over, no_edits}
use Rattle.kg_schema.proofs.ReadBackLists.{FitAll, fit_all, option_whole_inside, option_whole_over, option_whole_rule, set_texts_over, texts_again, texts_inside, texts_over, texts_rule}
use Rattle.kg_schema.proofs.ReadBackParts.{each_fits, Fits, fits_free, none_broken, option_inside, option_over, option_rule, whole_over, whole_rule_ok, within_ok}
use Rattle.kg_schema.proofs.ReadTexts.{breaks_none}
use Rattle.kg_shown_rows.specs.ShownConfigs.{config_members, limit_text, shown_config, shown_edits, shown_header_edits, unit_text}
use Rattle.kg_shown_rows.specs.ShownParts.{members_of, object_of, shown_texts}

-- ---- texts of configs

fits_method : (text : List ℕ) → is_method text ≡ true → Fits text_kind.Method text
fits_method text ok = record { rule = within_ok text_kind.Method 255 refl text ok; same = refl }

fits_long : (text : List ℕ) → is_text_within 65536 text ≡ true → Fits text_kind.LongText text
fits_long text ok = record { rule = within_ok text_kind.LongText 65536 refl text ok; same = refl }

fits_key_name : (text : List ℕ) → is_key_name text ≡ true → Fits text_kind.Token text
fits_key_name text ok = record { rule = within_ok text_kind.Token 255 refl text ok; same = refl }

fits_edit : (text : List ℕ) → is_edit text ≡ true → Fits text_kind.Edit text
fits_edit text ok = record { rule = within_ok text_kind.Edit 255 refl text ok; same = refl }

fits_header_edit : (text : List ℕ) → is_header_edit text ≡ true → Fits text_kind.HeaderEdit text
fits_header_edit text ok = record { rule = within_ok text_kind.HeaderEdit 255 refl text ok; same = refl }

fits_header_rename : (text : List ℕ) → is_header_rename text ≡ true → Fits text_kind.HeaderRename text
fits_header_rename text ok = record { rule = within_ok text_kind.HeaderRename 255 refl text ok; same = refl }

fits_block : (text : List ℕ) → is_ipv4_block text ≡ true → Fits text_kind.AddressBlock text
fits_block text ok = record { rule = breaks_none text_kind.AddressBlock text (some text ok) refl ok; same = refl }
  where
    some : (bytes : List ℕ) → is_ipv4_block bytes ≡ true → (length bytes == 0) ≡ false
    some [] is = cc
    some (b ∷ rest) is = grind (arith, nat_tests)

-- who stands for requests without a consumer is stored as a printed id, where it is one
fits_anonymous : (text : List ℕ) → (is_free_text text && is_printed_if_id text) ≡ true → Fits text_kind.Anonymous text
fits_anonymous text ok =
    let parts = and_parts (is_free_text text) (is_printed_if_id text) ok in
    record { rule = within_ok text_kind.Anonymous 255 refl text parts.0; same = at_id (id_of text) parts.1 }
  where
    at_id : (o : Option ℕ) → option_map_or (λ id. bytes_eq text (printed id)) o true ≡ true → option_map_or printed o text ≡ text
    at_id None is = refl
    at_id (Some id) is = sym (same_bytes text (printed id) is)

anonymous_fits : (anonymous : Option (List ℕ)) → IsAnonymous anonymous → IfSome anonymous (Fits text_kind.Anonymous)
anonymous_fits anonymous valid = each_fits text_kind.Anonymous (λ text. is_free_text text && is_printed_if_id text) fits_anonymous anonymous valid

free_fit : (texts : List (List ℕ)) → is_list_of is_free_text texts ≡ true → FitAll text_kind.FreeText texts
free_fit texts ok = fit_all text_kind.FreeText is_free_text fits_free texts ok

header_edits_fit : (texts : List (List ℕ)) → is_list_of is_header_edit texts ≡ true → FitAll text_kind.HeaderEdit texts
header_edits_fit texts ok = fit_all text_kind.HeaderEdit is_header_edit fits_header_edit texts ok

header_renames_fit : (texts : List (List ℕ)) → is_list_of is_header_rename texts ≡ true → FitAll text_kind.HeaderRename texts
header_renames_fit texts ok = fit_all text_kind.HeaderRename is_header_rename fits_header_rename texts ok

-- ---- a config that is read back

pub record IsConfigReadBack (config : Config) : Type 0 where
  pub accepted : (front : List ℕ) → violations_in (members_of (config_members config)) (table.Config (plugin_of config)) front ≡ []
  pub again : config_over (shown_config config) (default_config (plugin_of config)) ≡ config

-- ---- access from other origins

module _ (config : Cors) (valid : IsValidCors config) where
  cors_origins : FitAll text_kind.FreeText config.origins
  cors_origins = free_fit config.origins valid.origins

  cors_methods : FitAll text_kind.Method config.methods
  cors_methods = fit_all text_kind.Method is_method fits_method config.methods (and_parts (is_list_of is_method config.methods) (nat_lt 0 (length config.methods)) valid.methods).0

  cors_headers : FitAll text_kind.FreeText config.headers
  cors_headers = free_fit config.headers valid.headers

  cors_exposed : FitAll text_kind.FreeText config.exposed_headers
  cors_exposed = free_fit config.exposed_headers valid.exposed_headers

  cors_age : IfSome config.max_age (λ n. (0 ≤ n) × (n ≤ 1000000000))
  cors_age = from_zero config.max_age valid.max_age
    where
      from_zero : (o : Option ℕ) → IfSome o (λ n. n ≤ 1000000000) → IfSome o (λ n. (0 ≤ n) × (n ≤ 1000000000))
      from_zero None ok = tt
      from_zero (Some n) ok = (omega arith, ok)

  cors_accepted : (front : List ℕ) → violations_in (members_of (config_members (config_of.Cors config))) (table.Config plugin.Cors) front ≡ []
  cors_accepted front = none_broken (table.Config plugin.Cors) front (config_members (config_of.Cors config)) (
    record { rule = refl; inside = refl },
    (
      record { rule = texts_rule text_kind.FreeText config.exposed_headers cors_exposed; inside = texts_inside config.exposed_headers _ _ },
      (
        record { rule = texts_rule text_kind.FreeText config.headers cors_headers; inside = texts_inside config.headers _ _ },
        (
          record { rule = option_whole_rule 0 1000000000 config.max_age cors_age; inside = option_whole_inside config.max_age _ _ },
          (
            record { rule = texts_rule text_kind.Method config.methods cors_methods; inside = texts_inside config.methods _ _ },
            (
              record { rule = texts_rule text_kind.FreeText config.origins cors_origins; inside = texts_inside config.origins _ _ },
              (
                record { rule = refl; inside = refl },
                tt,
              ),
            ),
          ),
        ),
      ),
    ),
  )

  -- the config with what is read
  abbrev cors_made : List (List ℕ) → List (List ℕ) → List (List ℕ) → List (List ℕ) → Option ℕ → Config
  cors_made origins methods headers exposed age = config_of.Cors (record {
    origins = origins;
    methods = methods;
    headers = headers;
    exposed_headers = exposed;
    credentials = config.credentials;
    max_age = age;
    preflight_continue = config.preflight_continue;
  })

  cors_same : (origins origins_read methods methods_read headers headers_read exposed exposed_read : List (List ℕ)) (age age_read : Option ℕ)
      → origins_read ≡ origins → methods_read ≡ methods → headers_read ≡ headers → exposed_read ≡ exposed → age_read ≡ age
      → cors_made origins_read methods_read headers_read exposed_read age_read ≡ cors_made origins methods headers exposed age
  cors_same origins origins_read methods methods_read headers headers_read exposed exposed_read age age_read a b c d e = rw (a, b, c, d, e) refl

  cors_again : config_over (shown_config (config_of.Cors config)) (default_config plugin.Cors) ≡ config_of.Cors config
  unfolding texts_in whole_in
  cors_again =
      cors_same config.origins _ config.methods _ config.headers _ config.exposed_headers _ config.max_age _
      (texts_over text_kind.FreeText config.origins cors_origins)
      (set_texts_over text_kind.Method config.methods _ cors_methods (and_parts (is_list_of is_method config.methods) (nat_lt 0 (length config.methods)) valid.methods).1)
      (texts_over text_kind.FreeText config.headers cors_headers)
      (texts_over text_kind.FreeText config.exposed_headers cors_exposed)
      (option_whole_over 0 1000000000 config.max_age cors_age)

-- ---- credentials

module _ (config : KeyAuth) (valid : IsValidKeyAuth config) where
  key_names : FitAll text_kind.Token config.key_names
  key_names = fit_all text_kind.Token is_key_name fits_key_name config.key_names (and_parts (is_list_of is_key_name config.key_names) (nat_lt 0 (length config.key_names)) valid.key_names).0

  key_auth_accepted : (front : List ℕ) → violations_in (members_of (config_members (config_of.KeyAuth config))) (table.Config plugin.KeyAuth) front ≡ []
  key_auth_accepted front = none_broken (table.Config plugin.KeyAuth) front (config_members (config_of.KeyAuth config)) (
    record { rule = option_rule text_kind.Anonymous config.anonymous (anonymous_fits config.anonymous valid.anonymous); inside = option_inside config.anonymous _ _ },
    (
      record { rule = refl; inside = refl },
      (
        record { rule = refl; inside = refl },
        (
          record { rule = refl; inside = refl },
          (
            record { rule = texts_rule text_kind.Token config.key_names key_names; inside = texts_inside config.key_names _ _ },
            tt,
          ),
        ),
      ),
    ),
  )

  key_auth_same : (names names_read : List (List ℕ)) (anonymous anonymous_read : Option (List ℕ)) → names_read ≡ names → anonymous_read ≡ anonymous
      → config_of.KeyAuth (record config { key_names = names_read; anonymous = anonymous_read }) ≡ config_of.KeyAuth (record config { key_names = names; anonymous = anonymous })
  key_auth_same names names_read anonymous anonymous_read a b = rw (a, b) refl

  key_auth_again : config_over (shown_config (config_of.KeyAuth config)) (default_config plugin.KeyAuth) ≡ config_of.KeyAuth config
  unfolding text_in texts_in
  key_auth_again =
      key_auth_same config.key_names _ config.anonymous _
      (set_texts_over text_kind.Token config.key_names _ key_names (and_parts (is_list_of is_key_name config.key_names) (nat_lt 0 (length config.key_names)) valid.key_names).1)
      (option_over text_kind.Anonymous config.anonymous (anonymous_fits config.anonymous valid.anonymous))

module _ (config : BasicAuth) (valid : IsValidBasicAuth config) where
  basic_auth_accepted : (front : List ℕ) → violations_in (members_of (config_members (config_of.BasicAuth config))) (table.Config plugin.BasicAuth) front ≡ []
  basic_auth_accepted front = none_broken (table.Config plugin.BasicAuth) front (config_members (config_of.BasicAuth config)) (
    record { rule = option_rule text_kind.Anonymous config.anonymous (anonymous_fits config.anonymous valid.anonymous); inside = option_inside config.anonymous _ _ },
    (
      record { rule = refl; inside = refl },
      tt,
    ),
  )

  basic_auth_again : config_over (shown_config (config_of.BasicAuth config)) (default_config plugin.BasicAuth) ≡ config_of.BasicAuth config
  unfolding text_in
  basic_auth_again = ap (λ anonymous. config_of.BasicAuth (record config { anonymous = anonymous })) (option_over text_kind.Anonymous config.anonymous (anonymous_fits config.anonymous valid.anonymous))

-- ---- addresses and groups

module _ (config : IpRestriction) (valid : IsValidIpRestriction config) where
  blocks_allowed : FitAll text_kind.AddressBlock config.allow
  blocks_allowed = fit_all text_kind.AddressBlock is_ipv4_block fits_block config.allow valid.allow

  blocks_denied : FitAll text_kind.AddressBlock config.deny
  blocks_denied = fit_all text_kind.AddressBlock is_ipv4_block fits_block config.deny valid.deny

  ip_restriction_accepted : (front : List ℕ) → violations_in (members_of (config_members (config_of.IpRestriction config))) (table.Config plugin.IpRestriction) front ≡ []
  ip_restriction_accepted front = none_broken (table.Config plugin.IpRestriction) front (config_members (config_of.IpRestriction config)) (
    record { rule = texts_rule text_kind.AddressBlock config.allow blocks_allowed; inside = texts_inside config.allow _ _ },
    (
      record { rule = texts_rule text_kind.AddressBlock config.deny blocks_denied; inside = texts_inside config.deny _ _ },
      tt,
    ),
  )

  ip_restriction_again : config_over (shown_config (config_of.IpRestriction config)) (default_config plugin.IpRestriction) ≡ config_of.IpRestriction config
  unfolding texts_in
  ip_restriction_again = ap₂ (λ allow deny. config_of.IpRestriction (record { allow = allow; deny = deny })) (texts_over text_kind.AddressBlock config.allow blocks_allowed) (texts_over text_kind.AddressBlock config.deny blocks_denied)

module _ (config : Acl) (valid : IsValidAclConfig config) where
  groups_accepted : (front : List ℕ) → violations_in (members_of (config_members (config_of.Acl config))) (table.Config plugin.Acl) front ≡ []
  groups_accepted front = none_broken (table.Config plugin.Acl) front (config_members (config_of.Acl config)) (
    record { rule = texts_rule text_kind.FreeText config.allow (free_fit config.allow valid.allow); inside = texts_inside config.allow _ _ },
    (
      record { rule = texts_rule text_kind.FreeText config.deny (free_fit config.deny valid.deny); inside = texts_inside config.deny _ _ },
      (
        record { rule = refl; inside = refl },
        tt,
      ),
    ),
  )

  groups_again : config_over (shown_config (config_of.Acl config)) (default_config plugin.Acl) ≡ config_of.Acl config
  unfolding texts_in
  groups_again = ap₂ (λ allow deny. config_of.Acl (record config { allow = allow; deny = deny })) (texts_over text_kind.FreeText config.allow (free_fit config.allow valid.allow)) (texts_over text_kind.FreeText config.deny (free_fit config.deny valid.deny))

-- ---- sizes and counts

unit_rule : (counted : SizeUnit) → judged (shape.OneOf choice.SizeUnit) (string (unit_text counted)) ≡ None
unit_rule unit.Megabytes = refl
unit_rule unit.Kilobytes = refl
unit_rule unit.Bytes = refl

unit_over : (counted other : SizeUnit) → unwrap_or (size_unit_named (unit_text counted)) other ≡ counted
unit_over unit.Megabytes other = refl
unit_over unit.Kilobytes other = refl
unit_over unit.Bytes other = refl

module _ (config : SizeLimit) (valid : IsValidSizeLimit config) where
  size_limit_accepted : (front : List ℕ) → violations_in (members_of (config_members (config_of.RequestSizeLimiting config))) (table.Config plugin.RequestSizeLimiting) front ≡ []
  size_limit_accepted front = none_broken (table.Config plugin.RequestSizeLimiting) front (config_members (config_of.RequestSizeLimiting config)) (
    record { rule = whole_rule_ok 1 1000000000 config.allowed_payload_size valid.size.0 valid.size.1; inside = refl },
    (
      record { rule = unit_rule config.size_unit; inside = refl },
      tt,
    ),
  )

  size_limit_again : config_over (shown_config (config_of.RequestSizeLimiting config)) (default_config plugin.RequestSizeLimiting) ≡ config_of.RequestSizeLimiting config
  unfolding whole_in
  size_limit_again =
      ap₂ (λ size counted. config_of.RequestSizeLimiting (record { allowed_payload_size = size; size_unit = counted }))
      (whole_over 1 1000000000 config.allowed_payload_size _ valid.size.0 valid.size.1)
      (unit_over config.size_unit _)

by_rule : (by : LimitBy) → judged (shape.OneOf choice.LimitBy) (string (limit_text by)) ≡ None
by_rule limit.Consumer = refl
by_rule limit.Ip = refl
by_rule limit.Service = refl

by_over : (by other : LimitBy) → unwrap_or (limit_by_named (limit_text by)) other ≡ by
by_over limit.Consumer other = refl
by_over limit.Ip other = refl
by_over limit.Service other = refl

module _ (config : RateLimiting) (valid : IsValidRateLimiting config) where
  rate_limiting_accepted : (front : List ℕ) → violations_in (members_of (config_members (config_of.RateLimiting config))) (table.Config plugin.RateLimiting) front ≡ []
  rate_limiting_accepted front = none_broken (table.Config plugin.RateLimiting) front (config_members (config_of.RateLimiting config)) (
    record { rule = option_whole_rule 1 1000000000 config.day valid.day; inside = option_whole_inside config.day _ _ },
    (
      record { rule = refl; inside = refl },
      (
        record { rule = option_whole_rule 1 1000000000 config.hour valid.hour; inside = option_whole_inside config.hour _ _ },
        (
          record { rule = by_rule config.limit_by; inside = refl },
          (
            record { rule = option_whole_rule 1 1000000000 config.minute valid.minute; inside = option_whole_inside config.minute _ _ },
            (
              record { rule = option_whole_rule 1 1000000000 config.second valid.second; inside = option_whole_inside config.second _ _ },
              tt,
            ),
          ),
        ),
      ),
    ),
  )

  rate_limiting_same : (second second_read minute minute_read hour hour_read day day_read : Option ℕ) (by by_read : LimitBy)
      → second_read ≡ second → minute_read ≡ minute → hour_read ≡ hour → day_read ≡ day → by_read ≡ by
      → config_of.RateLimiting (record config { second = second_read; minute = minute_read; hour = hour_read; day = day_read; limit_by = by_read })
      ≡ config_of.RateLimiting (record config { second = second; minute = minute; hour = hour; day = day; limit_by = by })
  rate_limiting_same second second_read minute minute_read hour hour_read day day_read by by_read a b c d e = rw (a, b, c, d, e) refl

  rate_limiting_again : config_over (shown_config (config_of.RateLimiting config)) (default_config plugin.RateLimiting) ≡ config_of.RateLimiting config
  unfolding whole_in
  rate_limiting_again =
      rate_limiting_same config.second _ config.minute _ config.hour _ config.day _ config.limit_by _
      (option_whole_over 1 1000000000 config.second valid.second) (option_whole_over 1 1000000000 config.minute valid.minute)
      (option_whole_over 1 1000000000 config.hour valid.hour) (option_whole_over 1 1000000000 config.day valid.day)
      (by_over config.limit_by _)

-- ---- steps of a request's change

nil_of : (texts : List (List ℕ)) → (length texts == 0) ≡ true → texts ≡ []
nil_of [] empty = refl
nil_of (text ∷ texts) empty = absurd (true≢false (sym empty ∙ some))
  where
    some : (length (text ∷ texts) == 0) ≡ false
    some = grind (arith, nat_tests)

abbrev lists : List (List ℕ) → List (List ℕ) → Edits
lists headers querystring = record { headers = headers; querystring = querystring }

-- a step of which something is set
abbrev set_edits : Edits → Data
set_edits step = object_of ((codes "headers", shown_texts step.headers) ∷ (codes "querystring", shown_texts step.querystring) ∷ [])

-- nothing is set in a step
abbrev is_idle : Edits → Bool
is_idle step = length step.headers == 0 && length step.querystring == 0

record EditsFit (at : EditList) (step : Edits) : Type 0 where
  headers : FitAll (header_text_kind at) step.headers
  querystring : FitAll text_kind.Edit step.querystring

edits_rule : (step : Edits) → object_rule (shown_edits step) ≡ None
edits_rule step = at_idle (is_idle step)
  where
    at_idle : (b : Bool) → object_rule (if b then null else set_edits step) ≡ None
    at_idle true = refl
    at_idle false = refl

edits_inside : (at : EditList) (step : Edits) → EditsFit at step → (path : List ℕ) → violations_inside (shown_edits step) (Inside (table.RequestEdits at)) path ≡ []
edits_inside at step fit path = at_idle (is_idle step)
  where
    at_idle : (b : Bool) → violations_inside (if b then null else set_edits step) (Inside (table.RequestEdits at)) path ≡ []
    at_idle true = refl
    at_idle false = none_broken (table.RequestEdits at) (path ++ codes ".") ((codes "headers", shown_texts step.headers) ∷ (codes "querystring", shown_texts step.querystring) ∷ []) (
      record { rule = texts_rule (header_text_kind at) step.headers fit.headers; inside = texts_inside step.headers _ _ },
      (
        record { rule = texts_rule text_kind.Edit step.querystring fit.querystring; inside = texts_inside step.querystring _ _ },
        tt,
      ),
    )

edits_again : (at : EditList) (step : Edits) → EditsFit at step → edits_over (table.RequestEdits at) (shown_edits step) no_edits ≡ step
unfolding texts_in
edits_again at step fit = at_idle (is_idle step) refl
  where
    at_idle : (b : Bool) → is_idle step ≡ b → edits_over (table.RequestEdits at) (if b then null else set_edits step) no_edits ≡ step
    at_idle true idle =
        let parts = and_parts (length step.headers == 0) (length step.querystring == 0) idle in
        ap₂ lists (sym (nil_of step.headers parts.0)) (sym (nil_of step.querystring parts.1))
    at_idle false some =
        ap₂ (λ headers querystring. if length headers == 0 && length querystring == 0 then no_edits else lists headers querystring) (texts_again (header_text_kind at) step.headers fit.headers) (texts_again text_kind.Edit step.querystring fit.querystring)
        ∙ ap (λ b. if b then no_edits else step) some

module _ (config : RequestTransformer) (valid : IsValidRequestTransformer config) where
  edits_fit : (step : Edits) → are_edits is_header_edit step ≡ true → FitAll text_kind.HeaderEdit step.headers × FitAll text_kind.Edit step.querystring
  edits_fit step ok =
      let parts = and_parts (is_list_of is_header_edit step.headers) (is_list_of is_edit step.querystring) ok in
      (header_edits_fit step.headers parts.0, fit_all text_kind.Edit is_edit fits_edit step.querystring parts.1)

  remove_fit : EditsFit edits.Remove config.remove
  remove_fit = let parts = edits_fit config.remove valid.remove in record { headers = parts.0; querystring = parts.1 }

  rename_fit : EditsFit edits.Rename config.rename
  rename_fit =
      let parts = and_parts (is_list_of is_header_rename config.rename.headers) (is_list_of is_edit config.rename.querystring) valid.rename in
      record { headers = header_renames_fit config.rename.headers parts.0; querystring = fit_all text_kind.Edit is_edit fits_edit config.rename.querystring parts.1 }

  replace_fit : EditsFit edits.Replace config.replace
  replace_fit = let parts = edits_fit config.replace valid.replace in record { headers = parts.0; querystring = parts.1 }

  add_fit : EditsFit edits.Add config.add
  add_fit = let parts = edits_fit config.add valid.add in record { headers = parts.0; querystring = parts.1 }

  append_fit : EditsFit edits.Append config.append
  append_fit = let parts = edits_fit config.append valid.append in record { headers = parts.0; querystring = parts.1 }

  request_transformer_accepted : (front : List ℕ) → violations_in (members_of (config_members (config_of.RequestTransformer config))) (table.Config plugin.RequestTransformer) front ≡ []
  request_transformer_accepted front = none_broken (table.Config plugin.RequestTransformer) front (config_members (config_of.RequestTransformer config)) (
    record { rule = edits_rule config.add; inside = edits_inside edits.Add config.add add_fit _ },
    (
      record { rule = edits_rule config.append; inside = edits_inside edits.Append config.append append_fit _ },
      (
        record { rule = edits_rule config.remove; inside = edits_inside edits.Remove config.remove remove_fit _ },
        (
          record { rule = edits_rule config.rename; inside = edits_inside edits.Rename config.rename rename_fit _ },
          (
            record { rule = edits_rule config.replace; inside = edits_inside edits.Replace config.replace replace_fit _ },
            tt,
          ),
        ),
      ),
    ),
  )

  request_transformer_same : (remove remove_read rename rename_read replace replace_read add add_read append append_read : Edits)
      → remove_read ≡ remove → rename_read ≡ rename → replace_read ≡ replace → add_read ≡ add → append_read ≡ append
      → config_of.RequestTransformer (record { remove = remove_read; rename = rename_read; replace = replace_read; add = add_read; append = append_read })
      ≡ config_of.RequestTransformer (record { remove = remove; rename = rename; replace = replace; add = add; append = append })
  request_transformer_same remove remove_read rename rename_read replace replace_read add add_read append append_read a b c d e = rw (a, b, c, d, e) refl

  request_transformer_again : config_over (shown_config (config_of.RequestTransformer config)) (default_config plugin.RequestTransformer) ≡ config_of.RequestTransformer config
  request_transformer_again =
      request_transformer_same config.remove _ config.rename _ config.replace _ config.add _ config.append _
      (edits_again edits.Remove config.remove remove_fit) (edits_again edits.Rename config.rename rename_fit) (edits_again edits.Replace config.replace replace_fit)
      (edits_again edits.Add config.add add_fit) (edits_again edits.Append config.append append_fit)

-- ---- steps of a reply's change

-- a list that is set
abbrev set_list : List (List ℕ) → Data
set_list headers = object_of ((codes "headers", shown_texts headers) ∷ [])

some_texts : (text : List ℕ) (texts : List (List ℕ)) → (length (text ∷ texts) == 0) ≡ false
some_texts text texts = grind (arith, nat_tests)

list_rule : (headers : List (List ℕ)) → object_rule (shown_header_edits headers) ≡ None
list_rule headers = at_empty (length headers == 0)
  where
    at_empty : (b : Bool) → object_rule (if b then null else set_list headers) ≡ None
    at_empty true = refl
    at_empty false = refl

list_inside : (at : EditList) (headers : List (List ℕ)) → FitAll (header_text_kind at) headers → (path : List ℕ) → violations_inside (shown_header_edits headers) (Inside (table.ResponseEdits at)) path ≡ []
list_inside at headers fit path = at_empty (length headers == 0)
  where
    at_empty : (b : Bool) → violations_inside (if b then null else set_list headers) (Inside (table.ResponseEdits at)) path ≡ []
    at_empty true = refl
    at_empty false = none_broken (table.ResponseEdits at) (path ++ codes ".") ((codes "headers", shown_texts headers) ∷ []) (
      record { rule = texts_rule (header_text_kind at) headers fit; inside = texts_inside headers _ _ },
      tt,
    )

list_again : (at : EditList) (headers : List (List ℕ)) → FitAll (header_text_kind at) headers → header_edits_over (table.ResponseEdits at) (shown_header_edits headers) [] ≡ headers
unfolding texts_in
list_again at [] fit = refl
list_again at (text ∷ texts) fit =
    ap (λ b. header_edits_over (table.ResponseEdits at) (if b then null else set_list (text ∷ texts)) []) (some_texts text texts)
    ∙ texts_over (header_text_kind at) (text ∷ texts) fit

module _ (config : ResponseTransformer) (valid : IsValidResponseTransformer config) where
  response_transformer_accepted : (front : List ℕ) → violations_in (members_of (config_members (config_of.ResponseTransformer config))) (table.Config plugin.ResponseTransformer) front ≡ []
  response_transformer_accepted front = none_broken (table.Config plugin.ResponseTransformer) front (config_members (config_of.ResponseTransformer config)) (
    record { rule = list_rule config.add; inside = list_inside edits.Add config.add (header_edits_fit config.add valid.add) _ },
    (
      record { rule = list_rule config.append; inside = list_inside edits.Append config.append (header_edits_fit config.append valid.append) _ },
      (
        record { rule = list_rule config.remove; inside = list_inside edits.Remove config.remove (header_edits_fit config.remove valid.remove) _ },
        (
          record { rule = list_rule config.rename; inside = list_inside edits.Rename config.rename (header_renames_fit config.rename valid.rename) _ },
          (
            record { rule = list_rule config.replace; inside = list_inside edits.Replace config.replace (header_edits_fit config.replace valid.replace) _ },
            tt,
          ),
        ),
      ),
    ),
  )

  response_transformer_same : (remove remove_read rename rename_read replace replace_read add add_read append append_read : List (List ℕ))
      → remove_read ≡ remove → rename_read ≡ rename → replace_read ≡ replace → add_read ≡ add → append_read ≡ append
      → config_of.ResponseTransformer (record { remove = remove_read; rename = rename_read; replace = replace_read; add = add_read; append = append_read })
      ≡ config_of.ResponseTransformer (record { remove = remove; rename = rename; replace = replace; add = add; append = append })
  response_transformer_same remove remove_read rename rename_read replace replace_read add add_read append append_read a b c d e = rw (a, b, c, d, e) refl

  response_transformer_again : config_over (shown_config (config_of.ResponseTransformer config)) (default_config plugin.ResponseTransformer) ≡ config_of.ResponseTransformer config
  response_transformer_again =
      response_transformer_same config.remove _ config.rename _ config.replace _ config.add _ config.append _
      (list_again edits.Remove config.remove (header_edits_fit config.remove valid.remove)) (list_again edits.Rename config.rename (header_renames_fit config.rename valid.rename))
      (list_again edits.Replace config.replace (header_edits_fit config.replace valid.replace)) (list_again edits.Add config.add (header_edits_fit config.add valid.add))
      (list_again edits.Append config.append (header_edits_fit config.append valid.append))

-- ---- replies

module _ (config : Termination) (valid : IsValidTermination config) where
  reply_message : IfSome config.message (Fits text_kind.FreeText)
  reply_message = each_fits text_kind.FreeText is_free_text fits_free config.message valid.message

  reply_body : IfSome config.body (Fits text_kind.LongText)
  reply_body = each_fits text_kind.LongText (is_text_within 65536) fits_long config.body valid.body

  reply_type : IfSome config.content_type (Fits text_kind.FreeText)
  reply_type = each_fits text_kind.FreeText is_free_text fits_free config.content_type valid.content_type

  termination_accepted : (front : List ℕ) → violations_in (members_of (config_members (config_of.RequestTermination config))) (table.Config plugin.RequestTermination) front ≡ []
  termination_accepted front = none_broken (table.Config plugin.RequestTermination) front (config_members (config_of.RequestTermination config)) (
    record { rule = option_rule text_kind.LongText config.body reply_body; inside = option_inside config.body _ _ },
    (
      record { rule = option_rule text_kind.FreeText config.content_type reply_type; inside = option_inside config.content_type _ _ },
      (
        record { rule = option_rule text_kind.FreeText config.message reply_message; inside = option_inside config.message _ _ },
        (
          record { rule = whole_rule_ok 200 599 config.status_code valid.status_code.0 valid.status_code.1; inside = refl },
          tt,
        ),
      ),
    ),
  )

  termination_same : (status status_read : ℕ) (message message_read body body_read content_type content_type_read : Option (List ℕ))
      → status_read ≡ status → message_read ≡ message → body_read ≡ body → content_type_read ≡ content_type
      → config_of.RequestTermination (record { status_code = status_read; message = message_read; body = body_read; content_type = content_type_read })
      ≡ config_of.RequestTermination (record { status_code = status; message = message; body = body; content_type = content_type })
  termination_same status status_read message message_read body body_read content_type content_type_read a b c d = rw (a, b, c, d) refl

  termination_again : config_over (shown_config (config_of.RequestTermination config)) (default_config plugin.RequestTermination) ≡ config_of.RequestTermination config
  unfolding text_in whole_in
  termination_again =
      termination_same config.status_code _ config.message _ config.body _ config.content_type _
      (whole_over 200 599 config.status_code _ valid.status_code.0 valid.status_code.1)
      (option_over text_kind.FreeText config.message reply_message) (option_over text_kind.LongText config.body reply_body) (option_over text_kind.FreeText config.content_type reply_type)

-- ---- any plugin

pub config_read_back : (config : Config) → IsValidConfig config → IsConfigReadBack config
config_read_back (config_of.Cors config) valid = record { accepted = cors_accepted config valid; again = cors_again config valid }
config_read_back (config_of.KeyAuth config) valid = record { accepted = key_auth_accepted config valid; again = key_auth_again config valid }
config_read_back (config_of.BasicAuth config) valid = record { accepted = basic_auth_accepted config valid; again = basic_auth_again config valid }
config_read_back (config_of.IpRestriction config) valid = record { accepted = ip_restriction_accepted config valid; again = ip_restriction_again config valid }
config_read_back (config_of.RequestSizeLimiting config) valid = record { accepted = size_limit_accepted config valid; again = size_limit_again config valid }
config_read_back (config_of.Acl config) valid = record { accepted = groups_accepted config valid; again = groups_again config valid }
config_read_back (config_of.RateLimiting config) valid = record { accepted = rate_limiting_accepted config valid; again = rate_limiting_again config valid }
config_read_back (config_of.RequestTransformer config) valid = record { accepted = request_transformer_accepted config valid; again = request_transformer_again config valid }
config_read_back (config_of.ResponseTransformer config) valid = record { accepted = response_transformer_accepted config valid; again = response_transformer_again config valid }
config_read_back (config_of.RequestTermination config) valid = record { accepted = termination_accepted config valid; again = termination_again config valid }
