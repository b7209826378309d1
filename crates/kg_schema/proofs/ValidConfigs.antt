-- A finished config is valid.
use Rattle.std.proofs.Common.{◌≡◌, ℕ, ◌≤◌, ◌==◌, nat_lt, Bool, true, false, not, ◌&&◌, ◌||◌, List, [], length, Option, Some, None, is_none, is_some, codes, refl, if◌then◌else◌, arith}
use Rattle.std.proofs.lemmas.Bool.{and_from, and_parts}
use Rattle.std.proofs.lemmas.Bool.Decides.{nat_tests}
use Rattle.std.proofs.Math.Dec.{lit≤}
use Rattle.std.specs.Option.{option_or}
use Rattle.std.specs.Prelude.{IfSome, IsTrue}
use Rattle.serde_json.specs.Data.{Data}
use Rattle.kg_row_types.specs.ConfigTexts.{is_edit, is_header_edit, is_header_rename, is_ipv4_block, is_key_name}
use Rattle.kg_row_types.specs.ValidRows.{IsAnonymous, IsLimit, IsValidAclConfig, IsValidBasicAuth, IsValidConfig, IsValidCors, IsValidIpRestriction, IsValidKeyAuth, IsValidRateLimiting, IsValidRequestTransformer, IsValidResponseTransformer, IsValidSizeLimit, IsValidTermination, are_edits}
use Rattle.kg_row_types.specs.TextForms.{is_free_text, is_list_of, is_method, is_printed_if_id, is_text_within}
use Rattle.kg_row_types.specs.declared.config.Acl.{Acl}
use Rattle.kg_row_types.specs.declared.config.BasicAuth.{BasicAuth}
use Rattle.kg_row_types.specs.declared.config.Config.{Config}
use Rattle.kg_row_types.specs.declared.config.Config.TheVariants as config_of
use Rattle.kg_row_types.specs.declared.config.Cors.{Cors}
use Rattle.kg_row_types.specs.declared.config.Edits.{Edits}
use Rattle.kg_row_types.specs.declared.config.IpRestriction.{IpRestriction}
use Rattle.kg_row_types.specs.declared.config.KeyAuth.{KeyAuth}
use Rattle.kg_row_types.specs.declared.config.RateLimiting.{RateLimiting}
use Rattle.kg_row_types.specs.declared.config.RequestTransformer.{RequestTransformer}
use Rattle.kg_row_types.specs.declared.config.ResponseTransformer.{ResponseTransformer}
use Rattle.kg_row_types.specs.declared.config.SizeLimit.{SizeLimit}
use Rattle.kg_row_types.specs.declared.config.Termination.{Termination}
use Rattle.kg_row_types.specs.declared.plugin.PluginName.{PluginName}
use Rattle.kg_row_types.specs.declared.plugin.PluginName.TheVariants as plugin
use Rattle.kg_schema.proofs.StoredIds.{takes_anonymous}
use Rattle.kg_schema.proofs.ReadNumbers.{whole_ok}
use Rattle.kg_schema.proofs.ReadTexts.{Takes, takes_block, takes_edit, takes_free_text, takes_header_edit, takes_header_rename, takes_key_name, takes_long_text, takes_method, text_ok, texts_ok}
use Rattle.kg_schema.proofs.ValidParts.{list_over_ok, neither, not_broken, or_ok, unwrapped_ok}
use Rattle.kg_schema.specs.Between.{config_violations, violation_if, groups_violations, has_both, has_neither, ip_restriction_violations, rate_limiting_violations, termination_violations}
use Rattle.kg_row_making.specs.FinishedConfigs.{basic_auth_over, config_over, cors_over, default_config, groups_over, ip_restriction_over, key_auth_over, rate_limiting_over, request_transformer_over, response_transformer_over, size_limit_over, termination_over}
use Rattle.kg_bodies.specs.Settings.{inside, text_at, texts_at, whole_at}
use Rattle.kg_bodies.specs.TableSettings.{text_in, texts_in, whole_in}
use Rattle.kg_field_rules.specs.declared.rule.Rule.TheVariants.{Exclusive, Required}
use Rattle.kg_field_rules.specs.declared.text_kind.TextKind.{TextKind}
use Rattle.kg_field_rules.specs.declared.text_kind.TextKind.TheVariants as text_kind

abbrev IsListOf : (List ℕ → Bool) → List (List ℕ) → Type 0
IsListOf test texts = IsTrue (is_list_of test texts)

abbrev IsFree : List ℕ → Type 0
IsFree text = IsTrue (is_free_text text)

-- a list that a body sets, or the one that stood there
list_ok : (kind : TextKind) (test : List ℕ → Bool) → Takes kind test → (name : List ℕ) (config : Data) (before : List (List ℕ)) → IsListOf test before
    → IsListOf test (if length (texts_at kind name config) == 0 then before else texts_at kind name config)
list_ok kind test takes name config before old = list_over_ok (IsListOf test) (texts_at kind name config) before (texts_ok kind test takes name config) old

-- ---- lists that are set

is_some_list : (n : ℕ) → nat_lt 0 n ≡ not (n == 0)
is_some_list n = grind (arith, nat_tests)

-- of two lists one is set
one_set : (a b : ℕ) → (a == 0 && b == 0) ≡ false → (nat_lt 0 a || nat_lt 0 b) ≡ true
one_set a b some = rw (is_some_list a, is_some_list b) (one_of (a == 0) (b == 0) some)
  where
    one_of : (x y : Bool) → (x && y) ≡ false → (not x || not y) ≡ true
    one_of false y some = refl
    one_of true false some = refl
    one_of true true some = cc

-- of two lists one isn't set
not_both : (a b : ℕ) → (not (a == 0) && not (b == 0)) ≡ false → not (nat_lt 0 a && nat_lt 0 b) ≡ true
not_both a b some = rw (is_some_list a, is_some_list b) (not_and (a == 0) (b == 0) some)
  where
    not_and : (x y : Bool) → (not x && not y) ≡ false → not (not x && not y) ≡ true
    not_and true y some = refl
    not_and false true some = refl
    not_and false false some = cc

-- a list that is set, or one that was set before
still_set : (set before : List (List ℕ)) → nat_lt 0 (length before) ≡ true → nat_lt 0 (length (if length set == 0 then before else set)) ≡ true
still_set set before some = at_empty (length set == 0) refl
  where
    at_empty : (b : Bool) → (length set == 0) ≡ b → nat_lt 0 (length (if b then before else set)) ≡ true
    at_empty true empty = some
    at_empty false other = grind (arith, nat_tests)

-- ---- each plugin

cors_ok : (config : Data) (before : Cors) → IsValidCors before → IsValidCors (cors_over config before)
unfolding text_in texts_in whole_in
cors_ok config before old =
    let methods = and_parts (is_list_of is_method before.methods) (nat_lt 0 (length before.methods)) old.methods in
    let after = cors_over config before in
    record {
      origins = list_ok text_kind.FreeText is_free_text takes_free_text (codes "origins") config before.origins old.origins;
      methods = and_from (is_list_of is_method after.methods) (nat_lt 0 (length after.methods))
          (list_ok text_kind.Method is_method takes_method (codes "methods") config before.methods methods.0)
          (still_set (texts_at text_kind.Method (codes "methods") config) before.methods methods.1);
      headers = list_ok text_kind.FreeText is_free_text takes_free_text (codes "headers") config before.headers old.headers;
      exposed_headers = list_ok text_kind.FreeText is_free_text takes_free_text (codes "exposed_headers") config before.exposed_headers old.exposed_headers;
      max_age = or_ok (λ n. n ≤ 1000000000) (whole_at 0 1000000000 (codes "max_age") config) before.max_age (within (whole_at 0 1000000000 (codes "max_age") config) (whole_ok 0 1000000000 (codes "max_age") config)) old.max_age;
    }
  where
    within : (o : Option ℕ) → IfSome o (λ n. (0 ≤ n) × (n ≤ 1000000000)) → IfSome o (λ n. n ≤ 1000000000)
    within None ok = tt
    within (Some n) ok = ok.1

anonymous_ok : (config : Data) (before : Option (List ℕ)) → IsAnonymous before → IsAnonymous (option_or (text_at text_kind.Anonymous (codes "anonymous") config) before)
anonymous_ok config before old =
    or_ok (λ text. IsTrue (is_free_text text && is_printed_if_id text)) (text_at text_kind.Anonymous (codes "anonymous") config) before (text_ok text_kind.Anonymous (λ text. is_free_text text && is_printed_if_id text) takes_anonymous (codes "anonymous") config) old

key_auth_ok : (config : Data) (before : KeyAuth) → IsValidKeyAuth before → IsValidKeyAuth (key_auth_over config before)
unfolding text_in texts_in whole_in
key_auth_ok config before old =
    let names = and_parts (is_list_of is_key_name before.key_names) (nat_lt 0 (length before.key_names)) old.key_names in
    let after = key_auth_over config before in
    record {
      key_names = and_from (is_list_of is_key_name after.key_names) (nat_lt 0 (length after.key_names))
          (list_ok text_kind.Token is_key_name takes_key_name (codes "key_names") config before.key_names names.0)
          (still_set (texts_at text_kind.Token (codes "key_names") config) before.key_names names.1);
      anonymous = anonymous_ok config before.anonymous old.anonymous;
    }

basic_auth_ok : (config : Data) (before : BasicAuth) → IsValidBasicAuth before → IsValidBasicAuth (basic_auth_over config before)
unfolding text_in texts_in whole_in
basic_auth_ok config before old = record { anonymous = anonymous_ok config before.anonymous old.anonymous }

-- the lists of addresses, of which both may be missing before a body sets them
pub record AreBlocks (config : IpRestriction) : Type 0 where
  allow : IsListOf is_ipv4_block config.allow
  deny : IsListOf is_ipv4_block config.deny

ip_restriction_ok : (config : Data) (before : IpRestriction) → AreBlocks before → ip_restriction_violations (ip_restriction_over config before) ≡ [] → IsValidIpRestriction (ip_restriction_over config before)
unfolding text_in texts_in whole_in
ip_restriction_ok config before old none =
    let after = ip_restriction_over config before in
    record {
      allow = list_ok text_kind.AddressBlock is_ipv4_block takes_block (codes "allow") config before.allow old.allow;
      deny = list_ok text_kind.AddressBlock is_ipv4_block takes_block (codes "deny") config before.deny old.deny;
      known = one_set (length after.allow) (length after.deny) (not_broken (has_neither after.allow after.deny) (codes "config.allow") Required none);
    }

size_limit_ok : (config : Data) (before : SizeLimit) → IsValidSizeLimit before → IsValidSizeLimit (size_limit_over config before)
unfolding text_in texts_in whole_in
size_limit_ok config before old = record {
  size = unwrapped_ok (λ n. (1 ≤ n) × (n ≤ 1000000000)) (whole_at 1 1000000000 (codes "allowed_payload_size") config) before.allowed_payload_size (whole_ok 1 1000000000 (codes "allowed_payload_size") config) old.size;
}

-- the lists of groups, of which both may be missing before a body sets them
pub record AreGroups (config : Acl) : Type 0 where
  allow : IsListOf is_free_text config.allow
  deny : IsListOf is_free_text config.deny

groups_ok : (config : Data) (before : Acl) → AreGroups before → groups_violations (groups_over config before) ≡ [] → IsValidAclConfig (groups_over config before)
unfolding text_in texts_in whole_in
groups_ok config before old none =
    let after = groups_over config before in
    let told = neither (violation_if (has_both after.allow after.deny) (codes "config.allow") Exclusive) (violation_if (has_neither after.allow after.deny) (codes "config.allow") Required) none in
    record {
      allow = list_ok text_kind.FreeText is_free_text takes_free_text (codes "allow") config before.allow old.allow;
      deny = list_ok text_kind.FreeText is_free_text takes_free_text (codes "deny") config before.deny old.deny;
      known = one_set (length after.allow) (length after.deny) (not_broken (has_neither after.allow after.deny) (codes "config.allow") Required told.1);
      exclusive = not_both (length after.allow) (length after.deny) (not_broken (has_both after.allow after.deny) (codes "config.allow") Exclusive told.0);
    }

-- the limits, of which all may be missing before a body sets them
pub record AreLimits (config : RateLimiting) : Type 0 where
  second : IsLimit config.second
  minute : IsLimit config.minute
  hour : IsLimit config.hour
  day : IsLimit config.day

limit_ok : (name : List ℕ) (config : Data) (before : Option ℕ) → IsLimit before → IsLimit (option_or (whole_at 1 1000000000 name config) before)
limit_ok name config before old = or_ok (λ n. (1 ≤ n) × (n ≤ 1000000000)) (whole_at 1 1000000000 name config) before (whole_ok 1 1000000000 name config) old

any_known : (a b c d : Bool) → (not a && not b && not c && not d) ≡ false → (a || b || c || d) ≡ true
any_known true b c d some = refl
any_known false true c d some = refl
any_known false false true d some = refl
any_known false false false true some = refl
any_known false false false false some = cc

rate_limiting_ok : (config : Data) (before : RateLimiting) → AreLimits before → rate_limiting_violations (rate_limiting_over config before) ≡ [] → IsValidRateLimiting (rate_limiting_over config before)
unfolding text_in texts_in whole_in
rate_limiting_ok config before old none =
    let after = rate_limiting_over config before in
    record {
      second = limit_ok (codes "second") config before.second old.second;
      minute = limit_ok (codes "minute") config before.minute old.minute;
      hour = limit_ok (codes "hour") config before.hour old.hour;
      day = limit_ok (codes "day") config before.day old.day;
      known = any_known (is_some after.second) (is_some after.minute) (is_some after.hour) (is_some after.day)
          (not_broken (is_none after.second && is_none after.minute && is_none after.hour && is_none after.day) (codes "config.minute") Required none);
    }

abbrev edits : List (List ℕ) → List (List ℕ) → Edits
edits headers querystring = record { headers = headers; querystring = querystring }

-- the lists of one step, by the kind of the headers' texts
abbrev edits_read : TextKind → Data → Edits → Edits
edits_read kind step before =
    if length (texts_at kind (codes "headers") step) == 0 && length (texts_at text_kind.Edit (codes "querystring") step) == 0 then before
    else edits (texts_at kind (codes "headers") step) (texts_at text_kind.Edit (codes "querystring") step)

edits_ok : (kind : TextKind) (test : List ℕ → Bool) → Takes kind test → (step : Data) (before : Edits) → IsTrue (are_edits test before) → IsTrue (are_edits test (edits_read kind step before))
edits_ok kind test takes step before old = at_empty (length (texts_at kind (codes "headers") step) == 0 && length (texts_at text_kind.Edit (codes "querystring") step) == 0)
  where
    at_empty : (b : Bool) → IsTrue (are_edits test (if b then before else edits (texts_at kind (codes "headers") step) (texts_at text_kind.Edit (codes "querystring") step)))
    at_empty true = old
    at_empty false = and_from (is_list_of test (texts_at kind (codes "headers") step)) (is_list_of is_edit (texts_at text_kind.Edit (codes "querystring") step)) (texts_ok kind test takes (codes "headers") step) (texts_ok text_kind.Edit is_edit takes_edit (codes "querystring") step)

request_transformer_ok : (config : Data) (before : RequestTransformer) → IsValidRequestTransformer before → IsValidRequestTransformer (request_transformer_over config before)
unfolding text_in texts_in whole_in
request_transformer_ok config before old = record {
  remove = edits_ok text_kind.HeaderEdit is_header_edit takes_header_edit (inside (codes "remove") config) before.remove old.remove;
  rename = edits_ok text_kind.HeaderRename is_header_rename takes_header_rename (inside (codes "rename") config) before.rename old.rename;
  replace = edits_ok text_kind.HeaderEdit is_header_edit takes_header_edit (inside (codes "replace") config) before.replace old.replace;
  add = edits_ok text_kind.HeaderEdit is_header_edit takes_header_edit (inside (codes "add") config) before.add old.add;
  append = edits_ok text_kind.HeaderEdit is_header_edit takes_header_edit (inside (codes "append") config) before.append old.append;
}

response_transformer_ok : (config : Data) (before : ResponseTransformer) → IsValidResponseTransformer before → IsValidResponseTransformer (response_transformer_over config before)
unfolding text_in texts_in whole_in
response_transformer_ok config before old = record {
  remove = list_ok text_kind.HeaderEdit is_header_edit takes_header_edit (codes "headers") (inside (codes "remove") config) before.remove old.remove;
  rename = list_ok text_kind.HeaderRename is_header_rename takes_header_rename (codes "headers") (inside (codes "rename") config) before.rename old.rename;
  replace = list_ok text_kind.HeaderEdit is_header_edit takes_header_edit (codes "headers") (inside (codes "replace") config) before.replace old.replace;
  add = list_ok text_kind.HeaderEdit is_header_edit takes_header_edit (codes "headers") (inside (codes "add") config) before.add old.add;
  append = list_ok text_kind.HeaderEdit is_header_edit takes_header_edit (codes "headers") (inside (codes "append") config) before.append old.append;
}

-- the fields of a reply, before it is judged which of them stand together
pub record AreReplyFields (config : Termination) : Type 0 where
  status_code : (200 ≤ config.status_code) × (config.status_code ≤ 599)
  message : IfSome config.message IsFree
  body : IfSome config.body (λ text. IsTrue (is_text_within 65536 text))
  content_type : IfSome config.content_type IsFree

termination_ok : (config : Data) (before : Termination) → AreReplyFields before → termination_violations (termination_over config before) ≡ [] → IsValidTermination (termination_over config before)
unfolding text_in texts_in whole_in
termination_ok config before old none =
    let after = termination_over config before in
    let told = neither (violation_if (is_some after.message && is_some after.body) (codes "config.message") Exclusive) (violation_if (is_some after.content_type && is_none after.body) (codes "config.body") Required) none in
    record {
      status_code = unwrapped_ok (λ n. (200 ≤ n) × (n ≤ 599)) (whole_at 200 599 (codes "status_code") config) before.status_code (whole_ok 200 599 (codes "status_code") config) old.status_code;
      message = or_ok IsFree (text_at text_kind.FreeText (codes "message") config) before.message (text_ok text_kind.FreeText is_free_text takes_free_text (codes "message") config) old.message;
      body = or_ok (λ text. IsTrue (is_text_within 65536 text)) (text_at text_kind.LongText (codes "body") config) before.body (text_ok text_kind.LongText (is_text_within 65536) takes_long_text (codes "body") config) old.body;
      content_type = or_ok IsFree (text_at text_kind.FreeText (codes "content_type") config) before.content_type (text_ok text_kind.FreeText is_free_text takes_free_text (codes "content_type") config) old.content_type;
      exclusive = apart (is_some after.message) (is_some after.body) (not_broken (is_some after.message && is_some after.body) (codes "config.message") Exclusive told.0);
      with_body = goes_with (is_some after.content_type) (is_some after.body) (not_broken (is_some after.content_type && is_none after.body) (codes "config.body") Required told.1);
    }
  where
    apart : (a b : Bool) → (a && b) ≡ false → not (a && b) ≡ true
    apart true true some = cc
    apart true false some = refl
    apart false b some = refl

    goes_with : (a b : Bool) → (a && not b) ≡ false → (b || not a) ≡ true
    goes_with a true some = refl
    goes_with true false some = cc
    goes_with false false some = refl

-- ---- any plugin

-- what stands in a config before a body sets anything
abbrev pub IsConfigBefore : Config → Type 0
IsConfigBefore (config_of.Cors config) = IsValidCors config
IsConfigBefore (config_of.KeyAuth config) = IsValidKeyAuth config
IsConfigBefore (config_of.BasicAuth config) = IsValidBasicAuth config
IsConfigBefore (config_of.IpRestriction config) = AreBlocks config
IsConfigBefore (config_of.RequestSizeLimiting config) = IsValidSizeLimit config
IsConfigBefore (config_of.Acl config) = AreGroups config
IsConfigBefore (config_of.RateLimiting config) = AreLimits config
IsConfigBefore (config_of.RequestTransformer config) = IsValidRequestTransformer config
IsConfigBefore (config_of.ResponseTransformer config) = IsValidResponseTransformer config
IsConfigBefore (config_of.RequestTermination config) = AreReplyFields config

pub valid_before : (config : Config) → IsValidConfig config → IsConfigBefore config
valid_before (config_of.Cors config) ok = ok
valid_before (config_of.KeyAuth config) ok = ok
valid_before (config_of.BasicAuth config) ok = ok
valid_before (config_of.IpRestriction config) ok = record { allow = ok.allow; deny = ok.deny }
valid_before (config_of.RequestSizeLimiting config) ok = ok
valid_before (config_of.Acl config) ok = record { allow = ok.allow; deny = ok.deny }
valid_before (config_of.RateLimiting config) ok = record { second = ok.second; minute = ok.minute; hour = ok.hour; day = ok.day }
valid_before (config_of.RequestTransformer config) ok = ok
valid_before (config_of.ResponseTransformer config) ok = ok
valid_before (config_of.RequestTermination config) ok = record { status_code = ok.status_code; message = ok.message; body = ok.body; content_type = ok.content_type }

pub default_before : (name : PluginName) → IsConfigBefore (default_config name)
default_before plugin.Cors = record { origins = refl; methods = refl; headers = refl; exposed_headers = refl; max_age = tt }
default_before plugin.KeyAuth = record { key_names = refl; anonymous = tt }
default_before plugin.BasicAuth = record { anonymous = tt }
default_before plugin.IpRestriction = record { allow = refl; deny = refl }
default_before plugin.RequestSizeLimiting = record { size = (lit≤ tt, lit≤ tt) }
default_before plugin.Acl = record { allow = refl; deny = refl }
default_before plugin.RateLimiting = record { second = tt; minute = tt; hour = tt; day = tt }
default_before plugin.RequestTransformer = record { remove = refl; rename = refl; replace = refl; add = refl; append = refl }
default_before plugin.ResponseTransformer = record { remove = refl; rename = refl; replace = refl; add = refl; append = refl }
default_before plugin.RequestTermination = record { status_code = (lit≤ tt, lit≤ tt); message = tt; body = tt; content_type = tt }

pub config_ok : (config : Data) (before : Config) → IsConfigBefore before → config_violations (config_over config before) ≡ [] → IsValidConfig (config_over config before)
config_ok config (config_of.Cors before) old none = cors_ok config before old
config_ok config (config_of.KeyAuth before) old none = key_auth_ok config before old
config_ok config (config_of.BasicAuth before) old none = basic_auth_ok config before old
config_ok config (config_of.IpRestriction before) old none = ip_restriction_ok config before old none
config_ok config (config_of.RequestSizeLimiting before) old none = size_limit_ok config before old
config_ok config (config_of.Acl before) old none = groups_ok config before old none
config_ok config (config_of.RateLimiting before) old none = rate_limiting_ok config before old none
config_ok config (config_of.RequestTransformer before) old none = request_transformer_ok config before old
config_ok config (config_of.ResponseTransformer before) old none = response_transformer_ok config before old
config_ok config (config_of.RequestTermination before) old none = termination_ok config before old none
