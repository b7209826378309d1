-- What a body sets as texts: a reading judges the texts that it reads, so what it gives passes the
-- test of its kind.
use Rattle.std.proofs.Common.{◌≡◌, ℕ, ◌==◌, nat_lt, nat_le, if◌then◌else◌, Bool, true, false, not, ◌&&◌, ◌||◌, List, [], ◌∷◌, length, map, Option, Some, None, is_none, is_some, option_map, option_and_then, refl, sym, ap, ◌∙◌, arith}
use Rattle.std.proofs.lemmas.Bool.{and_from, and_parts, or_parts}
use Rattle.std.proofs.lemmas.Bool.Decides.{nat_tests}
use Rattle.std.proofs.lemmas.List.{length-map}
use Rattle.std.specs.List.{list_all, list_any}
use Rattle.std.specs.Option.{option_map_or}
use Rattle.std.specs.Prelude.{IfSome, IsTrue}
use Rattle.serde_json.specs.Data.{Data}
use Rattle.serde_json.specs.Find.{as_str, get}
use Rattle.kg_text.specs.Hosts.{is_host}
use Rattle.kg_row_types.specs.ConfigTexts.{is_key_name, is_ipv4_block, is_edit, is_header_edit, is_header_rename}
use Rattle.kg_row_types.specs.TextForms.{are_distinct, has_length, is_free_text, is_list_of, is_method, is_name, is_normal_path, is_route_path, is_text_within, is_username}
use Rattle.kg_field_tables.specs.Judging.{is_set, judged, list_rule, shape_rule, texts_of, typed}
use Rattle.kg_bodies.proofs.ListLemmas.{list_steps}
use Rattle.kg_bodies.specs.Settings.{text_at, texts_at, value_at}
use Rattle.kg_field_rules.proofs.RuleLemmas.{text_steps}
use Rattle.kg_field_rules.specs.TextRules.{has_form, is_longer, stored, longest, text_rule}
use Rattle.kg_field_rules.specs.declared.rule.Rule.{Rule}
use Rattle.kg_field_rules.specs.declared.rule.Rule.TheVariants.{Empty, OutOfRange, Syntax, Repeated}
use Rattle.kg_field_tables.specs.declared.shape.Shape.{Shape}
use Rattle.kg_field_tables.specs.declared.shape.Shape.TheVariants as shape
use Rattle.kg_field_rules.specs.declared.text_kind.TextKind.{TextKind}
use Rattle.kg_field_rules.specs.declared.text_kind.TextKind.TheVariants as text_kind

-- ---- values

-- a value that is read breaks no rule of its shape
pub value_ok : (wanted : Shape) (name : List ℕ) (body : Data) → IfSome (value_at wanted name body) (λ d. shape_rule wanted d ≡ None)
value_ok wanted name body = found (get name body)
  where
    judged_ok : (P : Data → Type 0) (set : Bool) (rule : Option Rule) (d : Data) → (rule ≡ None → P d)
        → IfSome (if set then (if is_some (if set then rule else None) then None else Some d) else None) P
    judged_ok P true None d says = says refl
    judged_ok P true (Some rule) d says = tt
    judged_ok P false rule d says = tt

    found : (o : Option Data) → IfSome (option_and_then (λ d. if is_set d then (if is_some (judged wanted d) then None else Some d) else None) o) (λ d. shape_rule wanted d ≡ None)
    found None = tt
    found (Some d) = judged_ok (λ x. shape_rule wanted x ≡ None) (is_set d) (shape_rule wanted d) d (λ none. none)

-- ---- single texts

-- as it is stored, each text of this kind that breaks no rule passes the test
abbrev pub Takes : TextKind → (List ℕ → Bool) → Type 0
Takes kind test = (text : List ℕ) → text_rule kind text ≡ None → IsTrue (test (stored kind text))

-- the text that a body sets
pub text_ok : (kind : TextKind) (test : List ℕ → Bool) → Takes kind test → (name : List ℕ) (body : Data) → IfSome (text_at kind name body) (λ text. IsTrue (test text))
text_ok kind test takes name body = read (value_at (shape.Text kind) name body) (value_ok (shape.Text kind) name body)
  where
    as_text : (o : Option (List ℕ)) → typed (text_rule kind) o ≡ None → IfSome (option_map (stored kind) o) (λ text. IsTrue (test text))
    as_text None ok = tt
    as_text (Some text) ok = takes text ok

    read : (o : Option Data) → IfSome o (λ d. shape_rule (shape.Text kind) d ≡ None) → IfSome (option_map (stored kind) (option_and_then as_str o)) (λ text. IsTrue (test text))
    read None ok = tt
    read (Some d) ok = as_text (as_str d) ok

-- of three tests in a row none told a rule
no_rule_told : (empty longer form : Bool) (rule : Rule) → (if empty then Some rule else (if longer then Some OutOfRange else (if form then None else Some Syntax))) ≡ None
    → (empty ≡ false) × (longer ≡ false) × (form ≡ true)
no_rule_told true longer form rule h = cc
no_rule_told false true form rule h = cc
no_rule_told false false true rule h = (refl, refl, refl)
no_rule_told false false false rule h = cc

-- a text that breaks no rule isn't empty, isn't too long, and is spelled as its kind is
pub text_parts : (kind : TextKind) (text : List ℕ) → text_rule kind text ≡ None
    → ((length text == 0) ≡ false) × (is_longer kind text ≡ false) × (has_form kind text ≡ true)
text_parts kind text ok =
    no_rule_told (length text == 0) (is_longer kind text) (has_form kind text) Empty (sym (text_steps (length text == 0) (is_longer kind text) (has_form kind text)) ∙ ok)

within : (n most : ℕ) → (n == 0) ≡ false → nat_lt most n ≡ false → (nat_lt 0 n && nat_le n most) ≡ true
within n most some short = grind (arith, nat_tests)

-- a text of a kind with a bound, by its length and its form
pub bounded : (kind : TextKind) (most : ℕ) → longest kind ≡ Some most → (text : List ℕ) → text_rule kind text ≡ None → IsTrue (has_length most text && has_form kind text)
bounded kind most bound text ok =
    let parts = text_parts kind text ok in
    let short : nat_lt most (length text) ≡ false = sym (ap (λ o. option_map_or (λ m. nat_lt m (length text)) o false) bound) ∙ parts.1 in
    and_from (has_length most text) (has_form kind text) (within (length text) most parts.0 short) parts.2

-- a text that is told to break none
pub takes_accepted : (kind : TextKind) (test : List ℕ → Bool) → Takes kind test → (text : List ℕ) → is_none (text_rule kind text) ≡ true → IsTrue (test (stored kind text))
takes_accepted kind test takes text accepted = takes text (no_rule (text_rule kind text) accepted)
  where
    no_rule : (o : Option Rule) → is_none o ≡ true → o ≡ None
    no_rule None none = refl
    no_rule (Some rule) none = cc

pub takes_name : Takes text_kind.Name is_name
takes_name text ok = bounded text_kind.Name 255 refl text ok

pub takes_free_text : Takes text_kind.FreeText is_free_text
takes_free_text text ok = bounded text_kind.FreeText 255 refl text ok

pub takes_long_text : Takes text_kind.LongText (is_text_within 65536)
takes_long_text text ok = bounded text_kind.LongText 65536 refl text ok

pub takes_username : Takes text_kind.Username is_username
takes_username text ok = bounded text_kind.Username 255 refl text ok

pub takes_host : Takes text_kind.Host is_host
takes_host text ok = bounded text_kind.Host 255 refl text ok

pub takes_path : Takes text_kind.Path is_normal_path
takes_path text ok = (text_parts text_kind.Path text ok).2

pub takes_method : Takes text_kind.Method is_method
takes_method text ok = bounded text_kind.Method 255 refl text ok

pub takes_key_name : Takes text_kind.Token is_key_name
takes_key_name text ok = bounded text_kind.Token 255 refl text ok

pub takes_block : Takes text_kind.AddressBlock is_ipv4_block
takes_block text ok = (text_parts text_kind.AddressBlock text ok).2

pub takes_edit : Takes text_kind.Edit is_edit
takes_edit text ok = bounded text_kind.Edit 255 refl text ok

pub takes_header_edit : Takes text_kind.HeaderEdit is_header_edit
takes_header_edit text ok = bounded text_kind.HeaderEdit 255 refl text ok

pub takes_header_rename : Takes text_kind.HeaderRename is_header_rename
takes_header_rename text ok = bounded text_kind.HeaderRename 255 refl text ok

pub takes_route_path : Takes text_kind.RoutePath is_route_path
takes_route_path text ok =
    let parts = and_parts (has_length 256 text) (has_form text_kind.RoutePath text) (bounded text_kind.RoutePath 256 refl text ok) in
    and_from (nat_le (length text) 256) (has_form text_kind.RoutePath text) (and_parts (nat_lt 0 (length text)) (nat_le (length text) 256) parts.0).1 parts.1

-- ---- lists of texts

-- of four tests in a row none told a rule
list_parts : (empty longer form distinct : Bool)
    → (if empty then Some Empty else (if longer then Some OutOfRange else (if not form then Some Syntax else (if not distinct then Some Repeated else None)))) ≡ None
    → (empty ≡ false) × (longer ≡ false) × (form ≡ true) × (distinct ≡ true)
list_parts true longer form distinct h = cc
list_parts false true form distinct h = cc
list_parts false false false distinct h = cc
list_parts false false true false h = cc
list_parts false false true true h = (refl, refl, refl, refl)

pub breaks_none : (kind : TextKind) (text : List ℕ) → (length text == 0) ≡ false → is_longer kind text ≡ false → has_form kind text ≡ true → text_rule kind text ≡ None
breaks_none kind text some short form = rw (some, short, form) refl

-- each text of a list, from the tests of all of them
each_passes : (kind : TextKind) (test : List ℕ → Bool) → Takes kind test → (texts : List (List ℕ))
    → list_any (λ text. length text == 0) texts ≡ false → list_any (is_longer kind) texts ≡ false → list_all (has_form kind) texts ≡ true
    → list_all test (map (stored kind) texts) ≡ true
each_passes kind test takes [] some short form = refl
each_passes kind test takes (text ∷ texts) some short form =
    let some_parts = or_parts (length text == 0) (list_any (λ t. length t == 0) texts) some in
    let short_parts = or_parts (is_longer kind text) (list_any (is_longer kind) texts) short in
    let form_parts = and_parts (has_form kind text) (list_all (has_form kind) texts) form in
    and_from (test (stored kind text)) (list_all test (map (stored kind) texts))
    (takes text (breaks_none kind text some_parts.0 short_parts.0 form_parts.0))
    (each_passes kind test takes texts some_parts.1 short_parts.1 form_parts.1)

few : (n m : ℕ) → n ≡ m → nat_lt 64 m ≡ false → nat_le n 64 ≡ true
few n m same short = grind (arith, nat_tests)

-- a list that breaks no rule, as it is stored
pub list_ok : (kind : TextKind) (test : List ℕ → Bool) → Takes kind test → (texts : List (List ℕ)) → list_rule kind texts ≡ None → IsTrue (is_list_of test (map (stored kind) texts))
list_ok kind test takes texts ok =
    let parts = list_parts (list_any (λ text. length text == 0) texts) (nat_lt 64 (length texts) || list_any (is_longer kind) texts) (list_all (has_form kind) texts) (are_distinct (map (stored kind) texts)) (sym (list_steps kind texts) ∙ ok) in
    let short = or_parts (nat_lt 64 (length texts)) (list_any (is_longer kind) texts) parts.1 in
    let all_pass = each_passes kind test takes texts parts.0 short.1 parts.2 in
    let not_many = few (length (map (stored kind) texts)) (length texts) (length-map texts (stored kind)) short.0 in
    and_from (list_all test (map (stored kind) texts) && nat_le (length (map (stored kind) texts)) 64) (are_distinct (map (stored kind) texts))
    (and_from (list_all test (map (stored kind) texts)) (nat_le (length (map (stored kind) texts)) 64) all_pass not_many)
    parts.3

-- the list that a body sets: none is a list too
pub texts_ok : (kind : TextKind) (test : List ℕ → Bool) → Takes kind test → (name : List ℕ) (body : Data) → IsTrue (is_list_of test (texts_at kind name body))
texts_ok kind test takes name body = read (value_at (shape.Texts kind) name body) (value_ok (shape.Texts kind) name body)
  where
    as_texts : (o : Option (List (List ℕ))) → typed (list_rule kind) o ≡ None → IsTrue (is_list_of test (option_map_or (map (stored kind)) o []))
    as_texts None ok = refl
    as_texts (Some texts) ok = list_ok kind test takes texts ok

    read : (o : Option Data) → IfSome o (λ d. shape_rule (shape.Texts kind) d ≡ None) → IsTrue (is_list_of test (option_map_or (map (stored kind)) (option_and_then texts_of o) []))
    read None ok = refl
    read (Some d) ok = as_texts (texts_of d) ok
