-- What is shown of rows has no float: of a row, and of a page of rows.
use Rattle.std.proofs.Common.{◌≡◌, ◌==◌, ℕ, ◌-◌, Bool, true, false, ◌||◌, ◌&&◌, cond, List, [], ◌∷◌, fold, length, map, codes, slice_get, Option, Some, None, Ordering, Less, Equal, Greater, refl, true≢false, ℤ, pos, negsuc}
use Rattle.std.specs.Bool.{⊤}
use Rattle.std.specs.Cmp.Lexicographic.{slice_cmp}
use Rattle.std.specs.Ordering.{nat_cmp, match_ordering}
use Rattle.serde_json.specs.Data.{Data, Members, no_members, member, null, array, object, string, number, put}
use Rattle.serde_json.specs.Find.{of_integer}
use Rattle.serde_json.specs.View.{items_of}
use Rattle.serde_json.specs.Written.{has_float, items_have_float, members_have_float}
use Rattle.kg_admin.specs.AdminResponses.{next_after, next_page, page_object}
use Rattle.kg_row_types.specs.declared.config.Config.{Config}
use Rattle.kg_row_types.specs.declared.config.Config.TheVariants as config_of
use Rattle.kg_row_types.specs.declared.config.Edits.{Edits}
use Rattle.kg_row_types.specs.declared.entity.Entity.{Entity}
use Rattle.kg_row_types.specs.declared.entity.Entity.TheVariants as row_of
use Rattle.kg_row_types.specs.declared.route.HeaderTest.{HeaderTest}
use Rattle.kg_shown_rows.specs.Shown.{protocols_of, row_members, shown, shown_headers, with_values}
use Rattle.kg_shown_rows.specs.ShownConfigs.{config_members, shown_config, shown_edits, shown_header_edits}
use Rattle.kg_shown_rows.specs.ShownParts.{Named, members_of, object_of, shown_link, shown_option, shown_text, shown_texts}

abbrev IsWhole : Data → Type 0
IsWhole d = has_float d ≡ false

-- ---- truth values

either : (a b : Bool) → a ≡ false → b ≡ false → (a || b) ≡ false
either true b wrong none = wrong
either false b first none = none

first_of : (a b : Bool) → (a || b) ≡ false → a ≡ false
first_of true b wrong = wrong
first_of false b none = refl

second_of : (a b : Bool) → (a || b) ≡ false → b ≡ false
second_of true b wrong = absurd (true≢false wrong)
second_of false b none = none

unless_null : (empty : Bool) (d : Data) → IsWhole d → IsWhole (cond empty null d)
unless_null true d whole = refl
unless_null false d whole = whole

-- ---- objects

abbrev AreWhole : Named → Type 0
AreWhole [] = ⊤
AreWhole (m ∷ ms) = IsWhole m.1 × AreWhole ms

members_whole : (ms : Named) → AreWhole ms → members_have_float (members_of ms) ≡ false
members_whole [] whole = refl
members_whole (m ∷ ms) whole = either (has_float m.1) (members_have_float (members_of ms)) whole.0 (members_whole ms whole.1)

put_at : (o : Ordering) (k l : List ℕ) (d e : Data) (ms : Members) → IsWhole d → members_have_float (member l e ms) ≡ false → members_have_float (put k d ms) ≡ false
    → members_have_float (match_ordering o (member k d (member l e ms)) (member l d ms) (member l e (put k d ms))) ≡ false
put_at Less k l d e ms whole none later = either (has_float d) (has_float e || members_have_float ms) whole none
put_at Equal k l d e ms whole none later = either (has_float d) (members_have_float ms) whole (second_of (has_float e) (members_have_float ms) none)
put_at Greater k l d e ms whole none later = either (has_float e) (members_have_float (put k d ms)) (first_of (has_float e) (members_have_float ms) none) later

put_whole : (k : List ℕ) (d : Data) (ms : Members) → IsWhole d → members_have_float ms ≡ false → members_have_float (put k d ms) ≡ false
put_whole k d no_members whole none = either (has_float d) false whole refl
put_whole k d (member l e ms) whole none =
    put_at (slice_cmp nat_cmp k l) k l d e ms whole none (put_whole k d ms whole (second_of (has_float e) (members_have_float ms) none))

-- ---- parts

text_whole : (text : Option (List ℕ)) → IsWhole (shown_text text)
text_whole None = refl
text_whole (Some text) = refl

option_whole : (n : Option ℕ) → IsWhole (shown_option n)
option_whole None = refl
option_whole (Some n) = refl

link_whole : (id : Option ℕ) → IsWhole (shown_link id)
link_whole None = refl
link_whole (Some id) = refl

strings_whole : (texts : List (List ℕ)) → items_have_float (items_of (map string texts)) ≡ false
strings_whole [] = refl
strings_whole (text ∷ texts) = strings_whole texts

texts_whole : (texts : List (List ℕ)) → IsWhole (shown_texts texts)
texts_whole texts = unless_null (length texts == 0) (array (items_of (map string texts))) (strings_whole texts)

headers_after : (tests : List HeaderTest) (before : Members) → members_have_float before ≡ false → members_have_float (fold with_values before tests) ≡ false
headers_after [] before none = none
headers_after (test ∷ tests) before none =
    headers_after tests (with_values before test) (put_whole test.name (shown_texts test.values) before (texts_whole test.values) none)

headers_whole : (tests : List HeaderTest) → IsWhole (shown_headers tests)
headers_whole tests = unless_null (length tests == 0) (object (fold with_values no_members tests)) (headers_after tests no_members refl)

edits_whole : (edits : Edits) → IsWhole (shown_edits edits)
edits_whole edits =
    unless_null (length edits.headers == 0 && length edits.querystring == 0)
    (object_of ((codes "headers", shown_texts edits.headers) ∷ (codes "querystring", shown_texts edits.querystring) ∷ []))
    (members_whole ((codes "headers", shown_texts edits.headers) ∷ (codes "querystring", shown_texts edits.querystring) ∷ [])
    (texts_whole edits.headers, (texts_whole edits.querystring, tt)))

header_edits_whole : (headers : List (List ℕ)) → IsWhole (shown_header_edits headers)
header_edits_whole headers =
    unless_null (length headers == 0) (object_of ((codes "headers", shown_texts headers) ∷ []))
    (members_whole ((codes "headers", shown_texts headers) ∷ []) (texts_whole headers, tt))

priority_whole : (z : ℤ) → IsWhole (number (of_integer z))
priority_whole (pos n) = refl
priority_whole (negsuc n) = refl

-- ---- rows

config_parts : (config : Config) → AreWhole (config_members config)
config_parts (config_of.Cors c) =
    (refl, (texts_whole c.exposed_headers, (texts_whole c.headers, (option_whole c.max_age, (texts_whole c.methods, (texts_whole c.origins, (refl, tt)))))))
config_parts (config_of.KeyAuth c) = (text_whole c.anonymous, (refl, (refl, (refl, (texts_whole c.key_names, tt)))))
config_parts (config_of.BasicAuth c) = (text_whole c.anonymous, (refl, tt))
config_parts (config_of.IpRestriction c) = (texts_whole c.allow, (texts_whole c.deny, tt))
config_parts (config_of.RequestSizeLimiting c) = (refl, (refl, tt))
config_parts (config_of.Acl c) = (texts_whole c.allow, (texts_whole c.deny, (refl, tt)))
config_parts (config_of.RateLimiting c) =
    (option_whole c.day, (refl, (option_whole c.hour, (refl, (option_whole c.minute, (option_whole c.second, tt))))))
config_parts (config_of.RequestTransformer c) =
    (edits_whole c.add, (edits_whole c.append, (edits_whole c.remove, (edits_whole c.rename, (edits_whole c.replace, tt)))))
config_parts (config_of.ResponseTransformer c) =
    (header_edits_whole c.add, (header_edits_whole c.append, (header_edits_whole c.remove, (header_edits_whole c.rename, (header_edits_whole c.replace, tt)))))
config_parts (config_of.RequestTermination c) = (text_whole c.body, (text_whole c.content_type, (text_whole c.message, (refl, tt))))

config_whole : (config : Config) → IsWhole (shown_config config)
config_whole config = members_whole (config_members config) (config_parts config)

row_parts : (row : Entity) → AreWhole (row_members row)
row_parts (row_of.Service r) =
    (refl, (refl, (refl, (refl, (text_whole r.name, (text_whole r.path, (refl, (refl, (refl, (refl, tt))))))))))
row_parts (row_of.Route r) = (
  refl,
  (
    headers_whole r.headers,
    (
      texts_whole r.hosts,
      (
        refl,
        (
          texts_whole r.methods,
          (
            text_whole r.name,
            (
              refl,
              (
                texts_whole r.paths,
                (refl, (texts_whole (protocols_of r.https), (priority_whole r.regex_priority, (refl, (refl, (refl, tt)))))),
              ),
            ),
          ),
        ),
      ),
    ),
  ),
)
row_parts (row_of.Consumer r) = (refl, (text_whole r.custom_id, (refl, (refl, (text_whole r.username, tt)))))
row_parts (row_of.KeyCred r) = (refl, (refl, (refl, (refl, tt))))
row_parts (row_of.BasicCred r) = (refl, (refl, (refl, (refl, (refl, tt)))))
row_parts (row_of.Acl r) = (refl, (refl, (refl, (refl, tt))))
row_parts (row_of.Plugin r) =
    (config_whole r.config, (link_whole r.scope.consumer, (refl, (refl, (refl, (refl, (link_whole r.scope.route, (link_whole r.scope.service, tt))))))))

pub row_whole : (row : Entity) → has_float (shown row) ≡ false
row_whole row = members_whole (row_members row) (row_parts row)

-- ---- pages

rows_whole : (rows : List Entity) → items_have_float (items_of (map shown rows)) ≡ false
rows_whole [] = refl
rows_whole (row ∷ rows) = either (has_float (shown row)) (items_have_float (items_of (map shown rows))) (row_whole row) (rows_whole rows)

after_whole : (path : List ℕ) (size : ℕ) (last : Option Entity) → IsWhole (next_after path size last)
after_whole path size None = refl
after_whole path size (Some last) = refl

next_whole : (path : List ℕ) (size : ℕ) (more : Bool) (rows : List Entity) → IsWhole (next_page path size more rows)
next_whole path size true rows = after_whole path size (slice_get rows (length rows - 1))
next_whole path size false rows = refl

pub page_whole : (path : List ℕ) (size : ℕ) (more : Bool) (rows : List Entity) → has_float (page_object rows (next_page path size more rows)) ≡ false
page_whole path size more rows =
    members_whole ((codes "data", array (items_of (map shown rows))) ∷ (codes "next", next_page path size more rows) ∷ [])
    (rows_whole rows, (next_whole path size more rows, tt))
