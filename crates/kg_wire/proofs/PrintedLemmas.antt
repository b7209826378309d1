-- A printed upstream message is read as its parts.
use Rattle.std.proofs.Common.{◌≡◌, ℕ, suc, ◌+◌, ◌<◌, ◌≤◌, ◌^◌, ◌==◌, nat_lt, nat_le, if◌then◌else◌, Bool, true, false, ◌&&◌, cond, List, [], ◌∷◌, ◌++◌, length, map, reverse, get_or, Some, None, Ok, Err, refl, sym, ap, ◌∙◌, subst, arith, Option}
use Rattle.std.specs.Prelude.{All, IsTrue, codes, count_by, decimal, find, option_map, slice_index}
use Rattle.std.specs.Int.{IsInRange}
use Rattle.std.specs.Result.{result_unwrap_or}
use Rattle.std.specs.List.{flat_map, list_all, before_first, after_first, position_or_len, prefix_len}
use Rattle.std.specs.Char.{is_ascii_digit, is_ascii_graphic}
use Rattle.std.specs.Net.Text.{ipv4_text}
use Rattle.std.specs.Str.{str_to_ascii_lowercase}
use Rattle.std.proofs.lemmas.Bool.{eqb-true}
use Rattle.std.proofs.lemmas.Bool.Decides.{nat_tests}
use Rattle.std.proofs.lemmas.Str.Parse.{digit_at}
use Rattle.std.proofs.lemmas.Fmt.{decimal_is_IsNumeral, decimal_nonempty, length-decimal-le}
use Rattle.std.proofs.lemmas.List.{get_or_default, append_assoc, take_all, length-reverse, reverse-append}
use Rattle.std.proofs.lemmas.List.Elements.{All-nil, All-cons, All-from_recursion, All-head, All-tail, All-append, All-map, All-weaker}
use Rattle.std.proofs.lemmas.List.Sums.{sum_by-append, sum_by-cons, AllPass-from_list_all, list_all-from_AllPass, split_at_first, passes_at_first, prefix_len_passes}
use Rattle.std.proofs.lemmas.Str.{IsUtf8-from_ascii}
use Rattle.std.proofs.lemmas.Str.Ascii.{IsAscii-from_all}
use Rattle.httparse.specs.Grammar.{AllPass, IsToken, is_token_byte, is_uri_byte, is_value_byte, is_ows, skip_ows, trim_ows, crlf, Field, IsField as IsFieldLine, print_field, print_version, print_end, RequestHead, IsRequestHead, print_request}
use Rattle.httparse.specs.Spans.{name_and_value}
use Rattle.httparse.proofs.TrimLemmas.{AllPass-reverse, trim_ows_space}
use Rattle.kg_text.specs.Names.{is_tchar, is_token, IsName}
use Rattle.kg_text.specs.Paths.{slash, is_path, is_path_byte, normal_form}
use Rattle.kg_message.specs.HeaderLists.{is_named, values_named}
use Rattle.kg_message.specs.declared.header.Header.{Header}
use Rattle.kg_message.specs.declared.request.Request.{Request}
use Rattle.kg_wire.proofs.StatedLemmas.{zero_stated, one_stated}
use Rattle.kg_wire.specs.Checks.{body_len, length_of, has_host, is_framed, named_count, stated_length as length_of_values}
use Rattle.kg_wire.specs.declared.head.Head.{Head}
use Rattle.kg_print.specs.FieldLines.{content_length, stated_length, connection, field_line, field_lines, line_end}
use Rattle.kg_wire.specs.Messages.{most_head, most_body, Message, header_of, head_of, request_with}
use Rattle.kg_wire.specs.Targets.{is_question, is_query_byte, is_target, target_path, target_query}
use Rattle.kg_print.specs.UpstreamText.{forwarded_for, forwarded_value, client_fields, sent_fields, upstream_head}
use Rattle.kg_wire.specs.ValidParts.{IsValue, IsField, HasNone, IsAddress, AreParts, IsReadBack}
use Rattle.kg_wire.proofs.ChecksLemmas.{both}
use Rattle.kg_print.proofs.UpstreamLemmas.{joined_values}
use Rattle.kg_wire.proofs.ValueLemmas.{is_dense, skip_short, ends_of, trimmed_from, skip_none, skip_dense, dense_value, decimal_dense, address_dense, address_some}

-- ---- field lines

-- the line that a field is written as
abbrev field_of : Header → Field
field_of field = record { name = field.name; raw = 32 ∷ field.value; end = crlf }

line_is : (field : Header) → print_field (field_of field) ≡ field_line field
unfolding field_line
line_is field = simp append_assoc refl

lines_are : (fields : List Header) → flat_map print_field (map field_of fields) ≡ field_lines fields
lines_are [] = refl
lines_are (field ∷ fields) =
    ap (λ line. line ++ flat_map print_field (map field_of fields)) (line_is field)
    ∙ ap (λ rest. field_line field ++ rest) (lines_are fields)

-- a token of this project's test is one of the grammar's
token_from : (bytes : List ℕ) → is_token bytes ≡ true → IsToken bytes
unfolding is_token_byte
token_from bytes token =
    let parts = both _ _ token in
    let yes : nat_lt 0 (length bytes) ≡ true = parts.0 in
    let some : 0 < length bytes = grind (arith, nat_tests) in
    let all : prefix_len is_tchar bytes ≡ length bytes = eqb-true _ _ parts.1 in
    (some, λ k d within. prefix_len_passes is_tchar bytes k d (omega arith))

-- a name is a token, in lower case already
name_is : (name : List ℕ) → IsName name → IsToken name × (str_to_ascii_lowercase name ≡ name)
name_is name is = at_test (is_token name) refl is
  where
    at_test : (t : Bool) → is_token name ≡ t
        → (if t then Ok (str_to_ascii_lowercase name) else Err (prefix_len is_tchar name)) ≡ Ok name
        → IsToken name × (str_to_ascii_lowercase name ≡ name)
    at_test true token same = (token_from name token, let lower : Ok (str_to_ascii_lowercase name) ≡ Ok name = same in cc)
    at_test false token same = absurd (cc)

line_passes : (field : Header) → IsField field → IsFieldLine (field_of field)
line_passes field is = record {
  name = (name_is field.name is.name).0;
  raw = All-cons (λ b. IsTrue (is_value_byte b)) 32 field.value refl is.value.bytes;
}

-- the field that is read from its line is the field
field_read : (field : Header) → IsField field → header_of (name_and_value (field_of field)) ≡ field
field_read field is =
    let ends = ends_of field.value is.value.trimmed in
    let value : trim_ows (32 ∷ field.value) ≡ field.value = trim_ows_space field.value ends.0 ends.1 in
    let name : str_to_ascii_lowercase field.name ≡ field.name = (name_is field.name is.name).1 in
    λ i. record { name = name i; value = value i }

fields_read : (fields : List Header) → All IsField fields → map header_of (map name_and_value (map field_of fields)) ≡ fields
fields_read [] all = refl
fields_read (field ∷ fields) all =
    let first = field_read field (All-head IsField field fields all) in
    let rest = fields_read fields (All-tail IsField field fields all) in
    λ i. first i ∷ rest i

-- ---- the target

abbrev graphic : ℕ → Type 0
graphic b = is_ascii_graphic b ≡ true

path_byte_is_graphic : (b : ℕ) → is_path_byte b ≡ true → graphic b
path_byte_is_graphic b passes = (both _ _ passes).0

query_byte_is_graphic : (b : ℕ) → is_query_byte b ≡ true → graphic b
query_byte_is_graphic b passes = (both _ _ passes).0

question_is_graphic : (b : ℕ) → is_question b ≡ true → graphic b
question_is_graphic b passes = grind (arith, nat_tests)

graphic_is_uri_byte : (b : ℕ) → graphic b → is_uri_byte b ≡ true
graphic_is_uri_byte b is = let passes : is_ascii_graphic b ≡ true = is in grind (arith, nat_tests)

graphic_is_ascii : (b : ℕ) → graphic b → b < 128
graphic_is_ascii b is = let passes : is_ascii_graphic b ≡ true = is in grind (arith, nat_tests)

-- each byte of a target is visible ASCII
target_graphic : (target : List ℕ) → is_target target ≡ true → All graphic target
target_graphic target is = at_test (nat_lt (position_or_len is_question target) (length target)) refl
  where
    whole_path : is_path (target_path target) ≡ true
    whole_path = (both (is_path (target_path target)) (list_all is_query_byte (after_first is_question target)) is).0

    path : All graphic (before_first is_question target)
    path = All-weaker (λ b. IsTrue (is_path_byte b)) graphic path_byte_is_graphic (before_first is_question target)
        (AllPass-from_list_all is_path_byte (before_first is_question target)
        (both (slice_index (before_first is_question target) 0 == slash) (list_all is_path_byte (before_first is_question target)) whole_path).1)

    query : All graphic (after_first is_question target)
    query = All-weaker (λ b. IsTrue (is_query_byte b)) graphic query_byte_is_graphic (after_first is_question target)
        (AllPass-from_list_all is_query_byte (after_first is_question target)
        (both (is_path (target_path target)) (list_all is_query_byte (after_first is_question target)) is).1)

    at_test : (t : Bool) → nat_lt (position_or_len is_question target) (length target) ≡ t → All graphic target
    at_test true less =
        let inside : position_or_len is_question target < length target = grind (arith, nat_tests) in
        let byte = get_or target (position_or_len is_question target) 0 in
        let mark = question_is_graphic byte (passes_at_first is_question target 0 inside) in
        subst (All graphic) (sym (split_at_first is_question target 0 inside))
        (All-append graphic (before_first is_question target) (byte ∷ after_first is_question target) path
        (All-cons graphic byte (after_first is_question target) mark query))
    at_test false not_less =
        let past : length target ≤ position_or_len is_question target = grind (arith, nat_tests) in
        subst (All graphic) (take_all (position_or_len is_question target) target past) path

target_some : (target : List ℕ) → is_target target ≡ true → 0 < length target
target_some [] is = absurd (cc)
target_some (b ∷ bs) is = omega arith

-- ---- the fields that are sent

-- the values of x-forwarded-for, each with a comma behind it, are bytes of a value
values_bytes : (fields : List Header) → All IsField fields → AllPass is_value_byte (flat_map forwarded_value fields)
values_bytes [] all = All-nil (λ b. IsTrue (is_value_byte b))
values_bytes (field ∷ fields) all =
    let V = λ (b : ℕ). IsTrue (is_value_byte b) in
    All-append V _ _ (one (is_named (codes "x-forwarded-for") field)) (values_bytes fields (All-tail IsField field fields all))
  where
    one : (t : Bool) → AllPass is_value_byte (if t then field.value ++ codes ", " else [])
    one true =
        All-append (λ b. IsTrue (is_value_byte b)) field.value (codes ", ") (All-head IsField field fields all).value.bytes
        (AllPass-from_list_all is_value_byte (codes ", ") refl)
    one false = All-nil (λ b. IsTrue (is_value_byte b))

-- a value and a comma, in front of anything, begin with no blank
value_front : (value rest last : List ℕ) → skip_ows value ≡ value
    → skip_ows (((value ++ codes ", ") ++ rest) ++ last) ≡ ((value ++ codes ", ") ++ rest) ++ last
value_front [] rest last front = skip_none 44 _ refl
value_front (b ∷ bs) rest last front = at_test (is_ows b) refl
  where
    at_test : (t : Bool) → is_ows b ≡ t
        → skip_ows ((((b ∷ bs) ++ codes ", ") ++ rest) ++ last) ≡ (((b ∷ bs) ++ codes ", ") ++ rest) ++ last
    at_test true blank =
        let kept : skip_ows bs ≡ b ∷ bs = rw blank at front in
        let len : length (skip_ows bs) ≡ suc (length bs) = ap length kept in
        absurd (omega (arith, skip_short bs))
    at_test false other = skip_none b (((bs ++ codes ", ") ++ rest) ++ last) other

-- nor do the values, where bytes that begin with none stand behind them
values_front : (fields : List Header) (last : List ℕ) → All IsField fields → skip_ows last ≡ last
    → skip_ows (flat_map forwarded_value fields ++ last) ≡ flat_map forwarded_value fields ++ last
values_front [] last all dense = dense
values_front (field ∷ fields) last all dense =
    one (values_front fields last (All-tail IsField field fields all) dense) (is_named (codes "x-forwarded-for") field)
  where
    one : skip_ows (flat_map forwarded_value fields ++ last) ≡ flat_map forwarded_value fields ++ last → (t : Bool)
        → skip_ows (((if t then field.value ++ codes ", " else []) ++ flat_map forwarded_value fields) ++ last)
        ≡ ((if t then field.value ++ codes ", " else []) ++ flat_map forwarded_value fields) ++ last
    one later true =
        value_front field.value (flat_map forwarded_value fields) last
        (ends_of field.value (All-head IsField field fields all).value.trimmed).0
    one later false = later

-- a value behind others, each with a comma behind it
behind_values : (fields : List Header) (last : List ℕ) → All IsField fields → 0 < length last → AllPass is_dense last
    → IsValue (flat_map forwarded_value fields ++ last)
behind_values fields last all some dense = record {
  bytes = All-append (λ b. IsTrue (is_value_byte b)) _ _ (values_bytes fields all) (dense_value last some dense).bytes;
  trimmed = trimmed_from _ front back;
}
  where
    front : skip_ows (flat_map forwarded_value fields ++ last) ≡ flat_map forwarded_value fields ++ last
    front = values_front fields last all (ends_of last (dense_value last some dense).trimmed).0

    back : skip_ows (reverse (flat_map forwarded_value fields ++ last)) ≡ reverse (flat_map forwarded_value fields ++ last)
    back = subst (λ w. skip_ows w ≡ w) (sym (reverse-append (flat_map forwarded_value fields) last))
        (skip_dense (reverse last) (reverse (flat_map forwarded_value fields)) (omega (arith, some, length-reverse last)) (AllPass-reverse is_dense last dense))

-- the value of x-forwarded-for is a value
forwarded_value_is : (fields : List Header) (octets : List ℕ) → All IsField fields → IsAddress octets
    → IsValue (forwarded_for fields (ipv4_text octets))
forwarded_value_is fields octets all is =
    subst IsValue (joined_values fields (ipv4_text octets))
    (behind_values fields (ipv4_text octets) all (address_some octets is) (address_dense octets is))

literal_value : (text : List ℕ) → 0 < length text → list_all is_dense text ≡ true → IsValue text
literal_value text some dense = dense_value text some (AllPass-from_list_all is_dense text dense)

stated_fields : (framed : Bool) (body : List ℕ) → length body ≤ most_body → All IsField (stated_length framed body)
stated_fields false body short = All-nil IsField
stated_fields true body short =
    let small : length body < 2 ^ 64 = omega arith in
    All-cons IsField (content_length body) []
    (record { name = refl; value = dense_value (decimal (length body)) (decimal_nonempty (length body) small) (decimal_dense (length body) small) })
    (All-nil IsField)

-- the fields that tell of the client
client_passes : (request : Request) → IsValue request.host → All IsField request.headers → IsAddress request.address
    → All IsField (client_fields request)
client_passes request host fields address =
    All-from_recursion IsField (client_fields request) (
      record { name = refl; value = forwarded_value_is request.headers request.address fields address },
      (
        record { name = refl; value = literal_value (codes "http") (omega arith) refl },
        (
          record { name = refl; value = host },
          (
            record { name = refl; value = dense_value (ipv4_text request.address) (address_some request.address address) (address_dense request.address address) },
            tt,
          ),
        ),
      ),
    )

-- each field that is sent is as it is read
sent_passes : (method target host : List ℕ) (request : Request) (headers : List Header) → AreParts method target host request headers
    → All IsField (sent_fields host request headers)
sent_passes method target host request headers are =
    let own : Header = record { name = codes "host"; value = host } in
    let close : Header = connection (codes "close") in
    let stated : List Header = stated_length request.framed request.body in
    let own_is : IsField own = record { name = refl; value = are.host_is } in
    let close_is : IsField close = record { name = refl; value = literal_value (codes "close") (omega arith) refl } in
    All-append IsField (own ∷ headers ++ client_fields request ++ stated) (close ∷ [])
    (All-append IsField (own ∷ headers ++ client_fields request) stated
    (All-append IsField (own ∷ headers) (client_fields request) (All-cons IsField own headers own_is are.headers_are)
    (client_passes request are.client_host are.client_fields are.address))
    (stated_fields request.framed request.body are.short_body))
    (All-cons IsField close [] close_is (All-nil IsField))

-- ---- how often a name stands among them

-- a count over lists that are joined
count_joined : (p : Header → Bool) (xs ys : List Header) → count_by p (xs ++ ys) ≡ count_by p xs + count_by p ys
count_joined p xs ys = sum_by-append (λ field. cond (p field) 1 0) xs ys

count_parts : (p : Header → Bool) (host close : Header) (headers client stated : List Header)
    → count_by p (host ∷ headers ++ client ++ stated ++ close ∷ [])
    ≡ count_by p (host ∷ []) + count_by p headers + count_by p client + count_by p stated + count_by p (close ∷ [])
count_parts p host close headers client stated =
    count_joined p (host ∷ headers ++ client ++ stated) (close ∷ [])
    ∙ ap (λ n. n + count_by p (close ∷ [])) (count_joined p (host ∷ headers ++ client) stated
    ∙ ap (λ n. n + count_by p stated) (count_joined p (host ∷ headers) client
    ∙ ap (λ n. n + count_by p client) (count_joined p (host ∷ []) headers)))

host_count : (host : List ℕ) (request : Request) (headers : List Header) → HasNone (codes "host") headers
    → count_by (is_named (codes "host")) (sent_fields host request headers) ≡ 1
host_count host request headers none =
    let parts = count_parts (is_named (codes "host")) (record { name = codes "host"; value = host }) (connection (codes "close")) headers
    (client_fields request) (stated_length request.framed request.body) in
    let own : count_by (is_named (codes "host")) (record { name = codes "host"; value = host } ∷ []) ≡ 1 = refl in
    let client : count_by (is_named (codes "host")) (client_fields request) ≡ 0 = refl in
    let close : count_by (is_named (codes "host")) (connection (codes "close") ∷ []) ≡ 0 = refl in
    parts ∙ omega (arith, own, client, close, none, stated request.framed)
  where
    stated : (framed : Bool) → count_by (is_named (codes "host")) (stated_length framed request.body) ≡ 0
    stated true = refl
    stated false = refl

coding_count : (host : List ℕ) (request : Request) (headers : List Header) → HasNone (codes "transfer-encoding") headers
    → count_by (is_named (codes "transfer-encoding")) (sent_fields host request headers) ≡ 0
coding_count host request headers none =
    let parts = count_parts (is_named (codes "transfer-encoding")) (record { name = codes "host"; value = host }) (connection (codes "close")) headers
    (client_fields request) (stated_length request.framed request.body) in
    let own : count_by (is_named (codes "transfer-encoding")) (record { name = codes "host"; value = host } ∷ []) ≡ 0 = refl in
    let client : count_by (is_named (codes "transfer-encoding")) (client_fields request) ≡ 0 = refl in
    let close : count_by (is_named (codes "transfer-encoding")) (connection (codes "close") ∷ []) ≡ 0 = refl in
    parts ∙ omega (arith, own, client, close, none, stated request.framed)
  where
    stated : (framed : Bool) → count_by (is_named (codes "transfer-encoding")) (stated_length framed request.body) ≡ 0
    stated true = refl
    stated false = refl

length_count : (host : List ℕ) (request : Request) (headers : List Header) → HasNone (codes "content-length") headers
    → count_by (is_named (codes "content-length")) (sent_fields host request headers) ≡ cond request.framed 1 0
length_count host request headers none =
    let parts = count_parts (is_named (codes "content-length")) (record { name = codes "host"; value = host }) (connection (codes "close")) headers
    (client_fields request) (stated_length request.framed request.body) in
    let own : count_by (is_named (codes "content-length")) (record { name = codes "host"; value = host } ∷ []) ≡ 0 = refl in
    let client : count_by (is_named (codes "content-length")) (client_fields request) ≡ 0 = refl in
    let close : count_by (is_named (codes "content-length")) (connection (codes "close") ∷ []) ≡ 0 = refl in
    parts ∙ omega (arith, own, client, close, none, stated request.framed)
  where
    stated : (framed : Bool) → count_by (is_named (codes "content-length")) (stated_length framed request.body) ≡ cond framed 1 0
    stated true = refl
    stated false = refl

-- ---- the length that is printed

-- what is found in the front is found in the whole
found_first : (p : Header → Bool) (xs ys : List Header) (y : Header) → find p xs ≡ Some y → find p (xs ++ ys) ≡ Some y
found_first p [] ys y is = absurd (cc)
found_first p (x ∷ xs) ys y is = at_test (found_first p xs ys y) (p x) is
  where
    at_test : (find p xs ≡ Some y → find p (xs ++ ys) ≡ Some y) → (t : Bool)
        → cond t (Some x) (find p xs) ≡ Some y → cond t (Some x) (find p (xs ++ ys)) ≡ Some y
    at_test later true is = is
    at_test later false is = later is

-- what isn't found in the front is found behind it
found_later : (p : Header → Bool) (xs ys : List Header) → count_by p xs ≡ 0 → find p (xs ++ ys) ≡ find p ys
found_later p [] ys none = refl
found_later p (x ∷ xs) ys none =
    at_test (found_later p xs ys) (p x) (sym (sum_by-cons (λ field. cond (p field) 1 0) x xs) ∙ none)
  where
    at_test : (count_by p xs ≡ 0 → find p (xs ++ ys) ≡ find p ys) → (t : Bool)
        → cond t 1 0 + count_by p xs ≡ 0 → cond t (Some x) (find p (xs ++ ys)) ≡ find p ys
    at_test later true some = absurd (omega arith)
    at_test later false none = later (omega arith)

length_found : (host : List ℕ) (request : Request) (headers : List Header) → HasNone (codes "content-length") headers
    → request.framed ≡ true
    → find (is_named (codes "content-length")) (sent_fields host request headers) ≡ Some (content_length request.body)
length_found host request headers none framed =
    let p = is_named (codes "content-length") in
    let own : Header = record { name = codes "host"; value = host } in
    let before : List Header = own ∷ headers ++ client_fields request in
    let own_none : count_by p (own ∷ []) ≡ 0 = refl in
    let client_none : count_by p (client_fields request) ≡ 0 = refl in
    let joined = count_joined p (own ∷ headers) (client_fields request) in
    let front = count_joined p (own ∷ []) headers in
    let none_before : count_by p before ≡ 0 = omega (arith, none) in
    let here : find p (stated_length request.framed request.body) ≡ Some (content_length request.body) = rw framed refl in
    found_first p (before ++ stated_length request.framed request.body) (connection (codes "close") ∷ []) (content_length request.body)
    (found_later p before (stated_length request.framed request.body) none_before ∙ here)

-- a number within the limit is read back from its digits
length_read : (n : ℕ) → n ≤ most_body → length_of (decimal n) ≡ Some n
length_read n fits =
    let small : n < 2 ^ 64 = omega arith in
    let numeral = decimal_is_IsNumeral n small in
    let some : nat_lt 0 (length (decimal n)) ≡ true = let more = numeral.0.0 in grind (arith, nat_tests) in
    let len : length (decimal n) ≤ 19 = length-decimal-le 19 n (omega arith) (omega arith) small in
    let short : nat_le (length (decimal n)) 19 ≡ true = grind (arith, nat_tests) in
    let digits : list_all is_ascii_digit (decimal n) ≡ true =
    list_all-from_AllPass is_ascii_digit (decimal n) (λ k d within.
    let digit = digit_at (decimal n) k numeral.0.1 within in
    digit_of (get_or (decimal n) k d) (subst (λ b. IsInRange 48 57 b) (get_or_default (decimal n) k 0 d within) digit)) in
    rw (some, short, digits) (ap Some numeral.1)
  where
    digit_of : (b : ℕ) → IsInRange 48 57 b → is_ascii_digit b ≡ true
    digit_of b is = let low = is.0 in let high = is.1 in grind (arith, nat_tests)

-- ---- the message

-- the head that is printed
abbrev printed_head : List ℕ → List ℕ → List Header → RequestHead
printed_head method target fields = record {
  blank = [];
  method = method;
  target = target;
  minor = 1;
  line_end = crlf;
  fields = map field_of fields;
  last = crlf;
}

-- the first line, part by part
first_line : (method target : List ℕ)
    → method ++ 32 ∷ target ++ 32 ∷ print_version 1 ++ print_end crlf ≡ method ++ codes " " ++ target ++ codes " HTTP/1.1\r\n"
first_line method target = simp append_assoc refl

arranged : (first lines : List ℕ) (method target : List ℕ) → first ≡ method ++ codes " " ++ target ++ codes " HTTP/1.1\r\n"
    → first ++ (lines ++ print_end crlf) ≡ method ++ codes " " ++ target ++ codes " HTTP/1.1\r\n" ++ lines ++ line_end
arranged first lines method target is =
    ap (λ front. front ++ (lines ++ print_end crlf)) is
    ∙ sym (append_assoc (method ++ codes " " ++ target ++ codes " HTTP/1.1\r\n") lines line_end)

head_text : (method target : List ℕ) (fields : List Header)
    → print_request (printed_head method target fields)
    ≡ method ++ codes " " ++ target ++ codes " HTTP/1.1\r\n" ++ field_lines fields ++ line_end
unfolding print_request
head_text method target fields =
    ap (λ lines. method ++ 32 ∷ target ++ 32 ∷ print_version 1 ++ print_end crlf ++ (lines ++ print_end crlf)) (lines_are fields)
    ∙ arranged (method ++ 32 ∷ target ++ 32 ∷ print_version 1 ++ print_end crlf) (field_lines fields) method target (first_line method target)

head_passes : (method target host : List ℕ) (request : Request) (headers : List Header) → AreParts method target host request headers
    → IsRequestHead (printed_head method target (sent_fields host request headers))
head_passes method target host request headers are =
    let bytes = target_graphic target are.target_is in
    record {
      method = are.method_is;
      target = (
        target_some target are.target_is,
        All-weaker graphic (λ b. IsTrue (is_uri_byte b)) graphic_is_uri_byte target bytes,
      );
      target_text = IsUtf8-from_ascii target (IsAscii-from_all target (λ k d within. graphic_is_ascii (get_or target k d) (bytes k d within)));
      minor = omega arith;
      fields = All-map IsFieldLine field_of (sent_fields host request headers)
          (All-weaker IsField (λ field. IsFieldLine (field_of field)) line_passes (sent_fields host request headers) (sent_passes method target host request headers are));
    }

-- the parts of the head
abbrev read_head : List ℕ → List ℕ → List Header → Head
read_head method target fields = record { method = method; target = target; minor = 1; headers = fields }

head_read : (method target : List ℕ) (fields : List Header) → All IsField fields
    → head_of (printed_head method target fields) ≡ read_head method target fields
head_read method target fields all =
    let same = fields_read fields all in
    λ i. record { method = method; target = target; minor = 1; headers = same i }

-- a head that passes states this length
states : (target host : Bool) (codings n : ℕ) (stated : Option ℕ) → target ≡ true → host ≡ true → codings ≡ 0
    → stated ≡ Some n → (if target && host && codings == 0 then stated else None) ≡ Some n
states target host codings n stated target_is host_is codings_is states_n =
    rw (target_is, host_is, codings_is) states_n

-- what one such field, or none, states
fields_state : (fields : List Header) (framed : Bool) (body : List ℕ) → length body ≤ most_body
    → count_by (is_named (codes "content-length")) fields ≡ cond framed 1 0
    → (framed ≡ false → body ≡ [])
    → (framed ≡ true → find (is_named (codes "content-length")) fields ≡ Some (content_length body))
    → length_of_values (values_named (codes "content-length") fields) ≡ Some (length body)
fields_state fields false body short count unframed found =
    zero_stated (is_named (codes "content-length")) fields count ∙ ap (λ bytes. Some (length bytes)) (sym (unframed refl))
fields_state fields true body short count unframed found =
    one_stated (is_named (codes "content-length")) fields (content_length body).value
    (ap (option_map (λ field. field.value)) (found refl)) count
    ∙ length_read (length body) short

head_states : (method target host : List ℕ) (request : Request) (headers : List Header) → AreParts method target host request headers
    → body_len (read_head method target (sent_fields host request headers)) ≡ Some (length request.body)
head_states method target host request headers are =
    let head = read_head method target (sent_fields host request headers) in
    let hosts : has_host head ≡ true = rw (host_count host request headers are.no_host) refl in
    states (is_target target) (has_host head) (named_count (codes "transfer-encoding") head)
    (length request.body) (length_of_values (values_named (codes "content-length") head.headers))
    are.target_is hosts (coding_count host request headers are.no_coding)
    (fields_state (sent_fields host request headers) request.framed request.body are.short_body
    (length_count host request headers are.no_length) are.unframed (length_found host request headers are.no_length))

head_framed : (method target host : List ℕ) (request : Request) (headers : List Header) → HasNone (codes "content-length") headers
    → is_framed (read_head method target (sent_fields host request headers)) ≡ request.framed
head_framed method target host request headers none =
    ap (nat_lt 0) (length_count host request headers none) ∙ by_framed request.framed
  where
    by_framed : (framed : Bool) → nat_lt 0 (cond framed 1 0) ≡ framed
    by_framed true = refl
    by_framed false = refl

-- a message that is printed from such parts is read as them
pub printed_is_read : (method target host : List ℕ) (request : Request) (headers : List Header) → AreParts method target host request headers
    → (m : Message) × IsReadBack method target host request headers m
printed_is_read method target host request headers are =
    let fields = sent_fields host request headers in
    let head = printed_head method target fields in
    let same = head_read method target fields (sent_passes method target host request headers are) in
    let framed = head_framed method target host request headers are.no_length in
    let text : print_request head ≡ upstream_head method target host request headers = head_text method target fields in (
      record { head = head; body = request.body },
      record {
        is = record {
          message = record {
            grammar = head_passes method target host request headers are;
            framed = ap body_len same ∙ head_states method target host request headers are;
          };
          short_head = subst (λ bytes. length bytes ≤ most_head) (sym text) are.short_head;
          short_body = are.short_body;
        };
        text = ap (λ bytes. bytes ++ request.body) text;
        reads = λ address. ap (λ read. request_with address read request.body) same ∙ (λ i. record {
          method = method;
          path = result_unwrap_or (normal_form (target_path target)) [];
          query = target_query target;
          minor = 1;
          host = host;
          headers = fields;
          body = request.body;
          framed = framed i;
          address = address;
        });
      },
    )
