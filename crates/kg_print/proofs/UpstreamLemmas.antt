-- The values of x-forwarded-for, joined.
use Rattle.std.proofs.Common.{◌≡◌, ℕ, Bool, true, false, List, [], ◌∷◌, ◌++◌, refl, sym, ap, ◌∙◌, append_assoc}
use Rattle.std.specs.Prelude.{codes, filter, map, if◌then◌else◌}
use Rattle.std.specs.List.{flat_map, join_by}
use Rattle.std.proofs.lemmas.List.{append-nil}
use Rattle.std.proofs.lemmas.Grind.{flat_map-append}
use Rattle.kg_message.specs.declared.header.Header.{Header}
use Rattle.kg_message.specs.declared.request.Request.{Request}
use Rattle.kg_message.specs.HeaderLists.{is_named, values_named}
use Rattle.kg_print.specs.FieldLines.{connection, stated_length, field_line, field_lines, line_end}
use Rattle.kg_print.specs.UpstreamText.{forwarded_for, forwarded_value, client_fields, sent_fields, upstream_text}

-- pieces with the separator before each, or behind each of those that come before the last
shifted : (separator last : List ℕ) (pieces : List (List ℕ))
    → flat_map (λ piece. separator ++ piece) (pieces ++ last ∷ []) ≡ separator ++ (flat_map (λ piece. piece ++ separator) pieces ++ last)
shifted separator last [] = append-nil (separator ++ last)
shifted separator last (piece ∷ pieces) =
    ap (λ rest. (separator ++ piece) ++ rest) (shifted separator last pieces) ∙ simp append_assoc

-- each piece but the last with the separator behind it
joined : (separator last : List ℕ) (pieces : List (List ℕ))
    → join_by (λ piece. piece) separator (pieces ++ last ∷ []) ≡ flat_map (λ piece. piece ++ separator) pieces ++ last
joined separator last [] = append-nil last
joined separator last (piece ∷ pieces) = ap (λ rest. piece ++ rest) (shifted separator last pieces) ∙ simp append_assoc

-- one more field in front, of the name or not
one_more : (named : Bool) (field : Header) (fields : List Header)
    → (if named then field.value ++ codes ", " else []) ++ flat_map (λ value. value ++ codes ", ") (map (λ field. field.value) fields)
    ≡ flat_map (λ value. value ++ codes ", ") (map (λ field. field.value) (if named then field ∷ fields else fields))
one_more true field fields = refl
one_more false field fields = refl

-- the values of the fields of the name, taken field by field
values : (fields : List Header)
    → flat_map forwarded_value fields ≡ flat_map (λ value. value ++ codes ", ") (values_named (codes "x-forwarded-for") fields)
values [] = refl
values (field ∷ fields) =
    ap (λ rest. forwarded_value field ++ rest) (values fields)
    ∙ one_more (is_named (codes "x-forwarded-for") field) field (filter (is_named (codes "x-forwarded-for")) fields)

-- the values of a list and an address behind them
pub joined_values : (fields : List Header) (address : List ℕ) → flat_map forwarded_value fields ++ address ≡ forwarded_for fields address
unfolding forwarded_for
joined_values fields address =
    ap (λ front. front ++ address) (values fields) ∙ sym (joined (codes ", ") address (values_named (codes "x-forwarded-for") fields))

-- a field written part by part: its name with the colon and the space, its value, and the line's end
pub field_in_parts : (out start value one two three : List ℕ) (name : List ℕ) → start ≡ name ++ codes ": "
    → one ≡ out ++ start → two ≡ one ++ value → three ≡ two ++ line_end
    → three ≡ out ++ field_line (record { name = name; value = value })
unfolding field_line
field_in_parts out start value one two three name start_is at_one at_two at_three =
    rw (at_three, at_two, at_one, start_is) (simp append_assoc)

-- the field with the client's values of x-forwarded-for and an address behind them
pub forwarded_in_parts : (out address one two three four : List ℕ) (fields : List Header)
    → one ≡ out ++ codes "x-forwarded-for: " → two ≡ one ++ flat_map forwarded_value fields → three ≡ two ++ address → four ≡ three ++ line_end
    → four ≡ out ++ field_line (record { name = codes "x-forwarded-for"; value = forwarded_for fields address })
forwarded_in_parts out address one two three four fields at_one at_two at_three at_four =
    let value : three ≡ one ++ forwarded_for fields address =
    at_three ∙ ap (λ front. front ++ address) at_two ∙ append_assoc one (flat_map forwarded_value fields) address
    ∙ ap (λ value. one ++ value) (joined_values fields address) in
    field_in_parts out (codes "x-forwarded-for: ") (forwarded_for fields address) one three four (codes "x-forwarded-for") refl at_one value at_four

-- four lines written one after another
pub four_lines : (out one two three four : List ℕ) (first second third fourth : Header)
    → one ≡ out ++ field_line first → two ≡ one ++ field_line second → three ≡ two ++ field_line third → four ≡ three ++ field_line fourth
    → four ≡ out ++ field_lines (first ∷ second ∷ third ∷ fourth ∷ [])
four_lines out one two three four first second third fourth at_one at_two at_three at_four =
    rw (at_four, at_three, at_two, at_one) (simp (append_assoc, append-nil))

-- fields written part by part
fields_in_parts : (out : List ℕ) (host close : Header) (headers client stated : List Header)
    → ((((out ++ field_line host) ++ field_lines headers) ++ field_lines client) ++ field_lines stated) ++ field_lines (close ∷ [])
    ≡ out ++ field_lines (host ∷ headers ++ client ++ stated ++ close ∷ [])
fields_in_parts out host close headers client stated = simp (flat_map-append, append_assoc, append-nil)

-- a message written part by part
pub written_in_parts : (method target host : List ℕ) (request : Request) (headers : List Header) (start line named passed told stated closed whole : List ℕ)
    → start ≡ []
    → line ≡ start ++ method ++ codes " " ++ target ++ codes " HTTP/1.1\r\n"
    → named ≡ line ++ field_line (record { name = codes "host"; value = host })
    → passed ≡ named ++ field_lines headers
    → told ≡ passed ++ field_lines (client_fields request)
    → stated ≡ told ++ field_lines (stated_length request.framed request.body)
    → closed ≡ stated ++ field_lines (connection (codes "close") ∷ [])
    → whole ≡ closed ++ line_end ++ request.body
    → whole ≡ upstream_text method target host request headers
written_in_parts method target host request headers start line named passed told stated closed whole at_start at_line at_named at_passed at_told at_stated at_closed at_whole =
    let fields : closed ≡ method ++ codes " " ++ target ++ codes " HTTP/1.1\r\n" ++ field_lines (sent_fields host request headers) =
    rw (at_closed, at_stated, at_told, at_passed, at_named, at_line, at_start)
    (fields_in_parts _ _ _ headers (client_fields request) (stated_length request.framed request.body)) in
    at_whole ∙ ap (λ out. out ++ line_end ++ request.body) fields
