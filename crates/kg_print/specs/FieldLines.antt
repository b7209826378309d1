-- Field lines as they are written (RFC 9112, section 5), and the fields that a message states of its
-- body and its connection.
use Rattle.std.specs.Prelude.{ℕ, Bool, List, [], ◌∷◌, ◌++◌, length, codes, decimal, if◌then◌else◌}
use Rattle.std.specs.List.{flat_map}
use Rattle.kg_message.specs.declared.header.Header.{Header}

-- the end of a line (RFC 9112, section 2.1)
abbrev pub line_end : List ℕ
line_end = codes "\r\n"

-- a field line
unfoldable pub field_line : Header → List ℕ
field_line field = field.name ++ codes ": " ++ field.value ++ line_end

-- the field lines of a list
abbrev pub field_lines : List Header → List ℕ
field_lines fields = flat_map field_line fields

-- the field that tells a body's length (RFC 9110, section 8.6)
abbrev pub content_length : List ℕ → Header
content_length body = record { name = codes "content-length"; value = decimal (length body) }

-- that field, where the length is stated
abbrev pub stated_length : Bool → List ℕ → List Header
stated_length is_stated body = if is_stated then content_length body ∷ [] else []

-- the field that says what becomes of the connection (RFC 9110, section 7.6.1)
abbrev pub connection : List ℕ → Header
connection word = record { name = codes "connection"; value = word }
