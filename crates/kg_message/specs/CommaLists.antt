-- Comma lists in the values of fields (RFC 9110, section 5.6.1).
use Rattle.std.specs.Prelude.{ℕ, Bool, ◌&&◌, ◌==◌, List, map}
use Rattle.std.specs.List.{list_any, slice_split}
use Rattle.std.specs.Str.{str_eq_ignore_ascii_case}
use Rattle.httparse.specs.Grammar.{trim_ows}
use Rattle.kg_message.specs.declared.header.Header.{Header}
use Rattle.kg_message.specs.HeaderLists.{is_named}

-- the elements, without the blanks round each
abbrev pub elements : List ℕ → List (List ℕ)
elements value = map trim_ows (slice_split (λ b. b == 0x2C) value)

-- the value has this element, in any case
abbrev pub has_element : List ℕ → List ℕ → Bool
has_element element value = list_any (λ one. str_eq_ignore_ascii_case one element) (elements value)

-- some field of this name has this element
abbrev pub lists : List ℕ → List ℕ → List Header → Bool
lists name element fields =
    list_any (λ field. is_named name field && has_element element field.value) fields
