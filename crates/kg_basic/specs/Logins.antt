-- The name and password that a request carries in a field Authorization of the scheme Basic (RFC 7617, section 2).
use Rattle.std.specs.Prelude.{ℕ, Bool, ◌==◌, ◌&&◌, List, take, drop, Option, Some, None, if◌then◌else◌, codes}
use Rattle.std.specs.List.{after_first, before_first, list_any}
use Rattle.std.specs.Option.{option_and_then}
use Rattle.std.specs.Str.{is_utf8, str_eq_ignore_ascii_case}
use Rattle.base64.specs.Engines.{standard}
use Rattle.base64.specs.GeneralPurpose.{decoded_of}
use Rattle.kg_message.specs.HeaderLists.{values_named}
use Rattle.kg_message.specs.declared.header.Header.{Header}
use Rattle.kg_auth.specs.Single.{single}
use Rattle.kg_basic.specs.declared.login.Login.{Login}

-- the bytes that a text of standard base64 encodes (RFC 4648, section 4), if it is one
unfoldable pub base64_bytes : List ℕ → Option (List ℕ)
base64_bytes text = decoded_of standard text

-- what follows `Basic`, in any case, and one space
abbrev pub behind_scheme : List ℕ → Option (List ℕ)
behind_scheme value =
    if str_eq_ignore_ascii_case (take 6 value) (codes "Basic ") then Some (drop 6 value) else None

abbrev pub is_colon : ℕ → Bool
is_colon b = b == 0x3A

-- text with a colon: the name ends at the first one
abbrev pub login_in : List ℕ → Option Login
login_in text =
    if is_utf8 text && list_any is_colon text
    then Some (record { username = before_first is_colon text; password = after_first is_colon text })
    else None

abbrev pub login_of_value : List ℕ → Option Login
login_of_value value = option_and_then login_in (option_and_then base64_bytes (behind_scheme value))

-- just one field carries it
abbrev pub login_of : List Header → Option Login
login_of fields = option_and_then login_of_value (single (values_named (codes "authorization") fields))
