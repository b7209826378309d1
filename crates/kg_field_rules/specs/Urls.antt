-- The url of a service: `http://`, a host, optionally a port and a path (RFC 3986, section 3; which
-- urls are taken is this project's own).
use Rattle.std.specs.Prelude.{◌==◌, ℕ, Bool, ◌&&◌, List, length, drop, nat_lt, nat_le, nat_eq, slice_index, Option, Some, None, option_map, option_and_then, codes, if◌then◌else◌}
use Rattle.std.specs.List.{list_all, starts_with, before_first, position_or_len}
use Rattle.std.specs.Char.{is_ascii_digit}
use Rattle.std.specs.Str.Parse.{digits_value}
use Rattle.kg_text.specs.Hosts.{is_host}
use Rattle.kg_text.specs.Paths.{slash}
use Rattle.kg_row_types.specs.ConfigTexts.{colon}
use Rattle.kg_row_types.specs.TextForms.{is_normal_path}
use Rattle.kg_field_rules.specs.declared.url.Url.{Url}

-- `x ← reading` goes on with what was read
abbrev pub ◌>>=◌ : {A B : Type 0} → Option A → (A → Option B) → Option B
◌>>=◌ reading next = option_and_then next reading

-- x, if it passes the test
abbrev pub only_if : {A : Type 0} → (A → Bool) → A → Option A
only_if test x = if test x then Some x else None

-- what stands from the first such byte on
abbrev pub from_first : (ℕ → Bool) → List ℕ → List ℕ
from_first test text = drop (position_or_len test text) text

-- decimal digits, the first of which isn't 0
abbrev pub is_numeral : List ℕ → Bool
is_numeral digits = list_all is_ascii_digit digits && nat_lt 0x30 (slice_index digits 0)

-- the port of these digits, from 1 to 65535
abbrev pub port_number : List ℕ → Option ℕ
port_number digits = if is_numeral digits then only_if (λ n. nat_le n 65535) (digits_value 10 digits) else None

-- the host in front of a port
unfoldable pub host_of : List ℕ → Option (List ℕ)
host_of text = only_if is_host text

-- the port that stands behind a host, after a colon: none is 80
unfoldable pub port_of : List ℕ → Option ℕ
port_of text = if length text == 0 then Some 80 else port_number (drop 1 text)

-- the path that stands behind an authority, if there is one: in its own normal form
unfoldable pub url_path_of : List ℕ → Option (Option (List ℕ))
url_path_of text = if length text == 0 then Some None else option_map Some (only_if is_normal_path text)

-- what stands behind `http://`: an authority and a path
unfoldable pub after_scheme : List ℕ → Option (List ℕ)
after_scheme url = if starts_with nat_eq url (codes "http://") then Some (drop (length (codes "http://")) url) else None

-- the host, the port and the path of a url
unfoldable pub url_of : List ℕ → Option Url
url_of url = do
  rest ← after_scheme url
  let authority = before_first (λ b. b == slash) rest
  host ← host_of (before_first (λ b. b == colon) authority)
  port ← port_of (from_first (λ b. b == colon) authority)
  path ← url_path_of (from_first (λ b. b == slash) rest)
  Some (record { host = host; port = port; path = path })
