-- The hosts of routes: plain ones, and wildcards (Kong Gateway manual, "How Kong matches requests").
-- That an asterisk stands for one or more bytes is this project's own.
use Rattle.std.specs.Prelude.{ℕ, ◌+◌, Bool, ◌&&◌, ◌==◌, List, length, take, drop, nat_lt, nat_eq, if◌then◌else◌}
use Rattle.std.specs.List.{list_any, position_or_len, starts_with, ends_with}
use Rattle.std.specs.Str.{bytes_eq}

abbrev pub asterisk : ℕ
asterisk = 0x2A

-- a wildcard has an asterisk
abbrev pub is_wildcard : List ℕ → Bool
is_wildcard host = list_any (λ byte. byte == asterisk) host

-- what stands before the asterisk, and after it
abbrev pub before_asterisk : List ℕ → List ℕ
before_asterisk wildcard = take (position_or_len (λ byte. byte == asterisk) wildcard) wildcard

abbrev pub after_asterisk : List ℕ → List ℕ
after_asterisk wildcard = drop (position_or_len (λ byte. byte == asterisk) wildcard + 1) wildcard

-- the host begins and ends so, with one or more bytes between
abbrev pub is_between : List ℕ → List ℕ → List ℕ → Bool
is_between before after host =
    nat_lt (length before + length after) (length host)
    && starts_with nat_eq host before
    && ends_with nat_eq host after

-- the asterisk stands for one or more bytes of the host
abbrev pub wildcard_fits : List ℕ → List ℕ → Bool
wildcard_fits wildcard host = is_between (before_asterisk wildcard) (after_asterisk wildcard) host

-- the host of a route fits the host that a request names
abbrev pub host_fits : List ℕ → List ℕ → Bool
host_fits wanted host = if is_wildcard wanted then wildcard_fits wanted host else bytes_eq wanted host
