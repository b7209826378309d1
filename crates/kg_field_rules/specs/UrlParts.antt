-- Machinery for proofs: the parts of a url, where they stand in its text.
use Rattle.std.specs.Prelude.{option_map, IfSome}
use Rattle.std.specs.Str.{IsAscii}
use Rattle.kg_field_rules.specs.declared.url.Url.{Url}
use Rattle.kg_field_rules.specs.declared.url.UrlParts.{UrlParts}

-- what the parts tell
abbrev pub parts_seen : UrlParts → Url
parts_seen parts = record { host = parts.host.now; port = parts.port; path = option_map (λ path. path.now) parts.path }

-- the host and the path are ASCII
abbrev pub are_ascii : UrlParts → Type 0
are_ascii parts = IsAscii parts.host.now × IfSome parts.path (λ path. IsAscii path.now)
