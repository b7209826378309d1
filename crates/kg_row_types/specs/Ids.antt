-- Ids of rows: UUIDs, as numbers and as texts (RFC 9562). Which texts are UUIDs, and how one is
-- printed, is what the crate `uuid` says.
use Rattle.std.specs.Prelude.{ℕ, ◌<◌, ◌^◌, List, Option, option_map}
use Rattle.std.specs.Int.{from_be_bytes, to_be_bytes, w128}
use Rattle.uuid.specs.Parts.{with_variant, with_version}
use Rattle.uuid.specs.Text.{hyphenated_text, lower, parsed}
use Rattle.uuid.specs.declared.Variant.TheVariants.{RFC4122}
use Rattle.uuid.specs.declared.Version.TheVariants.{Random}

-- a number that 16 bytes spell
abbrev pub IsId : ℕ → Type 0
IsId id = id < 2 ^ 128

-- the id that a text tells: 32 digits, hyphenated or not, in braces, or as a URN, in any case
unfoldable pub id_of : List ℕ → Option ℕ
id_of text = option_map (from_be_bytes w128) (parsed text)

-- the id printed: hyphenated, in lower case (section 4)
unfoldable pub printed : ℕ → List ℕ
printed id = hyphenated_text lower (to_be_bytes w128 id)

-- the id of version 4 that 16 random bytes give (section 5.4)
unfoldable pub drawn_id : List ℕ → ℕ
drawn_id bytes = from_be_bytes w128 (with_version (with_variant bytes RFC4122) Random)
