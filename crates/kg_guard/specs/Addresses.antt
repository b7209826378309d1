-- Blocks of IPv4 addresses (RFC 4632, section 3.1): an address is a number, and a block is those that share its
-- leading bits.
use Rattle.std.specs.Prelude.{ℕ, ◌+◌, ◌-◌, ◌*◌, ◌/◌, ◌^◌, ◌==◌, Bool, List, fold, map, if◌then◌else◌}
use Rattle.std.specs.List.{before_first, list_any, slice_split}
use Rattle.std.specs.Str.Parse.{digits_value}
use Rattle.kg_text.specs.Paths.{slash}
use Rattle.kg_row_types.specs.ConfigTexts.{after_first}

-- a number with these octets behind it
abbrev pub with_octets : ℕ → List ℕ → ℕ
with_octets number octets = fold (λ so_far octet. so_far * 256 + octet) number octets

-- the number of an address: its octets, the first one highest
abbrev pub address_number : List ℕ → ℕ
address_number octets = with_octets 0 octets

abbrev pub is_dot : ℕ → Bool
is_dot b = b == 0x2E

abbrev pub is_slash : ℕ → Bool
is_slash b = b == slash

-- the octets that a text in dotted decimal tells
abbrev pub octets_of : List ℕ → List ℕ
octets_of text = map (digits_value 10) (slice_split is_dot text)

-- the address of a block: what stands before the `/`
abbrev pub block_number : List ℕ → ℕ
block_number text = address_number (octets_of (before_first is_slash text))

-- how many leading bits its addresses share: the number behind the `/`, or all where there is none
abbrev pub block_bits : List ℕ → ℕ
block_bits text =
    if list_any is_slash text then digits_value 10 (after_first is_slash text) else 32

-- the two numbers of 32 bits share so many leading bits
abbrev pub share_bits : ℕ → ℕ → ℕ → Bool
share_bits bits a b = a / 2 ^ (32 - bits) == b / 2 ^ (32 - bits)

-- the address is one of the block
abbrev pub is_in_block : List ℕ → List ℕ → Bool
is_in_block address text = share_bits (block_bits text) (address_number address) (block_number text)

-- the address is one of some block
abbrev pub is_in_some : List ℕ → List (List ℕ) → Bool
is_in_some address blocks = list_any (is_in_block address) blocks
