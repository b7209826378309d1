-- The pairs of a query, as forms read and write them (URL Standard, section 5).
use Rattle.std.specs.Prelude.{ℕ, List, [], map, fold}
use Rattle.std.specs.Str.Lossy.{utf8_lossy}
use Rattle.form_urlencoded.specs.Form.{raw_pairs, decode, append_pair}
use Rattle.kg_text.specs.declared.pair.Pair.{Pair}

-- the text that a name or a value stands for: what isn't UTF-8 becomes U+FFFD
abbrev pub decoded_text : List ℕ → List ℕ
decoded_text bytes = utf8_lossy (decode bytes)

-- a name and a value, both decoded
abbrev pub decoded_pair : List ℕ × List ℕ → Pair
decoded_pair raw = record { name = decoded_text raw.0; value = decoded_text raw.1 }

-- the pairs that a form reads, in their order
abbrev pub query_pairs : List ℕ → List Pair
query_pairs query = map decoded_pair (raw_pairs query)

-- the form's text after one more pair
abbrev pub with_pair : List ℕ → Pair → List ℕ
with_pair text pair = append_pair text pair.name pair.value

-- the text that a form writes
abbrev pub query_text : List Pair → List ℕ
query_text pairs = fold with_pair [] pairs
