-- Sources, sinks and connections in memory (this project's own).
use Rattle.std.specs.Prelude.{ℕ, ◌+◌, List}
use Rattle.std.specs.List.{Contains}

-- a source: the bytes left, the most that a call gives, how many calls there were, the numbers
-- from 1 of the calls that fail, and how many have failed
pub record MemorySource : Type 0 where
  pub left : List ℕ
  pub piece : ℕ
  pub calls : ℕ
  pub fails : List ℕ
  pub faults : ℕ

-- a sink: the bytes written, how many calls there were, the numbers from 1 of the calls that fail,
-- and how many have failed
pub record MemorySink : Type 0 where
  pub written : List ℕ
  pub calls : ℕ
  pub fails : List ℕ
  pub faults : ℕ

-- a connection: where its reads come from, and where its writes go
pub record MemoryConn : Type 0 where
  pub source : MemorySource
  pub sink : MemorySink

-- what a read of a source leaves as it was
abbrev pub beside_source : MemorySource → ℕ × List ℕ
beside_source source = (source.piece, source.fails)

-- what a write to a sink leaves as it was
abbrev pub beside_sink : MemorySink → List ℕ
beside_sink sink = sink.fails

-- what a read of a connection leaves as it was
abbrev pub beside_reads : MemoryConn → (ℕ × List ℕ) × MemorySink
beside_reads conn = (beside_source conn.source, conn.sink)

-- what a write to a connection leaves as it was
abbrev pub beside_writes : MemoryConn → List ℕ × MemorySource
beside_writes conn = (beside_sink conn.sink, conn.source)

-- after so many calls the next one is listed
abbrev pub IsNextListed : ℕ → List ℕ → Type 0
IsNextListed calls fails = Contains fails (calls + 1)
