-- Machinery for proofs: how the reply to a request that no plugin touches begins, where an echo answers it.
use Rattle.std.specs.Prelude.{ℕ, List, ◌++◌, codes, decimal}

-- the status line and the type of the body
unfoldable pub head_start : List ℕ
head_start = codes "HTTP/1.1 " ++ decimal 200 ++ codes " OK\r\ncontent-type: text/plain\r\n"
