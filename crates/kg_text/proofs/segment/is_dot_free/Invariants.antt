use Rattle.std.proofs.Common.{◌≡◌, false, length, drop}
use Rattle.kg_text.specs.Paths.{segments}
use Rattle.kg_text.proofs.DotLemmas.{is_plain}
use Rattle.kg_text.proofs.segment.is_dot_free.Given as goal

-- the whole is plain where what is left is
abbrev pub invariant-loop-segment : goal.invariant-loop-segment
invariant-loop-segment l =
    is_plain false (segments l.path) ≡ is_plain l.ended (drop (length l.yielded) (segments l.path))
