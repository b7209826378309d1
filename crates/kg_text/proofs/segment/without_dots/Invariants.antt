use Rattle.std.proofs.Common.{length, take}
use Rattle.kg_text.specs.Paths.{segments}
use Rattle.kg_text.proofs.SegmentLemmas.{IsSpelled}
use Rattle.kg_text.proofs.segment.without_dots.Given as goal

abbrev pub invariant-loop-segment : goal.invariant-loop-segment
invariant-loop-segment l = IsSpelled (take (length l.yielded) (segments l.path)) l.out.items l.ends_open
