use Rattle.std.proofs.Common.{◌≡◌, take, fold}
use Rattle.std.specs.List.{flat_map}
use Rattle.kg_course.specs.Phases.{header_filter}
use Rattle.kg_course.specs.Walks.{chosen_in, under_way}
use Rattle.kg_course.proofs.filter.filter_all.Given as goal

-- the rows of the turns so far
abbrev pub invariant-loop-place : goal.invariant-loop-place
invariant-loop-place l =
    l.reply ≡ fold (header_filter (under_way l.plugins.rows l.verdicts l.fn.walk)) l.fn.reply (flat_map (chosen_in l.plugins.rows) (take l.place-index l.place-items))
