use Rattle.std.proofs.Common.{◌≡◌, map, zip, take, length}
use Rattle.kg_limit.specs.LimitHeaders.{quota_of, tightest}
use Rattle.kg_limit.proofs.quota.tightest.Given as goal

abbrev pub invariant-loop-limit : goal.invariant-loop-limit
invariant-loop-limit l = l.found ≡ tightest (take (length l.yielded) (map quota_of (zip l.limits l.left)))
