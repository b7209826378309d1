use Rattle.std.proofs.Common.{◌≡◌, ◌++◌, flat_map, length, map, take, zip}
use Rattle.kg_limit.specs.LimitHeaders.{quota_fields, quota_of}
use Rattle.kg_limit.proofs.reply.add_quotas.Given as goal

abbrev pub invariant-loop-limit : goal.invariant-loop-limit
invariant-loop-limit l = l.headers ≡ l.fn.headers ++ flat_map quota_fields (take (length l.yielded) (map quota_of (zip l.limits l.left)))
