use Rattle.std.proofs.Common.{◌≡◌, ◌&&◌, nat_eq, drop}
use Rattle.std.specs.Str.{bytes_eq}
use Rattle.kg_basic.proofs.password.is_same_secret.Given as goal

-- nothing differed so far, and then the rest
abbrev pub invariant-loop-i : goal.invariant-loop-i
invariant-loop-i l =
    bytes_eq l.stored l.other ≡ (nat_eq l.difference 0 && bytes_eq (drop l.i l.stored) (drop l.i l.other))
