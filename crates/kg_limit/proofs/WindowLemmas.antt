-- Windows follow one another, and each of a length lies in one of the next longer length.
use Rattle.std.proofs.Common.{◌≡◌, ℕ, ◌<◌, ◌≤◌, ◌/◌, true, false, nat_eq, nat_lt, arith}
use Rattle.std.proofs.lemmas.Bool.{false_from_ne_true, ltb-true, eqb-true}
use Rattle.kg_limit.specs.WindowTimes.{window_number}
use Rattle.kg_limit.specs.declared.window.Window.{Window}
use Rattle.kg_limit.specs.declared.window.Window.TheVariants.{Second, Minute, Hour, Day}

-- times don't go back, nor do windows
pub not_before : (window : Window) (a b : ℕ) → a ≤ b → window_number window a ≤ window_number window b
not_before Second a b le = omega (arith, le)
not_before Minute a b le = omega (arith, le)
not_before Hour a b le = omega (arith, le)
not_before Day a b le = omega (arith, le)

-- where the day is over, so is each window
pub over_by : (last by time : ℕ) (window : Window) → nat_lt (window_number Day last) (window_number Day by) ≡ true → by ≤ time
    → nat_eq (window_number window last) (window_number window time) ≡ false
over_by last by time window over later = false_from_ne_true _ (λ same. apart window (eqb-true _ _ same))
  where
    over_day : last / 86400000 < by / 86400000
    over_day = ltb-true _ _ over

    apart : (window : Window) → window_number window last ≡ window_number window time → ⊥
    apart Second same = omega (arith, over_day, later, same)
    apart Minute same = omega (arith, over_day, later, same)
    apart Hour same = omega (arith, over_day, later, same)
    apart Day same = omega (arith, over_day, later, same)
