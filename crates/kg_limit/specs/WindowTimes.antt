-- Windows of time (Kong Gateway manual, "Rate Limiting": fixed windows). Times are in milliseconds.
use Rattle.std.specs.Prelude.{ℕ, ◌+◌, ◌-◌, ◌*◌, ◌/◌, List, codes}
use Rattle.kg_limit.specs.declared.window.Window.{Window}
use Rattle.kg_limit.specs.declared.window.Window.TheVariants.{Second, Minute, Hour, Day}

-- how long a window lasts
abbrev pub window_length : Window → ℕ
window_length Second = 1000
window_length Minute = 60000
window_length Hour = 3600000
window_length Day = 86400000

-- the number of the window in which a time lies
abbrev pub window_number : Window → ℕ → ℕ
window_number window time = time / window_length window

-- when that window ends
abbrev pub window_end : Window → ℕ → ℕ
window_end window time = (window_number window time + 1) * window_length window

-- the time to the end of the window in seconds, rounded up
abbrev pub seconds_left : Window → ℕ → ℕ
seconds_left window time = (window_end window time - time + 999) / 1000

abbrev pub window_name : Window → List ℕ
window_name Second = codes "second"
window_name Minute = codes "minute"
window_name Hour = codes "hour"
window_name Day = codes "day"
