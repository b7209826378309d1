-- What a client is told of its limits (Kong Gateway manual, "Rate Limiting": headers sent to the client; which limit
-- is told where several have the same left is this project's own).
use Rattle.std.specs.Prelude.{ℕ, Bool, ◌&&◌, ◌||◌, ◌==◌, nat_lt, List, [], ◌∷◌, ◌++◌, Option, Some, None, codes, decimal, flat_map, fold, map, zip, if◌then◌else◌}
use Rattle.std.specs.Option.{option_map_or}
use Rattle.kg_context.specs.Fields.{field}
use Rattle.kg_message.specs.declared.header.Header.{Header}
use Rattle.kg_message.specs.declared.response.Response.{Response}
use Rattle.kg_limit.specs.WindowTimes.{seconds_left, window_length, window_name}
use Rattle.kg_limit.specs.declared.hit.Hit.{Hit}
use Rattle.kg_limit.specs.declared.hit.Verdict.{Verdict}
use Rattle.kg_limit.specs.declared.quota.Quota.{Quota}
use Rattle.kg_limit.specs.declared.window.Window.{Window}

-- a limit of a hit, and what a verdict leaves of it
abbrev pub quota_of : (Window × ℕ) × (Window × ℕ) → Quota
quota_of both = record { window = both.0.0; limit = both.0.1; left = both.1.1 }

-- the limits of a hit, each with what its verdict leaves of it
abbrev pub quotas_of : Hit → Verdict → List Quota
quotas_of hit verdict = map quota_of (zip hit.limits verdict.left)

-- ---- each limit

abbrev pub quota_fields : Quota → List Header
quota_fields quota =
    field (codes "x-ratelimit-limit-" ++ window_name quota.window) (decimal quota.limit)
    ∷ field (codes "x-ratelimit-remaining-" ++ window_name quota.window) (decimal quota.left) ∷ []

-- ---- the tightest limit

-- less is left of the first, or as much, and its window is longer
abbrev pub is_tighter : Quota → Quota → Bool
is_tighter a b = nat_lt a.left b.left || (a.left == b.left && nat_lt (window_length b.window) (window_length a.window))

-- the tighter one of that which was found, if one was, and another
abbrev pub tighter : Option Quota → Quota → Quota
tighter None quota = quota
tighter (Some found) quota = if is_tighter quota found then quota else found

-- the tightest of these, if there are some
abbrev pub tightest : List Quota → Option Quota
tightest quotas = fold (λ found quota. Some (tighter found quota)) None quotas

-- when a refused request may be tried again (RFC 9110, section 10.2.3)
abbrev pub retry_fields : Bool → ℕ → List Header
retry_fields let_through seconds = if let_through then [] else field (codes "retry-after") (decimal seconds) ∷ []

-- that limit, and in how many seconds its window ends
abbrev pub tightest_fields : Verdict → Quota → List Header
tightest_fields verdict quota =
    let seconds = seconds_left quota.window verdict.time in
    field (codes "ratelimit-limit") (decimal quota.limit)
    ∷ field (codes "ratelimit-remaining") (decimal quota.left)
    ∷ field (codes "ratelimit-reset") (decimal seconds)
    ∷ retry_fields verdict.let_through seconds

-- ---- the reply

abbrev pub limit_fields : Hit → Verdict → List Header
limit_fields hit verdict =
    flat_map quota_fields (quotas_of hit verdict)
    ++ option_map_or (tightest_fields verdict) (tightest (quotas_of hit verdict)) []

-- the reply, with the fields behind its own
abbrev pub limit_headers : Hit → Verdict → Response → Response
limit_headers hit verdict response = record response { headers = response.headers ++ limit_fields hit verdict }
