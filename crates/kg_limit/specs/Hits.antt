-- Which requests are counted together, and how many of them may come (Kong Gateway manual, "Rate Limiting"; how an
-- identity is written is this project's own).
use Rattle.std.specs.Prelude.{ℕ, List, [], ◌∷◌, ◌++◌, Option, Some, None, codes}
use Rattle.std.specs.Net.Text.{ipv4_text}
use Rattle.kg_row_types.specs.Ids.{printed}
use Rattle.kg_row_types.specs.declared.config.LimitBy.{LimitBy}
use Rattle.kg_row_types.specs.declared.config.LimitBy.TheVariants as limit_by
use Rattle.kg_row_types.specs.declared.config.RateLimiting.{RateLimiting}
use Rattle.kg_row_types.specs.declared.consumer.Consumer.{Consumer}
use Rattle.kg_context.specs.declared.context.ReqCtx.{ReqCtx}
use Rattle.kg_limit.specs.declared.hit.Hit.{Hit}
use Rattle.kg_limit.specs.declared.window.Window.{Window}
use Rattle.kg_limit.specs.declared.window.Window.TheVariants.{Second, Minute, Hour, Day}

-- ---- counted together

-- the requests of a client's address
abbrev pub address_identity : ReqCtx → List ℕ
address_identity ctx = codes "i" ++ ipv4_text ctx.request.address

-- the requests of a consumer; of an address, where no consumer is known
abbrev pub consumer_identity : ReqCtx → Option Consumer → List ℕ
consumer_identity ctx None = address_identity ctx
consumer_identity ctx (Some consumer) = codes "c" ++ printed consumer.id

abbrev pub identity_of : LimitBy → ReqCtx → List ℕ
identity_of limit_by.Consumer ctx = consumer_identity ctx ctx.consumer
identity_of limit_by.Ip ctx = address_identity ctx
identity_of limit_by.Service ctx = codes "s" ++ printed ctx.service

-- ---- how many may come

-- the limit of a window, if it is set
abbrev pub limit_in : Window → Option ℕ → List (Window × ℕ)
limit_in window None = []
limit_in window (Some limit) = (window, limit) ∷ []

-- the limits that are set, from the shortest window on
abbrev pub limits_of : RateLimiting → List (Window × ℕ)
limits_of config =
    limit_in Second config.second ++ limit_in Minute config.minute ++ limit_in Hour config.hour ++ limit_in Day config.day

-- the hit of a request at the row of this config and id, with the clock's reading and the worker's number
abbrev pub hit_of : RateLimiting → ℕ → ReqCtx → ℕ → ℕ → Hit
hit_of config row ctx now who = record {
  row = row;
  identity = identity_of config.limit_by ctx;
  limits = limits_of config;
  now = now;
  who = who;
}
