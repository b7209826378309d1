-- What the upstream is asked for: the service's path joined with the request's, and the Host that it
-- sees (Kong Admin API, "Route": strip_path, preserve_host; the join is this project's own).
use Rattle.std.specs.Prelude.{ℕ, Bool, ◌-◌, ◌==◌, List, ◌++◌, take, drop, length, nat_eq, codes, decimal, unwrap_or, if◌then◌else◌}
use Rattle.std.specs.List.{starts_with, ends_with}
use Rattle.kg_row_types.specs.declared.service.Service.{Service}
use Rattle.kg_message.specs.declared.request.Request.{Request}
use Rattle.kg_router.specs.Best.{Choice}

-- the path without one `/` at its end
abbrev pub without_last_slash : List ℕ → List ℕ
without_last_slash path = if ends_with nat_eq path (codes "/") then take (length path - 1) path else path

-- the path without one `/` at its front
abbrev pub without_first_slash : List ℕ → List ℕ
without_first_slash path = if starts_with nat_eq path (codes "/") then drop 1 path else path

-- the base and the rest with one `/` between them
abbrev pub slash_joined : List ℕ → List ℕ → List ℕ
slash_joined base rest = without_last_slash base ++ codes "/" ++ without_first_slash rest

-- the base joined with what is left of the request's path, if something is left
abbrev pub joined_path : List ℕ → List ℕ → List ℕ
joined_path base rest = if length rest == 0 then base else slash_joined base rest

-- the service's path, or `/`
abbrev pub base_of : Service → List ℕ
base_of service = unwrap_or service.path (codes "/")

-- the request's path, without what the route takes of it where that is to be stripped
abbrev pub rest_of : Choice → List ℕ → List ℕ
rest_of choice path = if choice.route.strip_path then drop choice.cut path else path

-- the path for a request, at its choice
abbrev pub path_for : Choice → Request → List ℕ
path_for choice request = joined_path (base_of choice.service) (rest_of choice request.path)

-- ---- the Host

abbrev pub host_and_port : List ℕ → ℕ → List ℕ
host_and_port host port = host ++ codes ":" ++ decimal port

-- the host, with its port if that isn't 80
abbrev pub host_with_port : List ℕ → ℕ → List ℕ
host_with_port host port = if port == 80 then host else host_and_port host port

-- the Host for a request: the client's where the route keeps it, else that of the service's host and port
abbrev pub host_seen : Bool → List ℕ → ℕ → Request → List ℕ
host_seen preserve_host host port request = if preserve_host then request.host else host_with_port host port

abbrev pub host_for : Choice → Request → List ℕ
host_for choice request = host_seen choice.route.preserve_host choice.service.host choice.service.port request
