-- Which fields of a client's request the gateway passes on: those that don't concern one connection alone,
-- without those that the gateway states itself (this project's own).
use Rattle.std.specs.Prelude.{ℕ, Bool, not, ◌&&◌, List, [], ◌∷◌, filter, codes}
use Rattle.kg_message.specs.HopByHop.{is_among, is_hop_by_hop}
use Rattle.kg_message.specs.declared.header.Header.{Header}

-- `expect`, which the gateway answers itself, and what it states anew of the message, the client and
-- the consumer
abbrev pub stated_names : List (List ℕ)
stated_names =
    codes "host" ∷ codes "content-length" ∷ codes "expect"
    ∷ codes "x-forwarded-for" ∷ codes "x-forwarded-proto" ∷ codes "x-forwarded-host"
    ∷ codes "x-real-ip" ∷ codes "x-consumer-id" ∷ codes "x-consumer-custom-id"
    ∷ codes "x-consumer-username" ∷ codes "x-consumer-groups" ∷ codes "x-credential-identifier"
    ∷ codes "x-anonymous-consumer" ∷ []

abbrev pub is_stated : Header → Bool
is_stated field = is_among stated_names field

-- the field is passed on, of a request with these
abbrev pub goes_upstream : List Header → Header → Bool
goes_upstream fields field = not (is_stated field) && not (is_hop_by_hop fields field)

-- the client's fields that are passed on, in their order
abbrev pub upstream_fields : List Header → List Header
upstream_fields fields = filter (goes_upstream fields) fields
