-- Rows sought by what only one of them has.
use Rattle.std.specs.Prelude.{ℕ, Bool, false, ◌==◌, List, find, Option, Some, None, option_and_then, if◌then◌else◌}
use Rattle.std.specs.Option.{option_or, option_map_or}
use Rattle.std.specs.Str.{bytes_eq}
use Rattle.kg_row_types.specs.Ids.{id_of, printed}
use Rattle.kg_row_types.specs.declared.consumer.BasicCred.{BasicCred}
use Rattle.kg_row_types.specs.declared.consumer.Consumer.{Consumer}
use Rattle.kg_row_types.specs.declared.consumer.KeyCred.{KeyCred}
use Rattle.kg_row_types.specs.declared.route.Route.{Route}
use Rattle.kg_row_types.specs.declared.service.Service.{Service}

-- a text that is set to this one
abbrev pub is_text : List ℕ → Option (List ℕ) → Bool
is_text text set = option_map_or (λ other. bytes_eq other text) set false

abbrev pub service_named : List ℕ → List Service → Option Service
service_named text services = find (λ row. is_text text row.name) services

abbrev pub route_named : List ℕ → List Route → Option Route
route_named text routes = find (λ row. is_text text row.name) routes

abbrev pub consumer_with_username : List ℕ → List Consumer → Option Consumer
consumer_with_username text consumers = find (λ row. is_text text row.username) consumers

abbrev pub consumer_with_custom_id : List ℕ → List Consumer → Option Consumer
consumer_with_custom_id text consumers = find (λ row. is_text text row.custom_id) consumers

abbrev pub cred_with_key : List ℕ → List KeyCred → Option KeyCred
cred_with_key text creds = find (λ row. bytes_eq row.key text) creds

abbrev pub cred_with_username : List ℕ → List BasicCred → Option BasicCred
cred_with_username text creds = find (λ row. bytes_eq row.username text) creds

-- the id that is printed as this text
abbrev pub printed_id_of : List ℕ → Option ℕ
printed_id_of text = option_and_then (λ id. if bytes_eq (printed id) text then Some id else None) (id_of text)

-- the consumer whose printed id this is, else the one with this username
abbrev pub named : List ℕ → List Consumer → Option Consumer
named text consumers =
    option_or (option_and_then (λ id. find (λ row. row.id == id) consumers) (printed_id_of text))
    (consumer_with_username text consumers)
