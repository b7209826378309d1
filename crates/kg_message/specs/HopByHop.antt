-- Which fields concern one connection alone (RFC 9110, section 7.6.1), and what is left without
-- them. The length of the body goes too: whoever prints the message states it anew.
use Rattle.std.specs.Prelude.{ℕ, Bool, not, ◌||◌, List, [], ◌∷◌, filter, codes}
use Rattle.std.specs.List.{list_any}
use Rattle.kg_message.specs.declared.header.Header.{Header}
use Rattle.kg_message.specs.HeaderLists.{is_named}
use Rattle.kg_message.specs.CommaLists.{lists}

-- the names that always concern one connection alone
abbrev pub connection_names : List (List ℕ)
connection_names =
    codes "connection" ∷ codes "keep-alive" ∷ codes "proxy-connection" ∷ codes "te"
    ∷ codes "trailer" ∷ codes "transfer-encoding" ∷ codes "upgrade" ∷ []

-- the field has one of these names
abbrev pub is_among : List (List ℕ) → Header → Bool
is_among names field = list_any (λ name. is_named name field) names

-- the field has one of the names above, or one that a Connection field lists
abbrev pub is_hop_by_hop : List Header → Header → Bool
is_hop_by_hop fields field =
    is_among connection_names field || lists (codes "connection") field.name fields

-- the field is passed on
abbrev pub passes : List Header → Header → Bool
passes fields field = not (is_hop_by_hop fields field || is_named (codes "content-length") field)

-- the fields that are passed on, in their order
abbrev pub end_to_end : List Header → List Header
end_to_end fields = filter (passes fields) fields
