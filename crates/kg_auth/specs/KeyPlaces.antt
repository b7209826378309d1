-- Where a request's key stands (Kong Gateway manual, "Key Authentication", parameters `key_names`,
-- `key_in_header` and `key_in_query`). The client's own fields are looked at, and the pairs of its query.
use Rattle.std.specs.Prelude.{ℕ, Bool, List, [], ◌∷◌, ◌++◌, Option, find, if◌then◌else◌}
use Rattle.std.specs.List.{flat_map}
use Rattle.kg_row_types.specs.declared.config.KeyAuth.{KeyAuth}
use Rattle.kg_message.specs.HeaderLists.{has, removed, values_named}
use Rattle.kg_context.specs.PairLists.{has_pair, pair_values, pairs_removed}
use Rattle.kg_context.specs.declared.context.ReqCtx.{ReqCtx}
use Rattle.kg_auth.specs.declared.key_place.Place.{Place}
use Rattle.kg_auth.specs.declared.key_place.Place.TheVariants.{Fields as AtFields, Pairs as AtPairs}

-- the fields of a name, in any case, or the query's pairs of just this name
pub data KeyPlace : Type 0 where
  Fields : List ℕ → KeyPlace
  Pairs : List ℕ → KeyPlace

-- the places of a name, in the order in which they are looked at
abbrev pub places_of : KeyAuth → List ℕ → List KeyPlace
places_of config name =
    (if config.key_in_header then Fields name ∷ [] else []) ++ (if config.key_in_query then Pairs name ∷ [] else [])

-- something stands there
abbrev pub is_used : ReqCtx → KeyPlace → Bool
is_used ctx (Fields name) = has name ctx.request.headers
is_used ctx (Pairs name) = has_pair name ctx.query

-- the first place at which something stands, name by name
abbrev pub key_place : KeyAuth → ReqCtx → Option KeyPlace
key_place config ctx = find (is_used ctx) (flat_map (places_of config) config.key_names)

-- all that stands there
abbrev pub values_at : ReqCtx → KeyPlace → List (List ℕ)
values_at ctx (Fields name) = values_named name ctx.request.headers
values_at ctx (Pairs name) = pair_values name ctx.query

-- the request goes upstream without that
abbrev pub without_values : KeyPlace → ReqCtx → ReqCtx
without_values (Fields name) ctx = record ctx { headers = removed name ctx.headers }
without_values (Pairs name) ctx = record ctx { query = pairs_removed name ctx.query }

-- a place as the code has it
abbrev pub place_at : Place → KeyPlace
place_at (AtFields name) = Fields name.now
place_at (AtPairs name) = Pairs name.now
