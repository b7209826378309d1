-- The values that a request has been given.
use Rattle.std.specs.Prelude.{Bool, false, ◌==◌, List, Option, option_map, find}
use Rattle.std.specs.Str.{bytes_eq}
use Rattle.kg_row_types.specs.declared.key.Key.{Key}
use Rattle.kg_row_types.specs.declared.key.Key.TheVariants.{Cred, Basic, Consumer, Named, Acls}
use Rattle.kg_row_types.specs.declared.value.Value.{Value}

-- a key with its value
pub record Answer : Type 0 where
  pub key : Key
  pub value : Value

-- both ask the same
abbrev pub same_key : Key → Key → Bool
same_key (Cred a) (Cred b) = bytes_eq a b
same_key (Basic a) (Basic b) = bytes_eq a b
same_key (Consumer a) (Consumer b) = a == b
same_key (Named a) (Named b) = bytes_eq a b
same_key (Acls a) (Acls b) = a == b
same_key _ _ = false

-- the value that is given for a key: the first one
abbrev pub value_in : List Answer → Key → Option Value
value_in given key = option_map (λ answer. answer.value) (find (λ answer. same_key answer.key key) given)
