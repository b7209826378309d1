-- Which bytes of a connection are refused, and which are a request that was cut off (this project's own;
-- the grammar of a head is that of RFC 9112). Both follow from the bytes alone, and exclude each other.
use Rattle.std.specs.Prelude.{◌≡◌, ℕ, ◌<◌, ◌≤◌, ◌⊎◌, List, length, take, Some}
use Rattle.httparse.specs.Grammar.{RequestHead, print_request, ReadsRequest, HasNoRequest, NeverHasRequest, MayBecomeRequest, EndsInTarget}
use Rattle.kg_wire.specs.Checks.{body_len}
use Rattle.kg_wire.specs.Messages.{most_head, most_body, head_of}

-- no head begins so, whatever follows. A target that is still being read is left open, since what it
-- spells is judged at its end
pub record IsNoHead (rest : List ℕ) : Type 0 where
  pub some : 0 < length rest
  pub never : NeverHasRequest rest
  pub closed : EndsInTarget rest → ⊥

-- as many bytes as the longest head has hold no whole one
pub record IsLongHead (rest : List ℕ) : Type 0 where
  pub long : most_head ≤ length rest
  pub none : HasNoRequest (take most_head rest)

-- a whole head within its limit states no body that is accepted: it fails a check, or the body is too long
pub record IsWrongHead (rest : List ℕ) : Type 0 where
  pub head : RequestHead
  pub after : List ℕ
  pub reads : ReadsRequest rest head after
  pub short_head : length (print_request head) ≤ most_head
  pub wrong : (len : ℕ) → body_len (head_of head) ≡ Some len → most_body < len

-- the bytes are refused, whatever follows
abbrev pub IsBad : List ℕ → Type 0
IsBad rest = IsNoHead rest ⊎ (IsLongHead rest ⊎ IsWrongHead rest)

-- a head was begun, and may become whole
pub record IsOpenHead (rest : List ℕ) : Type 0 where
  pub some : 0 < length rest
  pub short : length rest < most_head
  pub none : HasNoRequest rest
  pub may : MayBecomeRequest rest

-- a whole head within its limit states a body that is accepted, of which a part is there
pub record IsPartBody (rest : List ℕ) : Type 0 where
  pub head : RequestHead
  pub after : List ℕ
  pub reads : ReadsRequest rest head after
  pub short_head : length (print_request head) ≤ most_head
  pub len : ℕ
  pub states : body_len (head_of head) ≡ Some len
  pub short_body : len ≤ most_body
  pub part : length after < len

-- a request was begun, and its end is missing
abbrev pub IsCut : List ℕ → Type 0
IsCut rest = IsOpenHead rest ⊎ IsPartBody rest
