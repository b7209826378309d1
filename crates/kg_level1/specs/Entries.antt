-- What a cache level holds.
use Rattle.std.specs.Prelude.{ℕ, List, [], refl}
use Rattle.std.specs.Coded.{Coded, code_by, coded×, coded_list, coded_ℕ}

-- what is kept of a key: a value, its stamp, which is the position at which it was read, and the end of its life on
-- the clock in milliseconds, 0 where it has none (lua-resty-mlcache: a `ttl` of 0 is endless)
pub record Kept (V : Type 0) : Type 0 where
  pub val : V
  pub stamp : ℕ
  pub expires : ℕ

-- a level: how many entries it has room for, the position up to which it knows what the commits touched, and its
-- entries, the one used last first
pub record Level (K V : Type 0) : Type 0 where
  pub room : ℕ
  pub pos : ℕ
  pub entries : List (K × Kept V)

abbrev pub kept_code : {V : Type 0} → Coded V → Coded (Kept V)
kept_code {V} v = code_by (V × (ℕ × ℕ)) (coded× v (coded× coded_ℕ coded_ℕ)) (λ e. (e.val, (e.stamp, e.expires))) (λ p. record { val = p.0; stamp = p.1.0; expires = p.1.1 }) (λ _. refl)

abbrev pub level_code : {K V : Type 0} → Coded K → Coded V → Coded (Level K V)
level_code {K} {V} k v = code_by (ℕ × (ℕ × List (K × Kept V))) (coded× coded_ℕ (coded× coded_ℕ (coded_list (coded× k (kept_code v))))) (λ l. (l.room, (l.pos, l.entries))) (λ p. record { room = p.0; pos = p.1.0; entries = p.1.1 }) (λ _. refl)

-- a level without entries
abbrev pub empty_level : {K V : Type 0} → ℕ → ℕ → Level K V
empty_level room pos = record { room = room; pos = pos; entries = [] }
