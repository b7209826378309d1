-- What the shared table holds.
use Rattle.std.specs.Prelude.{ℕ, List, [], refl}
use Rattle.std.specs.Coded.{Coded, code_by, coded×, coded_list, coded_ℕ}
use Rattle.kg_level1.specs.Entries.{Level, empty_level, level_code}
use Rattle.kg_level2.specs.declared.notes.OpenClaim.{OpenClaim}

-- a level, the claims that are out, and the lives that values get, in milliseconds: a value, a negative one (that there
-- is no row), and one that is used past its life because the rows couldn't be read (lua-resty-mlcache: `ttl`,
-- `neg_ttl`, `resurrect_ttl`)
pub record Shared (K V : Type 0) : Type 0 where
  pub level : Level K V
  pub out : List (OpenClaim K)
  pub ttl : ℕ
  pub neg_ttl : ℕ
  pub stale : ℕ

abbrev pub claim_code : {K : Type 0} → Coded K → Coded (OpenClaim K)
claim_code {K} k = code_by (K × (ℕ × (ℕ × ℕ))) (coded× k (coded× coded_ℕ (coded× coded_ℕ coded_ℕ))) (λ o. (o.key, (o.who, (o.start, o.touch)))) (λ p. record { key = p.0; who = p.1.0; start = p.1.1.0; touch = p.1.1.1 }) (λ _. refl)

abbrev pub shared_code : {K V : Type 0} → Coded K → Coded V → Coded (Shared K V)
shared_code {K} {V} k v = code_by (Level K V × (List (OpenClaim K) × (ℕ × (ℕ × ℕ)))) (coded× (level_code k v) (coded× (coded_list (claim_code k)) (coded× coded_ℕ (coded× coded_ℕ coded_ℕ)))) (λ t. (t.level, (t.out, (t.ttl, (t.neg_ttl, t.stale))))) (λ p. record { level = p.0; out = p.1.0; ttl = p.1.1.0; neg_ttl = p.1.1.1.0; stale = p.1.1.1.1 }) (λ _. refl)

-- a table without entries and claims
abbrev pub empty_table : {K V : Type 0} → ℕ → ℕ → ℕ → ℕ → ℕ → Shared K V
empty_table room pos ttl neg_ttl stale = record { level = empty_level room pos; out = []; ttl = ttl; neg_ttl = neg_ttl; stale = stale }
