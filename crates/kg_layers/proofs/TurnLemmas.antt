-- The steps of a fetch keep the table and the fetch coherent, and each claim out that isn't handed back.
use Rattle.std.proofs.Common.{◌≡◌, ◌≢◌, ℕ, ◌≤◌, Bool, true, inl, inr, List, Option, Some, None, IfSome, sym, ap, subst, ◌∙◌, arith, le_refl, le_trans}
use Rattle.std.specs.Cmp.{IsEquivalence}
use Rattle.kg_level1.specs.Coherent.{Agrees, IsCoherentEntry}
use Rattle.kg_level1.specs.Entries.{Kept as Entry}
use Rattle.kg_level1.proofs.CoherenceLemmas.{read_coherent}
use Rattle.kg_level2.specs.Answers.{Abandons, LooksUp, Settles}
use Rattle.kg_level2.specs.Changing.{after_catch_up, after_jump, closed}
use Rattle.kg_level2.specs.Claims.{IsOutFor}
use Rattle.kg_level2.specs.Coherent.{IsCoherentTable}
use Rattle.kg_level2.specs.Shared.{Shared}
use Rattle.kg_level2.specs.declared.claim.Abandoned.{Abandoned}
use Rattle.kg_level2.specs.declared.claim.Abandoned.TheVariants as abandoned
use Rattle.kg_level2.specs.declared.claim.Claim.{Claim}
use Rattle.kg_level2.specs.declared.claim.Found.{Found}
use Rattle.kg_level2.specs.declared.claim.Found.TheVariants.{Hit, Claimed, Busy}
use Rattle.kg_level2.specs.declared.claim.Settled.{Settled}
use Rattle.kg_level2.specs.declared.claim.Settled.TheVariants as settled
use Rattle.kg_level2.proofs.CoherenceLemmas.{abandoned_coherent, hit_holds, looked_up_coherent, settled_coherent, stale_holds}
use Rattle.kg_level2.proofs.HolderLemmas.{no_stranger, out_abandoned, out_caught_up, out_closed, out_jumped, out_looked_up, out_settled, taken_out}
use Rattle.kg_layers.specs.Coherent.{HasClaimOut, IsCoherentFetch, IsCoherentStage, IsValueAt}
use Rattle.kg_layers.specs.Fetching.{after_abandoned, after_found, begun, claim_of}
use Rattle.kg_layers.specs.Stages.{Fetching, Got, IsAbandoning, Stage, Looking, Loading, Settling, Handed, Abandoning, Left, Came, Lost}
use Rattle.kg_layers.specs.Turning.{StageTurns, Turns, left_value}

-- ---- coherence

module _ {K V X : Type 0} (shows : V → X) (value : K → ℕ → X) (size : ℕ) where
  pub begun_coherent : (key : K) (pos : ℕ) → pos ≤ size → IsCoherentFetch shows value size (begun {V = V} key pos)
  begun_coherent key pos known = record { asked = known; stage = tt }

  -- what a fetch came to may be kept by a worker's level that isn't past the position asked
  pub came_coherent : (eq : K → K → Bool) (f : Fetching K V) (got : Got V) (expires level : ℕ) → f.stage ≡ Came got → level ≤ f.pos → IsCoherentFetch shows value size f
      → IsCoherentEntry shows value size level f.key (record { val = got.val; stamp = got.at; expires = expires })
  came_coherent eq f got expires level came behind coherent =
      let reads : IsValueAt shows value size f.key f.pos got.val got.at = subst (IsCoherentStage shows value size f.key f.pos) came coherent.stage in
      read_coherent shows value size eq level f.key (record { val = got.val; stamp = got.at; expires = expires }) (le_trans behind reads.from) reads.within reads.same

  module _ (eq : K → K → Bool) (same_key : (x y : K) → eq x y ≡ true → x ≡ y) (who now : ℕ) (key : K) (pos : ℕ) (t u : Shared K V) (coherent : IsCoherentTable shows value eq size t) where
    abbrev Coherent : Stage K V → Type 0
    Coherent stage = IsCoherentStage shows value size key pos stage

    table_coherent : (stage next : Stage K V) → StageTurns shows value size eq who now key pos stage t next u → Coherent stage → IsCoherentTable shows value eq size u
    table_coherent Looking next turn stands = looked_up_coherent shows value size eq same_key t u key pos now who turn.0 turn.1 coherent
    table_coherent (Loading claim) next turn stands = subst (IsCoherentTable shows value eq size) (sym turn.1) coherent
    table_coherent (Settling claim v at) next turn stands = settled_coherent shows value size eq same_key t u claim.key v turn.0 at now turn.1 turn.2
        (stands.2.same ∙ ap (λ k. value k at) (sym stands.0)) stands.2.within coherent
    table_coherent (Abandoning claim) next turn stands = abandoned_coherent shows value size eq same_key t u claim.key now turn.0 turn.1 coherent
    table_coherent (Handed v at) next turn stands = absurd turn
    table_coherent Left next turn stands = absurd turn
    table_coherent (Came got) next turn stands = absurd turn
    table_coherent Lost next turn stands = absurd turn

    found_coherent : (found : Found K V) → LooksUp eq t key pos now who found u → Coherent (after_found found)
    found_coherent (Hit held) is = let holds = hit_holds shows value size eq same_key t u coherent key pos now who held is in
        record { same = holds.same; from = holds.from; within = holds.within }
    found_coherent (Claimed claim) is = let known : t.level.pos ≤ size = coherent.level.within in let start : claim.start ≡ t.level.pos = is.3 in (is.2, omega arith)
    found_coherent (Busy other) is = tt

    left_coherent : (claim : Claim K) (answer : Abandoned V) → claim.key ≡ key → pos ≤ t.level.pos → Abandons eq t claim.key now answer u → Coherent (after_abandoned (left_value answer))
    left_coherent claim (abandoned.Stale held) is_key behind is = let holds = stale_holds shows value size eq same_key t u coherent claim.key now held is in record {
      same = holds.same ∙ ap (λ k. value k held.at) is_key;
      from = le_trans behind holds.from;
      within = holds.within;
    }
    left_coherent claim abandoned.Nothing is_key behind is = tt
    left_coherent claim abandoned.NoMemory is_key behind is = tt

    stage_coherent : (stage next : Stage K V) → pos ≤ size → (IsAbandoning stage → pos ≤ t.level.pos) → StageTurns shows value size eq who now key pos stage t next u → Coherent stage → Coherent next
    stage_coherent Looking next asked behind turn stands = subst Coherent (sym turn.2) (found_coherent turn.0 turn.1)
    stage_coherent (Loading claim) next asked behind turn stands = elim turn.0 [
      | inl read ↦ subst Coherent (sym read.2) (stands.0, stands.1, record { same = read.1; from = asked; within = le_refl size })
      | inr faulted ↦ subst Coherent (sym faulted) stands.0
    ]
    stage_coherent (Settling claim v at) next asked behind turn stands = subst Coherent (sym turn.3) stands.2
    stage_coherent (Abandoning claim) next asked behind turn stands = subst Coherent (sym turn.2) (left_coherent claim turn.0 stands (behind tt) turn.1)
    stage_coherent (Handed v at) next asked behind turn stands = absurd turn
    stage_coherent Left next asked behind turn stands = absurd turn
    stage_coherent (Came got) next asked behind turn stands = absurd turn
    stage_coherent Lost next asked behind turn stands = absurd turn

module _ {K V X : Type 0} (shows : V → X) (value : K → ℕ → X) (size : ℕ) (eq : K → K → Bool) (same_key : (x y : K) → eq x y ≡ true → x ≡ y) (who now : ℕ) (f g : Fetching K V) (t u : Shared K V) where
  pub turned_table : Turns shows value size eq who now f t g u → IsCoherentFetch shows value size f → IsCoherentTable shows value eq size t → IsCoherentTable shows value eq size u
  turned_table turn stands coherent = table_coherent shows value size eq same_key who now f.key f.pos t u coherent f.stage g.stage turn.stage stands.stage

  pub turned_fetch : Turns shows value size eq who now f t g u → (IsAbandoning f.stage → f.pos ≤ t.level.pos) → IsCoherentTable shows value eq size t
      → IsCoherentFetch shows value size f → IsCoherentFetch shows value size g
  turned_fetch turn behind coherent stands = record {
    asked = subst (λ p. p ≤ size) (sym turn.pos) stands.asked;
    stage = subst (λ k. IsCoherentStage shows value size k g.pos g.stage) (sym turn.key) (subst (λ p. IsCoherentStage shows value size f.key p g.stage) (sym turn.pos)
        (stage_coherent shows value size eq same_key who now f.key f.pos t u coherent f.stage g.stage stands.asked behind turn.stage stands.stage));
  }

-- a fetch is coherent with each longer history too
module _ {K V X : Type 0} (shows : V → X) (value longer : K → ℕ → X) (size more : ℕ) (agrees : Agrees value longer size) (grown : size ≤ more) where
  longer_value : (key : K) (pos : ℕ) (v : V) (at : ℕ) → IsValueAt shows value size key pos v at → IsValueAt shows longer more key pos v at
  longer_value key pos v at reads = record {
    same = reads.same ∙ agrees key at reads.within;
    from = reads.from;
    within = le_trans reads.within grown;
  }

  longer_stage : (key : K) (pos : ℕ) (stage : Stage K V) → IsCoherentStage shows value size key pos stage → IsCoherentStage shows longer more key pos stage
  longer_stage key pos Looking stands = tt
  longer_stage key pos (Loading claim) stands = (stands.0, le_trans stands.1 grown)
  longer_stage key pos (Settling claim v at) stands = (stands.0, stands.1, longer_value key pos v at stands.2)
  longer_stage key pos (Handed v at) stands = absurd stands
  longer_stage key pos (Abandoning claim) stands = stands
  longer_stage key pos Left stands = absurd stands
  longer_stage key pos (Came got) stands = longer_value key pos got.val got.at stands
  longer_stage key pos Lost stands = tt

  pub longer_fetch : (f : Fetching K V) → IsCoherentFetch shows value size f → IsCoherentFetch shows longer more f
  longer_fetch f stands = record { asked = le_trans stands.asked grown; stage = longer_stage f.key f.pos f.stage stands.stage }

-- ---- claims

for_claim : {C : Type 0} (P Q : C → Type 0) → ((c : C) → P c → Q c) → (o : Option C) → IfSome o P → IfSome o Q
for_claim P Q each None is = tt
for_claim P Q each (Some c) is = each c is

module _ {K V X : Type 0} (shows : V → X) (value : K → ℕ → X) (size : ℕ) (eq : K → K → Bool) (who now : ℕ) (key : K) (pos : ℕ) (t u : Shared K V) where
  abbrev Holding : Stage K V → Type 0
  Holding stage = IfSome (claim_of stage) (λ claim. IsOutFor eq who claim u.out)

  own_stage : IsEquivalence eq → (stage next : Stage K V) → StageTurns shows value size eq who now key pos stage t next u
      → IfSome (claim_of stage) (λ claim. IsOutFor eq who claim t.out) → Holding next
  own_stage laws Looking next turn out = subst Holding (sym turn.2) (of_found turn.0 turn.1)
    where
      of_found : (found : Found K V) → LooksUp eq t key pos now who found u → Holding (after_found found)
      of_found (Hit held) is = tt
      of_found (Claimed claim) is = taken_out eq laws t u key pos now who claim is
      of_found (Busy other) is = tt
  own_stage laws (Loading claim) next turn out = let still : IsOutFor eq who claim u.out = subst (λ (m : Shared K V). IsOutFor eq who claim m.out) (sym turn.1) out in elim turn.0 [
    | inl read ↦ subst Holding (sym read.2) still
    | inr faulted ↦ subst Holding (sym faulted) still
  ]
  own_stage laws (Settling claim v at) next turn out = subst Holding (sym turn.3) tt
  own_stage laws (Abandoning claim) next turn out = subst Holding (sym turn.2) (of_left (left_value turn.0))
    where
      of_left : (left : Option (Entry V)) → Holding (after_abandoned left)
      of_left (Some e) = tt
      of_left None = tt
  own_stage laws (Handed v at) next turn out = absurd turn
  own_stage laws Left next turn out = absurd turn
  own_stage laws (Came got) next turn out = absurd turn
  own_stage laws Lost next turn out = absurd turn

  other_stage : (same_key : (x y : K) → eq x y ≡ true → x ≡ y) (other : ℕ) (claim : Claim K) → (who ≡ other → ⊥) → (stage next : Stage K V)
      → StageTurns shows value size eq who now key pos stage t next u → IfSome (claim_of stage) (λ mine. IsOutFor eq who mine t.out)
      → IsOutFor eq other claim t.out → IsOutFor eq other claim u.out
  other_stage same_key other claim apart Looking next turn own out = out_looked_up eq t u key pos now who turn.0 turn.1 other claim out
  other_stage same_key other claim apart (Loading mine) next turn own out = subst (λ (m : Shared K V). IsOutFor eq other claim m.out) (sym turn.1) out
  other_stage same_key other claim apart (Settling mine v at) next turn own out = out_settled eq same_key t u who other mine claim v turn.0 at now turn.1 apart own out turn.2
  other_stage same_key other claim apart (Abandoning mine) next turn own out = out_abandoned eq same_key t u who other mine claim now turn.0 apart own out turn.1
  other_stage same_key other claim apart (Handed v at) next turn own out = absurd turn
  other_stage same_key other claim apart Left next turn own out = absurd turn
  other_stage same_key other claim apart (Came got) next turn own out = absurd turn
  other_stage same_key other claim apart Lost next turn own out = absurd turn

module _ {K V X : Type 0} (shows : V → X) (value : K → ℕ → X) (size : ℕ) (eq : K → K → Bool) (who now : ℕ) (f g : Fetching K V) (t u : Shared K V) where
  pub own_claim : IsEquivalence eq → Turns shows value size eq who now f t g u → HasClaimOut eq who f t.out → HasClaimOut eq who g u.out
  own_claim laws turn out = own_stage shows value size eq who now f.key f.pos t u laws f.stage g.stage turn.stage out

  pub other_claim : (same_key : (x y : K) → eq x y ≡ true → x ≡ y) (other : ℕ) (h : Fetching K V) → (who ≡ other → ⊥) → Turns shows value size eq who now f t g u
      → HasClaimOut eq who f t.out → HasClaimOut eq other h t.out → HasClaimOut eq other h u.out
  other_claim same_key other h apart turn own out = for_claim (λ claim. IsOutFor eq other claim t.out) (λ claim. IsOutFor eq other claim u.out)
      (λ claim is. other_stage shows value size eq who now f.key f.pos t u same_key other claim apart f.stage g.stage turn.stage own is) (claim_of h.stage) out

module _ {K V : Type 0} (eq : K → K → Bool) where
  pub given_up_claim : (same_key : (x y : K) → eq x y ≡ true → x ≡ y) (who other : ℕ) (f h : Fetching K V) (t : Shared K V) (mine : Claim K) → (who ≡ other → ⊥)
      → claim_of f.stage ≡ Some mine → HasClaimOut eq who f t.out → HasClaimOut eq other h t.out → HasClaimOut eq other h (closed eq mine.key t).out
  given_up_claim same_key who other f h t mine apart holds own out = for_claim (λ claim. IsOutFor eq other claim t.out) (λ claim. IsOutFor eq other claim (closed eq mine.key t).out)
      (λ claim is. out_closed eq same_key t who other mine claim apart (subst (λ o. IfSome o (λ claim. IsOutFor eq who claim t.out)) holds own) is) (claim_of h.stage) out

  pub caught_up_claim : (from : ℕ) (lists : List (List K)) (t : Shared K V) (other : ℕ) (h : Fetching K V) → HasClaimOut eq other h t.out
      → HasClaimOut eq other h (after_catch_up eq from lists t).out
  caught_up_claim from lists t other h out = for_claim (λ claim. IsOutFor eq other claim t.out) (λ claim. IsOutFor eq other claim (after_catch_up eq from lists t).out)
      (λ claim is. out_caught_up eq from lists t other claim is) (claim_of h.stage) out

  pub jumped_claim : (to : ℕ) (t : Shared K V) (other : ℕ) (h : Fetching K V) → HasClaimOut eq other h t.out → HasClaimOut eq other h (after_jump to t).out
  jumped_claim to t other h out = for_claim (λ claim. IsOutFor eq other claim t.out) (λ claim. IsOutFor eq other claim (after_jump to t).out)
      (λ claim is. out_jumped eq to t other claim is) (claim_of h.stage) out

  pub settles_own : {X : Type 0} (shows : V → X) (value : K → ℕ → X) (size : ℕ) (who : ℕ) (f : Fetching K V) (t u : Shared K V) (claim : Claim K) (v : V) (at now : ℕ) (negative : Bool) (answer : Settled)
      → f.stage ≡ Settling claim v at → IsCoherentFetch shows value size f → HasClaimOut eq who f t.out → Settles eq t claim.key v negative at now answer u → answer ≢ settled.Stranger
  settles_own shows value size who f t u claim v at now negative answer here stands out is =
      let loaded = subst (IsCoherentStage shows value size f.key f.pos) here stands.stage in
      no_stranger eq t u who claim v negative at now answer (subst (λ s. IfSome (claim_of s) (λ c. IsOutFor eq who c t.out)) here out) loaded.1 is
