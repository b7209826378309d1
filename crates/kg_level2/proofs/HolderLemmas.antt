-- Claims that stay out while others come and go.
use Rattle.std.proofs.Common.{◌≡◌, ◌≢◌, ℕ, ◌+◌, ◌≤◌, Bool, true, false, cond, not, List, [], ◌∷◌, ◌++◌, map, filter, find, Some, None, option_map, refl, sym, ap, ap₂, subst, ◌∙◌, arith, true≢false}
use Rattle.std.proofs.lemmas.Bool.{cond_both}
use Rattle.std.proofs.lemmas.List.Folds.{find-append}
use Rattle.std.specs.Cmp.{IsEquivalence}
use Rattle.std.specs.Option.{option_or}
use Rattle.kg_level2.specs.Answers.{Abandons, LooksUp, Settles}
use Rattle.kg_level2.specs.Changing.{after_catch_up, after_jump, closed}
use Rattle.kg_level2.specs.Claims.{IsOutFor, claim_on, touched, touched_by_jump, without}
use Rattle.kg_level2.specs.Shared.{Shared}
use Rattle.kg_level2.specs.declared.claim.Abandoned.{Abandoned}
use Rattle.kg_level2.specs.declared.claim.Abandoned.TheVariants.{Stale, Nothing, NoMemory}
use Rattle.kg_level2.specs.declared.claim.Claim.{Claim}
use Rattle.kg_level2.specs.declared.claim.Found.{Found}
use Rattle.kg_level2.specs.declared.claim.Found.TheVariants.{Hit, Claimed, Busy}
use Rattle.kg_level2.specs.declared.claim.Settled.{Settled}
use Rattle.kg_level2.specs.declared.claim.Settled.TheVariants.{Kept, Overtaken, Unkept, Stranger}
use Rattle.kg_level2.specs.declared.notes.OpenClaim.{OpenClaim}

module _ {X : Type 0} (p : X → Bool) where
  -- what a search finds is there still where all that it looks for stays
  pub find_filter : (q : X → Bool) → ((x : X) → p x ≡ true → q x ≡ true) → (xs : List X) → find p (filter q xs) ≡ find p xs
  find_filter q stays [] = refl
  find_filter q stays (x ∷ xs) = by_test (q x) refl (p x) refl (find_filter q stays xs)
    where
      by_test : (b : Bool) → q x ≡ b → (c : Bool) → p x ≡ c → find p (filter q xs) ≡ find p xs
          → find p (cond b (x ∷ filter q xs) (filter q xs)) ≡ cond c (Some x) (find p xs)
      by_test true kept c is rest = ap₂ (λ t o. cond t (Some x) o) is rest
      by_test false gone true is rest = absurd (true≢false (sym (stays x is) ∙ gone))
      by_test false gone false is rest = rest

  pub find_map : (f : X → X) → ((x : X) → p (f x) ≡ p x) → (xs : List X) → find p (map f xs) ≡ option_map f (find p xs)
  find_map f same [] = refl
  find_map f same (x ∷ xs) = ap₂ (λ t o. cond t (Some (f x)) o) (same x) (find_map f same xs) ∙ by_test (p x)
    where
      by_test : (b : Bool) → cond b (Some (f x)) (option_map f (find p xs)) ≡ option_map f (cond b (Some x) (find p xs))
      by_test true = refl
      by_test false = refl

module _ {K : Type 0} (eq : K → K → Bool) where
  abbrev on : K → OpenClaim K → Bool
  on k o = eq k o.key

  out_added : (out more : List (OpenClaim K)) (holder : ℕ) (claim : Claim K) → IsOutFor eq holder claim out → IsOutFor eq holder claim (out ++ more)
  out_added out more holder claim is = (
    is.0,
    find-append (on claim.key) out more ∙ ap (λ f. option_or f (find (on claim.key) more)) is.1,
    is.2,
    is.3,
  )

  out_mapped : (f : OpenClaim K → OpenClaim K) → ((o : OpenClaim K) → (f o).key ≡ o.key) → ((o : OpenClaim K) → (f o).who ≡ o.who)
      → ((o : OpenClaim K) → (f o).start ≡ o.start) → (out : List (OpenClaim K)) (holder : ℕ) (claim : Claim K)
      → IsOutFor eq holder claim out → IsOutFor eq holder claim (map f out)
  out_mapped f key who start out holder claim is = (
    f is.0,
    find_map (on claim.key) f (λ o. ap (eq claim.key) (key o)) out ∙ ap (option_map f) is.1,
    who is.0 ∙ is.2,
    start is.0 ∙ is.3,
  )

  -- two workers' claims are on different keys
  out_without : (same_key : (x y : K) → eq x y ≡ true → x ≡ y) → (out : List (OpenClaim K)) (who holder : ℕ) (mine claim : Claim K) → (who ≡ holder → ⊥)
      → IsOutFor eq who mine out → IsOutFor eq holder claim out → IsOutFor eq holder claim (without eq mine.key out)
  out_without same_key out who holder mine claim apart own is = (
    is.0,
    find_filter (λ (o : OpenClaim K). eq claim.key o.key) (λ (o : OpenClaim K). not (eq mine.key o.key)) stays out ∙ is.1,
    is.2,
    is.3,
  )
    where
      stays : (o : OpenClaim K) → eq claim.key o.key ≡ true → not (eq mine.key o.key) ≡ true
      stays o here = by_test (eq mine.key o.key) refl
        where
          by_test : (b : Bool) → eq mine.key o.key ≡ b → not b ≡ true
          by_test false other = refl
          by_test true same =
              let keys : mine.key ≡ claim.key = same_key mine.key o.key same ∙ sym (same_key claim.key o.key here) in
              let both : Some own.0 ≡ Some is.0 = sym own.1 ∙ ap (λ k. claim_on eq k out) keys ∙ is.1 in
              let one : own.0 ≡ is.0 = cc in
              absurd (apart (sym own.2 ∙ ap (λ (c : OpenClaim K). c.who) one ∙ is.2))

  -- ---- commits

  touched_key : (lists : List (List K)) (from above : ℕ) (o : OpenClaim K)
      → ((touched eq from above lists o).key ≡ o.key) × ((touched eq from above lists o).who ≡ o.who) × ((touched eq from above lists o).start ≡ o.start)
  touched_key [] from above o = (refl, refl, refl)
  touched_key (keys ∷ lists) from above o = cond_both _ (record o { touch = from + 1 }) o
      (λ m. ((touched eq (from + 1) above lists m).key ≡ o.key) × ((touched eq (from + 1) above lists m).who ≡ o.who) × ((touched eq (from + 1) above lists m).start ≡ o.start))
      (λ is. touched_key lists (from + 1) above (record o { touch = from + 1 })) (λ is. touched_key lists (from + 1) above o)

  pub out_caught_up : {V : Type 0} (from : ℕ) (lists : List (List K)) (t : Shared K V) (holder : ℕ) (claim : Claim K)
      → IsOutFor eq holder claim t.out → IsOutFor eq holder claim (after_catch_up eq from lists t).out
  out_caught_up from lists t holder claim is = out_mapped (touched eq from t.level.pos lists)
      (λ o. (touched_key lists from t.level.pos o).0) (λ o. (touched_key lists from t.level.pos o).1) (λ o. (touched_key lists from t.level.pos o).2)
      t.out holder claim is

  pub out_jumped : {V : Type 0} (to : ℕ) (t : Shared K V) (holder : ℕ) (claim : Claim K)
      → IsOutFor eq holder claim t.out → IsOutFor eq holder claim (after_jump to t).out
  out_jumped to t holder claim is = cond_both _ _ t (λ u. IsOutFor eq holder claim u.out)
      (λ ahead. out_mapped (touched_by_jump to) (λ o. refl) (λ o. refl) (λ o. refl) t.out holder claim is) (λ behind. is)

module _ {K V : Type 0} (eq : K → K → Bool) where
  -- ---- look-ups

  pub taken_out : IsEquivalence eq → (t after : Shared K V) (k : K) (pos now who : ℕ) (claim : Claim K) → LooksUp eq t k pos now who (Claimed claim) after → IsOutFor eq who claim after.out
  taken_out laws t after k pos now who claim is = subst (λ (u : Shared K V). IsOutFor eq who claim u.out) (sym is.4) (noted, there, refl, sym is.3)
    where
      noted : OpenClaim K
      noted = record { key = k; who = who; start = t.level.pos; touch = 0 }

      there : claim_on eq claim.key (t.out ++ noted ∷ []) ≡ Some noted
      there = ap (λ j. claim_on eq j (t.out ++ noted ∷ [])) is.2 ∙ find-append (λ (o : OpenClaim K). eq k o.key) t.out (noted ∷ [])
          ∙ ap (λ f. option_or f (claim_on eq k (noted ∷ []))) is.0 ∙ ap (λ b. cond b (Some noted) None) (laws.refl k)

  pub out_looked_up : (t after : Shared K V) (k : K) (pos now who : ℕ) (answer : Found K V) → LooksUp eq t k pos now who answer after
      → (holder : ℕ) (claim : Claim K) → IsOutFor eq holder claim t.out → IsOutFor eq holder claim after.out
  out_looked_up t after k pos now who (Busy other) is holder claim out = subst (λ (u : Shared K V). IsOutFor eq holder claim u.out) (sym is.1) out
  out_looked_up t after k pos now who (Hit held) is holder claim out = subst (λ (u : Shared K V). IsOutFor eq holder claim u.out) (sym is.2) out
  out_looked_up t after k pos now who (Claimed taken) is holder claim out = subst (λ (u : Shared K V). IsOutFor eq holder claim u.out) (sym is.4)
      (out_added eq t.out (record { key = k; who = who; start = t.level.pos; touch = 0 } ∷ []) holder claim out)

  -- ---- claims that come back

  settled_out : (t after : Shared K V) (k : K) (v : V) (negative : Bool) (at now : ℕ) (answer : Settled) → Settles eq t k v negative at now answer after → after.out ≡ without eq k t.out
  settled_out t after k v negative at now Stranger is = ap (λ (u : Shared K V). u.out) is.1
  settled_out t after k v negative at now (Overtaken by) is = ap (λ (u : Shared K V). u.out) is.1
  settled_out t after k v negative at now (Kept expires) is = ap (λ (u : Shared K V). u.out) is.2
  settled_out t after k v negative at now Unkept is = ap (λ (u : Shared K V). u.out) is.1

  abandoned_out : (t after : Shared K V) (k : K) (now : ℕ) (answer : Abandoned V) → Abandons eq t k now answer after → after.out ≡ without eq k t.out
  abandoned_out t after k now (Stale held) is = ap (λ (u : Shared K V). u.out) is.2
  abandoned_out t after k now Nothing is = ap (λ (u : Shared K V). u.out) is.1
  abandoned_out t after k now NoMemory is = ap (λ (u : Shared K V). u.out) is.2

  -- a load that was read at its claim's start or later is no stranger's
  pub no_stranger : (t after : Shared K V) (who : ℕ) (claim : Claim K) (v : V) (negative : Bool) (at now : ℕ) (answer : Settled)
      → IsOutFor eq who claim t.out → claim.start ≤ at → Settles eq t claim.key v negative at now answer after → answer ≢ Stranger
  no_stranger t after who claim v negative at now Stranger out late is =
      let begun : out.0.start ≡ claim.start = out.3 in let known : out.0.start ≤ at = omega arith in λ same. is.0 out.0 (out.1, known)
  no_stranger t after who claim v negative at now (Overtaken by) out late is = λ other. cc
  no_stranger t after who claim v negative at now (Kept expires) out late is = λ other. cc
  no_stranger t after who claim v negative at now Unkept out late is = λ other. cc

  module _ (same_key : (x y : K) → eq x y ≡ true → x ≡ y) where
    pub out_closed : (t : Shared K V) (who holder : ℕ) (mine claim : Claim K) → (who ≡ holder → ⊥)
        → IsOutFor eq who mine t.out → IsOutFor eq holder claim t.out → IsOutFor eq holder claim (closed eq mine.key t).out
    out_closed t = out_without eq same_key t.out

    pub out_settled : (t after : Shared K V) (who holder : ℕ) (mine claim : Claim K) (v : V) (negative : Bool) (at now : ℕ) (answer : Settled)
        → (who ≡ holder → ⊥) → IsOutFor eq who mine t.out → IsOutFor eq holder claim t.out → Settles eq t mine.key v negative at now answer after
        → IsOutFor eq holder claim after.out
    out_settled t after who holder mine claim v negative at now answer apart own out is = subst (IsOutFor eq holder claim)
        (sym (settled_out t after mine.key v negative at now answer is)) (out_without eq same_key t.out who holder mine claim apart own out)

    pub out_abandoned : (t after : Shared K V) (who holder : ℕ) (mine claim : Claim K) (now : ℕ) (answer : Abandoned V)
        → (who ≡ holder → ⊥) → IsOutFor eq who mine t.out → IsOutFor eq holder claim t.out → Abandons eq t mine.key now answer after
        → IsOutFor eq holder claim after.out
    out_abandoned t after who holder mine claim now answer apart own out is = subst (IsOutFor eq holder claim)
        (sym (abandoned_out t after mine.key now answer is)) (out_without eq same_key t.out who holder mine claim apart own out)
