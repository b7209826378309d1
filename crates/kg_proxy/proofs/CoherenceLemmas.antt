-- A worker stays coherent with the history, and what it answers a request holds there.
use Rattle.std.proofs.Common.{◌≡◌, ℕ, ◌+◌, ◌≤◌, max, ◌⊎◌, inl, inr, Bool, true, false, cond, List, [], ◌∷◌, ◌++◌, length, Contains, Option, Some, None, option_and_then, refl, sym, subst, arith, if◌then◌else◌}
use Rattle.std.proofs.lemmas.List.{length-append}
use Rattle.std.specs.Cmp.{IsEquivalence}
use Rattle.std.specs.Map.{lookup}
use Rattle.lru.proofs.Splits.{Contains-cons, Contains-head, Contains-nil, Contains-tail}
use Rattle.kg_generation.specs.Generations.{built_from}
use Rattle.kg_generation.specs.declared.generation.Gen.{Gen}
use Rattle.kg_keeper.specs.declared.answer.Events.{Events}
use Rattle.kg_keeper.specs.declared.answer.Events.TheVariants.{Since, Gap}
use Rattle.kg_level1.specs.Changing.{after_put}
use Rattle.kg_level1.specs.Coherent.{IsCoherentLevel}
use Rattle.kg_level1.specs.Entries.{Kept, Level}
use Rattle.kg_level1.specs.Reading.{is_live, live_entry}
use Rattle.kg_level1.proofs.CoherenceLemmas.{entry_holds, jump_coherent, longer_coherent, looked_up, made_coherent, put_coherent, read_coherent, sync_coherent}
use Rattle.kg_level1.proofs.OrderLemmas.{same_coherent}
use Rattle.kg_row_types.specs.declared.key.GenKey.{GenKey}
use Rattle.kg_row_types.specs.declared.key.Key.{Key}
use Rattle.kg_row_types.specs.declared.value.Value.{Value}
use Rattle.kg_row_values.specs.Commits.{generation_after, value_after}
use Rattle.kg_row_values.specs.declared.command.Command.{Command}
use Rattle.kg_row_values.proofs.CommitLemmas.{unnamed_gens, unnamed_keys}
use Rattle.kg_row_values.proofs.HistoryLemmas.{generation_stays, value_stays}
use Rattle.kg_visit.specs.Told.{Told, Use}
use Rattle.kg_proxy.specs.Advancing.{Advances, Stays, Answers, local_use}
use Rattle.kg_proxy.specs.Coherent.{HoldsSince, IsCoherentWorker, TellsTouched}
use Rattle.kg_proxy.specs.Workers.{HasSameHolding, Holding, after_events, empty_worker, key_eq, kind_eq}

-- a list that was added to has what it had, and what was added
Contains-added : {X : Type 0} (xs : List X) (y x : X) → Contains (xs ++ y ∷ []) x → Contains xs x ⊎ (y ≡ x)
Contains-added [] y x there = elim (Contains-cons y [] x there) [ inl here ↦ inr here | inr none ↦ absurd (Contains-nil x none) ]
Contains-added (z ∷ xs) y x there = elim (Contains-cons z (xs ++ y ∷ []) x there) [
  | inl here ↦ inl (subst (Contains (z ∷ xs)) here (Contains-head z xs))
  | inr behind ↦ elim (Contains-added xs y x behind) [ inl earlier ↦ inl (Contains-tail z xs x earlier) | inr last ↦ inr last ]
]

-- a value is what it shows
abbrev itself : Value → Value
itself value = value

module _ (history : List Command) where
  pub worker_made : (number room pos : ℕ) → pos ≤ length history → IsCoherentWorker history (empty_worker number room pos)
  worker_made number room pos known = record {
    keys = made_coherent itself (value_after history) (length history) key_eq room pos known;
    gens = made_coherent built_from (generation_after history) (length history) kind_eq 2 pos known;
  }

  pub worker_kept : (same_key : (x y : Key) → key_eq x y ≡ true → x ≡ y) (w : Holding) (used : Use) (expires : ℕ) → HoldsSince history w.keys.pos used → IsCoherentWorker history w
      → IsCoherentWorker history (record w { keys = after_put key_eq w.keys used.key (record { val = used.value; stamp = used.at; expires = expires }) })
  worker_kept same_key w used expires holds coherent = record {
    keys = put_coherent itself (value_after history) (length history) key_eq same_key w.keys used.key entry
        (read_coherent itself (value_after history) (length history) key_eq w.keys.pos used.key entry holds.from holds.within holds.same) coherent.keys;
    gens = coherent.gens;
  }
    where
      entry : Kept Value
      entry = record { val = used.value; stamp = used.at; expires = expires }

  pub worker_kept_gen : (same_kind : (x y : GenKey) → kind_eq x y ≡ true → x ≡ y) (w : Holding) (which : GenKey) (built : Gen) (at : ℕ) → w.gens.pos ≤ at → at ≤ length history
      → built_from built ≡ generation_after history which at → IsCoherentWorker history w
      → IsCoherentWorker history (record w { gens = after_put kind_eq w.gens which (record { val = built; stamp = at; expires = 0 }) })
  worker_kept_gen same_kind w which built at late known same coherent = record {
    keys = coherent.keys;
    gens = put_coherent built_from (generation_after history) (length history) kind_eq same_kind w.gens which entry
        (read_coherent built_from (generation_after history) (length history) kind_eq w.gens.pos which entry late known same) coherent.gens;
  }
    where
      entry : Kept Gen
      entry = record { val = built; stamp = at; expires = 0 }

  pub worker_synced : IsEquivalence key_eq → IsEquivalence kind_eq → (w : Holding) (from to : ℕ) (events : Events) → from ≤ w.keys.pos → from ≤ w.gens.pos → to ≤ length history
      → TellsTouched history from events to → IsCoherentWorker history w → IsCoherentWorker history (after_events from events to w)
  worker_synced keys_laws kinds_laws w from to (Since keys gens) start gens_start known tells coherent = record {
    keys = let end : from + length keys ≡ to = tells.2 in
        sync_coherent itself (value_after history) (length history) key_eq from keys w.keys start (omega arith)
        (unnamed_keys history key_eq keys_laws.refl from keys tells.0) coherent.keys;
    gens = let end : from + length gens ≡ to = tells.3 in
        sync_coherent built_from (generation_after history) (length history) kind_eq from gens w.gens gens_start (omega arith)
        (unnamed_gens history kind_eq kinds_laws.refl from gens tells.1) coherent.gens;
  }
  worker_synced keys_laws kinds_laws w from to (Gap floor) start gens_start known tells coherent = record {
    keys = jump_coherent itself (value_after history) (length history) key_eq to w.keys known coherent.keys;
    gens = jump_coherent built_from (generation_after history) (length history) kind_eq to w.gens known coherent.gens;
  }

  pub worker_same : (before after : Holding) → HasSameHolding before after → IsCoherentWorker history before → IsCoherentWorker history after
  worker_same before after same coherent = record {
    keys = same_coherent itself (value_after history) (length history) key_eq before.keys after.keys same.keys coherent.keys;
    gens = subst (λ (l : Level GenKey Gen). IsCoherentLevel built_from (generation_after history) (length history) l) (sym same.gens) coherent.gens;
  }

  pub worker_longer : (more : List Command) (w : Holding) → IsCoherentWorker history w → IsCoherentWorker (history ++ more) w
  worker_longer more w coherent = record {
    keys = longer_coherent itself (value_after history) (value_after (history ++ more)) (length history) (length (history ++ more)) w.keys
        (λ k n within. sym (value_stays history more n within k)) grown coherent.keys;
    gens = longer_coherent built_from (generation_after history) (generation_after (history ++ more)) (length history) (length (history ++ more)) w.gens
        (λ g n within. sym (generation_stays history more n within g)) grown coherent.gens;
  }
    where
      grown : length history ≤ length (history ++ more)
      grown = omega (arith, length-append history more)

-- ---- what a worker answers

module _ (history : List Command) (same_key : (x y : Key) → key_eq x y ≡ true → x ≡ y) (w : Holding) (coherent : IsCoherentWorker history w) (now : ℕ) where
  local_holds : (k : Key) (e : Kept Value) → live_entry key_eq w.keys k now ≡ Some e → HoldsSince history w.keys.pos (local_use k e)
  local_holds k e found = by_entry (lookup (key_eq k) w.keys.entries) refl found
    where
      by_life : (d : Kept Value) (b : Bool) → lookup (key_eq k) w.keys.entries ≡ Some d → cond b (Some (record d { stamp = max d.stamp w.keys.pos })) None ≡ Some e
          → HoldsSince history w.keys.pos (local_use k e)
      by_life d true there is =
          let holds = entry_holds itself (value_after history) (length history) w.keys.pos k d coherent.keys.within
          (looked_up itself (value_after history) (length history) key_eq same_key w.keys coherent.keys k d there) in
          let same : record d { stamp = max d.stamp w.keys.pos } ≡ e = cc in
          subst (λ (c : Kept Value). HoldsSince history w.keys.pos (local_use k c)) same
          (record { same = holds.same; from = omega arith; within = holds.within })
      by_life d false there none = cc

      by_entry : (o : Option (Kept Value)) → lookup (key_eq k) w.keys.entries ≡ o
          → option_and_then (λ (d : Kept Value). if is_live d now then Some (record d { stamp = max d.stamp w.keys.pos }) else None) o ≡ Some e
          → HoldsSince history w.keys.pos (local_use k e)
      by_entry None absent none = cc
      by_entry (Some d) there is = by_life d (is_live d now) there is

  pub own_holds : (from told : Told) → Advances w.keys now from told → (used : Use) → Contains told.uses used → (Contains from.uses used → ⊥) → HoldsSince history w.keys.pos used
  own_holds from _ Stays used there new = absurd (new there)
  own_holds from _ (Answers told k e before wanted found) used there new = elim (Contains-added told.uses (local_use k e) used there) [
    | inl earlier ↦ own_holds from told before used earlier new
    | inr last ↦ subst (HoldsSince history w.keys.pos) last (local_holds k e found)
  ]
