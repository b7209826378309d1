-- What a worker is, it is after each of its calls.
use Rattle.std.proofs.Common.{◌≡◌, ℕ, ◌+◌, max, Bool, List, length, Option, Some, None, Result, Ok, Err, IsTrue, IfSome, OnOk, OnErr, refl, sym, ap, subst, ◌∙◌}
use Rattle.std.specs.Arc.{arc_value}
use Rattle.std.specs.Option.{option_map}
use Rattle.kg_level1.specs.Changing.{after_put, after_sync}
use Rattle.kg_level1.specs.Entries.{Kept, Level}
use Rattle.kg_level1.specs.Reading.{after_answer, live_entry, shown}
use Rattle.kg_level1.specs.declared.held.Held.{Held}
use Rattle.kg_level1.proofs.OrderLemmas.{answer_same}
use Rattle.kg_generation.specs.Generations.{is_of_kind}
use Rattle.kg_generation.specs.declared.generation.Gen.{Gen}
use Rattle.kg_keeper.specs.declared.answer.Events.{Events}
use Rattle.kg_keeper.specs.declared.answer.Events.TheVariants.{Since}
use Rattle.kg_row_types.specs.Values.{answers_key}
use Rattle.kg_row_types.specs.contracts.key.GenKeyCopyKey.TheImpl.Laws as kind_laws
use Rattle.kg_row_types.specs.contracts.key.KeyCopyKey.TheImpl.Laws as key_laws
use Rattle.kg_row_types.specs.declared.key.GenKey.{GenKey}
use Rattle.kg_row_types.specs.declared.key.Key.{Key}
use Rattle.kg_row_types.specs.declared.value.Value.{Value}
use Rattle.kg_course.specs.declared.want.Want.{Want}
use Rattle.kg_course.specs.declared.want.Want.TheVariants as want
use Rattle.kg_visit.specs.Told.{Use}
use Rattle.kg_proxy.specs.Advancing.{OwnUse, local_use}
use Rattle.kg_proxy.specs.Workers.{HasSameHolding, IsWorker, TellsAll, key_eq, kind_eq}
use Rattle.kg_proxy.proofs.FitLemmas.{each_answer, each_found, each_put, each_sync}

-- what holds of what a call leaves where it answers, and of what was there before
pub after_call : {A E L : Type 0} (P : L → Type 0) (came : Result A E) (before good after : L) → OnOk came (after ≡ good) → OnErr came (after ≡ before) → P before → P good → P after
after_call P (Ok a) before good after done same was is = subst P (sym done) is
after_call P (Err e) before good after done same was is = subst P (sym same) was

answer_pos : {K V : Type 0} (eq : K → K → Bool) (l : Level K V) (k : K) (answer : Option (Kept V)) → (after_answer eq l k answer).pos ≡ l.pos
answer_pos eq l k None = refl
answer_pos eq l k (Some e) = refl

module _ (number : ℕ) (keys : Level Key Value) (gens : Level GenKey Gen) (is : IsWorker (record { number = number; keys = keys; gens = gens })) where
  pub keys_asked : (k : Key) (answer : Option (Kept Value)) → IsWorker (record { number = number; keys = after_answer key_eq keys k answer; gens = gens })
  keys_asked k answer = record {
    together = answer_pos key_eq keys k answer ∙ is.together;
    values = each_answer answers_key key_eq keys k answer is.values;
    kinds = is.kinds;
  }

  pub gens_asked : (g : GenKey) (answer : Option (Kept Gen)) → IsWorker (record { number = number; keys = keys; gens = after_answer kind_eq gens g answer })
  gens_asked g answer = record {
    together = is.together ∙ sym (answer_pos kind_eq gens g answer);
    values = is.values;
    kinds = each_answer is_of_kind kind_eq gens g answer is.kinds;
  }

  pub keys_put : (k : Key) (e : Kept Value) → IsTrue (answers_key k e.val) → IsWorker (record { number = number; keys = after_put key_eq keys k e; gens = gens })
  keys_put k e fits = record {
    together = is.together;
    values = each_put answers_key key_eq key_laws.eq_is_same-law keys k e fits is.values;
    kinds = is.kinds;
  }

  pub gens_put : (g : GenKey) (e : Kept Gen) → IsTrue (is_of_kind g e.val) → IsWorker (record { number = number; keys = keys; gens = after_put kind_eq gens g e })
  gens_put g e fits = record {
    together = is.together;
    values = is.values;
    kinds = each_put is_of_kind kind_eq kind_laws.eq_is_same-law gens g e fits is.kinds;
  }

  pub both_synced : (from to : ℕ) (events : Events) (key_lists : List (List Key)) (gen_lists : List (List GenKey)) (new_keys : Level Key Value) (new_gens : Level GenKey Gen)
      → TellsAll from events to → events ≡ Since key_lists gen_lists → new_keys ≡ after_sync key_eq from key_lists keys → new_gens ≡ after_sync kind_eq from gen_lists gens
      → IsWorker (record { number = number; keys = new_keys; gens = new_gens })
  both_synced from to events key_lists gen_lists new_keys new_gens tells since keys_are gens_are =
      let told = subst (λ e. TellsAll from e to) since tells in
      subst (λ (l : Level Key Value). IsWorker (record { number = number; keys = l; gens = new_gens })) (sym keys_are)
      (subst (λ (l : Level GenKey Gen). IsWorker (record { number = number; keys = after_sync key_eq from key_lists keys; gens = l })) (sym gens_are)
      (record {
        together = ap (λ pos. max pos (from + length key_lists)) is.together ∙ ap (max gens.pos) (told.0 ∙ sym told.1);
        values = each_sync answers_key key_eq from key_lists keys is.values;
        kinds = each_sync is_of_kind kind_eq from gen_lists gens is.kinds;
      }))

  -- what is answered fits
  pub held_kind : (g : GenKey) (now : ℕ) (held : Option (Held Gen)) → option_map shown held ≡ live_entry kind_eq gens g now → IfSome held (λ h. IsTrue (is_of_kind g (arc_value h.val)))
  held_kind g now None none = tt
  held_kind g now (Some h) some = each_found is_of_kind kind_eq kind_laws.eq_is_same-law gens is.kinds g now (shown h) (sym some)

  pub own_fits : (k : Key) (now : ℕ) (came : Option (Held Value)) (h : Held Value) (used : Use) → option_map shown came ≡ live_entry key_eq keys k now → came ≡ Some h
      → used ≡ local_use k (shown h) → IsTrue (answers_key used.key used.value)
  own_fits k now came h used found some same = subst (λ (u : Use). IsTrue (answers_key u.key u.value)) (sym same)
      (each_found answers_key key_eq key_laws.eq_is_same-law keys is.values k now (shown h) (sym found ∙ ap (option_map shown) some))

-- asking changes the order of the values alone
pub asked_same : (number : ℕ) (keys : Level Key Value) (gens : Level GenKey Gen) (k : Key) (answer : Option (Kept Value))
    → HasSameHolding (record { number = number; keys = keys; gens = gens }) (record { number = number; keys = after_answer key_eq keys k answer; gens = gens })
asked_same number keys gens k answer = record { number = refl; keys = answer_same key_eq key_laws.eq_is_same-law keys k answer; gens = refl }

-- an entry that answers what is wanted
pub own_is : (l : Level Key Value) (now : ℕ) (wanted : Want) (k : Key) (came : Option (Held Value)) (h : Held Value) (used : Use) → wanted ≡ want.Entity k
    → option_map shown came ≡ live_entry key_eq l k now → came ≡ Some h → used ≡ local_use k (shown h) → OwnUse l now wanted (Some used)
own_is l now wanted k came h used asks found some same = (k, shown h, asks, sym found ∙ ap (option_map shown) some, same)

-- a copy of what fits fits
pub copy_fits : (used : Use) (k j : Key) (v u : Value) → k ≡ j → v ≡ u → used.key ≡ j → used.value ≡ u → IsTrue (answers_key used.key used.value) → IsTrue (answers_key k v)
copy_fits used k j v u keys values key_is value_is fits =
    subst (λ i. IsTrue (answers_key i v)) (key_is ∙ sym keys) (subst (λ x. IsTrue (answers_key used.key x)) (value_is ∙ sym values) fits)
