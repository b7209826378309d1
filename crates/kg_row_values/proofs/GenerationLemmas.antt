-- When a change of a list of rows leaves it as it was.
use Rattle.std.proofs.Common.{◌≡◌, ◌≢◌, ◌↔◌, ◌⊎◌, ℕ, ◌<◌, ◌==◌, Bool, true, false, cond, not, ◌||◌, IsTrue, List, [], ◌∷◌, ◌++◌, get_or, Contains, Option, Some, None, filter, find, refl, sym, ap, subst, ◌∙◌, inl, inr, ⊎_elim, true≢false, arith, if◌then◌else◌}
use Rattle.std.proofs.lemmas.List.Elements.{Contains-append_left, Contains-get_or, Contains-push, Contains-push_cases}
use Rattle.std.proofs.lemmas.List.Quantifiers.{all_pairs_push}
use Rattle.std.proofs.lemmas.Option.{same_Some}
use Rattle.std.specs.List.{AllPairs, list_any}
use Rattle.std.specs.Option.{is_some}
use Rattle.kg_row_types.specs.RowLists.{RowLists}
use Rattle.kg_row_types.specs.Tables.{replaced}
use Rattle.kg_row_types.specs.Values.{Generation, RouterRows, PluginRows}
use Rattle.kg_row_types.specs.declared.entity.Kind.TheVariants as kind
use Rattle.kg_row_types.specs.declared.key.GenKey.{GenKey}
use Rattle.kg_row_types.specs.declared.key.GenKey.TheVariants.{Router, Plugins}
use Rattle.kg_row_types.specs.declared.plugin.PluginRow.{PluginRow}
use Rattle.kg_row_types.specs.declared.route.Route.{Route}
use Rattle.kg_row_types.specs.declared.service.Service.{Service}
use Rattle.kg_row_values.specs.Changes.{NamesChangedGenerations}
use Rattle.kg_row_values.specs.Rows.{deleted}
use Rattle.kg_row_values.specs.Values.{generation_of}

abbrev head_or : {X : Type 0} → X → List X → X
head_or d [] = d
head_or d (x ∷ xs) = x

abbrev rest_of : {X : Type 0} → List X → List X
rest_of [] = []
rest_of (x ∷ xs) = xs

module _ {X : Type 0} where
  -- ---- members taken out

  none_gone : (gone : X → Bool) (xs : List X) → list_any gone xs ≡ false → xs ≡ filter (λ x. not (gone x)) xs
  none_gone gone [] none = refl
  none_gone gone (x ∷ xs) none =
      (elim (gone x) as (λ g. (g || list_any gone xs) ≡ false → x ∷ xs ≡ cond {A = List X} (not g) (x ∷ filter (λ y. not (gone y)) xs) (filter (λ y. not (gone y)) xs)) [
        | true ↦ λ wrong. absurd (true≢false wrong)
        | false ↦ λ rest. ap (λ ys. x ∷ ys) (none_gone gone xs rest)
      ]) none

  none_left : (gone : X → Bool) (xs : List X) → list_any gone (filter (λ x. not (gone x)) xs) ≡ false
  none_left gone [] = refl
  none_left gone (x ∷ xs) =
      (elim (gone x) as (λ g. gone x ≡ g → list_any gone (cond {A = List X} (not g) (x ∷ filter (λ y. not (gone y)) xs) (filter (λ y. not (gone y)) xs)) ≡ false) [
        | true ↦ λ _. none_left gone xs
        | false ↦ λ is. ap (λ b. b || list_any gone (filter (λ y. not (gone y)) xs)) is ∙ none_left gone xs
      ]) refl

  one_gone : (gone : X → Bool) (xs : List X) → list_any gone xs ≡ true → xs ≢ filter (λ x. not (gone x)) xs
  one_gone gone xs some same = true≢false (sym some ∙ ap (list_any gone) same ∙ none_left gone xs)

  -- the list stays exactly where no member is taken out
  filter_keeps : (gone : X → Bool) (xs : List X) (b : Bool) → b ≡ list_any gone xs → IsTrue (not b) ↔ (xs ≡ filter (λ x. not (gone x)) xs)
  filter_keeps gone xs true is = (λ wrong. absurd (true≢false (sym wrong)), λ same. absurd (one_gone gone xs (sym is) same))
  filter_keeps gone xs false is = (λ _. none_gone gone xs (sym is), λ _. refl)

  -- ---- a member replaced

  module _ (which : X → Bool) where
    not_there : (new : X) (xs : List X) → find which xs ≡ None → xs ≡ replaced which new xs
    not_there new [] none = refl
    not_there new (x ∷ xs) none =
        (elim (which x) as (λ w. cond {A = Option X} w (Some x) (find which xs) ≡ None → x ∷ xs ≡ cond {A = List X} w (new ∷ xs) (x ∷ replaced which new xs)) [
          | true ↦ λ wrong. absurd (true≢false (ap is_some wrong))
          | false ↦ λ rest. ap (λ ys. x ∷ ys) (not_there new xs rest)
        ]) none

    replaced_same : (old : X) (xs : List X) → find which xs ≡ Some old → xs ≡ replaced which old xs
    replaced_same old [] found = refl
    replaced_same old (x ∷ xs) found =
        (elim (which x) as (λ w. cond {A = Option X} w (Some x) (find which xs) ≡ Some old → x ∷ xs ≡ cond {A = List X} w (old ∷ xs) (x ∷ replaced which old xs)) [
          | true ↦ λ is. ap (λ y. y ∷ xs) (same_Some x old is)
          | false ↦ λ rest. ap (λ ys. x ∷ ys) (replaced_same old xs rest)
        ]) found

    replaced_differs : (old new : X) (xs : List X) → find which xs ≡ Some old → xs ≡ replaced which new xs → old ≡ new
    replaced_differs old new [] found same = absurd (true≢false (sym (ap is_some found)))
    replaced_differs old new (x ∷ xs) found same =
        (elim (which x) as (λ w. cond {A = Option X} w (Some x) (find which xs) ≡ Some old → x ∷ xs ≡ cond {A = List X} w (new ∷ xs) (x ∷ replaced which new xs) → old ≡ new) [
          | true ↦ λ is equal. sym (same_Some x old is) ∙ ap (head_or x) equal
          | false ↦ λ rest equal. replaced_differs old new xs rest (ap rest_of equal)
        ]) found same

    -- the list stays exactly where the member is the new one
    pub replaced_keeps : (old new : X) (xs : List X) (same : Bool) → find which xs ≡ Some old → IsTrue same ↔ (old ≡ new) → IsTrue same ↔ (xs ≡ replaced which new xs)
    replaced_keeps old new xs same found tells =
        (λ is. replaced_same old xs found ∙ ap (λ y. replaced which y xs) (tells.0 is), λ equal. tells.1 (replaced_differs old new xs found equal))

    -- where no member is there, none is replaced
    pub none_replaced : (new : X) (xs : List X) → find which xs ≡ None → IsTrue true ↔ (xs ≡ replaced which new xs)
    none_replaced new xs none = (λ _. not_there new xs none, λ _. refl)

-- ---- the generations after a change

abbrev services_in : Generation → List Service
services_in (RouterRows services routes) = services
services_in (PluginRows plugins) = []

abbrev routes_in : Generation → List Route
routes_in (RouterRows services routes) = routes
routes_in (PluginRows plugins) = []

abbrev plugins_in : Generation → List PluginRow
plugins_in (RouterRows services routes) = []
plugins_in (PluginRows plugins) = plugins

module _ (rows : RowLists) where
  -- rows taken out
  module _ (id : ℕ) (b : Bool) where
    pub services_gone : b ≡ list_any (λ row. row.id == id) rows.services → IsTrue (not b) ↔ (generation_of rows Router ≡ generation_of (deleted kind.Service id rows) Router)
    services_gone is =
        let keeps = filter_keeps (λ row. row.id == id) rows.services b is in
        (λ all. ap (λ services. RouterRows services rows.routes) (keeps.0 all), λ same. keeps.1 (ap services_in same))

    pub routes_gone : b ≡ list_any (λ row. row.id == id) rows.routes → IsTrue (not b) ↔ (generation_of rows Router ≡ generation_of (deleted kind.Route id rows) Router)
    routes_gone is =
        let keeps = filter_keeps (λ row. row.id == id) rows.routes b is in
        (λ all. ap (λ routes. RouterRows rows.services routes) (keeps.0 all), λ same. keeps.1 (ap routes_in same))

    pub plugins_gone : (gone : PluginRow → Bool) → b ≡ list_any gone rows.plugins → IsTrue (not b) ↔ (PluginRows rows.plugins ≡ PluginRows (filter (λ row. not (gone row)) rows.plugins))
    plugins_gone gone is =
        let keeps = filter_keeps gone rows.plugins b is in
        (λ all. ap PluginRows (keeps.0 all), λ same. keeps.1 (ap plugins_in same))

-- the generations that don't stay are those that change
module _ (before after : RowLists) where
  abbrev Stays : GenKey → Type 0
  Stays g = generation_of before g ≡ generation_of after g

  -- each of the list changes, and each other one stays
  named_once : (gens : List GenKey) → ((g : GenKey) → Contains gens g → ¬ (Stays g)) → ((g : GenKey) → Contains gens g ⊎ Stays g) → AllPairs (λ a b. a ≢ b) gens
      → NamesChangedGenerations before after gens
  named_once gens sound told distinct = record {
    each = λ g. (sound g, λ differs. ⊎_elim (λ there. there) (λ same. absurd (differs same)) (told g));
    others = told;
    distinct = distinct;
  }

  untrue : {P : Type 0} → IsTrue false ↔ P → ¬ P
  untrue tells holds = true≢false (sym (tells.1 holds))

  nothing_in : (h : GenKey) → ¬ (Contains [] h)
  nothing_in h there = absurd (omega (arith, there.1))

  one_only : (g h : GenKey) → Contains (g ∷ []) h → g ≡ h
  one_only g h there = ⊎_elim (λ none. absurd (nothing_in h none)) (λ same. same) (Contains-push_cases [] g h there)

  pub changed_ones : (router plugins : Bool) → IsTrue router ↔ Stays Router → IsTrue plugins ↔ Stays Plugins
      → NamesChangedGenerations before after ((if router then [] else Router ∷ []) ++ (if plugins then [] else Plugins ∷ []))
  changed_ones true true router plugins =
      named_once [] (λ g there. absurd (nothing_in g there)) (λ g. inr (both g)) (λ i j d before_j within. absurd (omega (arith, within)))
    where
      both : (g : GenKey) → Stays g
      both Router = router.0 refl
      both Plugins = plugins.0 refl
  changed_ones false true router plugins =
      named_once (Router ∷ []) (λ g there. subst (λ h. ¬ (Stays h)) (one_only Router g there) (untrue router)) told (λ i j d before_j within. absurd (omega (arith, before_j, within)))
    where
      told : (g : GenKey) → Contains (Router ∷ []) g ⊎ Stays g
      told Router = inl (Contains-push [] Router)
      told Plugins = inr (plugins.0 refl)
  changed_ones true false router plugins =
      named_once (Plugins ∷ []) (λ g there. subst (λ h. ¬ (Stays h)) (one_only Plugins g there) (untrue plugins)) told (λ i j d before_j within. absurd (omega (arith, before_j, within)))
    where
      told : (g : GenKey) → Contains (Plugins ∷ []) g ⊎ Stays g
      told Router = inr (router.0 refl)
      told Plugins = inl (Contains-push [] Plugins)
  changed_ones false false router plugins =
      named_once (Router ∷ Plugins ∷ []) (λ g _. differs g) told
      (all_pairs_push (λ a b. a ≢ b) (Router ∷ []) Plugins (λ i j d before_j within. absurd (omega (arith, before_j, within))) apart)
    where
      differs : (g : GenKey) → ¬ (Stays g)
      differs Router = untrue router
      differs Plugins = untrue plugins

      told : (g : GenKey) → Contains (Router ∷ Plugins ∷ []) g ⊎ Stays g
      told Router = inl (Contains-append_left (Router ∷ []) (Plugins ∷ []) Router (Contains-push [] Router))
      told Plugins = inl (Contains-push (Router ∷ []) Plugins)

      is_router : GenKey → Bool
      is_router Router = true
      is_router Plugins = false

      apart : (k : ℕ) (d : GenKey) → k < 1 → get_or (Router ∷ []) k d ≢ Plugins
      apart k d within same =
          true≢false (ap is_router (one_only Router (get_or (Router ∷ []) k d) (Contains-get_or (Router ∷ []) k d within) ∙ same))
