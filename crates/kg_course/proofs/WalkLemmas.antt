-- A walk that goes on from where it stood.
use Rattle.std.proofs.Common.{◌≡◌, ℕ, ◌+◌, List, [], ◌∷◌, ◌++◌, take, drop, Option, Some, None, Result, Ok, Err, refl, sym, ap, subst, ◌∙◌, slice_get, inl, inr}
use Rattle.std.proofs.lemmas.List.{drop_all, drop_more, take_more}
use Rattle.std.proofs.lemmas.Option.{get_or_from_slice_get, slice_get_cases, slice_get_within}
use Rattle.kg_row_types.specs.PluginNames.{plugins_in_order}
use Rattle.kg_row_types.specs.declared.plugin.PluginName.{PluginName}
use Rattle.kg_row_types.specs.declared.plugin.PluginRow.{PluginRow}
use Rattle.kg_context.specs.Given.{Answer, value_in}
use Rattle.kg_limit.specs.declared.hit.Verdict.{Verdict}
use Rattle.kg_course.specs.Course.{Answers, run}
use Rattle.kg_course.specs.Phases.{Under}
use Rattle.kg_course.specs.Plain.{answers, turn, walk}
use Rattle.kg_course.specs.Walks.{Goes, HasCome, HasComeOn, KnowsRow, Stands, TakesTurn, under_way}
use Rattle.kg_course.specs.declared.moment.Moment.{Moment}
use Rattle.kg_course.specs.declared.walk.Walk.{Walk}
use Rattle.kg_course.specs.declared.want.Want.{Want}
use Rattle.kg_course.proofs.CourseLemmas.{onward, run_through}

-- the turns of some plugins, and then those of others
pub run_walk_append : (rows : List PluginRow) (moment : Moment) (first later : List PluginName) (start : Under) (told : Answers)
    → run (walk rows moment (first ++ later) start) told ≡ onward (run (walk rows moment first start) told) (λ now. run (walk rows moment later now) told)
run_walk_append rows moment [] later start told = refl
run_walk_append rows moment (name ∷ first) later start told =
    run_through (turn rows moment name start) (walk rows moment (first ++ later)) told
    ∙ onward_alike (λ now. run_walk_append rows moment first later now told) (run (turn rows moment name start) told)
    ∙ sym (ap (λ r. onward r (λ now. run (walk rows moment later now) told)) (run_through (turn rows moment name start) (walk rows moment first) told))
  where
    onward_alike : ((now : Under) → run (walk rows moment (first ++ later) now) told ≡ onward (run (walk rows moment first now) told) (λ at. run (walk rows moment later at) told))
        → (r : Result Under Want) → onward r (λ now. run (walk rows moment (first ++ later) now) told)
        ≡ onward (onward r (λ now. run (walk rows moment first now) told)) (λ now. run (walk rows moment later now) told)
    onward_alike further (Ok now) = further now
    onward_alike further (Err lacking) = refl

-- one turn more: `run_walk_append` at `take (count + 1)`, which is `take count` and the name at that place
came_on : (rows : List PluginRow) (moment : Moment) (told : Answers) (start before now : Under) (count : ℕ) (name : PluginName)
    → HasCome rows moment told start count before → slice_get plugins_in_order count ≡ Some name
    → run (turn rows moment name before) told ≡ Ok now → HasCome rows moment told start (count + 1) now
came_on rows moment told start before now count name come next led = record {
  so_far =
      ap (λ names. run (walk rows moment names start) told)
      (take_more plugins_in_order count name (slice_get_within plugins_in_order count name next)
      ∙ ap (λ one. take count plugins_in_order ++ one ∷ []) (get_or_from_slice_get plugins_in_order count name name next))
      ∙ run_walk_append rows moment (take count plugins_in_order) (name ∷ []) start told
      ∙ ap (λ came. onward came (λ at. run (walk rows moment (name ∷ []) at) told)) come.so_far
      ∙ run_through (turn rows moment name before) (walk rows moment []) told
      ∙ ap (λ came. onward came (λ at. run (walk rows moment [] at) told)) led;
}

-- a turn that lacks something: so do the turns that are left
stopped : (rows : List PluginRow) (moment : Moment) (told : Answers) (here : Under) (count : ℕ) (name : PluginName) (lacking : Want)
    → slice_get plugins_in_order count ≡ Some name → run (turn rows moment name here) told ≡ Err lacking
    → Stands rows moment told count here (Some lacking)
stopped rows moment told here count name lacking next lacks = record {
  rest =
      ap (λ names. run (walk rows moment names here) told)
      (drop_more plugins_in_order count name (slice_get_within plugins_in_order count name next)
      ∙ ap (λ one. one ∷ drop (count + 1) plugins_in_order) (get_or_from_slice_get plugins_in_order count name name next))
      ∙ run_through (turn rows moment name here) (walk rows moment (drop (count + 1) plugins_in_order)) told
      ∙ ap (λ came. onward came (λ at. run (walk rows moment (drop (count + 1) plugins_in_order) at) told)) lacks;
}

-- no turn is left
at_end : (rows : List PluginRow) (moment : Moment) (told : Answers) (here : Under) (count : ℕ)
    → slice_get plugins_in_order count ≡ None → Stands rows moment told count here None
at_end rows moment told here count none = record {
  rest = ap (λ names. run (walk rows moment names here) told) (drop_all_from_none plugins_in_order count none);
}
  where
    drop_all_from_none : {A : Type 0} (xs : List A) (n : ℕ) → slice_get xs n ≡ None → drop n xs ≡ []
    drop_all_from_none xs n none = elim (slice_get_cases xs n).1 [
      | inl (x, within, some, is) ↦ absurd (cc)
      | inr (past, is) ↦ drop_all n xs past
    ]

-- ---- a walk over the turns

-- a turn is over: the walk has come on
pub goes_on : (rows : List PluginRow) (moment : Moment) (given : List Answer) (verdicts : List Verdict) (begin before now : Walk) (name : PluginName)
    → HasComeOn rows moment given verdicts begin before → slice_get plugins_in_order before.taken ≡ Some name
    → TakesTurn rows moment given verdicts name before None now → HasComeOn rows moment given verdicts begin now
goes_on rows moment given verdicts begin before now name on next turned = record {
  came = λ start upstream come.
      let told = answers (value_in given) verdicts upstream in
      subst (λ count. HasCome rows moment told start count (under_way rows verdicts now)) (sym (turned.taken refl))
      (came_on rows moment told start (under_way rows verdicts before) (under_way rows verdicts now) before.taken name (on.came start upstream come) next (turned.leads upstream));
  request = turned.request ∙ on.request;
  counted = λ uncounted. turned.counted (on.counted uncounted);
}

-- a turn lacks something: the walk stops where it stands
pub stops : (rows : List PluginRow) (moment : Moment) (given : List Answer) (verdicts : List Verdict) (begin before now : Walk) (name : PluginName) (lacking : Want)
    → HasComeOn rows moment given verdicts begin before → slice_get plugins_in_order before.taken ≡ Some name
    → TakesTurn rows moment given verdicts name before (Some lacking) now → Goes rows moment given verdicts begin (Some lacking) now
stops rows moment given verdicts begin before now name lacking on next turned =
    let stopped_at : Option ℕ → Walk = λ asking. record before { asking = asking } in
    let here : Goes rows moment given verdicts begin (Some lacking) (stopped_at now.asking) = record {
      on = record { came = on.came; request = on.request; counted = on.counted };
      stands = λ upstream. stopped rows moment (answers (value_in given) verdicts upstream) (under_way rows verdicts before) before.taken name lacking next (turned.leads upstream);
      known = subst (KnowsRow rows) turned.kept turned.known;
    } in
    subst (λ walk. Goes rows moment given verdicts begin (Some lacking) walk) (sym turned.kept) here

-- no turn is left
pub ends : (rows : List PluginRow) (moment : Moment) (given : List Answer) (verdicts : List Verdict) (begin now : Walk)
    → HasComeOn rows moment given verdicts begin now → KnowsRow rows now → slice_get plugins_in_order now.taken ≡ None → Goes rows moment given verdicts begin None now
ends rows moment given verdicts begin now on known none = record {
  on = on;
  known = known;
  stands = λ upstream. at_end rows moment (answers (value_in given) verdicts upstream) (under_way rows verdicts now) now.taken none;
}
