-- One plugin's turn, as the walk takes it.
use Rattle.std.proofs.Common.{◌≡◌, ℕ, ◌+◌, true, false, cond, List, [], ◌∷◌, ◌++◌, Option, Some, None, is_some, slice_get, Result, Ok, refl, sym, ap, subst, ◌∙◌}
use Rattle.std.proofs.lemmas.List.{append-nil}
use Rattle.std.proofs.lemmas.List.Concat.{flat_map-append}
use Rattle.std.specs.List.{flat_map}
use Rattle.kg_row_types.specs.PluginNames.{plugins_in_order}
use Rattle.kg_row_types.specs.declared.plugin.PluginName.{PluginName}
use Rattle.kg_row_types.specs.declared.plugin.PluginRow.{PluginRow}
use Rattle.kg_plugin_table.specs.Precedence.{chosen_row}
use Rattle.kg_context.specs.Given.{Answer, value_in}
use Rattle.kg_limit.specs.declared.hit.Verdict.{Verdict}
use Rattle.kg_course.specs.Course.{Leaves, run}
use Rattle.kg_course.specs.Phases.{Under, access}
use Rattle.kg_course.specs.Plain.{answers, chose, list_of, ran, scope_of}
use Rattle.kg_course.specs.Walks.{Runs, TakesTurn, chosen_in, in_walk, under_way}
use Rattle.kg_course.specs.declared.moment.Moment.{Moment}
use Rattle.kg_course.specs.declared.walk.Walk.{Walk}
use Rattle.kg_course.specs.declared.want.Want.{Want}

-- ---- what a turn leads to

-- a turn more is over, and no row asks
abbrev pub over_without : Walk → Walk
over_without walk = record walk { asking = None; taken = walk.taken + 1 }

abbrev pub over_with : ℕ → Walk → Walk
over_with place walk = record walk { turns = walk.turns ++ place ∷ []; asking = None; taken = walk.taken + 1 }

-- a row asks
abbrev pub asking_at : ℕ → Walk → Walk
asking_at place walk = record walk { asking = Some place }

-- the rows that were chosen, with one turn more
grown : (rows : List PluginRow) (turns : List ℕ) (place : ℕ) (row : PluginRow) → slice_get rows place ≡ Some row
    → flat_map (chosen_in rows) (turns ++ place ∷ []) ≡ flat_map (chosen_in rows) turns ++ row ∷ []
grown rows turns place row is =
    flat_map-append (chosen_in rows) turns (place ∷ [])
    ∙ ap (λ behind. flat_map (chosen_in rows) turns ++ behind) (append-nil (chosen_in rows place))
    ∙ ap (λ found. flat_map (chosen_in rows) turns ++ list_of found) is

-- no row is chosen
pub turn_without : (rows : List PluginRow) (moment : Moment) (given : List Answer) (verdicts : List Verdict) (name : PluginName) (before : Walk)
    → chosen_row rows name (scope_of before.ctx) ≡ None → TakesTurn rows moment given verdicts name before None (over_without before)
turn_without rows moment given verdicts name before none =
    let here = under_way rows verdicts before in
    let came : List PluginRow → Result Under Want = λ chosen. Ok (in_walk chosen verdicts before) in
    record {
      leads = λ upstream.
          ap (λ row. run (ran moment row (chose row here)) (answers (value_in given) verdicts upstream)) none
          ∙ ap came (append-nil here.chosen);
      kept = tt;
      known = tt;
      taken = λ over. refl;
      request = refl;
      counted = λ before none. before none;
    }

-- a row is chosen, and lacks something
pub turn_lacking : (rows : List PluginRow) (moment : Moment) (given : List Answer) (verdicts : List Verdict) (name : PluginName) (before after : Walk) (place : ℕ) (row : PluginRow) (lacking : Want)
    → slice_get plugins_in_order before.taken ≡ Some name → slice_get rows place ≡ Some row → chosen_row rows name (scope_of before.ctx) ≡ Some row
    → Runs (ran moment (Some row)) given verdicts before (Some lacking) after → TakesTurn rows moment given verdicts name before (Some lacking) (asking_at place after)
turn_lacking rows moment given verdicts name before after place row lacking next there is runs =
    let here = under_way rows verdicts before in
    let stopped : TakesTurn rows moment given verdicts name before (Some lacking) (asking_at place before) = record {
      leads = λ upstream.
          ap (λ found. run (ran moment found (chose found here)) (answers (value_in given) verdicts upstream)) is
          ∙ runs.leads (here.chosen ++ row ∷ []) upstream;
      kept = refl;
      known = λ other at. (ap is_some (same_row other (cc)), there ∙ sym (same_row other (cc)));
      taken = λ none. absurd (cc);
      request = refl;
      counted = λ before none. before none;
    } in
    subst (λ walk. TakesTurn rows moment given verdicts name before (Some lacking) (asking_at place walk)) (sym runs.kept) stopped
  where
    same_row : (other : PluginName) → other ≡ name → chosen_row rows other (scope_of before.ctx) ≡ Some row
    same_row other same = ap (λ one. chosen_row rows one (scope_of before.ctx)) same ∙ is

-- a row is chosen, and is through: the turn is noted
pub turn_over : (rows : List PluginRow) (moment : Moment) (given : List Answer) (verdicts : List Verdict) (name : PluginName) (before after : Walk) (place : ℕ) (row : PluginRow)
    → slice_get rows place ≡ Some row → chosen_row rows name (scope_of before.ctx) ≡ Some row
    → Runs (ran moment (Some row)) given verdicts before None after → TakesTurn rows moment given verdicts name before None (over_with place after)
turn_over rows moment given verdicts name before after place row there is runs =
    let here = under_way rows verdicts before in
    let came : List PluginRow → Result Under Want = λ chosen. Ok (in_walk chosen verdicts after) in
    record {
      leads = λ upstream.
          ap (λ found. run (ran moment found (chose found here)) (answers (value_in given) verdicts upstream)) is
          ∙ runs.leads (here.chosen ++ row ∷ []) upstream
          ∙ ap came (sym (grown rows after.turns place row there ∙ ap (λ turns. flat_map (chosen_in rows) turns ++ row ∷ []) runs.turns));
      kept = tt;
      known = tt;
      taken = λ over. ap (λ count. count + 1) runs.taken;
      request = runs.request;
      counted = runs.counted;
    }

-- ---- one row

-- no row runs where a plugin has ended the request
pub ran_ended : (row : PluginRow) (moment : Moment) (given : List Answer) (verdicts : List Verdict) (before : Walk)
    → is_some before.ctx.end ≡ true → Runs (ran moment (Some row)) given verdicts before None before
ran_ended row moment given verdicts before ended = record {
  leads = λ chosen upstream.
      let here = in_walk chosen verdicts before in
      ap (λ over. run (cond over (Leaves here) (access moment row here)) (answers (value_in given) verdicts upstream)) ended;
  kept = tt;
  turns = refl;
  taken = refl;
  request = refl;
  counted = λ before none. before none;
}

-- else it runs
pub ran_going : (row : PluginRow) (moment : Moment) (given : List Answer) (verdicts : List Verdict) (before now : Walk) (lacking : Option Want)
    → is_some before.ctx.end ≡ false → Runs (access moment row) given verdicts before lacking now → Runs (ran moment (Some row)) given verdicts before lacking now
ran_going row moment given verdicts before now lacking going runs = record {
  leads = λ chosen upstream.
      let here = in_walk chosen verdicts before in
      ap (λ over. run (cond over (Leaves here) (access moment row here)) (answers (value_in given) verdicts upstream)) going
      ∙ runs.leads chosen upstream;
  kept = runs.kept;
  turns = runs.turns;
  taken = runs.taken;
  request = runs.request;
  counted = runs.counted;
}
