-- The rows of a declaration, inserted one after another.
use Rattle.std.proofs.Common.{◌≡◌, ◌≢◌, ℕ, suc, ◌+◌, ◌==◌, ◌<◌, ◌≤◌, Bool, true, false, cond, List, [], ◌∷◌, ◌++◌, length, get_or, fold, Option, Some, None, Result, Ok, Err, refl, sym, ap, ◌∙◌, append_assoc, arith}
use Rattle.std.proofs.lemmas.Bool.Decides.{nat_tests}
use Rattle.std.proofs.lemmas.List.{append-nil}
use Rattle.std.proofs.lemmas.List.Sums.{fold-append}
use Rattle.serde_json.specs.Data.{Members, object}
use Rattle.kg_row_types.specs.Ids.{drawn_id}
use Rattle.kg_rows.specs.Decision.{Decides, insertion}
use Rattle.kg_row_values.specs.declared.command.Command.{Command}
use Rattle.kg_rows.specs.declared.draft.DecideError.{DecideError}
use Rattle.kg_rows.specs.declared.draft.DecideError.TheVariants as decide_error
use Rattle.kg_rows.specs.declared.draft.Refusal.{Refusal}
use Rattle.kg_field_rules.proofs.RuleLemmas.{in_order_none}
use Rattle.kg_field_rules.specs.Rules.{BrokenRule, in_order, tell}
use Rattle.kg_bodies.specs.Settings.{id_at}
use Rattle.kg_field_rules.specs.declared.rule.Rule.TheVariants.{WrongType}
use Rattle.kg_declared_rows.specs.Violations.{own_violations}
use Rattle.kg_declare.specs.Inserting.{IsConsistent, IsIdOf, IsUnread, Prepares, Refuses, TellsRefusal, TellsViolations, accepted_at, decided, identified, inserted, start, with_row, with_rows}
use Rattle.kg_declare.specs.Outcome.{Accepted, Refused, all_added, answered, declaration_of, declared, drawn_for, next, outcome, own_id, parent_of, row_violations, unread, violated, with_ids, wrong_violations}
use Rattle.kg_declared_rows.specs.Rows.{Row}
use Rattle.kg_declare.specs.Steps.{IsRefusedAt, accepted_after}
use Rattle.kg_declare.specs.declared.error.DeclareError.{DeclareError}
use Rattle.kg_declare.specs.declared.error.DeclareError.TheVariants as error
use Rattle.kg_declare.specs.declared.progress.Made.{Made}
use Rattle.kg_declare.proofs.OneByOne.{one_by_one}

-- ---- violations

-- what breaks no rule in the end broke none
pub none_told : (violations : List BrokenRule) → in_order violations ≡ [] → violations ≡ []
none_told = in_order_none

cons_is_some : (violation : BrokenRule) (violations : List BrokenRule) → violation ∷ violations ≢ []
cons_is_some violation violations = λ same. let none : suc (length violations) ≡ 0 = ap length same in absurd (omega arith)

pub wrong_is_a_violation : (violations : List BrokenRule) (wrong : List (List ℕ)) → 0 < length wrong → violations ++ wrong_violations wrong ≢ []
wrong_is_a_violation violations [] some = absurd (omega arith)
wrong_is_a_violation [] (name ∷ wrong) some = λ same. cons_is_some (name, WrongType) (wrong_violations wrong) same
wrong_is_a_violation (violation ∷ violations) (name ∷ wrong) some = λ same. cons_is_some violation (violations ++ wrong_violations (name ∷ wrong)) same

pub no_wrong : (violations : List BrokenRule) → violations ++ wrong_violations [] ≡ violations
no_wrong violations = append-nil violations

-- violations that are told behind those in order are in order with them
pub told_behind : (own behind told : List BrokenRule) → told ≡ fold tell (in_order own) behind → told ≡ in_order (own ++ behind)
told_behind own behind told is = is ∙ sym (fold-append tell [] own behind)

-- ---- one row

no_violations : (violations : List BrokenRule) → violations ≢ [] → (length violations == 0) ≡ false
no_violations [] some = absurd (some refl)
no_violations (violation ∷ violations) some = grind (arith, nat_tests)

-- the id behind those that were drawn before
next_id : (front more : List (List ℕ)) (bytes : List ℕ) → get_or (front ++ bytes ∷ [] ++ more) (length front) [] ≡ bytes
next_id [] more bytes = refl
next_id (first ∷ front) more bytes = next_id front more bytes

pub nothing_more : (n : ℕ) → n ≡ n + 0
nothing_more n = omega arith

one_more : (n : ℕ) → n + 1 ≡ suc n
one_more n = omega arith

identified_as : (front drawn more : List (List ℕ)) (now limit : ℕ) (row : Row) (old : Made) (set : Option ℕ) (id : ℕ) → IsIdOf set drawn id
    → identified (front ++ drawn ++ more) now limit row set (accepted_at old (length front))
    ≡ inserted now limit row id (length front + length drawn) (accepted_at old (length front))
identified_as front drawn more now limit row old (Some set) id is =
    let n : length front + length drawn ≡ length front = ap (λ ids. length front + length ids) is.0 ∙ omega arith in
    rw (n, is.1) refl
identified_as front drawn more now limit row old None id is =
    let bytes = is.0 in
    let n : length front + length drawn ≡ suc (length front) = ap (λ ids. length front + length ids) is.1 ∙ one_more (length front) in
    rw (n, is.1, is.2, next_id front more bytes) refl

-- a row without violations is inserted with its id
pub row_step : (front drawn more : List (List ℕ)) (now limit : ℕ) (row : Row) (old : Made) (id : ℕ) → row_violations row ≡ []
    → IsIdOf (id_at (object row.members)) drawn id
    → with_row (front ++ drawn ++ more) now limit row (accepted_at old (length front))
    ≡ inserted now limit row id (length front + length drawn) (accepted_at old (length front))
unfolding with_row
row_step front drawn more now limit row old id none is = rw none (identified_as front drawn more now limit row old (id_at (object row.members)) id is)

-- ---- ids that are drawn

-- so many are drawn for what is decided
drawn_decided : (accepted : Accepted) (drawn : ℕ) (answer : Result Command Refusal) → drawn_for (decided accepted drawn answer) ≡ drawn
drawn_decided accepted drawn (Ok command) = refl
drawn_decided accepted drawn (Err refusal) = refl

-- no row takes an id back
identified_draws : (draws : List (List ℕ)) (now limit : ℕ) (row : Row) (set : Option ℕ) (accepted : Accepted)
    → accepted.drawn ≤ drawn_for (identified draws now limit row set accepted)
identified_draws draws now limit row (Some id) accepted =
    let same = drawn_decided accepted accepted.drawn (insertion accepted.rows row.kind (parent_of accepted.commands row.parent) (object row.members) id now limit) in
    omega arith
identified_draws draws now limit row None accepted =
    let same = drawn_decided accepted (suc accepted.drawn) (insertion accepted.rows row.kind (parent_of accepted.commands row.parent) (object row.members) (drawn_id (get_or draws accepted.drawn [])) now limit) in
    omega arith

row_draws : (draws : List (List ℕ)) (now limit : ℕ) (row : Row) (accepted : Accepted) → accepted.drawn ≤ drawn_for (with_row draws now limit row accepted)
unfolding with_row
row_draws draws now limit row accepted = by_test (length (row_violations row) == 0)
  where
    by_test : (unbroken : Bool)
        → accepted.drawn ≤ drawn_for (cond unbroken (identified draws now limit row (own_id row) accepted) (Err (violated (row_violations row) accepted.drawn)))
    by_test true = identified_draws draws now limit row (own_id row) accepted
    by_test false = omega arith

rows_draw : (draws : List (List ℕ)) (now limit : ℕ) (rows : List Row) (accepted : Accepted) → accepted.drawn ≤ drawn_for (with_rows draws now limit rows accepted)
rows_draw draws now limit [] accepted = omega arith
rows_draw draws now limit (row ∷ rows) accepted =
    by_step (with_row draws now limit row accepted) (row_draws draws now limit row accepted) (rows_draw draws now limit rows)
  where
    by_step : (step : Result Accepted Refused) → accepted.drawn ≤ drawn_for step
        → ((done : Accepted) → done.drawn ≤ drawn_for (with_rows draws now limit rows done))
        → accepted.drawn ≤ drawn_for (next (with_rows draws now limit rows) step)
    by_step (Ok done) here later = let more = later done in omega arith
    by_step (Err refused) here later = here

rows_draw_more : (draws : List (List ℕ)) (now limit : ℕ) (rows : List Row) (step : Result Accepted Refused)
    → drawn_for step ≤ drawn_for (next (with_rows draws now limit rows) step)
rows_draw_more draws now limit rows (Ok done) = rows_draw draws now limit rows done
rows_draw_more draws now limit rows (Err refused) = omega arith

-- ---- refusals

-- a row with violations is refused
pub row_refused : (draws : List (List ℕ)) (now limit : ℕ) (row : Row) (accepted : Accepted) (e : DeclareError) → TellsViolations e (row_violations row)
    → IsRefusedAt e (with_row draws now limit row accepted) accepted.drawn
unfolding with_row
row_refused draws now limit row accepted (error.Refused response) told = rw (no_violations (row_violations row) told.0, told.1) refl
row_refused draws now limit row accepted error.NoMemory told = row_draws draws now limit row accepted

-- what is refused of a draft
pub refused_draft : (e : DecideError) (told : DeclareError) (meant : Result Command Refusal) → TellsRefusal told e → Decides {A = Command} (Err e) meant → Refuses told meant
refused_draft (decide_error.Refused refusal) (error.Refused response) meant told is = (refusal, is, told)
refused_draft decide_error.NoMemory (error.Refused response) meant told is = absurd told
refused_draft e error.NoMemory meant told is = tt

pub refused_at : (e : DeclareError) (accepted : Accepted) (drawn : ℕ) (meant : Result Command Refusal) → Refuses e meant → IsRefusedAt e (decided accepted drawn meant) drawn
refused_at (error.Refused response) accepted drawn meant told =
    ap (decided accepted drawn) told.1 ∙ ap (λ reply. Err (record { response = reply; drawn = drawn })) (sym told.2)
refused_at error.NoMemory accepted drawn meant told = let same = drawn_decided accepted drawn meant in omega arith

-- ---- rows

-- what was inserted so far, and what is ahead
pub record SoFar {S : Type 0} (draws : S → S → List (List ℕ) → Type 0) (before after : S) (old new : Made) (now limit : ℕ) (all rest : List Row) : Type 0 where
  pub drawn : List (List ℕ)
  pub moved : draws before after drawn
  pub ahead : (more : List (List ℕ)) → with_rows (drawn ++ more) now limit all (accepted_at old 0) ≡ with_rows (drawn ++ more) now limit rest (accepted_at new (length drawn))

pub nothing_ahead_yet : {S : Type 0} (draws : S → S → List (List ℕ) → Type 0) (before : S) (made : Made) (now limit : ℕ) (all : List Row) → draws before before [] → SoFar draws before before made made now limit all all
nothing_ahead_yet draws before made now limit all none = record { drawn = []; moved = none; ahead = λ more. refl }

-- one row more
pub ahead_row : (drawn step more : List (List ℕ)) (now limit : ℕ) (all rest : List Row) (row : Row) (old new : Made)
    → ((more : List (List ℕ)) → with_rows (drawn ++ more) now limit all (accepted_at old 0) ≡ with_rows (drawn ++ more) now limit (row ∷ rest) (accepted_at new (length drawn)))
    → (answer : Result Accepted Refused) → with_row (drawn ++ step ++ more) now limit row (accepted_at new (length drawn)) ≡ answer
    → with_rows (drawn ++ step ++ more) now limit all (accepted_at old 0) ≡ next (with_rows (drawn ++ step ++ more) now limit rest) answer
ahead_row drawn step more now limit all rest row old new ahead answer is =
    ap (λ draws. with_rows draws now limit all (accepted_at old 0)) (append_assoc drawn step more)
    ∙ ahead (step ++ more)
    ∙ ap (λ draws. with_rows draws now limit (row ∷ rest) (accepted_at new (length drawn))) (sym (append_assoc drawn step more))
    ∙ ap (next (with_rows (drawn ++ step ++ more) now limit rest)) is

-- a refusal at a row is one of all rows
pub refused_later : (e : DeclareError) (draws : List (List ℕ)) (now limit : ℕ) (rest : List Row) (step all : Result Accepted Refused) (n m : ℕ)
    → n ≡ m → all ≡ next (with_rows draws now limit rest) step → IsRefusedAt e step n → IsRefusedAt e all m
refused_later (error.Refused response) draws now limit rest step all n m same later is =
    later ∙ ap (next (with_rows draws now limit rest)) is ∙ ap (λ drawn. Err (record { response = response; drawn = drawn })) same
refused_later error.NoMemory draws now limit rest step all n m same later within =
    let more = rows_draw_more draws now limit rest step in
    let total = ap drawn_for later in
    omega arith

pub nothing_left : {A : Type 0} (xs : List A) → length xs ≡ 0 → xs ≡ []
nothing_left [] none = refl
nothing_left (x ∷ xs) none = absurd (omega arith)

-- ---- the declaration

-- what isn't read is refused
pub unread_refused : (line : List ℕ) (now limit : ℕ) (draws : List (List ℕ)) (e : DeclareError) → IsUnread e (declaration_of line) → IsRefusedAt e (outcome line now limit draws) 0
unfolding outcome unread
unread_refused line now limit draws (error.Refused response) is = rw (is.0, is.1) refl
unread_refused line now limit draws error.NoMemory is = omega arith

-- a declaration with violations of its own is refused
pub broken_refused : (line : List ℕ) (declaration : Members) (now limit : ℕ) (draws : List (List ℕ)) (e : DeclareError) → declaration_of line ≡ Some declaration
    → TellsViolations e (own_violations declaration) → IsRefusedAt e (outcome line now limit draws) 0
unfolding outcome declared
broken_refused line declaration now limit draws (error.Refused response) read told = rw (read, no_violations (own_violations declaration) told.0, told.1) refl
broken_refused line declaration now limit draws error.NoMemory read told = omega arith

-- another is what becomes of its rows
pub unbroken_inserted : (line : List ℕ) (rows : List Row) (now limit : ℕ) (draws : List (List ℕ)) → Prepares line rows
    → outcome line now limit draws ≡ with_rows draws now limit rows start
unfolding outcome declared
unbroken_inserted line rows now limit draws ready =
    declared_rows ∙ sym (one_by_one now limit draws rows)
  where
    declared_rows : outcome line now limit draws ≡ answered rows (all_added now limit (with_ids draws rows) [])
    declared_rows = rw (ready.read, ready.unbroken, ready.rows) refl

-- beginning with no rows
pub from_start : (draws : List (List ℕ)) (now limit : ℕ) (rows : List Row) (old : Made) (answer : Result Accepted Refused) → accepted_at old 0 ≡ start
    → with_rows draws now limit rows (accepted_at old 0) ≡ answer → with_rows draws now limit rows start ≡ answer
from_start draws now limit rows old answer begun is = ap (with_rows draws now limit rows) (sym begun) ∙ is

-- the rows are those after the commands
pub at_commands : (limit : ℕ) (made : Made) (drawn : ℕ) → IsConsistent limit made → accepted_at made drawn ≡ accepted_after made.commands drawn
at_commands limit made drawn is = ap (λ rows. record { rows = rows; commands = made.commands; drawn = drawn }) is.rows
