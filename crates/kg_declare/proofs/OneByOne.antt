-- What is made of rows that are inserted one after another, with a count of the ids that were drawn, is what
-- becomes of the declaration.
use Rattle.std.proofs.Common.{◌≡◌, ℕ, zero, suc, ◌+◌, ◌==◌, Bool, true, false, cond, List, [], ◌∷◌, ◌++◌, count_by, drop, length, get_or, take, Option, Some, None, is_some, unwrap_or, Result, Ok, Err, ◌⊎◌, inl, inr, refl, sym, ap, ap₂, ◌∙◌, append_assoc, arith}
use Rattle.std.proofs.lemmas.List.{append-nil, length_push}
use Rattle.std.proofs.lemmas.List.Sums.{sum_by-append}
use Rattle.serde_json.specs.Data.{object}
use Rattle.kg_row_types.specs.Ids.{drawn_id}
use Rattle.kg_row_types.specs.RowLists.{no_rows}
use Rattle.kg_message.specs.declared.response.Response.{Response}
use Rattle.kg_rows.specs.Decision.{insertion}
use Rattle.kg_row_values.specs.Rows.{rows_after}
use Rattle.kg_row_values.specs.declared.command.Command.{Command}
use Rattle.kg_rows.specs.declared.draft.Refusal.{Refusal}
use Rattle.kg_declare.specs.Inserting.{decided, start, with_row, with_rows}
use Rattle.kg_declare.specs.Outcome.{Accepted, Identified, added, all_added, answered, draws_id, extended, next, own_id, parent_of, row_violations, violated, with_ids}
use Rattle.kg_declare.specs.RefusalBody.{refusal_response}
use Rattle.kg_declare.proofs.HistoryLemmas.{rows_from-push}
use Rattle.kg_declared_rows.specs.Rows.{Row}

-- ---- lists

get_or-drop : (n : ℕ) (draws : List (List ℕ)) → get_or (drop n draws) 0 [] ≡ get_or draws n []
get_or-drop zero draws = refl
get_or-drop (suc n) [] = refl
get_or-drop (suc n) (first ∷ draws) = get_or-drop n draws

drop-next : (n : ℕ) (draws : List (List ℕ)) → drop 1 (drop n draws) ≡ drop (suc n) draws
drop-next zero draws = refl
drop-next (suc n) [] = refl
drop-next (suc n) (first ∷ draws) = drop-next n draws

take-front : (earlier rest : List Row) (row : Row) → take (suc (length earlier)) (earlier ++ row ∷ rest) ≡ earlier ++ row ∷ []
take-front [] rest row = refl
take-front (first ∷ earlier) rest row = ap (λ rows. first ∷ rows) (take-front earlier rest row)

count-no : {X : Type 0} (p : X → Bool) (xs : List X) (x : X) → p x ≡ false → count_by p (xs ++ x ∷ []) ≡ count_by p xs
count-no {X} p xs x fails =
    sum_by-append (λ (y : X). cond (p y) 1 0) xs (x ∷ []) ∙ ap (λ b. count_by p xs + (0 + cond b 1 0)) fails ∙ omega arith

count-yes : {X : Type 0} (p : X → Bool) (xs : List X) (x : X) → p x ≡ true → count_by p (xs ++ x ∷ []) ≡ suc (count_by p xs)
count-yes {X} p xs x passes =
    sum_by-append (λ (y : X). cond (p y) 1 0) xs (x ∷ []) ∙ ap (λ b. count_by p xs + (0 + cond b 1 0)) passes ∙ omega arith

-- ---- one row

module _ (now limit : ℕ) (draws : List (List ℕ)) where
  -- the rows and commands so far, when ids were drawn for these rows
  abbrev at : List Row → List Command → Accepted
  at earlier commands = record { rows = rows_after commands; commands = commands; drawn = count_by draws_id earlier }

  -- the ids that are left
  abbrev left : List Row → List (List ℕ)
  left earlier = drop (count_by draws_id earlier) draws

  -- the row with its id
  abbrev first_of : List Row → Row → Identified
  first_of earlier row = record { row = row; id = unwrap_or (own_id row) (drawn_id (get_or (left earlier) 0 [])) }

  -- both refuse the row
  record BothRefuse (earlier : List Row) (row : Row) (commands : List Command) : Type 0 where
    pub response : Response
    pub counted : with_row draws now limit row (at earlier commands) ≡ Err (record { response = response; drawn = count_by draws_id (earlier ++ row ∷ []) })
    pub plain : added now limit (first_of earlier row) commands ≡ Err (record { response = response; number = length commands })

  -- both add the same command
  record BothAccept (earlier : List Row) (row : Row) (commands : List Command) : Type 0 where
    pub command : Command
    pub counted : with_row draws now limit row (at earlier commands) ≡ Ok (at (earlier ++ row ∷ []) (commands ++ command ∷ []))
    pub plain : added now limit (first_of earlier row) commands ≡ Ok (commands ++ command ∷ [])
    pub behind : cond (is_some (own_id row)) (left earlier) (drop 1 (left earlier)) ≡ left (earlier ++ row ∷ [])

  module _ (earlier : List Row) (row : Row) (commands : List Command) where
    -- what is decided of the row with this id
    abbrev insertion_with : ℕ → Result Command Refusal
    insertion_with id = insertion (rows_after commands) row.kind (parent_of commands row.parent) (object row.members) id now limit

    by_answer : (drawn : ℕ) (answer : Result Command Refusal) → drawn ≡ count_by draws_id (earlier ++ row ∷ [])
        → with_row draws now limit row (at earlier commands) ≡ decided (at earlier commands) drawn answer
        → added now limit (first_of earlier row) commands ≡ extended commands answer
        → cond (is_some (own_id row)) (left earlier) (drop 1 (left earlier)) ≡ left (earlier ++ row ∷ [])
        → BothRefuse earlier row commands ⊎ BothAccept earlier row commands
    by_answer drawn (Ok command) count counted plain behind = inr (record {
      command = command;
      counted = counted ∙ ap₂ (λ rows drawn. Ok (record { rows = rows; commands = commands ++ command ∷ []; drawn = drawn })) (sym (rows_from-push no_rows commands command)) count;
      plain = plain;
      behind = behind;
    })
    by_answer drawn (Err refusal) count counted plain behind = inl (record {
      response = refusal_response refusal;
      counted = counted ∙ ap (λ drawn. Err (record { response = refusal_response refusal; drawn = drawn })) count;
      plain = plain;
    })

    by_id : (id : Option ℕ) → own_id row ≡ id → (length (row_violations row) == 0) ≡ true → BothRefuse earlier row commands ⊎ BothAccept earlier row commands
    unfolding with_row
    by_id (Some id) named unbroken =
        let draws_none : draws_id row ≡ false = rw (unbroken, named) refl in
        let same = sym (count-no draws_id earlier row draws_none) in
        by_answer (count_by draws_id earlier) (insertion_with id) same
        (rw (unbroken, named) refl) (rw (unbroken, named) refl)
        (rw named (ap (λ n. drop n draws) same))
    by_id None named unbroken =
        let draws_one : draws_id row ≡ true = rw (unbroken, named) refl in
        let more = sym (count-yes draws_id earlier row draws_one) in
        let drawn = get_or draws (count_by draws_id earlier) [] in
        by_answer (suc (count_by draws_id earlier)) (insertion_with (drawn_id drawn)) more
        (rw (unbroken, named) refl) (rw (unbroken, named, get_or-drop (count_by draws_id earlier) draws) refl)
        (rw named (drop-next (count_by draws_id earlier) draws ∙ ap (λ n. drop n draws) more))

    by_violations : (unbroken : Bool) → (length (row_violations row) == 0) ≡ unbroken → BothRefuse earlier row commands ⊎ BothAccept earlier row commands
    unfolding with_row
    by_violations true is = by_id (own_id row) refl is
    by_violations false is =
        let draws_none : draws_id row ≡ false = rw is refl in
        inl (record {
          response = (violated (row_violations row) 0).response;
          counted = rw is (ap (λ drawn. Err (violated (row_violations row) drawn)) (sym (count-no draws_id earlier row draws_none)));
          plain = rw is refl;
        })

  -- ---- all rows

  -- with these rows and commands behind it, each way goes on to the same answer
  go_on : (earlier rows : List Row) (commands : List Command) → length commands ≡ length earlier
      → with_rows draws now limit rows (at earlier commands) ≡ answered (earlier ++ rows) (all_added now limit (with_ids (left earlier) rows) commands)
  go_on earlier [] commands same = ap (λ rows. Ok (record { rows = rows_after commands; commands = commands; drawn = count_by draws_id rows })) (sym (append-nil earlier))
  go_on earlier (row ∷ rows) commands same = by_step (by_violations earlier row commands (length (row_violations row) == 0) refl) (λ command. go_on (earlier ++ row ∷ []) rows (commands ++ command ∷ []) (length_push commands command ∙ ap (λ n. n + 1) same ∙ sym (length_push earlier row)))
    where
      tail : List (List ℕ)
      tail = cond (is_some (own_id row)) (left earlier) (drop 1 (left earlier))

      by_step : BothRefuse earlier row commands ⊎ BothAccept earlier row commands
          → ((command : Command) → with_rows draws now limit rows (at (earlier ++ row ∷ []) (commands ++ command ∷ [])) ≡ answered ((earlier ++ row ∷ []) ++ rows) (all_added now limit (with_ids (left (earlier ++ row ∷ [])) rows) (commands ++ command ∷ [])))
          → with_rows draws now limit (row ∷ rows) (at earlier commands) ≡ answered (earlier ++ row ∷ rows) (all_added now limit (with_ids (left earlier) (row ∷ rows)) commands)
      by_step (inl refuse) later =
          ap (next (with_rows draws now limit rows)) refuse.counted
          ∙ ap (λ drawn. Err (record { response = refuse.response; drawn = count_by draws_id drawn })) (sym (take-front earlier rows row))
          ∙ ap (λ n. Err (record { response = refuse.response; drawn = count_by draws_id (take (suc n) (earlier ++ row ∷ rows)) })) (sym same)
          ∙ ap (λ step. answered (earlier ++ row ∷ rows) (next (all_added now limit (with_ids tail rows)) step)) (sym refuse.plain)
      by_step (inr accept) later =
          ap (next (with_rows draws now limit rows)) accept.counted
          ∙ later accept.command
          ∙ ap₂ (λ all ids. answered all (all_added now limit (with_ids ids rows) (commands ++ accept.command ∷ []))) (append_assoc earlier (row ∷ []) rows) (sym accept.behind)
          ∙ ap (λ step. answered (earlier ++ row ∷ rows) (next (all_added now limit (with_ids tail rows)) step)) (sym accept.plain)

  pub one_by_one : (rows : List Row) → with_rows draws now limit rows start ≡ answered rows (all_added now limit (with_ids draws rows) [])
  one_by_one rows = go_on [] rows [] refl
