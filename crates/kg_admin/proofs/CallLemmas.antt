-- What one call to a store leaves, told as one answer of the Admin API.
use Rattle.std.proofs.Common.{◌≡◌, ℕ, ◌⊎◌, inl, inr, true, false, List, ◌++◌, length, Option, Some, None, IfOk, IfSome, Result, Ok, Err, refl, sym, ap, subst, ◌∙◌}
use Rattle.kg_admin.specs.AdminAnswers.{Answer, admin_answer, answer_of, answer_to, change_decided, changed_answer, found_response, listed_response, only, put_response, status_of}
use Rattle.kg_admin.specs.AdminCalls.{IsAnswered, IsChanged, IsCommit, IsUnchanged, Meets, Runs, fault_response}
use Rattle.kg_admin.specs.AdminRequests.{Asked, Changed, Row, Rows, asked}
use Rattle.kg_admin.specs.Asking.{change_of, done_at}
use Rattle.kg_admin.specs.declared.done.AdminDone.{AdminDone}
use Rattle.kg_declare.specs.RefusalBody.{refusal_response}
use Rattle.kg_keeper.specs.Answers.{AnswersCommit, AnswersFind, AnswersPage, IsCommitted, decision_at, page_got, unless_full}
use Rattle.kg_keeper.specs.Observed.{HasFaults, IsCall, Observed, Stays}
use Rattle.kg_keeper.specs.declared.answer.Committed.{Committed}
use Rattle.kg_keeper.specs.declared.answer.PageAsk.{PageAsk}
use Rattle.kg_keeper.specs.declared.answer.PageGot.{PageGot}
use Rattle.kg_keeper.specs.declared.answer.Seen.{Seen}
use Rattle.kg_message.specs.declared.request.Request.{Request}
use Rattle.kg_message.specs.declared.response.Response.{Response}
use Rattle.kg_row_queries.specs.Pages.{page_of}
use Rattle.kg_row_queries.specs.Selections.{found}
use Rattle.kg_row_queries.specs.declared.pages.Page.{Page}
use Rattle.kg_row_queries.specs.declared.select.Parent.{Parent}
use Rattle.kg_row_queries.specs.declared.select.Select.{Select}
use Rattle.kg_row_types.specs.RowLists.{RowLists}
use Rattle.kg_row_types.specs.declared.entity.Kind.{Kind}
use Rattle.kg_row_values.specs.Rows.{rows_after}
use Rattle.kg_row_values.specs.declared.command.Command.{Command}
use Rattle.kg_rows.specs.Decision.{decision}
use Rattle.kg_rows.specs.declared.draft.Draft.{Draft}
use Rattle.kg_rows.specs.declared.draft.Draft.TheVariants.{Insert, Patch, Put, Delete}
use Rattle.kg_rows.specs.declared.draft.Refusal.{Refusal}
use Rattle.kg_text.specs.declared.error.NoMemory.{NoMemory}

-- ---- any call

-- a reply that was made at a place, or none for want of memory
pub told : (before now : Observed) (answer : List Command → Answer) (response : Result Response NoMemory) (at : ℕ)
    → IsCall before now → HasFaults before now false
    → IfOk response (λ made. IsUnchanged before now answer made at ⊎ IsChanged before now answer made at)
    → Stays before now ⊎ ((made : Response) × (place : ℕ) × IsChanged before now answer made place)
    → Runs before now answer (done_at response at)
told before now answer (Ok made) at call faults reply left = record { call = call; faults = faults; reply = reply }
told before now answer (Err e) at call faults reply left = record { call = call; fault = false; faults = faults; left = left }

-- a reply to what changes nothing
pub unchanged : (before now : Observed) (answer : List Command → Answer) (response : Result Response NoMemory) (at : ℕ)
    → IsCall before now → HasFaults before now false → Stays before now
    → IfOk response (λ made. IfSome now.seen (λ seen. (at ≡ length seen) × (answer seen ≡ only made)))
    → Runs before now answer (done_at response at)
unchanged before now answer (Ok made) at call faults stays is = record { call = call; faults = faults; reply = inl (record { told = is; stays = stays }) }
unchanged before now answer (Err e) at call faults stays is = record { call = call; fault = false; faults = faults; left = inl stays }

-- the store failed
pub failed : (before now : Observed) (answer : List Command → Answer) (result : Result AdminDone NoMemory)
    → IsCall before now → HasFaults before now true → Stays before now
    → IfOk result (λ done. done ≡ record { response = fault_response; at = None; faulted = true })
    → Runs before now answer result
failed before now answer (Ok done) call faults stays is =
    subst (IsAnswered before now answer) (sym is) (record { call = call; faults = faults; reply = (refl, stays) })
failed before now answer (Err e) call faults stays is = record { call = call; fault = true; faults = faults; left = inl stays }

-- the store has no memory
pub cut_short : (before now : Observed) (answer : List Command → Answer) (e : NoMemory)
    → IsCall before now → HasFaults before now false → Stays before now → Runs before now answer (Err e)
cut_short before now answer e call faults stays = record { call = call; fault = false; faults = faults; left = inl stays }

-- ---- changes

-- the change that a draft is, is decided as the draft
decided_alike : (draft : Draft) (rows : RowLists) (limit : ℕ) → change_decided rows (change_of draft) limit ≡ decision rows draft limit
decided_alike (Insert kind parent form id now) rows limit = refl
decided_alike (Patch kind parent select form now) rows limit = refl
decided_alike (Put kind parent select form id now) rows limit = refl
decided_alike (Delete kind parent select) rows limit = refl

change_answered : (path : List ℕ) (limit : ℕ) (draft : Draft) (history : List Command) (decided : Result Command Refusal)
    → decision_at history draft limit ≡ decided
    → answer_to path limit (Changed (change_of draft)) history ≡ changed_answer (status_of (change_of draft)) decided
change_answered path limit draft history decided is =
    ap (λ decision. changed_answer (status_of (change_of draft)) (unless_full history decision)) (decided_alike draft (rows_after history) limit)
    ∙ ap (changed_answer (status_of (change_of draft))) is

committed_there : (path : List ℕ) (before now : Observed) (draft : Draft) (answer : Committed) (response : Response) (seen : List Command)
    → IsCommitted before now seen draft answer
    → response ≡ put_response (status_of (change_of draft)) answer.row
    → IsCommit before now (answer_to path before.limit (Changed (change_of draft))) response answer.at seen
committed_there path before now draft answer response seen is shows = record {
  others = is.others;
  command = is.command;
  told =
      change_answered path before.limit draft (seen ++ is.others) (Ok is.command) is.decided
      ∙ ap (λ made. record { response = made; command = Some is.command })
      (ap (put_response (status_of (change_of draft))) (sym is.row) ∙ sym shows);
  appended = is.appended;
  place = is.place;
  alone = is.alone;
}

changed_at : (path : List ℕ) (before now : Observed) (draft : Draft) (answer : Committed) (response : Response) (seen : Option (List Command))
    → IfSome seen (λ those. IsCommitted before now those draft answer)
    → response ≡ put_response (status_of (change_of draft)) answer.row
    → IfSome seen (IsCommit before now (answer_to path before.limit (Changed (change_of draft))) response answer.at)
changed_at path before now draft answer response None is shows = tt
changed_at path before now draft answer response (Some seen) is shows = committed_there path before now draft answer response seen is shows

pub committed : (path : List ℕ) (before now : Observed) (draft : Draft) (answer : Committed) (response : Result Response NoMemory)
    → IsCall before now → HasFaults before now false → AnswersCommit before now draft answer
    → IfOk response (λ made. made ≡ put_response (status_of (change_of draft)) answer.row)
    → Runs before now (answer_to path before.limit (Changed (change_of draft))) (done_at response answer.at)
committed path before now draft answer response call faults is shows =
    told before now (answer_to path before.limit (Changed (change_of draft))) response answer.at call faults
    (reply response shows)
    (inr (put_response (status_of (change_of draft)) answer.row, answer.at, changed_at path before now draft answer (put_response (status_of (change_of draft)) answer.row) before.seen is refl))
  where
    reply : (response : Result Response NoMemory) → IfOk response (λ made. made ≡ put_response (status_of (change_of draft)) answer.row)
        → IfOk response (λ made. IsUnchanged before now (answer_to path before.limit (Changed (change_of draft))) made answer.at
        ⊎ IsChanged before now (answer_to path before.limit (Changed (change_of draft))) made answer.at)
    reply (Ok made) shows = inr (changed_at path before now draft answer made before.seen is shows)
    reply (Err e) shows = tt

refused_there : (path : List ℕ) (limit : ℕ) (draft : Draft) (why : Refusal) (at : ℕ) (response : Result Response NoMemory) (seen : Option (List Command))
    → IfSome seen (λ those. (at ≡ length those) × (decision_at those draft limit ≡ Err why))
    → IfOk response (λ made. made ≡ refusal_response why)
    → IfOk response (λ made. IfSome seen (λ those. (at ≡ length those) × (answer_to path limit (Changed (change_of draft)) those ≡ only made)))
refused_there path limit draft why at (Err e) seen is shows = tt
refused_there path limit draft why at (Ok made) None is shows = tt
refused_there path limit draft why at (Ok made) (Some seen) is shows =
    (is.0, change_answered path limit draft seen (Err why) is.1 ∙ ap only (sym shows))

pub refused : (path : List ℕ) (before now : Observed) (draft : Draft) (why : Refusal) (at : ℕ) (response : Result Response NoMemory)
    → IsCall before now → HasFaults before now false → Stays before now
    → IfSome now.seen (λ seen. (at ≡ length seen) × (decision_at seen draft now.limit ≡ Err why))
    → IfOk response (λ made. made ≡ refusal_response why)
    → Runs before now (answer_to path before.limit (Changed (change_of draft))) (done_at response at)
refused path before now draft why at response call faults stays is shows =
    unchanged before now (answer_to path before.limit (Changed (change_of draft))) response at call faults stays
    (refused_there path before.limit draft why at response now.seen
    (subst (λ limit. IfSome now.seen (λ seen. (at ≡ length seen) × (decision_at seen draft limit ≡ Err why))) (ap (λ those. those.limit) call.rest) is)
    shows)

-- ---- rows that are asked for

found_there : (path : List ℕ) (limit : ℕ) (kind : Kind) (parent : Option Parent) (select : Select) (answer : Seen) (response : Result Response NoMemory) (seen : Option (List Command))
    → IfSome seen (λ those. (answer.at ≡ length those) × (answer.row ≡ found kind parent select (rows_after those)))
    → IfOk response (λ made. made ≡ found_response answer.row)
    → IfOk response (λ made. IfSome seen (λ those. (answer.at ≡ length those) × (answer_to path limit (Row kind parent select) those ≡ only made)))
found_there path limit kind parent select answer (Err e) seen is shows = tt
found_there path limit kind parent select answer (Ok made) None is shows = tt
found_there path limit kind parent select answer (Ok made) (Some seen) is shows =
    (is.0, ap (λ row. only (found_response row)) (sym is.1) ∙ ap only (sym shows))

pub shown_row : (path : List ℕ) (before now : Observed) (kind : Kind) (parent : Option Parent) (select : Select) (answer : Seen) (response : Result Response NoMemory)
    → IsCall before now → HasFaults before now false → Stays before now → AnswersFind now kind parent select answer
    → IfOk response (λ made. made ≡ found_response answer.row)
    → Runs before now (answer_to path before.limit (Row kind parent select)) (done_at response answer.at)
shown_row path before now kind parent select answer response call faults stays is shows =
    unchanged before now (answer_to path before.limit (Row kind parent select)) response answer.at call faults stays
    (found_there path before.limit kind parent select answer response now.seen is shows)

-- where the page that was got is this one, its place is the one that it tells
got_at : (page : Option Page) (place : ℕ) → (page_got page place).at ≡ place
got_at None place = refl
got_at (Some page) place = refl

listed_there : (path : List ℕ) (limit : ℕ) (ask : PageAsk) (got : PageGot) (response : Result Response NoMemory) (seen : Option (List Command))
    → IfSome seen (λ those. got ≡ page_got (page_of ask.kind ask.parent ask.after ask.size (rows_after those)) (length those))
    → IfOk response (λ made. (page : Option Page) (at : ℕ) → got ≡ page_got page at → made ≡ listed_response path ask.size page)
    → IfOk response (λ made. IfSome seen (λ those. (got.at ≡ length those) × (answer_to path limit (Rows ask.kind ask.parent ask.after ask.size) those ≡ only made)))
listed_there path limit ask got (Err e) seen is shows = tt
listed_there path limit ask got (Ok made) None is shows = tt
listed_there path limit ask got (Ok made) (Some seen) is shows = (
  ap (λ page. page.at) is ∙ got_at (page_of ask.kind ask.parent ask.after ask.size (rows_after seen)) (length seen),
  ap only (sym (shows (page_of ask.kind ask.parent ask.after ask.size (rows_after seen)) (length seen) is)),
)

pub shown_page : (path : List ℕ) (before now : Observed) (ask : PageAsk) (got : PageGot) (response : Result Response NoMemory)
    → IsCall before now → HasFaults before now false → Stays before now → AnswersPage now ask got
    → IfOk response (λ made. (page : Option Page) (at : ℕ) → got ≡ page_got page at → made ≡ listed_response path ask.size page)
    → Runs before now (answer_to path before.limit (Rows ask.kind ask.parent ask.after ask.size)) (done_at response got.at)
shown_page path before now ask got response call faults stays is shows =
    unchanged before now (answer_to path before.limit (Rows ask.kind ask.parent ask.after ask.size)) response got.at call faults stays
    (listed_there path before.limit ask got response now.seen is shows)

-- ---- one request

meets_any : (before now : Observed) (answer : List Command → Answer) (wanted : Asked) (result : Result AdminDone NoMemory)
    → Runs before now answer result → Meets before now answer (Ok wanted) result
meets_any before now answer wanted (Ok done) runs = runs
meets_any before now answer wanted (Err e) runs = inr runs

-- what is asked of the rows is answered
pub asked_meets : (before now : Observed) (request : Request) (id time : ℕ) (wanted : Asked) (result : Result AdminDone NoMemory)
    → asked request id time ≡ Ok wanted
    → Runs before now (answer_to request.path before.limit wanted) result
    → Meets before now (λ history. admin_answer history request id time before.limit) (asked request id time) result
unfolding admin_answer
asked_meets before now request id time wanted result is runs =
    subst (λ those. Meets before now (λ history. answer_of request.path before.limit those history) those result) (sym is)
    (meets_any before now (answer_to request.path before.limit wanted) wanted result runs)

-- a request that is refused before the rows are asked
pub refusal_meets : (keeper : Observed) (request : Request) (id time : ℕ) (answer : List Command → Answer) (refusal : Response)
    → asked request id time ≡ Err refusal
    → Meets keeper keeper answer (asked request id time) (Ok (record { response = refusal; at = None; faulted = false }))
refusal_meets keeper request id time answer refusal is =
    subst (λ those. Meets keeper keeper answer those (Ok (record { response = refusal; at = None; faulted = false }))) (sym is) (refl, refl)

no_memory : (keeper : Observed) (answer : List Command → Answer) (those : Result Asked Response) (e : NoMemory) → Meets keeper keeper answer those (Err e)
no_memory keeper answer (Ok wanted) e = inl refl
no_memory keeper answer (Err refusal) e = refl

pub no_memory_meets : (keeper : Observed) (request : Request) (id time : ℕ) (answer : List Command → Answer) (e : NoMemory)
    → Meets keeper keeper answer (asked request id time) (Err e)
no_memory_meets keeper request id time answer e = no_memory keeper answer (asked request id time) e
