-- Calls of a seat, as its keeper's clauses tell them.
use Rattle.std.proofs.Common.{◌≡◌, ◌≤◌, ◌↔◌, ℕ, Bool, true, false, true≢false, IsTrue, List, [], ◌∷◌, ◌++◌, Contains, Some, Ok, length, sym, ap, subst, ◌∙◌, append_assoc, arith}
use Rattle.std.specs.Prelude.{◌+◌, option_map}
use Rattle.kg_history.specs.Sights.{IsFresh, Sight}
use Rattle.kg_keeper.proofs.PlanLemmas.{failing_after}
use Rattle.kg_keeper.specs.Answers.{AnswersCommit, decision_at}
use Rattle.kg_keeper.specs.Histories.{IsAdded}
use Rattle.kg_keeper.specs.Observed.{HasFaults, IsCall, Observed, after_call}
use Rattle.kg_keeper.specs.Plans.{Planned, failing, moved_on}
use Rattle.kg_keeper.specs.declared.answer.Committed.{Committed}
use Rattle.kg_outside.specs.Causes.{Rose}
use Rattle.kg_outside.specs.Counts.{one_more}
use Rattle.kg_row_values.specs.declared.command.Command.{Command}
use Rattle.kg_rows.specs.declared.draft.Draft.{Draft}
use Rattle.kg_store_shared.specs.Seated.{HasNotLooked, IsLockedCall, Seated, observed}
use mathlib.Core.List.{IsPrefix}

-- a call begins: it is counted, and more commits are seen
pub call_begun : (seat : Seated) (later : Sight Command) (calls : ℕ) (plan : Planned) (fault : Bool) → IsPrefix seat.sight.seen later.seen
    → calls ≡ one_more seat.calls → plan ≡ moved_on fault seat.plan
    → IsCall (observed seat) (observed (record { sight = later; calls = calls; plan = plan; limit = seat.limit; feed = seat.feed }))
call_begun seat later calls plan fault front counted moved =
    let coming : failing plan ≡ after_call (failing seat.plan) =
    ap failing moved ∙ sym (failing_after seat.plan.announced seat.plan.listed) in
    record {
      grows = (front.0, ap Some (sym front.1));
      rest = λ i. record {
        seen = Some later.seen;
        faults = plan.faults;
        calls = counted i;
        failing = Some (coming i);
        alone = false;
        limit = seat.limit;
        feed = seat.feed;
      };
    }

-- the count of faults rises with a fault alone, and just the planned calls fail
faults_moved : (before now : Seated) (fault : Bool) → before.plan.faults ≤ now.plan.faults → now.plan ≡ moved_on fault before.plan
    → IsTrue fault ↔ Contains (failing before.plan) 1 → HasFaults (observed before) (observed now) fault
faults_moved before now true later moved planned =
    let one : now.plan.faults ≡ one_more before.plan.faults = ap (λ (plan : Planned). plan.faults) moved in
    record {
      later = later;
      rose = λ _. subst (λ n. Rose before.plan.faults n) (sym one) (omega arith);
      kept = λ none. absurd (true≢false none);
      planned = planned;
    }
faults_moved before now false later moved planned = record {
  later = later;
  rose = λ yes. absurd (true≢false (sym yes));
  kept = λ _. ap (λ (plan : Planned). plan.faults) moved;
  planned = planned;
}

-- a call begins under the lock: all commits are seen
pub begun : (before : Seated) (later : Sight Command) (commits : List Command) (calls : ℕ) (plan : Planned) (fault : Bool)
    → later.seen ≡ commits → IsPrefix before.sight.seen commits → HasNotLooked before.sight later → calls ≡ one_more before.calls
    → plan ≡ moved_on fault before.plan → IsTrue fault ↔ Contains (failing before.plan) 1 → before.plan.faults ≤ plan.faults
    → IsLockedCall commits before (record { sight = later; calls = calls; plan = plan; limit = before.limit; feed = before.feed }) fault
begun before later commits calls plan fault whole front looks counted moved planned more =
    let now : Seated = record { sight = later; calls = calls; plan = plan; limit = before.limit; feed = before.feed } in
    record {
      whole = whole;
      call = call_begun before later calls plan fault (subst (λ seen. IsPrefix before.sight.seen seen) (sym whole) front) counted moved;
      faults = faults_moved before now fault more moved planned;
      looks = looks;
    }

-- and at its end more commits are seen
pub call_more : (before now : Seated) (later : Sight Command) (more : List Command) → IsCall (observed before) (observed now)
    → later.seen ≡ now.sight.seen ++ more → IsCall (observed before) (observed (record now { sight = later }))
call_more before now later more call seen = record {
  grows = (
    call.grows.0 ++ more,
    ap Some seen ∙ ap (option_map (λ front. front ++ more)) call.grows.1 ∙ ap Some (append_assoc before.sight.seen call.grows.0 more),
  );
  rest = ap (λ (all : Observed). record all { seen = Some later.seen }) call.rest;
}

-- what was not looked at is not looked at in two steps
pub not_looked : (before now later : Sight Command) → HasNotLooked before now → HasNotLooked now later → HasNotLooked before later
not_looked before now later first second = record { looks = second.looks ∙ first.looks; last = second.last ∙ first.last }

-- a call that began under the lock and added a command, which the seat has seen
pub added : (before now : Seated) (later : Sight Command) (commits more : List Command) → IsLockedCall commits before now false
    → later.seen ≡ commits ++ more → HasNotLooked now.sight later → IsLockedCall (commits ++ more) before (record now { sight = later }) false
added before now later commits more call seen looks = record {
  whole = seen;
  call = call_more before now later more call.call (seen ∙ ap (λ front. front ++ more) (sym call.whole));
  faults = record {
    later = call.faults.later;
    rose = call.faults.rose;
    kept = call.faults.kept;
    planned = call.faults.planned;
  };
  looks = not_looked before.sight now.sight later call.looks looks;
}

-- a pass that has never looked, and has seen these commits
pub fresh_of : (before now : Sight Command) (commits : List Command) → IsFresh before [] → now.seen ≡ commits → HasNotLooked before now
    → IsFresh now commits
fresh_of before now commits fresh seen same =
    let looks : now.looks ≡ 0 = same.looks ∙ ap (λ (sight : Sight Command). sight.looks) fresh in
    let last : now.last ≡ 0 = same.last ∙ ap (λ (sight : Sight Command). sight.last) fresh in
    λ i. record { seen = seen i; looks = looks i; last = last i }

-- a command was added to commits that go on from what was seen
pub commit_answered : (before now : Seated) (commits : List Command) (draft : Draft) (answer : Committed) → IsPrefix before.sight.seen commits
    → IsAdded commits now.sight.seen before.limit draft answer → AnswersCommit (observed before) (observed now) draft answer
commit_answered before now commits draft answer front added = record {
  others = front.0;
  command = added.command;
  decided = subst (λ seen. decision_at seen draft before.limit ≡ Ok added.command) (sym front.1) added.decided;
  appended = ap Some (added.added ∙ ap (λ seen. seen ++ added.command ∷ []) (sym front.1));
  place = added.place ∙ ap (λ seen. length seen + 1) (sym front.1);
  row = added.row;
  alone = λ none. absurd (true≢false (sym none));
}
