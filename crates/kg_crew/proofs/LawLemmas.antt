-- What one call, and then several, and then a connection leave of the store.
use Rattle.std.proofs.Common.{◌≡◌, ℕ, ◌+◌, ◌-◌, ◌^◌, ◌≤◌, min, inl, inr, Bool, true, false, List, [], ◌∷◌, ◌++◌, map, length, Option, Some, None, IfSome, unwrap_or, if◌then◌else◌, Result, Ok, Err, refl, sym, ap, subst, ◌∙◌, arith}
use Rattle.std.proofs.lemmas.List.{length-append}
use Rattle.kg_admin.specs.AdminAnswers.{Answer, admin_answer, only}
use Rattle.kg_admin.specs.AdminCalls.{IsCommit, IsReply, Meets}
use Rattle.kg_admin.specs.AdminRequests.{Asked, asked}
use Rattle.kg_admin.specs.declared.done.AdminDone.{AdminDone}
use Rattle.kg_crew.specs.AdminLaws.{NeverFall, faulted_in}
use Rattle.kg_crew.specs.AdminReplies.{Call, left_behind, request_in}
use Rattle.kg_crew.specs.AdminServing.{AreCalls, ComesBehind, Outside, Serves}
use Rattle.kg_crew.specs.declared.allowance.Allowance.{Allowance}
use Rattle.kg_crew.specs.declared.end.End.{End}
use Rattle.kg_crew.specs.declared.end.End.TheVariants.{Closed, Asked as AskedEnd, Spent, BadMessage, HeadTooLarge, BodyTooLarge, Cut, ReadFault, WriteFault, NoMemory}
use Rattle.kg_keeper.specs.Observed.{Grows, HasFaults, Observed}
use Rattle.kg_message.specs.declared.response.Response.{Response}
use Rattle.kg_row_types.specs.Ids.{drawn_id}
use Rattle.kg_row_values.specs.declared.command.Command.{Command}
use Rattle.kg_text.specs.declared.error.NoMemory.{NoMemory as OutOfMemory}

-- ---- places

-- a call that was answered at this place, or at none, at so many commits or later, and what is seen then
record IsPlaced (least : ℕ) (at : Option ℕ) (seen_now : Option (List Command)) : Type 0 where
  seen : List Command
  told : seen_now ≡ Some seen
  rises : IfSome at (λ place. least ≤ place)
  within : unwrap_or at least ≤ length seen

-- what was seen is seen still
grown_placed : (least : ℕ) (seen : List Command) (now : Option (List Command)) → least ≤ length seen → Grows (Some seen) now → IsPlaced least None now
grown_placed least seen now some (more, grown) =
    record { seen = seen ++ more; told = grown; rises = tt; within = omega (arith, length-append seen more) }

same_placed : (least : ℕ) (at : ℕ) (seen seen_then : List Command) (now : Option (List Command)) → least ≤ length seen → Grows (Some seen) now → now ≡ Some seen_then
    → at ≡ length seen_then → IsPlaced least (Some at) now
same_placed least at seen seen_then now some (more, grown) told place =
    let both : seen ++ more ≡ seen_then = cc in
    let size = ap length both in
    record { seen = seen_then; told = told; rises = omega (arith, length-append seen more); within = omega arith }

committed_placed : (least : ℕ) (at : ℕ) (seen : List Command) (before now : Observed) (answer : List Command → Answer) (response : Response)
    → least ≤ length seen → IsCommit before now answer response at seen → IsPlaced least (Some at) now.seen
committed_placed least at seen before now answer response some commit =
    let place = commit.place in
    record {
      seen = (seen ++ commit.others) ++ commit.command ∷ [];
      told = commit.appended;
      rises = omega (arith, length-append seen commit.others);
      within = omega (arith, length-append (seen ++ commit.others) (commit.command ∷ []));
    }

reply_placed : (at : Option ℕ) (faulted : Bool) (least : ℕ) (seen : List Command) (before now : Observed) (answer : List Command → Answer) (response : Response)
    → before.seen ≡ Some seen → least ≤ length seen → Grows (Some seen) now.seen → IsReply before now answer response at faulted → IsPlaced least at now.seen
reply_placed (Some at) false least seen before now answer response told some grows (inl unchanged) =
    by_seen now.seen refl
  where
    by_seen : (seen_now : Option (List Command)) → now.seen ≡ seen_now → IsPlaced least (Some at) now.seen
    by_seen None none = absurd (let grown = grows.1 in cc)
    by_seen (Some seen_then) same =
        same_placed least at seen seen_then now.seen some grows same
        (subst (λ (s : Option (List Command)). IfSome s (λ all. (at ≡ length all) × (answer all ≡ only response))) same unchanged.told).0
reply_placed (Some at) false least seen before now answer response told some grows (inr changed) =
    committed_placed least at seen before now answer response some
    (subst (λ (s : Option (List Command)). IfSome s (IsCommit before now answer response at)) told changed)
reply_placed (Some at) true least seen before now answer response told some grows none = absurd none
reply_placed None true least seen before now answer response told some grows fault = grown_placed least seen now.seen some grows
reply_placed None false least seen before now answer response told some grows none = absurd none

call_placed : (wanted : Result Asked Response) (least : ℕ) (seen : List Command) (before now : Observed) (answer : List Command → Answer) (done : AdminDone)
    → before.seen ≡ Some seen → least ≤ length seen → Meets before now answer wanted (Ok done) → IsPlaced least done.at now.seen
call_placed (Ok what) least seen before now answer done told some answered =
    reply_placed done.at done.faulted least seen before now answer done.response told some
    (subst (λ (s : Option (List Command)). Grows s now.seen) told answered.call.grows) answered.reply
call_placed (Err refusal) least seen before now answer done told some (same, is) =
    subst (λ (at : Option ℕ). IsPlaced least at now.seen) (sym (ap (λ (d : AdminDone). d.at) is))
    (record { seen = seen; told = ap (λ (o : Observed). o.seen) same ∙ told; rises = tt; within = some })

-- what is asked by a call, and its answer where a kind may have so many rows
abbrev wanted_by : Call → Result Asked Response
wanted_by call = asked (request_in call.message) (drawn_id call.bytes) call.time

abbrev answer_to : Call → ℕ → List Command → Answer
answer_to call limit history = admin_answer history (request_in call.message) (drawn_id call.bytes) call.time limit

never_fall : (calls : List Call) (least : ℕ) (seen : List Command) (before now : Observed) → before.seen ≡ Some seen → least ≤ length seen
    → AreCalls before calls now → NeverFall least (map (λ call. call.done) calls)
never_fall [] least seen before now told some are = tt
never_fall (call ∷ calls) least seen before now told some (is, answers, later) =
    let placed = call_placed (wanted_by call) least seen before call.after (answer_to call before.limit) call.done told some answers in
    (placed.rises, never_fall calls (unwrap_or call.done.at least) placed.seen call.after now placed.told placed.within later)

places_never_fall : (before now : Observed) (calls : List Call) → AreCalls before calls now
    → IfSome before.seen (λ seen. NeverFall (length seen) (map (λ call. call.done) calls))
places_never_fall before now calls are = by_seen before.seen refl
  where
    by_seen : (seen : Option (List Command)) → before.seen ≡ seen → IfSome seen (λ all. NeverFall (length all) (map (λ call. call.done) calls))
    by_seen None told = tt
    by_seen (Some seen) told = never_fall calls (length seen) seen before now told (omega arith) are

-- ---- faults

-- one more, where the store failed
more_faults : (faulted : Bool) (before now : Observed) → HasFaults before now faulted → min (before.faults + (if faulted then 1 else 0)) (2 ^ 64 - 1) ≤ now.faults
more_faults true before now faults = faults.rose refl
more_faults false before now faults = let later = faults.later in omega arith

no_faults : (before now : ℕ) → now ≡ before → min (before + 0) (2 ^ 64 - 1) ≤ now
no_faults before now still = omega arith

call_faults : (wanted : Result Asked Response) (before now : Observed) (answer : List Command → Answer) (done : AdminDone)
    → Meets before now answer wanted (Ok done) → min (before.faults + (if done.faulted then 1 else 0)) (2 ^ 64 - 1) ≤ now.faults
call_faults (Ok what) before now answer done answered = more_faults done.faulted before now answered.faults
call_faults (Err refusal) before now answer done (same, is) =
    subst (λ (d : AdminDone). min (before.faults + (if d.faulted then 1 else 0)) (2 ^ 64 - 1) ≤ now.faults) (sym is)
    (no_faults before.faults now.faults (ap (λ (o : Observed). o.faults) same))

faulted_are_counted : (before now : Observed) (calls : List Call) → AreCalls before calls now
    → min (before.faults + faulted_in (map (λ call. call.done) calls)) (2 ^ 64 - 1) ≤ now.faults
faulted_are_counted before now [] same = no_faults before.faults now.faults (ap (λ (o : Observed). o.faults) same)
faulted_are_counted before now (call ∷ calls) (is, answers, later) =
    let first = call_faults (wanted_by call) before call.after (answer_to call before.limit) call.done answers in
    let more = faulted_are_counted call.after now calls later in
    omega arith

-- the count never falls
same_faults : (before now : Observed) → now ≡ before → before.faults ≤ now.faults
same_faults before now same = let still = ap (λ (o : Observed). o.faults) same in omega arith

answered_faults : (wanted : Result Asked Response) (before now : Observed) (answer : List Command → Answer) (result : Result AdminDone OutOfMemory)
    → Meets before now answer wanted result → before.faults ≤ now.faults
answered_faults (Ok what) before now answer (Ok done) answered = answered.faults.later
answered_faults (Ok what) before now answer (Err e) (inl same) = same_faults before now same
answered_faults (Ok what) before now answer (Err e) (inr short) = short.faults.later
answered_faults (Err refusal) before now answer (Ok done) (same, is) = same_faults before now same
answered_faults (Err refusal) before now answer (Err e) same = same_faults before now same

behind_faults : (end : End) (left : Allowance) (ahead : Option (List ℕ)) (before now : Observed) (times : List ℕ) (drawn : List (List ℕ))
    → ComesBehind end left ahead before now times drawn → before.faults ≤ now.faults
behind_faults NoMemory left ahead before now times drawn (inl (same, read, drew)) = same_faults before now same
behind_faults NoMemory left ahead before now times drawn (inr last) =
    answered_faults (asked (request_in last.message) (drawn_id last.bytes) last.time) before now
    (λ history. admin_answer history (request_in last.message) (drawn_id last.bytes) last.time before.limit) last.result last.answers
behind_faults Closed left ahead before now times drawn (same, read, drew) = same_faults before now same
behind_faults AskedEnd left ahead before now times drawn (same, read, drew) = same_faults before now same
behind_faults Spent left ahead before now times drawn (same, read, drew) = same_faults before now same
behind_faults (BadMessage at) left ahead before now times drawn (same, read, drew) = same_faults before now same
behind_faults HeadTooLarge left ahead before now times drawn (same, read, drew) = same_faults before now same
behind_faults BodyTooLarge left ahead before now times drawn (same, read, drew) = same_faults before now same
behind_faults (Cut have) left ahead before now times drawn (same, read, drew) = same_faults before now same
behind_faults ReadFault left ahead before now times drawn (same, read, drew) = same_faults before now same
behind_faults WriteFault left ahead before now times drawn (same, read, drew) = same_faults before now same

later_faults : (count middle now : ℕ) → count ≤ middle → middle ≤ now → count ≤ now
later_faults count middle now a b = omega arith

-- ---- a connection

pub served_places : (Drew : List (List ℕ) → Type 0) (Read : List ℕ → Type 0) (start : ℕ) (left : Allowance) (outside : Outside) (dones : List AdminDone) (end : End)
    → Serves Drew Read start left outside dones end → IfSome outside.store.seen (λ seen. NeverFall (length seen) dones)
served_places Drew Read start left outside dones end s =
    subst (λ (all : List AdminDone). IfSome outside.store.seen (λ seen. NeverFall (length seen) all)) (sym s.told)
    (places_never_fall outside.store s.store s.calls s.made)

pub served_faults : (Drew : List (List ℕ) → Type 0) (Read : List ℕ → Type 0) (start : ℕ) (left : Allowance) (outside : Outside) (dones : List AdminDone) (end : End)
    → Serves Drew Read start left outside dones end → min (outside.store.faults + faulted_in dones) (2 ^ 64 - 1) ≤ outside.store_now.faults
served_faults Drew Read start left outside dones end s =
    subst (λ (all : List AdminDone). min (outside.store.faults + faulted_in all) (2 ^ 64 - 1) ≤ outside.store_now.faults) (sym s.told)
    (later_faults (min (outside.store.faults + faulted_in (map (λ call. call.done) s.calls)) (2 ^ 64 - 1)) s.store.faults outside.store_now.faults
    (faulted_are_counted outside.store s.store s.calls s.made)
    (behind_faults end (left_behind left s.calls) s.rest s.store outside.store_now s.times s.drawn s.behind))
