-- How a connection to the Admin API goes on call by call, and how it ends.
use Rattle.std.proofs.Common.{◌≡◌, ℕ, ◌+◌, inl, true, List, [], ◌++◌, map, Option, Ok, Err, refl, sym, ap, subst, ◌∙◌, arith}
use Rattle.std.proofs.lemmas.List.{append_assoc, append-nil, map-append}
use Rattle.std.proofs.lemmas.Grind.{flat_map-append}
use Rattle.kg_admin.specs.AdminCalls.{drawn_for}
use Rattle.kg_admin.specs.declared.done.AdminDone.{AdminDone}
use Rattle.kg_crew.specs.AdminReplies.{Allows, Call, EndsSo, bytes_of, is_spent, left_behind, replies, request_in}
use Rattle.kg_crew.specs.AdminServing.{ComesBehind, Serves, drawn_by, times_of}
use Rattle.kg_crew.specs.ServingSteps.{Advances, ServesNext}
use Rattle.kg_crew.specs.declared.allowance.Allowance.{Allowance}
use Rattle.kg_crew.specs.declared.end.End.{End}
use Rattle.kg_crew.specs.declared.end.End.TheVariants.{Spent, NoMemory}
use Rattle.kg_crew.proofs.AppendLemmas.{allows_append, calls_append, ends_append, left_append, place_append, replies_append}
use Rattle.kg_keeper.specs.Observed.{Observed}
use Rattle.kg_outside.specs.Moves.{with_end, with_front}
use Rattle.kg_outside.proofs.Observed.{with_end-append, with_end-nil, with_front-append, with_front-nil}
use Rattle.kg_wire.specs.Messages.{print_message}

-- what was drawn or read before, and then once more, is all of it
abbrev pub Joins : {X : Type 0} → (List X → Type 0) → (List X → Type 0) → (List X → Type 0) → Type 0
Joins {X} Before Once Now = (earlier later : List X) → Before earlier → Once later → Now (earlier ++ later)

-- ---- what both say

told_both : (xs ys : List AdminDone) (cs ds : List Call) → xs ≡ map (λ call. call.done) cs → ys ≡ map (λ call. call.done) ds
    → xs ++ ys ≡ map (λ call. call.done) (cs ++ ds)
told_both xs ys cs ds a b =
    ap (λ t. t ++ ys) a ∙ ap (λ t. map (λ (call : Call). call.done) cs ++ t) b ∙ sym (map-append (λ (call : Call). call.done) cs ds)

whole_both : (ahead middle rest : Option (List ℕ)) (cs ds : List Call) → ahead ≡ with_front (bytes_of cs) middle → middle ≡ with_front (bytes_of ds) rest
    → ahead ≡ with_front (bytes_of (cs ++ ds)) rest
whole_both ahead middle rest cs ds a b =
    a
    ∙ ap (with_front (bytes_of cs)) b
    ∙ sym (with_front-append (bytes_of cs) (bytes_of ds) rest)
    ∙ ap (λ bytes. with_front bytes rest) (sym (flat_map-append (λ (call : Call). print_message call.message) cs ds))

written_both : (before middle now : Option (List ℕ)) (first later : List ℕ) → middle ≡ with_end before first → now ≡ with_end middle later
    → now ≡ with_end before (first ++ later)
written_both before middle now first later a b = b ∙ ap (λ w. with_end w later) a ∙ sym (with_end-append before first later)

read_both : (Before Once Now : List ℕ → Type 0) (cs ds : List Call) (times : List ℕ) → Joins Before Once Now → Before (times_of cs) → Once (times_of ds ++ times)
    → Now (times_of (cs ++ ds) ++ times)
read_both Before Once Now cs ds times on a b =
    subst Now
    (sym (append_assoc (times_of cs) (times_of ds) times) ∙ ap (λ t. t ++ times) (sym (map-append (λ (call : Call). call.time) cs ds)))
    (on (times_of cs) (times_of ds ++ times) a b)

drew_both : (Before Once Now : List (List ℕ) → Type 0) (cs ds : List Call) (drawn : List (List ℕ)) → Joins Before Once Now → Before (drawn_by cs)
    → Once (drawn_by ds ++ drawn) → Now (drawn_by (cs ++ ds) ++ drawn)
drew_both Before Once Now cs ds drawn on a b =
    subst Now
    (sym (append_assoc (drawn_by cs) (drawn_by ds) drawn)
    ∙ ap (λ t. t ++ drawn) (sym (flat_map-append (λ (call : Call). drawn_for (request_in call.message) call.bytes) cs ds)))
    (on (drawn_by cs) (drawn_by ds ++ drawn) a b)

-- ---- on and on

-- behind no bytes
pub at_start : (at start : ℕ) → at ≡ start → at ≡ start + 0
at_start at start here = omega arith

-- no request was answered yet
pub none_answered : (Drew : List (List ℕ) → Type 0) (Read : List ℕ → Type 0) (start at : ℕ) (left : Allowance) (ahead ahead_now rest written : Option (List ℕ)) (store : Observed)
    (dones : List AdminDone) → dones ≡ [] → Drew [] → Read [] → at ≡ start → ahead ≡ rest
    → Advances Drew Read start at left left (record { ahead = ahead; ahead_now = ahead_now; written = written; written_now = written; store = store; store_now = store }) rest dones
none_answered Drew Read start at left ahead ahead_now rest written store dones none drew read here same = record {
  calls = [];
  told = none;
  made = refl;
  whole = same ∙ sym (with_front-nil rest);
  written = sym (with_end-nil written);
  allows = tt;
  spared = refl;
  place = at_start at start here;
  read = read;
  drew = drew;
}

-- some were answered, and then more
pub goes_on : (Drew_before Drew_once Drew : List (List ℕ) → Type 0) (Read_before Read_once Read : List ℕ → Type 0) (start middle at : ℕ) (left less last : Allowance)
    (ahead between rest ahead_then ahead_now w0 w1 w2 : Option (List ℕ)) (s0 s1 s2 : Observed) (xs ys : List AdminDone)
    → Joins Drew_before Drew_once Drew → Joins Read_before Read_once Read
    → Advances Drew_before Read_before start middle left less (record { ahead = ahead; ahead_now = ahead_then; written = w0; written_now = w1; store = s0; store_now = s1 }) between xs
    → Advances Drew_once Read_once middle at less last (record { ahead = between; ahead_now = ahead_now; written = w1; written_now = w2; store = s1; store_now = s2 }) rest ys
    → Advances Drew Read start at left last (record { ahead = ahead; ahead_now = ahead_now; written = w0; written_now = w2; store = s0; store_now = s2 }) rest (xs ++ ys)
goes_on Drew_before Drew_once Drew Read_before Read_once Read start middle at left less last ahead between rest ahead_then ahead_now w0 w1 w2 s0 s1 s2 xs ys drawing reading a b = record {
  calls = a.calls ++ b.calls;
  told = told_both xs ys a.calls b.calls a.told b.told;
  made = calls_append s0 s1 s2 a.calls b.calls a.made b.made;
  whole = whole_both ahead between rest a.calls b.calls a.whole b.whole;
  written =
      written_both w0 w1 w2 (replies left a.calls) (replies less b.calls) a.written b.written
      ∙ ap (with_end w0) (ap (λ more. replies left a.calls ++ replies more b.calls) a.spared ∙ sym (replies_append left a.calls b.calls));
  allows = allows_append left a.calls b.calls a.allows (subst (λ more. Allows more b.calls) a.spared b.allows);
  spared = b.spared ∙ ap (λ more. left_behind more b.calls) a.spared ∙ sym (left_append left a.calls b.calls);
  place = b.place ∙ place_append start middle a.calls b.calls a.place;
  read = subst Read (append-nil (times_of (a.calls ++ b.calls)))
      (read_both Read_before Read_once Read a.calls b.calls [] reading a.read (subst Read_once (sym (append-nil (times_of b.calls))) b.read));
  drew = subst Drew (append-nil (drawn_by (a.calls ++ b.calls)))
      (drew_both Drew_before Drew_once Drew a.calls b.calls [] drawing a.drew (subst Drew_once (sym (append-nil (drawn_by b.calls))) b.drew));
}

-- some were answered, and then it ended
pub ends_behind : (Drew_before Drew_once Drew : List (List ℕ) → Type 0) (Read_before Read_once Read : List ℕ → Type 0) (start middle : ℕ) (left less : Allowance)
    (ahead between ahead_then ahead_now w0 w1 w2 : Option (List ℕ)) (s0 s1 s2 : Observed) (xs ys : List AdminDone) (end : End)
    → Joins Drew_before Drew_once Drew → Joins Read_before Read_once Read
    → Advances Drew_before Read_before start middle left less (record { ahead = ahead; ahead_now = ahead_then; written = w0; written_now = w1; store = s0; store_now = s1 }) between xs
    → Serves Drew_once Read_once middle less (record { ahead = between; ahead_now = ahead_now; written = w1; written_now = w2; store = s1; store_now = s2 }) ys end
    → Serves Drew Read start left (record { ahead = ahead; ahead_now = ahead_now; written = w0; written_now = w2; store = s0; store_now = s2 }) (xs ++ ys) end
ends_behind Drew_before Drew_once Drew Read_before Read_once Read start middle left less ahead between ahead_then ahead_now w0 w1 w2 s0 s1 s2 xs ys end drawing reading a b = record {
  calls = a.calls ++ b.calls;
  told = told_both xs ys a.calls b.calls a.told b.told;
  store = b.store;
  made = calls_append s0 s1 b.store a.calls b.calls a.made b.made;
  rest = b.rest;
  whole = whole_both ahead between b.rest a.calls b.calls a.whole b.whole;
  text = replies left a.calls ++ b.text;
  written = written_both w0 w1 w2 (replies left a.calls) b.text a.written b.written;
  ends = ends_append end start middle left a.calls b.calls b.rest ahead_now b.text a.allows a.place (subst (λ more. EndsSo middle more b.calls b.rest ahead_now b.text end) a.spared b.ends);
  times = b.times;
  drawn = b.drawn;
  behind = subst (λ more. ComesBehind end more b.rest b.store s2 b.times b.drawn)
      (ap (λ more. left_behind more b.calls) a.spared ∙ sym (left_append left a.calls b.calls)) b.behind;
  read = read_both Read_before Read_once Read a.calls b.calls b.times reading a.read b.read;
  drew = drew_both Drew_before Drew_once Drew a.calls b.calls b.drawn drawing a.drew b.drew;
}

-- as many were answered as are allowed
pub spent : (Drew : List (List ℕ) → Type 0) (Read : List ℕ → Type 0) (start at : ℕ) (left last : Allowance)
    (ahead ahead_now rest w0 w1 : Option (List ℕ)) (s0 s1 : Observed) (xs : List AdminDone)
    → Advances Drew Read start at left last (record { ahead = ahead; ahead_now = ahead_now; written = w0; written_now = w1; store = s0; store_now = s1 }) rest xs → is_spent last ≡ true
    → Serves Drew Read start left (record { ahead = ahead; ahead_now = ahead_now; written = w0; written_now = w1; store = s0; store_now = s1 }) xs Spent
spent Drew Read start at left last ahead ahead_now rest w0 w1 s0 s1 xs a all = record {
  calls = a.calls;
  told = a.told;
  store = s1;
  made = a.made;
  rest = rest;
  whole = a.whole;
  text = replies left a.calls;
  written = a.written;
  ends = (a.allows, ap is_spent (sym a.spared) ∙ all, refl);
  times = [];
  drawn = [];
  behind = (refl, refl, refl);
  read = subst Read (sym (append-nil (times_of a.calls))) a.read;
  drew = subst Drew (sym (append-nil (drawn_by a.calls))) a.drew;
}

-- no request was answered, and it ends so
pub ends_now : (Drew : List (List ℕ) → Type 0) (Read : List ℕ → Type 0) (start : ℕ) (left : Allowance) (ahead ahead_now w0 w1 : Option (List ℕ)) (store : Observed)
    (text : List ℕ) (end : End)
    → Drew [] → Read [] → w1 ≡ with_end w0 text → EndsSo start left [] ahead ahead_now text end → ComesBehind end left ahead store store [] []
    → Serves Drew Read start left (record { ahead = ahead; ahead_now = ahead_now; written = w0; written_now = w1; store = store; store_now = store }) [] end
ends_now Drew Read start left ahead ahead_now w0 w1 store text end drew read written ends behind = record {
  calls = [];
  told = refl;
  store = store;
  made = refl;
  rest = ahead;
  whole = sym (with_front-nil ahead);
  text = text;
  written = written;
  ends = ends;
  times = [];
  drawn = [];
  behind = behind;
  read = read;
  drew = drew;
}

-- there was no memory before anything was done
pub no_memory : (Drew : List (List ℕ) → Type 0) (Read : List ℕ → Type 0) (start : ℕ) (left : Allowance) (ahead ahead_now w0 w1 : Option (List ℕ)) (store : Observed)
    → Drew [] → Read [] → w1 ≡ w0
    → Serves Drew Read start left (record { ahead = ahead; ahead_now = ahead_now; written = w0; written_now = w1; store = store; store_now = store }) [] NoMemory
no_memory Drew Read start left ahead ahead_now w0 w1 store drew read same =
    ends_now Drew Read start left ahead ahead_now w0 w1 store [] NoMemory drew read (same ∙ sym (with_end-nil w0)) (tt, refl) (inl (refl, refl, refl))

-- ---- the loop

-- there was no memory to begin
pub not_begun : (Drew : List (List ℕ) → Type 0) (Read : List ℕ → Type 0) (start : ℕ) (left : Allowance) (ahead ahead_now written : Option (List ℕ)) (store : Observed)
    (dones : List AdminDone) → dones ≡ [] → Drew [] → Read []
    → Serves Drew Read start left (record { ahead = ahead; ahead_now = ahead_now; written = written; written_now = written; store = store; store_now = store }) dones NoMemory
not_begun Drew Read start left ahead ahead_now written store dones none drew read =
    subst (λ (t : List AdminDone). Serves Drew Read start left (record { ahead = ahead; ahead_now = ahead_now; written = written; written_now = written; store = store; store_now = store }) t NoMemory)
    (sym none) (no_memory Drew Read start left ahead ahead_now written written store drew read refl)

-- the next message was served, and it goes on
pub goes_next : (Drew_before Drew_once Drew : List (List ℕ) → Type 0) (Read_before Read_once Read : List ℕ → Type 0) (start middle at : ℕ) (left less last : Allowance)
    (ahead between rest ahead_then ahead_now w0 w1 w2 : Option (List ℕ)) (s0 s1 s2 : Observed) (dones dones_now : List AdminDone)
    → Joins Drew_before Drew_once Drew → Joins Read_before Read_once Read
    → Advances Drew_before Read_before start middle left less (record { ahead = ahead; ahead_now = ahead_then; written = w0; written_now = w1; store = s0; store_now = s1 }) between dones
    → ServesNext Drew_once Read_once middle at less (record { ahead = between; ahead_now = ahead_now; written = w1; written_now = w2; store = s1; store_now = s2 }) rest dones dones_now (Ok last)
    → Advances Drew Read start at left last (record { ahead = ahead; ahead_now = ahead_now; written = w0; written_now = w2; store = s0; store_now = s2 }) rest dones_now
goes_next Drew_before Drew_once Drew Read_before Read_once Read start middle at left less last ahead between rest ahead_then ahead_now w0 w1 w2 s0 s1 s2 dones dones_now drawing reading a (more, added, b) =
    subst (λ (t : List AdminDone). Advances Drew Read start at left last (record { ahead = ahead; ahead_now = ahead_now; written = w0; written_now = w2; store = s0; store_now = s2 }) rest t)
    (sym added)
    (goes_on Drew_before Drew_once Drew Read_before Read_once Read start middle at left less last ahead between rest ahead_then ahead_now w0 w1 w2 s0 s1 s2 dones more drawing reading a b)

-- the next message was served, and it ends
pub ends_next : (Drew_before Drew_once Drew : List (List ℕ) → Type 0) (Read_before Read_once Read : List ℕ → Type 0) (start middle at : ℕ) (left less : Allowance)
    (ahead between rest ahead_then ahead_now w0 w1 w2 : Option (List ℕ)) (s0 s1 s2 : Observed) (dones dones_now : List AdminDone) (end : End)
    → Joins Drew_before Drew_once Drew → Joins Read_before Read_once Read
    → Advances Drew_before Read_before start middle left less (record { ahead = ahead; ahead_now = ahead_then; written = w0; written_now = w1; store = s0; store_now = s1 }) between dones
    → ServesNext Drew_once Read_once middle at less (record { ahead = between; ahead_now = ahead_now; written = w1; written_now = w2; store = s1; store_now = s2 }) rest dones dones_now (Err end)
    → Serves Drew Read start left (record { ahead = ahead; ahead_now = ahead_now; written = w0; written_now = w2; store = s0; store_now = s2 }) dones_now end
ends_next Drew_before Drew_once Drew Read_before Read_once Read start middle at left less ahead between rest ahead_then ahead_now w0 w1 w2 s0 s1 s2 dones dones_now end drawing reading a (more, added, b) =
    subst (λ (t : List AdminDone). Serves Drew Read start left (record { ahead = ahead; ahead_now = ahead_now; written = w0; written_now = w2; store = s0; store_now = s2 }) t end)
    (sym added)
    (ends_behind Drew_before Drew_once Drew Read_before Read_once Read start middle left less ahead between ahead_then ahead_now w0 w1 w2 s0 s1 s2 dones more end drawing reading a b)
