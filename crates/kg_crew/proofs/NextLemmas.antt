-- What becomes of the next message of a connection to the Admin API.
use Rattle.std.proofs.Common.{◌≡◌, ℕ, ◌+◌, ◌≤◌, inl, inr, false, List, [], ◌∷◌, ◌++◌, length, take, drop, Option, Some, None, IfSome, Result, Ok, Err, refl, sym, ap, subst, ◌∙◌}
use Rattle.std.proofs.lemmas.List.{append-nil, take-append-drop}
use Rattle.kg_admin.specs.AdminCalls.{drawn_for}
use Rattle.kg_admin.specs.declared.done.AdminDone.{AdminDone}
use Rattle.kg_crew.specs.AdminReplies.{Call, EndsSo, IsFront, bytes_of, is_spent, less, local_address, refusal_text, replies, request_in, text_of}
use Rattle.kg_crew.specs.AdminServing.{ComesBehind, Serves, drawn_by}
use Rattle.kg_crew.specs.ServingSteps.{Advances, IsTried, Notes, Refuses, RepliesTo, ServesNext}
use Rattle.kg_crew.specs.declared.allowance.Allowance.{Allowance}
use Rattle.kg_crew.specs.declared.end.End.{End}
use Rattle.kg_crew.specs.declared.end.End.TheVariants.{Closed, Asked, Spent, BadMessage, HeadTooLarge, BodyTooLarge, Cut, ReadFault, WriteFault, NoMemory}
use Rattle.kg_crew.proofs.ServingLemmas.{at_start, ends_now, no_memory}
use Rattle.kg_keeper.specs.Observed.{Observed}
use Rattle.kg_message.specs.declared.request.Request.{Request}
use Rattle.kg_outside.specs.Moves.{with_end, with_front}
use Rattle.kg_outside.proofs.Observed.{with_end-nil, with_front-append, with_front-nil}
use Rattle.kg_print.specs.Connection.{asks_for_end}
use Rattle.kg_text.specs.declared.error.NoMemory.{NoMemory as OutOfMemory}
use Rattle.kg_wire.specs.Messages.{Message, BeginsNoRequest, IsRequest, print_message, request_of}
use Rattle.kg_wire.specs.Reading.{Grows, IsEnded, IsNothing, ReaderState, Refuses as RefusesBytes, Takes}
use Rattle.kg_wire.specs.Refusals.{IsBad, IsCut}
use Rattle.kg_wire.specs.declared.reader.ReadError.TheVariants.{Bad, Cut as CutMessage}
use Rattle.kg_wire.proofs.RefusalLemmas.{bad_stays}

-- what holds where it is observable
if_some : {X : Type 0} (P : X → Type 0) (ahead : Option X) → ((x : X) → ahead ≡ Some x → P x) → IfSome ahead P
if_some P None holds = tt
if_some P (Some x) holds = holds x refl

-- what was written of a text is a front of it
pub front_written : (before now : Option (List ℕ)) (bytes text : List ℕ) → bytes ≡ text
    → ((n : ℕ) × (n ≤ length bytes) × (now ≡ with_end before (take n bytes)))
    → (front : List ℕ) × IsFront front text × (now ≡ with_end before front)
front_written before now bytes text same (n, within, written) =
    (take n bytes, (drop n bytes, sym same ∙ sym (take-append-drop n bytes)), written)

-- ---- a request was read

-- it is in front of what is ahead
taken_front : (before now : ReaderState) (left later : Option (List ℕ)) (request : Request) (t : Takes before now left later request)
    → with_front before.held left ≡ with_front (print_message t.message) (with_front now.held later)
taken_front before now left later request t = t.moved ∙ with_front-append (print_message t.message) now.held later

taken_stands : (bytes : List ℕ) (ahead rest : Option (List ℕ)) → ahead ≡ with_front bytes rest → IfSome ahead (λ all. (behind : List ℕ) × (all ≡ bytes ++ behind))
taken_stands bytes None rest same = tt
taken_stands bytes (Some all) None same = absurd (cc)
taken_stands bytes (Some all) (Some behind) same = (behind, cc)

-- a call for it
abbrev call_for : Message → ℕ → List ℕ → AdminDone → Observed → Call
call_for message time bytes done after = record { message = message; time = time; bytes = bytes; done = done; after = after }

-- one call is a list of calls
one_whole : (message : Message) (time : ℕ) (bytes : List ℕ) (done : AdminDone) (after : Observed) (ahead rest : Option (List ℕ)) → ahead ≡ with_front (print_message message) rest
    → ahead ≡ with_front (bytes_of (call_for message time bytes done after ∷ [])) rest
one_whole message time bytes done after ahead rest same = same ∙ ap (λ t. with_front t rest) (sym (append-nil (print_message message)))

one_written : (message : Message) (time : ℕ) (bytes : List ℕ) (done : AdminDone) (after : Observed) (left : Allowance) (w0 w1 : Option (List ℕ))
    → w1 ≡ with_end w0 (text_of (less left done.response) (request_in message) done.response)
    → w1 ≡ with_end w0 (replies left (call_for message time bytes done after ∷ []))
one_written message time bytes done after left w0 w1 same =
    same ∙ ap (with_end w0) (sym (append-nil (text_of (less left done.response) (request_in message) done.response)))

-- the next request was answered: it goes on
went_on : (Drew : List (List ℕ) → Type 0) (Read : List ℕ → Type 0) (start at : ℕ) (left last : Allowance) (ahead ahead_now rest w0 w1 : Option (List ℕ)) (s0 s1 : Observed)
    (message : Message) (done : AdminDone)
    → IsRequest message → ahead ≡ with_front (print_message message) rest → at ≡ start + length (print_message message) → is_spent left ≡ false
    → IsTried Drew Read s0 s1 (request_in message) (Ok done)
    → asks_for_end (request_in message) ≡ false → last ≡ less left done.response → w1 ≡ with_end w0 (text_of (less left done.response) (request_in message) done.response)
    → Advances Drew Read start at left last (record { ahead = ahead; ahead_now = ahead_now; written = w0; written_now = w1; store = s0; store_now = s1 }) rest (done ∷ [])
went_on Drew Read start at left last ahead ahead_now rest w0 w1 s0 s1 message done is front place more tried asking spared written = record {
  calls = call_for message tried.time tried.bytes done s1 ∷ [];
  told = refl;
  made = (is, tried.answers, refl);
  whole = one_whole message tried.time tried.bytes done s1 ahead rest front;
  written = one_written message tried.time tried.bytes done s1 left w0 w1 written;
  allows = (more, asking, tt);
  spared = spared;
  place = place ∙ ap (λ (t : List ℕ). start + length t) (sym (append-nil (print_message message)));
  read = tried.read;
  drew = subst Drew (sym (append-nil (drawn_for (request_in message) tried.bytes))) tried.drew;
}

-- the next request was answered: it ends
went_last : (Drew : List (List ℕ) → Type 0) (Read : List ℕ → Type 0) (start : ℕ) (left : Allowance) (ahead ahead_now rest w0 w1 : Option (List ℕ)) (s0 s1 : Observed)
    (message : Message) (done : AdminDone) (text : List ℕ) (end : End)
    → IsRequest message → ahead ≡ with_front (print_message message) rest → (tried : IsTried Drew Read s0 s1 (request_in message) (Ok done))
    → EndsSo start left (call_for message tried.time tried.bytes done s1 ∷ []) rest ahead_now text end → w1 ≡ with_end w0 text
    → ComesBehind end (less left done.response) rest s1 s1 [] []
    → Serves Drew Read start left (record { ahead = ahead; ahead_now = ahead_now; written = w0; written_now = w1; store = s0; store_now = s1 }) (done ∷ []) end
went_last Drew Read start left ahead ahead_now rest w0 w1 s0 s1 message done text end is front tried ends written behind = record {
  calls = call_for message tried.time tried.bytes done s1 ∷ [];
  told = refl;
  store = s1;
  made = (is, tried.answers, refl);
  rest = rest;
  whole = one_whole message tried.time tried.bytes done s1 ahead rest front;
  text = text;
  written = written;
  ends = ends;
  times = [];
  drawn = [];
  behind = behind;
  read = tried.read;
  drew = subst Drew
      (sym (append-nil (drawn_by (call_for message tried.time tried.bytes done s1 ∷ [])) ∙ append-nil (drawn_for (request_in message) tried.bytes))) tried.drew;
}

-- there was no memory for its reply
went_without : (Drew : List (List ℕ) → Type 0) (Read : List ℕ → Type 0) (start : ℕ) (left : Allowance) (ahead ahead_now rest w0 w1 : Option (List ℕ)) (s0 s1 : Observed)
    (message : Message) (result : Result AdminDone OutOfMemory)
    → is_spent left ≡ false → IsRequest message → ahead ≡ with_front (print_message message) rest → IsTried Drew Read s0 s1 (request_in message) result → w1 ≡ w0
    → Serves Drew Read start left (record { ahead = ahead; ahead_now = ahead_now; written = w0; written_now = w1; store = s0; store_now = s1 }) [] NoMemory
went_without Drew Read start left ahead ahead_now rest w0 w1 s0 s1 message result more is front tried same = record {
  calls = [];
  told = refl;
  store = s0;
  made = refl;
  rest = ahead;
  whole = sym (with_front-nil ahead);
  text = [];
  written = same ∙ sym (with_end-nil w0);
  ends = (tt, refl);
  times = tried.time ∷ [];
  drawn = drawn_for (request_in message) tried.bytes;
  behind = inr (record {
    allowed = more;
    message = message;
    is = is;
    stands = taken_stands (print_message message) ahead rest front;
    time = tried.time;
    bytes = tried.bytes;
    result = result;
    answers = tried.answers;
    read = refl;
    drew = refl;
  });
  read = tried.read;
  drew = tried.drew;
}

-- it was noted and its reply written, or a front of it
noted : (result : Result Allowance End) (Drew : List (List ℕ) → Type 0) (Read : List ℕ → Type 0) (start at : ℕ) (left : Allowance) (ahead ahead_now rest w0 w1 : Option (List ℕ))
    (s0 s1 : Observed) (message : Message) (done : AdminDone) (dones dones_now : List AdminDone)
    → IsRequest message → ahead ≡ with_front (print_message message) rest → at ≡ start + length (print_message message) → is_spent left ≡ false
    → IsTried Drew Read s0 s1 (request_in message) (Ok done) → Notes (request_in message) done left dones dones_now w0 w1 result
    → ServesNext Drew Read start at left (record { ahead = ahead; ahead_now = ahead_now; written = w0; written_now = w1; store = s0; store_now = s1 }) rest dones dones_now result
noted (Ok last) Drew Read start at left ahead ahead_now rest w0 w1 s0 s1 message done dones dones_now is front place more tried (added, (asking, spared, written)) =
    (done ∷ [], added, went_on Drew Read start at left last ahead ahead_now rest w0 w1 s0 s1 message done is front place more tried asking spared written)
noted (Err Asked) Drew Read start at left ahead ahead_now rest w0 w1 s0 s1 message done dones dones_now is front place more tried (added, (asking, written)) =
    let call = call_for message tried.time tried.bytes done s1 in (
      done ∷ [],
      added,
      went_last Drew Read start left ahead ahead_now rest w0 w1 s0 s1 message done (replies left (call ∷ [])) Asked is front tried
          (record { before = []; last = call; joined = refl; on = (tt, more); asked = asking }, refl)
          (one_written message tried.time tried.bytes done s1 left w0 w1 written) (refl, refl, refl),
    )
noted (Err WriteFault) Drew Read start at left ahead ahead_now rest w0 w1 s0 s1 message done dones dones_now is front place more tried (added, (part, begins, written)) =
    let call = call_for message tried.time tried.bytes done s1 in (
      done ∷ [],
      added,
      went_last Drew Read start left ahead ahead_now rest w0 w1 s0 s1 message done part WriteFault is front tried
          (inl (record {
            before = [];
            last = call;
            joined = refl;
            on = (tt, more);
            part = (part, (begins.0, append-nil (text_of (less left done.response) (request_in message) done.response) ∙ begins.1), refl);
          }))
          written (refl, refl, refl),
    )
noted (Err Closed) Drew Read start at left ahead ahead_now rest w0 w1 s0 s1 message done dones dones_now is front place more tried (added, none) = absurd none
noted (Err Spent) Drew Read start at left ahead ahead_now rest w0 w1 s0 s1 message done dones dones_now is front place more tried (added, none) = absurd none
noted (Err (BadMessage here)) Drew Read start at left ahead ahead_now rest w0 w1 s0 s1 message done dones dones_now is front place more tried (added, none) = absurd none
noted (Err HeadTooLarge) Drew Read start at left ahead ahead_now rest w0 w1 s0 s1 message done dones dones_now is front place more tried (added, none) = absurd none
noted (Err BodyTooLarge) Drew Read start at left ahead ahead_now rest w0 w1 s0 s1 message done dones dones_now is front place more tried (added, none) = absurd none
noted (Err (Cut have)) Drew Read start at left ahead ahead_now rest w0 w1 s0 s1 message done dones dones_now is front place more tried (added, none) = absurd none
noted (Err ReadFault) Drew Read start at left ahead ahead_now rest w0 w1 s0 s1 message done dones dones_now is front place more tried (added, none) = absurd none
noted (Err NoMemory) Drew Read start at left ahead ahead_now rest w0 w1 s0 s1 message done dones dones_now is front place more tried (added, none) = absurd none

-- the request that was read is answered
pub taken : (Drew : List (List ℕ) → Type 0) (Read : List ℕ → Type 0) (before now : ReaderState) (bytes later later_now w0 w_read w1 : Option (List ℕ)) (s0 s1 : Observed)
    (request : Request) (left : Allowance) (dones dones_now : List AdminDone) (result : Result Allowance End)
    → before.address ≡ local_address → is_spent left ≡ false → Takes before now bytes later request → later_now ≡ later → w_read ≡ w0
    → RepliesTo Drew Read request left s0 s1 dones dones_now w_read w1 result
    → ServesNext Drew Read before.at now.at left (record { ahead = with_front before.held bytes; ahead_now = later_now; written = w0; written_now = w1; store = s0; store_now = s1 })
    (with_front now.held later_now) dones dones_now result
taken Drew Read before now bytes later later_now w0 w_read w1 s0 s1 request left dones dones_now result here more t still same replied =
    subst (λ (l : Option (List ℕ)). Ends (with_front now.held l) result) (sym still)
    (by_cases (subst (λ (w : Option (List ℕ)). RepliesTo Drew Read (request_in t.message) left s0 s1 dones dones_now w w1 result) same
    (subst (λ (q : Request). RepliesTo Drew Read q left s0 s1 dones dones_now w_read w1 result)
    (t.means ∙ ap (λ address. request_of address t.message) here) replied)))
  where
    Ends : Option (List ℕ) → Result Allowance End → Type 0
    Ends rest answer =
        ServesNext Drew Read before.at now.at left (record { ahead = with_front before.held bytes; ahead_now = later_now; written = w0; written_now = w1; store = s0; store_now = s1 })
        rest dones dones_now answer

    front : with_front before.held bytes ≡ with_front (print_message t.message) (with_front now.held later)
    front = taken_front before now bytes later request t

    by_cases : RepliesTo Drew Read (request_in t.message) left s0 s1 dones dones_now w0 w1 result → Ends (with_front now.held later) result
    by_cases (inl (done, tried, notes)) =
        noted result Drew Read before.at now.at left (with_front before.held bytes) later_now (with_front now.held later) w0 w1 s0 s1 t.message done dones dones_now
        t.is front t.at more tried notes
    by_cases (inr (answer, tried, (ending, same_dones, same_text))) =
        subst (Ends (with_front now.held later)) (sym ending) (
          [],
          same_dones ∙ sym (append-nil dones),
          went_without Drew Read before.at left (with_front before.held bytes) later_now (with_front now.held later) w0 w1 s0 s1 t.message answer more t.is front tried same_text,
        )

-- ---- no request was read

-- what is ahead stays the same while the reader reads
grown_ahead : (held now : List ℕ) (left later : Option (List ℕ)) → Grows held now left later → with_front held left ≡ with_front now later
grown_ahead held now left later grows =
    ap (with_front held) grows.moved
    ∙ sym (with_front-append held grows.piece later)
    ∙ ap (λ bytes. with_front bytes later) (sym grows.grown)

-- the source ended between two messages
pub closed : (Drew : List (List ℕ) → Type 0) (Read : List ℕ → Type 0) (before now : ReaderState) (bytes later w0 w1 : Option (List ℕ)) (store : Observed) (left : Allowance)
    → Drew [] → Read [] → w1 ≡ w0 → is_spent left ≡ false → IsNothing before now bytes later
    → Serves Drew Read before.at left (record { ahead = with_front before.held bytes; ahead_now = later; written = w0; written_now = w1; store = store; store_now = store }) [] Closed
closed Drew Read before now bytes later w0 w1 store left drew read same more nothing =
    ends_now Drew Read before.at left (with_front before.held bytes) later w0 w1 store [] Closed drew read (same ∙ sym (with_end-nil w0)) (
      (tt, more),
      if_some (λ rest. rest ≡ []) (with_front before.held bytes)
          (λ rest seen. nothing.ended rest
          (nothing.left ∙ sym (with_front-nil bytes) ∙ ap (λ held. with_front held bytes) (sym nothing.none_held) ∙ seen)),
      refl,
    )
    (refl, refl, refl)

-- the bytes ahead are refused
bad_ahead : (at place : ℕ) (held now : List ℕ) (bytes later : Option (List ℕ)) → Grows held now bytes later → RefusesBytes at now later (Bad place)
    → IfSome (with_front held bytes) IsBad
bad_ahead at place held now bytes later grows bad = if_some IsBad (with_front held bytes) (λ rest ahead. by_cases rest later (sym ahead ∙ grown_ahead held now bytes later grows))
  where
    by_cases : (rest : List ℕ) (later : Option (List ℕ)) → Some rest ≡ with_front now later → IsBad rest
    by_cases rest None same = absurd (cc)
    by_cases rest (Some more) same =
        let all : rest ≡ now ++ more = cc in
        subst IsBad (sym all) (bad_stays now more bad.1)

-- the refusal was written, or a front of it, or nothing
pub refused : (end : End) (Drew : List (List ℕ) → Type 0) (Read : List ℕ → Type 0) (start place : ℕ) (held now : List ℕ) (bytes later ahead_now w0 w_read w1 : Option (List ℕ)) (store : Observed)
    (left : Allowance)
    → Drew [] → Read [] → w_read ≡ w0 → is_spent left ≡ false → Grows held now bytes later → RefusesBytes start now later (Bad place) → Refuses place w_read w1 end
    → Serves Drew Read start left (record { ahead = with_front held bytes; ahead_now = ahead_now; written = w0; written_now = w1; store = store; store_now = store }) [] end
refused (BadMessage here) Drew Read start place held now bytes later ahead_now w0 w_read w1 store left drew read same more grows bad (there, written) =
    ends_now Drew Read start left (with_front held bytes) ahead_now w0 w1 store refusal_text (BadMessage here) drew read (written ∙ ap (λ w. with_end w refusal_text) same)
    ((tt, more), bad_ahead start place held now bytes later grows bad, at_start here start (there ∙ bad.0), refl) (refl, refl, refl)
refused WriteFault Drew Read start place held now bytes later ahead_now w0 w_read w1 store left drew read same more grows bad (front, begins, written) =
    ends_now Drew Read start left (with_front held bytes) ahead_now w0 w1 store front WriteFault drew read (written ∙ ap (λ w. with_end w front) same)
    (inr ((tt, more), bad_ahead start place held now bytes later grows bad, (front, begins, refl))) (refl, refl, refl)
refused NoMemory Drew Read start place held now bytes later ahead_now w0 w_read w1 store left drew read same more grows bad still =
    no_memory Drew Read start left (with_front held bytes) ahead_now w0 w1 store drew read (still ∙ same)
refused Closed Drew Read start place held now bytes later ahead_now w0 w_read w1 store left drew read same more grows bad none = absurd none
refused Asked Drew Read start place held now bytes later ahead_now w0 w_read w1 store left drew read same more grows bad none = absurd none
refused Spent Drew Read start place held now bytes later ahead_now w0 w_read w1 store left drew read same more grows bad none = absurd none
refused HeadTooLarge Drew Read start place held now bytes later ahead_now w0 w_read w1 store left drew read same more grows bad none = absurd none
refused BodyTooLarge Drew Read start place held now bytes later ahead_now w0 w_read w1 store left drew read same more grows bad none = absurd none
refused (Cut have) Drew Read start place held now bytes later ahead_now w0 w_read w1 store left drew read same more grows bad none = absurd none
refused ReadFault Drew Read start place held now bytes later ahead_now w0 w_read w1 store left drew read same more grows bad none = absurd none

-- the source ended inside the next message
pub cut : (Drew : List (List ℕ) → Type 0) (Read : List ℕ → Type 0) (start at have : ℕ) (held now : List ℕ) (bytes later w0 w1 : Option (List ℕ)) (store : Observed) (left : Allowance)
    → Drew [] → Read [] → w1 ≡ w0 → is_spent left ≡ false → Grows held now bytes later → RefusesBytes at now later (CutMessage have)
    → Serves Drew Read start left (record { ahead = with_front held bytes; ahead_now = later; written = w0; written_now = w1; store = store; store_now = store }) [] (Cut have)
cut Drew Read start at have held now bytes later w0 w1 store left drew read same more grows part =
    ends_now Drew Read start left (with_front held bytes) later w0 w1 store [] (Cut have) drew read (same ∙ sym (with_end-nil w0)) (
      (tt, more),
      if_some (λ rest. IsCut rest × (have ≡ length rest)) (with_front held bytes)
          (λ rest ahead. by_cases rest later part.2 (sym ahead ∙ grown_ahead held now bytes later grows)),
      refl,
    )
    (refl, refl, refl)
  where
    by_cases : (rest : List ℕ) (later : Option (List ℕ)) → IsEnded later → Some rest ≡ with_front now later → IsCut rest × (have ≡ length rest)
    by_cases rest None ended same = absurd (cc)
    by_cases rest (Some more) ended same =
        let none : more ≡ [] = ended more refl in
        let all : rest ≡ now ++ more = cc in
        let held : rest ≡ now = all ∙ ap (λ t. now ++ t) none ∙ append-nil now in
        (subst IsCut (sym held) part.1, part.0 ∙ ap length (sym held))

-- a read failed
pub failed : (Drew : List (List ℕ) → Type 0) (Read : List ℕ → Type 0) (start : ℕ) (held now : List ℕ) (bytes later w0 w1 : Option (List ℕ)) (store : Observed) (left : Allowance)
    → Drew [] → Read [] → w1 ≡ w0 → is_spent left ≡ false → Grows held now bytes later → BeginsNoRequest now
    → Serves Drew Read start left (record { ahead = with_front held bytes; ahead_now = later; written = w0; written_now = w1; store = store; store_now = store }) [] ReadFault
failed Drew Read start held now bytes later w0 w1 store left drew read same more grows none =
    ends_now Drew Read start left (with_front held bytes) later w0 w1 store [] ReadFault drew read (same ∙ sym (with_end-nil w0))
    ((tt, more), (now, grown_ahead held now bytes later grows, none), refl) (refl, refl, refl)
