-- How the answered requests of a connection grow by one, how the answering ends, and what is written when
-- it is cut short.
use Rattle.std.proofs.Common.{◌≡◌, ℕ, ◌+◌, ◌<◌, ◌≤◌, ◌==◌, inl, inr, Bool, true, false, List, [], ◌∷◌, ◌++◌, Option, Some, None, Result, Ok, Err, IfOk, OnOk, OnErr, length, take, drop, refl, sym, ap, subst, ◌∙◌, arith}
use Rattle.std.proofs.lemmas.List.{append_assoc, append-nil, length-append, take-append-drop}
use Rattle.std.proofs.lemmas.Grind.{flat_map-append}
use Rattle.std.specs.List.{flat_map, AllByRecursion}
use Rattle.kg_message.specs.declared.request.Request.{Request}
use Rattle.kg_outside.specs.Moves.{with_front, with_end}
use Rattle.kg_outside.proofs.Observed.{with_front-nil, with_front-append, with_end-nil, with_end-append}
use Rattle.kg_print.specs.Connection.{asks_for_end}
use Rattle.kg_wire.specs.Messages.{Message, IsRequest, print_message, request_of}
use Rattle.kg_wire.specs.Reading.{ReaderState, Takes, Grows, Refuses, IsEnded, IsNothing}
use Rattle.kg_wire.specs.Refusals.{IsBad, IsCut}
use Rattle.kg_wire.proofs.RefusalLemmas.{bad_stays}
use Rattle.kg_wire.specs.declared.reader.ReadError.TheVariants.{Bad as BadMessage, Cut as CutMessage}
use Rattle.kg_plain.specs.Answered.{Answered, AnsweredOn, AnswersAll, AnswersFront, EndsAhead}
use Rattle.kg_plain.specs.AnsweringSteps.{AnswersNext, EndsAt, IsReplied, Replied, RepliedFront, StopsNext, asked_end}
use Rattle.kg_limit.specs.declared.hit.Hit.{Hit}
use Rattle.kg_plain.specs.DryReply.{GatewayRows, bad_request_text, counted, reply_to}
use Rattle.kg_plain.specs.Fronts.{IsFront}
use Rattle.kg_plain.specs.Replies.{BeginsReply, StopsIn, asks, hits_of, local_address, most_requests, texts}
use Rattle.kg_plain.specs.declared.answers.End.{End}
use Rattle.kg_plain.specs.declared.answers.End.TheVariants.{Closed, Asked, Spent, Bad, Cut}

-- one more reply at the end
pub texts-push : (rows : GatewayRows) (hits : List Hit) (answered n : ℕ) (times : List ℕ) (ms : List Message) (time : ℕ) (m : Message) → n ≡ answered + length ms
    → length times ≡ length ms
    → texts rows hits answered (times ++ time ∷ []) (ms ++ m ∷ [])
    ≡ texts rows hits answered times ms ++ reply_to rows (hits ++ hits_of rows times ms) time (n + 1 == most_requests) (request_of local_address m)
texts-push rows hits answered n [] [] time m is each =
    let e : answered ≡ n = omega arith in
    append-nil (reply_to rows hits time (answered + 1 == most_requests) (request_of local_address m))
    ∙ ap (λ k. reply_to rows hits time (k + 1 == most_requests) (request_of local_address m)) e
    ∙ ap (λ past. reply_to rows past time (n + 1 == most_requests) (request_of local_address m)) (sym (append-nil hits))
texts-push rows hits answered n [] (x ∷ ms) time m is each = absurd (omega arith)
texts-push rows hits answered n (t ∷ times) [] time m is each = absurd (omega arith)
texts-push rows hits answered n (t ∷ times) (x ∷ ms) time m is each =
    let first = reply_to rows hits t (answered + 1 == most_requests) (request_of local_address x) in
    let own = counted rows t (request_of local_address x) in
    let later = texts rows (hits ++ own) (answered + 1) times ms in
    ap (λ t. first ++ t)
    (texts-push rows (hits ++ own) (answered + 1) n times ms time m (omega arith) (omega arith)
    ∙ ap (λ past. later ++ reply_to rows past time (n + 1 == most_requests) (request_of local_address m)) (append_assoc hits own (hits_of rows times ms)))
    ∙ sym (append_assoc first later (reply_to rows (hits ++ (own ++ hits_of rows times ms)) time (n + 1 == most_requests) (request_of local_address m)))

-- and its hits behind those before
pub hits-push : (rows : GatewayRows) (times : List ℕ) (ms : List Message) (time : ℕ) (m : Message) → length times ≡ length ms
    → hits_of rows (times ++ time ∷ []) (ms ++ m ∷ []) ≡ hits_of rows times ms ++ counted rows time (request_of local_address m)
hits-push rows [] [] time m each = append-nil (counted rows time (request_of local_address m))
hits-push rows [] (x ∷ ms) time m each = absurd (omega arith)
hits-push rows (t ∷ times) [] time m each = absurd (omega arith)
hits-push rows (t ∷ times) (x ∷ ms) time m each =
    let own = counted rows t (request_of local_address x) in
    ap (λ hits. own ++ hits) (hits-push rows times ms time m (omega arith))
    ∙ sym (append_assoc own (hits_of rows times ms) (counted rows time (request_of local_address m)))

-- what holds of each member holds of one more
pub each-push : {X : Type 0} (P : X → Type 0) (xs : List X) (x : X) → AllByRecursion P xs → P x → AllByRecursion P (xs ++ x ∷ [])
each-push P [] x all here = (here, tt)
each-push P (y ∷ ys) x all here = (all.0, each-push P ys x all.1 here)

-- no request was answered yet
pub none_answered : (rows : GatewayRows) (Read : List ℕ → Type 0) (Counts : List Hit → Type 0) (ahead_before ahead_now written : Option (List ℕ)) (at : ℕ)
    → Read [] → Counts [] → ahead_before ≡ ahead_now → at ≡ 0 → AnsweredOn rows Read Counts ahead_before ahead_now written written 0 at
none_answered rows Read Counts ahead_before ahead_now written at read counts same start = record {
  messages = [];
  counted = refl;
  at_is = start;
  on = tt;
  answered = record {
    times = [];
    one_each = refl;
    read = read;
    each = tt;
    whole = same ∙ sym (with_front-nil ahead_now);
    written = sym (with_end-nil written);
  };
  counts = counts;
}

-- one request more was read, in front of what is ahead now
pub moved_on : (a b c : Option (List ℕ)) (ms : List Message) (m : Message)
    → a ≡ with_front (flat_map print_message ms) b → b ≡ with_front (print_message m) c
    → a ≡ with_front (flat_map print_message (ms ++ m ∷ [])) c
moved_on a b c ms m whole next =
    whole
    ∙ ap (with_front (flat_map print_message ms)) next
    ∙ sym (with_front-append (flat_map print_message ms) (print_message m) c)
    ∙ ap (λ bytes. with_front bytes c)
    (ap (λ t. flat_map print_message ms ++ t) (sym (append-nil (print_message m)))
    ∙ sym (flat_map-append print_message ms (m ∷ [])))

-- what holds, holds of each result
pub on_ok : {T E P : Type 0} (result : Result T E) → P → OnOk result P
on_ok (Ok x) p = p
on_ok (Err e) p = tt

pub on_err : {T E P : Type 0} (result : Result T E) → P → OnErr result P
on_err (Ok x) p = tt
on_err (Err e) p = p

-- what was written of a text is a front of it
pub front_written : (before now : Option (List ℕ)) (bytes text : List ℕ) → bytes ≡ text
    → ((n : ℕ) × (n ≤ length bytes) × (now ≡ with_end before (take n bytes)))
    → (front : List ℕ) × IsFront front text × (now ≡ with_end before front)
front_written before now bytes text same (n, within, written) =
    (take n bytes, (drop n bytes, sym same ∙ sym (take-append-drop n bytes)), written)

-- ---- the next message

-- the request that the reader took is in front of what it holds then
taken_next : (before now : ReaderState) (left later : Option (List ℕ)) (request : Request) (t : Takes before now left later request)
    → with_front before.held left ≡ with_front (print_message t.message) (with_front now.held later)
taken_next before now left later request t = t.moved ∙ with_front-append (print_message t.message) now.held later

-- and it is the request that its message spells, from the local address
taken_means : (before now : ReaderState) (left later : Option (List ℕ)) (request : Request) (t : Takes before now left later request)
    → before.address ≡ local_address → request ≡ request_of local_address t.message
taken_means before now left later request t here = t.means ∙ ap (λ address. request_of address t.message) here

-- it got its reply, and the connection goes on, or ends where it asks for that
taken_replied : (rows : GatewayRows) (hits : List Hit) (Read : List ℕ → Type 0) (Counts : List Hit → Type 0) (answered : ℕ) (before now : ReaderState) (left later w0 w1 : Option (List ℕ))
    (request : Request) (end : Option End)
    → before.address ≡ local_address → Takes before now left later request
    → Replied rows hits (answered + 1 == most_requests) request Read Counts w0 w1 → end ≡ asked_end (asks_for_end request)
    → AnswersNext rows hits Read Counts answered before.at now.at (with_front before.held left) (with_front now.held later) w0 w1 end
taken_replied rows hits Read Counts answered before now left later w0 w1 request end here t reply is =
    by_asked (asks_for_end request) refl end is
  where
    means : request ≡ request_of local_address t.message
    means = taken_means before now left later request t here

    replied : (asked : Bool) → asks_for_end request ≡ asked
        → IsReplied rows hits Read Counts answered before.at now.at (with_front before.held left) (with_front now.held later) w0 w1 asked
    replied asked asking = record {
      message = t.message;
      time = reply.time;
      is = t.is;
      asking = ap asks_for_end (sym means) ∙ asking;
      read = reply.read;
      next = taken_next before now left later request t;
      at = t.at;
      written = reply.written ∙ ap (λ q. with_end w0 (reply_to rows hits reply.time (answered + 1 == most_requests) q)) means;
      counts = subst (λ q. Counts (hits ++ counted rows reply.time q)) means reply.counts;
    }

    by_asked : (asked : Bool) → asks_for_end request ≡ asked → (end : Option End) → end ≡ asked_end (asks_for_end request)
        → AnswersNext rows hits Read Counts answered before.at now.at (with_front before.held left) (with_front now.held later) w0 w1 end
    by_asked true asking end is =
        subst (AnswersNext rows hits Read Counts answered before.at now.at (with_front before.held left) (with_front now.held later) w0 w1)
        (sym (is ∙ ap asked_end asking)) (replied true asking)
    by_asked false asking end is =
        subst (AnswersNext rows hits Read Counts answered before.at now.at (with_front before.held left) (with_front now.held later) w0 w1)
        (sym (is ∙ ap asked_end asking)) (replied false asking)

-- what is observable ahead begins with the request that the reader took
taken_stands : (before now : ReaderState) (left later : Option (List ℕ)) (request : Request) (t : Takes before now left later request)
    → (rest : List ℕ) → with_front before.held left ≡ Some rest → (behind : List ℕ) × (rest ≡ print_message t.message ++ behind)
taken_stands before now left later request t rest seen =
    by_cases (with_front now.held later) (sym seen ∙ taken_next before now left later request t)
  where
    by_cases : (ahead : Option (List ℕ)) → Some rest ≡ with_front (print_message t.message) ahead
        → (behind : List ℕ) × (rest ≡ print_message t.message ++ behind)
    by_cases None e = absurd (cc)
    by_cases (Some behind) e = (behind, cc)

-- the reply to it was cut short
taken_stopped : (rows : GatewayRows) (hits : List Hit) (Read : List ℕ → Type 0) (answered : ℕ) (before now : ReaderState) (left later w0 w1 : Option (List ℕ))
    (request : Request)
    → before.address ≡ local_address → Takes before now left later request
    → RepliedFront rows hits (answered + 1 == most_requests) request Read w0 w1
    → StopsNext rows hits Read answered (with_front before.held left) w0 w1
taken_stopped rows hits Read answered before now left later w0 w1 request here t reply = record {
  times = reply.time ∷ [];
  read = reply.read;
  part = reply.front;
  stops = λ rest seen. inr (inl (reply.time, refl, begun rest (taken_stands before now left later request t rest seen)));
  written = reply.written;
}
  where
    begun : (rest : List ℕ) → (behind : List ℕ) × (rest ≡ print_message t.message ++ behind) → BeginsReply rows hits reply.time answered rest reply.front
    begun rest (behind, stands) = record {
      next = t.message;
      behind = behind;
      is = t.is;
      stands = stands;
      begins = subst (λ q. IsFront reply.front (reply_to rows hits reply.time (answered + 1 == most_requests) q)) (taken_means before now left later request t here) reply.begins;
    }

-- so it was answered, or its reply was cut short
pub taken_ok : {E : Type 0} (result : Result (Option End) E) (rows : GatewayRows) (hits : List Hit) (Read : List ℕ → Type 0) (Counts : List Hit → Type 0) (answered : ℕ) (before now : ReaderState)
    (left later w0 w1 : Option (List ℕ)) (request : Request)
    → before.address ≡ local_address → Takes before now left later request
    → OnOk result (Replied rows hits (answered + 1 == most_requests) request Read Counts w0 w1)
    → IfOk result (λ end. end ≡ asked_end (asks_for_end request))
    → IfOk result (AnswersNext rows hits Read Counts answered before.at now.at (with_front before.held left) (with_front now.held later) w0 w1)
taken_ok (Ok end) rows hits Read Counts answered before now left later w0 w1 request here t reply is =
    taken_replied rows hits Read Counts answered before now left later w0 w1 request end here t reply is
taken_ok (Err e) rows hits Read Counts answered before now left later w0 w1 request here t reply is = tt

pub taken_err : {E : Type 0} (result : Result (Option End) E) (rows : GatewayRows) (hits : List Hit) (Read : List ℕ → Type 0) (answered : ℕ) (before now : ReaderState)
    (left later w0 w1 : Option (List ℕ)) (request : Request)
    → before.address ≡ local_address → Takes before now left later request
    → OnErr result (RepliedFront rows hits (answered + 1 == most_requests) request Read w0 w1)
    → OnErr result (StopsNext rows hits Read answered (with_front before.held left) w0 w1)
taken_err (Ok end) rows hits Read answered before now left later w0 w1 request here t front = tt
taken_err (Err e) rows hits Read answered before now left later w0 w1 request here t front =
    taken_stopped rows hits Read answered before now left later w0 w1 request here t front

-- a front of the reply was written at that time
pub replied_front : (rows : GatewayRows) (hits : List Hit) (last : Bool) (request : Request) (Read : List ℕ → Type 0) (before now : Option (List ℕ)) (time : ℕ) → Read (time ∷ [])
    → ((front : List ℕ) × IsFront front (reply_to rows hits time last request) × (now ≡ with_end before front))
    → RepliedFront rows hits last request Read before now
replied_front rows hits last request Read before now time read (front, begins, written) = record { time = time; read = read; front = front; begins = begins; written = written }

-- or nothing of it
pub replied_nothing : (rows : GatewayRows) (hits : List Hit) (last : Bool) (request : Request) (Read : List ℕ → Type 0) (written : Option (List ℕ)) (time : ℕ) → Read (time ∷ [])
    → RepliedFront rows hits last request Read written written
replied_nothing rows hits last request Read written time read =
    record { time = time; read = read; front = []; begins = (reply_to rows hits time last request, refl); written = sym (with_end-nil written) }

-- nothing was written
pub nothing_stopped : (rows : GatewayRows) (hits : List Hit) (Read : List ℕ → Type 0) (answered : ℕ) (ahead written : Option (List ℕ)) → Read []
    → StopsNext rows hits Read answered ahead written written
nothing_stopped rows hits Read answered ahead written read = record {
  times = [];
  read = read;
  part = [];
  stops = λ rest seen. inl (refl, refl);
  written = sym (with_end-nil written);
}

-- the text that answers a refused message was cut short
bad_stopped : (rows : GatewayRows) (hits : List Hit) (Read : List ℕ → Type 0) (answered : ℕ) (ahead w0 w1 : Option (List ℕ)) (front : List ℕ) → Read []
    → ((rest : List ℕ) → ahead ≡ Some rest → IsBad rest) → IsFront front bad_request_text → w1 ≡ with_end w0 front
    → StopsNext rows hits Read answered ahead w0 w1
bad_stopped rows hits Read answered ahead w0 w1 front read bad begins written = record {
  times = [];
  read = read;
  part = front;
  stops = λ rest seen. inr (inr (refl, bad rest seen, begins));
  written = written;
}

-- the text that answers a refused message was written, or cut short
pub bad_ok : {E : Type 0} (result : Result (Option End) E) (rows : GatewayRows) (hits : List Hit) (Read : List ℕ → Type 0) (Counts : List Hit → Type 0) (answered at at_now place : ℕ)
    (ahead later w0 w1 : Option (List ℕ)) → Read [] → ((rest : List ℕ) → ahead ≡ Some rest → IsBad rest) → place ≡ at
    → IfOk result (λ end. (end ≡ Some (Bad place)) × (w1 ≡ with_end w0 bad_request_text))
    → IfOk result (AnswersNext rows hits Read Counts answered at at_now ahead later w0 w1)
bad_ok (Ok end) rows hits Read Counts answered at at_now place ahead later w0 w1 read bad here ok =
    subst (AnswersNext rows hits Read Counts answered at at_now ahead later w0 w1) (sym ok.0)
    (here, record { read = read; is = bad; written = ok.1 })
bad_ok (Err e) rows hits Read Counts answered at at_now place ahead later w0 w1 read bad here ok = tt

pub bad_err : {E : Type 0} (result : Result (Option End) E) (rows : GatewayRows) (hits : List Hit) (Read : List ℕ → Type 0) (answered : ℕ)
    (ahead w0 w1 : Option (List ℕ)) → Read [] → ((rest : List ℕ) → ahead ≡ Some rest → IsBad rest)
    → OnErr result ((front : List ℕ) × IsFront front bad_request_text × (w1 ≡ with_end w0 front))
    → OnErr result (StopsNext rows hits Read answered ahead w0 w1)
bad_err (Ok end) rows hits Read answered ahead w0 w1 read bad front = tt
bad_err (Err e) rows hits Read answered ahead w0 w1 read bad front =
    bad_stopped rows hits Read answered ahead w0 w1 front.0 read bad front.1 front.2

-- the source ended between two messages
pub closed_next : (Read : List ℕ → Type 0) (before now : ReaderState) (left later written : Option (List ℕ)) → Read []
    → IsNothing before now left later → EndsAt Read (λ rest. rest ≡ []) (with_front before.held left) written written Closed
closed_next Read before now left later written read nothing = record {
  read = read;
  is = λ rest seen. nothing.ended rest
      (nothing.left ∙ sym (with_front-nil left) ∙ ap (λ held. with_front held left) (sym nothing.none_held) ∙ seen);
  written = sym (with_end-nil written);
}

-- what is ahead stays the same while the reader reads
grown_ahead : (held now : List ℕ) (left later : Option (List ℕ)) → Grows held now left later → with_front held left ≡ with_front now later
grown_ahead held now left later grows =
    ap (with_front held) grows.moved
    ∙ sym (with_front-append held grows.piece later)
    ∙ ap (λ bytes. with_front bytes later) (sym grows.grown)

-- the bytes ahead are refused
pub refused_ahead : (at place : ℕ) (held now : List ℕ) (left later : Option (List ℕ))
    → Grows held now left later → Refuses at now later (BadMessage place) → (rest : List ℕ) → with_front held left ≡ Some rest → IsBad rest
refused_ahead at place held now left later grows bad rest ahead =
    by_cases later (sym ahead ∙ grown_ahead held now left later grows)
  where
    by_cases : (later : Option (List ℕ)) → Some rest ≡ with_front now later → IsBad rest
    by_cases None e = absurd (cc)
    by_cases (Some more) e =
        let same : rest ≡ now ++ more = cc in
        subst IsBad (sym same) (bad_stays now more bad.1)

-- the bytes ahead are cut short
pub cut_next : (Read : List ℕ → Type 0) (at have : ℕ) (held now : List ℕ) (left later written : Option (List ℕ)) → Read []
    → Grows held now left later → Refuses at now later (CutMessage have)
    → EndsAt Read (λ rest. IsCut rest × (have ≡ length rest)) (with_front held left) written written (Cut have)
cut_next Read at have held now left later written read grows cut = record {
  read = read;
  is = λ rest ahead. by_cases rest later cut.2 (sym ahead ∙ grown_ahead held now left later grows);
  written = sym (with_end-nil written);
}
  where
    by_cases : (rest : List ℕ) (later : Option (List ℕ)) → IsEnded later → Some rest ≡ with_front now later → IsCut rest × (have ≡ length rest)
    by_cases rest None ended e = absurd (cc)
    by_cases rest (Some more) ended e =
        let none : more ≡ [] = ended more refl in
        let same : rest ≡ now ++ more = cc in
        let held : rest ≡ now = same ∙ ap (λ t. now ++ t) none ∙ append-nil now in
        (subst IsCut (sym held) cut.1, cut.0 ∙ ap length (sym held))

-- ---- all messages

-- the readings of the clock before the next message and then for it are all its readings
abbrev ReadsOn : (List ℕ → Type 0) → (List ℕ → Type 0) → (List ℕ → Type 0) → Type 0
ReadsOn Before Once Now = (times more : List ℕ) → Before times → Once more → Now (times ++ more)

-- one request more was answered
answers_one_more : (rows : GatewayRows) (Before Once Now : List ℕ → Type 0) (Counts : List Hit → Type 0) (a b c w0 w1 w2 : Option (List ℕ)) (ms : List Message) (n at place : ℕ)
    (asked : Bool) → length ms ≡ n → ReadsOn Before Once Now
    → (before : Answered rows Before a b w0 w1 ms) → (is : IsReplied rows (hits_of rows before.times ms) Once Counts n at place b c w1 w2 asked)
    → Answered rows Now a c w0 w2 (ms ++ is.message ∷ [])
answers_one_more rows Before Once Now Counts a b c w0 w1 w2 ms n at place asked counted on before is = record {
  times = before.times ++ is.time ∷ [];
  one_each = simp length-append (let e = before.one_each in omega arith);
  read = on before.times (is.time ∷ []) before.read is.read;
  each = each-push IsRequest ms is.message before.each is.is;
  whole = moved_on a b c ms is.message before.whole is.next;
  written =
      is.written
      ∙ ap (λ w. with_end w (reply_to rows (hits_of rows before.times ms) is.time (n + 1 == most_requests) (request_of local_address is.message))) before.written
      ∙ sym (with_end-append w0 (texts rows [] 0 before.times ms) (reply_to rows (hits_of rows before.times ms) is.time (n + 1 == most_requests) (request_of local_address is.message)))
      ∙ ap (with_end w0) (sym (texts-push rows [] 0 n before.times ms is.time is.message (let e = counted in omega arith) before.one_each));
}

-- so many bytes more were read
place_more : (ms : List Message) (m : Message) (at place : ℕ) → at ≡ length (flat_map print_message ms) → place ≡ at + length (print_message m)
    → place ≡ length (flat_map print_message (ms ++ m ∷ []))
place_more ms m at place before now =
    let size = ap length (flat_map-append print_message ms (m ∷ []) ∙ ap (λ t. flat_map print_message ms ++ t) (append-nil (print_message m))) in
    omega (arith, length-append (flat_map print_message ms) (print_message m))

-- it was answered, and doesn't ask for the end
pub goes_on : (rows : GatewayRows) (Before Once Now : List ℕ → Type 0) (Counts More : List Hit → Type 0) (a b c w0 w1 w2 : Option (List ℕ)) (n at place : ℕ)
    → ReadsOn Before Once Now → (is : AnsweredOn rows Before Counts a b w0 w1 n at)
    → AnswersNext rows (hits_of rows is.answered.times is.messages) Once More n at place b c w1 w2 None
    → AnsweredOn rows Now More a c w0 w2 (n + 1) place
unfolding answers_one_more
goes_on rows Before Once Now Counts More a b c w0 w1 w2 n at place on is reply = record {
  messages = is.messages ++ reply.message ∷ [];
  counted = simp length-append (let e = is.counted in omega arith);
  at_is = place_more is.messages reply.message at place is.at_is reply.at;
  on = each-push (λ m. asks m ≡ false) is.messages reply.message is.on reply.asking;
  answered = answers_one_more rows Before Once Now More a b c w0 w1 w2 is.messages n at place false is.counted on is.answered reply;
  counts = subst More (sym (hits-push rows is.answered.times is.messages reply.time reply.message is.answered.one_each)) reply.counts;
}

-- the clock wasn't read again
answered_now : (rows : GatewayRows) (Before Once Now : List ℕ → Type 0) (a b w0 w1 : Option (List ℕ)) (ms : List Message)
    → ReadsOn Before Once Now → Once [] → Answered rows Before a b w0 w1 ms → Answered rows Now a b w0 w1 ms
answered_now rows Before Once Now a b w0 w1 ms on none is = record {
  times = is.times;
  one_each = is.one_each;
  read = subst Now (append-nil is.times) (on is.times [] is.read none);
  each = is.each;
  whole = is.whole;
  written = is.written;
}

-- no request was read, and the answering ends so
ends_at : (rows : GatewayRows) (Before Once Now : List ℕ → Type 0) (Counts : List Hit → Type 0) (Is : List ℕ → Type 0) (a b w0 w1 w2 : Option (List ℕ)) (n at : ℕ) (end : End)
    → (is : AnsweredOn rows Before Counts a b w0 w1 n at) → n < most_requests → ReadsOn Before Once Now → EndsAt Once Is b w1 w2 end
    → EndsAhead end is.messages b → AnswersAll rows Now a w0 w2 end
ends_at rows Before Once Now Counts Is a b w0 w1 w2 n at end is few on next ends = record {
  messages = is.messages;
  most = let e = is.counted in omega arith;
  ahead = b;
  replied = w1;
  answered = answered_now rows Before Once Now a b w0 w1 is.messages on next.read is.answered;
  ends = ends;
  last = next.written;
}

-- the answering ends with the next message
pub ends_next : (rows : GatewayRows) (Before Once Now : List ℕ → Type 0) (Counts More : List Hit → Type 0) (a b c w0 w1 w2 : Option (List ℕ)) (n at place : ℕ) (end : End)
    → ReadsOn Before Once Now → (is : AnsweredOn rows Before Counts a b w0 w1 n at) → n < most_requests
    → AnswersNext rows (hits_of rows is.answered.times is.messages) Once More n at place b c w1 w2 (Some end) → AnswersAll rows Now a w0 w2 end
ends_next rows Before Once Now Counts More a b c w0 w1 w2 n at place Closed on is few next =
    ends_at rows Before Once Now Counts (λ rest. rest ≡ []) a b w0 w1 w2 n at Closed is few on next
    (λ rest seen. (is.on, let e = is.counted in omega arith, next.is rest seen))
ends_next rows Before Once Now Counts More a b c w0 w1 w2 n at place Asked on is few next =
    record {
      messages = is.messages ++ next.message ∷ [];
      most = simp length-append (let e = is.counted in omega arith);
      ahead = c;
      replied = w2;
      answered = answers_one_more rows Before Once Now More a b c w0 w1 w2 is.messages n at place true is.counted on is.answered next;
      ends = λ rest seen. record {
        before = is.messages;
        last = next.message;
        joined = refl;
        on = is.on;
        asked = next.asking;
      };
      last = sym (with_end-nil w2);
    }
ends_next rows Before Once Now Counts More a b c w0 w1 w2 n at place Spent on is few next = absurd next
ends_next rows Before Once Now Counts More a b c w0 w1 w2 n at place (Bad spot) on is few next =
    ends_at rows Before Once Now Counts IsBad a b w0 w1 w2 n at (Bad spot) is few on next.1
    (λ rest seen. (is.on, let e = is.counted in omega arith, next.1.is rest seen, next.0 ∙ is.at_is))
ends_next rows Before Once Now Counts More a b c w0 w1 w2 n at place (Cut have) on is few next =
    ends_at rows Before Once Now Counts (λ rest. IsCut rest × (have ≡ length rest)) a b w0 w1 w2 n at (Cut have) is few on next
    (λ rest seen. (is.on, let e = is.counted in omega arith, (next.is rest seen).0, (next.is rest seen).1))

-- as many were answered as may be
pub ends_spent : (rows : GatewayRows) (Read : List ℕ → Type 0) (Counts : List Hit → Type 0) (a b w0 w1 : Option (List ℕ)) (n at : ℕ)
    → AnsweredOn rows Read Counts a b w0 w1 n at → n ≡ most_requests → AnswersAll rows Read a w0 w1 Spent
ends_spent rows Read Counts a b w0 w1 n at is all = record {
  messages = is.messages;
  most = let e = is.counted in omega arith;
  ahead = b;
  replied = w1;
  answered = is.answered;
  ends = λ rest seen. (is.on, is.counted ∙ all);
  last = sym (with_end-nil w1);
}

-- the answering is cut short at the next message
pub stops_next : (rows : GatewayRows) (Before Once Now : List ℕ → Type 0) (Counts : List Hit → Type 0) (a b w0 w1 w2 : Option (List ℕ)) (n at : ℕ)
    → ReadsOn Before Once Now → (is : AnsweredOn rows Before Counts a b w0 w1 n at) → n < most_requests
    → StopsNext rows (hits_of rows is.answered.times is.messages) Once n b w1 w2
    → AnswersFront rows Now a w0 w2
stops_next rows Before Once Now Counts a b w0 w1 w2 n at on is few next = record {
  messages = is.messages;
  few = let e = is.counted in omega arith;
  on = is.on;
  earlier = is.answered.times;
  since = next.times;
  one_each = is.answered.one_each;
  read = on is.answered.times next.times is.answered.read next.read;
  each = is.answered.each;
  ahead = b;
  whole = is.answered.whole;
  part = next.part;
  stops = λ rest seen. subst (λ k. StopsIn rows (hits_of rows is.answered.times is.messages) k next.times rest next.part) (sym is.counted) (next.stops rest seen);
  written =
      next.written
      ∙ ap (λ w. with_end w next.part) is.answered.written
      ∙ sym (with_end-append w0 (texts rows [] 0 is.answered.times is.messages) next.part);
}

-- the answering is cut short before the first request
pub stopped_at_once : (rows : GatewayRows) (Read : List ℕ → Type 0) (ahead written : Option (List ℕ)) → Read []
    → AnswersFront rows Read ahead written written
stopped_at_once rows Read ahead written read = record {
  messages = [];
  few = omega arith;
  on = tt;
  earlier = [];
  since = [];
  one_each = refl;
  read = read;
  each = tt;
  ahead = ahead;
  whole = sym (with_front-nil ahead);
  part = [];
  stops = λ rest seen. inl (refl, refl);
  written = sym (with_end-nil written);
}
