-- The text of a dry run: it is determined by what was read, and a run that was cut short wrote a front of it.
use Rattle.std.proofs.Common.{◌≡◌, ℕ, ◌+◌, ◌≤◌, ◌<◌, ◌==◌, ◌⊎◌, inl, inr, List, [], ◌∷◌, ◌++◌, Option, Some, None, Result, Ok, Err, IfOk, IfErr, length, refl, sym, ap, ◌∙◌, subst, arith}
use Rattle.std.proofs.lemmas.List.{append_assoc, append-nil, length-append}
use Rattle.std.proofs.lemmas.Grind.{flat_map-append}
use Rattle.std.specs.List.{flat_map}
use Rattle.kg_outside.specs.Moves.{with_front, with_end}
use Rattle.kg_outside.proofs.Observed.{with_end-append, with_end-nil}
use Rattle.kg_wire.specs.Messages.{Message, IsReading, IsRequest, print_message, request_of}
use Rattle.kg_wire.proofs.MessageLemmas.{reading_front}
use Rattle.kg_declare.specs.Outcome.{Accepted, Refused as RefusedLine}
use Rattle.kg_declare.specs.Steps.{accepted_after}
use Rattle.kg_row_values.specs.Rows.{rows_after}
use Rattle.kg_row_values.specs.declared.command.Command.{Command}
use Rattle.kg_plain.specs.Answered.{AnswersAll, AnswersFront}
use Rattle.kg_limit.specs.declared.hit.Hit.{Hit}
use Rattle.kg_plain.specs.DryReply.{GatewayRows, counted, reply_to}
use Rattle.kg_plain.specs.Fronts.{IsFront}
use Rattle.kg_plain.specs.Replies.{EndsSo, GoOn, StopsIn, hits_of, last_text, local_address, most_requests, texts}
use Rattle.kg_plain.specs.declared.answers.End.{End}
use Rattle.kg_plain.specs.declared.answers.End.TheVariants.{Closed, Asked, Spent, Bad, Cut}
use Rattle.kg_plain.proofs.AnsweredLemmas.{each-push, texts-push}
use Rattle.kg_plain.proofs.EndLemmas.{OnlyLastMayAsk, all_on, front_of_whole, is_last, one_end, same_whole}
use Rattle.kg_lone.specs.DryRun.{IsCutShort, IsWhole}
use Rattle.kg_lone.specs.DryText.{IsCutText, IsDryText, IsEndOf, StopsAtFirst, StopsBehind, WritesFront, WritesText, exit_of, most_rows, rows_of, status_of}
use Rattle.kg_lone.specs.FirstCommands.{AnswersFirst, BeginsRefusal, Decides, DrawsWithin, FirstLineCall, IsFirstStatus, StopsFirst, WritesRefusal, first_outcome, refusal_line}
use Rattle.kg_lone.specs.FirstLine.{line_of, after_line}
use Rattle.kg_lone.specs.InsertedRows.{gateway_rows}
use Rattle.kg_lone.proofs.CommandLemmas.{within_decided}

-- one outcome isn't two
one_outcome : {P Q : Type 0} {x : Result P Q} {p q : P} → x ≡ Ok p → x ≡ Ok q → p ≡ q
one_outcome a b = cc

one_refusal : {P Q : Type 0} {x : Result P Q} {p q : Q} → x ≡ Err p → x ≡ Err q → p ≡ q
one_refusal a b = cc

not_both : {P Q : Type 0} {x : Result P Q} {p : P} {q : Q} → x ≡ Ok p → x ≡ Err q → ⊥
not_both a b = absurd (cc)

-- what a line becomes at one time
at_time : (line : List ℕ) (now time : ℕ) (drawn : List (List ℕ)) (answer : Result Accepted RefusedLine) → now ≡ time
    → first_outcome line now most_rows drawn ≡ answer → first_outcome line time most_rows drawn ≡ answer
at_time line now time drawn answer same is = subst (λ n. first_outcome line n most_rows drawn ≡ answer) same is

-- the replies to some requests and then to others
texts-append : (rows : GatewayRows) (hits : List Hit) (answered : ℕ) (times later : List ℕ) (ms zs : List Message) → length times ≡ length ms
    → texts rows hits answered (times ++ later) (ms ++ zs)
    ≡ texts rows hits answered times ms ++ texts rows (hits ++ hits_of rows times ms) (answered + length ms) later zs
texts-append rows hits answered [] later [] zs each =
    ap (λ past. texts rows past answered later zs) (sym (append-nil hits))
    ∙ ap (λ n. texts rows (hits ++ []) n later zs) (let e : answered ≡ answered + 0 = omega arith in e)
texts-append rows hits answered [] later (m ∷ ms) zs each = absurd (omega arith)
texts-append rows hits answered (time ∷ times) later [] zs each = absurd (omega arith)
texts-append rows hits answered (time ∷ times) later (m ∷ ms) zs each =
    let first = reply_to rows hits time (answered + 1 == most_requests) (request_of local_address m) in
    let own = counted rows time (request_of local_address m) in
    let past = hits_of rows times ms in
    let front = texts rows (hits ++ own) (answered + 1) times ms in
    ap (λ t. first ++ t)
    (texts-append rows (hits ++ own) (answered + 1) times later ms zs (omega arith)
    ∙ ap (λ all. front ++ texts rows all (answered + 1 + length ms) later zs) (append_assoc hits own past)
    ∙ ap (λ n. front ++ texts rows (hits ++ (own ++ past)) n later zs) (let e : answered + 1 + length ms ≡ answered + length (m ∷ ms) = omega arith in e))
    ∙ sym (append_assoc first front (texts rows (hits ++ (own ++ past)) (answered + length (m ∷ ms)) later zs))

-- the replies to the requests at the front are the front of the replies
texts_front : (rows : GatewayRows) (times later all : List ℕ) (ms ns : List Message) → length times ≡ length ms → all ≡ times ++ later
    → (zs : List Message) × (ns ≡ ms ++ zs) → IsFront (texts rows [] 0 times ms) (texts rows [] 0 all ns)
texts_front rows times later all ms ns each same (zs, is) = (
  texts rows (hits_of rows times ms) (0 + length ms) later zs,
  ap (texts rows [] 0 all) is ∙ ap (λ ts. texts rows [] 0 ts (ms ++ zs)) same ∙ texts-append rows [] 0 times later ms zs each,
)

-- a front of a front is one
front_front : (a b c : List ℕ) → IsFront a b → IsFront b c → IsFront a c
front_front a b c (x, f) (y, h) = (x ++ y, h ∙ ap (λ t. t ++ y) f ∙ append_assoc a x y)

-- what was read in front of something that is observable is observable
seen_ahead : (bytes front : List ℕ) (left ahead : Option (List ℕ)) → left ≡ Some bytes → left ≡ with_front front ahead
    → (rest : List ℕ) × (ahead ≡ Some rest) × (bytes ≡ front ++ rest)
seen_ahead bytes front left None told is = absurd (cc)
seen_ahead bytes front left (Some rest) told is = (rest, refl, cc)

-- one time, and then others
first_time : (a b : ℕ) (xs ys : List ℕ) → ◌≡◌ {A = List ℕ} (a ∷ xs) (b ∷ ys) → (a ≡ b) × (xs ≡ ys)
first_time a b xs ys e = (cc, cc)

-- a front of a part of a text is one of the text
front_within : (a b c end : List ℕ) → IsFront a b → IsFront b c → IsFront a (c ++ end)
front_within a b c end front within = front_front a b (c ++ end) front (within.0 ++ end, ap (λ t. t ++ end) within.1 ∙ append_assoc b within.0 end)

-- nothing was written for the first line
first_nothing : (Drew : List (List ℕ) → Type 0) (Read : List ℕ → Type 0) (call : FirstLineCall)
    → Drew call.drawn → Read (call.now ∷ []) → DrawsWithin (first_outcome (line_of call.bytes) call.now most_rows) call.drawn
    → call.written ≡ call.before → WritesFront Drew Read call.bytes call.before call.written
first_nothing Drew Read call drew read draws same = record {
  drawn = call.drawn;
  times = call.now ∷ [];
  front = [];
  drew = drew;
  read = read;
  meant = inl (record { now = call.now; clock = refl; draws = draws; written = inl refl });
  written = same ∙ sym (with_end-nil call.before);
}

-- ---- a run that was cut short

-- in the first line
pub first_front : (Drew : List (List ℕ) → Type 0) (Read : List ℕ → Type 0) (call : FirstLineCall) (status : ℕ)
    → call.limit ≡ most_rows → Drew call.drawn → Read (call.now ∷ [])
    → StopsFirst call status → WritesFront Drew Read call.bytes call.before call.written
first_front Drew Read call status most drew read (inl (four, none, same)) =
    first_nothing Drew Read call drew read (λ more. let len = ap length none in omega arith) same
first_front Drew Read call status most drew read (inr (inl (six, draws, same))) =
    first_nothing Drew Read call drew read
    (subst (λ limit. DrawsWithin (first_outcome (line_of call.bytes) call.now limit) call.drawn) most draws) same
first_front Drew Read call status most drew read (inr (inr (five, is))) = record {
  drawn = call.drawn;
  times = call.now ∷ [];
  front = is.front;
  drew = drew;
  read = read;
  meant = inl (record {
    now = call.now;
    clock = refl;
    draws =
        subst (λ limit. DrawsWithin (first_outcome (line_of call.bytes) call.now limit) call.drawn) most
        (within_decided (first_outcome (line_of call.bytes) call.now call.limit) call.drawn _ refl is.begins.refused);
    written = inr (subst (λ limit. BeginsRefusal (line_of call.bytes) call.now limit call.drawn is.front) most is.begins);
  });
  written = is.written;
}

-- what was written of the replies
pub replies_front : (Drew : List (List ℕ) → Type 0) (Read Later : List ℕ → Type 0) (bytes : List ℕ) (left before written : Option (List ℕ))
    (now : ℕ) (drawn : List (List ℕ)) (accepted : Accepted)
    → Decides (line_of bytes) now most_rows drawn (Ok accepted) → accepted.drawn ≡ length drawn → left ≡ Some (after_line bytes) → Drew drawn
    → ((times : List ℕ) → Later times → Read (now ∷ times))
    → AnswersFront (rows_of accepted) Later left before written → WritesFront Drew Read bytes before written
replies_front Drew Read Later bytes left before written now drawn accepted declared all told drew on is =
    let ahead = seen_ahead (after_line bytes) (flat_map print_message is.messages) left is.ahead told is.whole in
    record {
      drawn = drawn;
      times = now ∷ is.earlier ++ is.since;
      front = texts (rows_of accepted) [] 0 is.earlier is.messages ++ is.part;
      drew = drew;
      read = on (is.earlier ++ is.since) is.read;
      meant = inr (record {
        now = now;
        earlier = is.earlier;
        since = is.since;
        clock = refl;
        accepted = accepted;
        declared = declared;
        all = all;
        messages = is.messages;
        rest = ahead.0;
        reading = record { whole = ahead.2; each = is.each };
        on = is.on;
        few = is.few;
        one_each = is.one_each;
        part = is.part;
        stops = is.stops ahead.0 ahead.1;
        written = refl;
      });
      written = is.written;
    }

-- ---- a whole run

-- the refusal was written
pub refusal_written : (Drew : List (List ℕ) → Type 0) (Read : List ℕ → Type 0) (call : FirstLineCall)
    → call.limit ≡ most_rows → Drew call.drawn → Read (call.now ∷ [])
    → WritesRefusal call → WritesText Drew Read call.bytes call.before call.written 3
refusal_written Drew Read call most drew read is = record {
  drawn = call.drawn;
  times = call.now ∷ [];
  text = refusal_line is.response;
  drew = drew;
  read = read;
  meant = inr (record {
    now = call.now;
    clock = refl;
    refused = record { response = is.response; drawn = length call.drawn };
    declared =
        ap (λ limit. first_outcome (line_of call.bytes) call.now limit call.drawn) (sym most)
        ∙ ap (first_outcome (line_of call.bytes) call.now call.limit) (sym (append-nil call.drawn))
        ∙ is.refused [];
    all = refl;
    written = refl;
    ending = refl;
  });
  written = is.written;
}

-- the replies were written
pub replies_written : (Drew : List (List ℕ) → Type 0) (Read Later : List ℕ → Type 0) (bytes : List ℕ) (left before written : Option (List ℕ))
    (now : ℕ) (drawn : List (List ℕ)) (accepted : Accepted) (end : End)
    → Decides (line_of bytes) now most_rows drawn (Ok accepted) → accepted.drawn ≡ length drawn
    → left ≡ Some (after_line bytes) → Drew drawn
    → ((times : List ℕ) → Later times → Read (now ∷ times))
    → AnswersAll (rows_of accepted) Later left before written end → WritesText Drew Read bytes before written (status_of end)
replies_written Drew Read Later bytes left before written now drawn accepted end declared all told drew on is =
    let done = is.answered in
    let ahead = seen_ahead (after_line bytes) (flat_map print_message is.messages) left is.ahead told done.whole in
    let replies = texts (rows_of accepted) [] 0 done.times is.messages in
    record {
      drawn = drawn;
      times = now ∷ done.times;
      text = replies ++ last_text end;
      drew = drew;
      read = on done.times done.read;
      meant = inl (record {
        now = now;
        later = done.times;
        clock = refl;
        accepted = accepted;
        declared = ap (first_outcome (line_of bytes) now most_rows) (sym (append-nil drawn)) ∙ declared [];
        all = all;
        messages = is.messages;
        rest = ahead.0;
        reading = record { whole = ahead.2; each = done.each };
        most = is.most;
        end = end;
        ends = is.ends ahead.0 ahead.1;
        one_each = done.one_each;
        written = refl;
        ending = refl;
      });
      written = is.last ∙ ap (λ w. with_end w (last_text end)) done.written ∙ sym (with_end-append before replies (last_text end));
    }

-- the end that it came to
pub end_of : (Later : List ℕ → Type 0) (bytes : List ℕ) (left before written : Option (List ℕ)) (rows : GatewayRows) (end : End)
    → left ≡ Some bytes → AnswersAll rows Later left before written end → IsEndOf bytes end
end_of Later bytes left before written rows end told is =
    let ahead = seen_ahead bytes (flat_map print_message is.messages) left is.ahead told is.answered.whole in
    record {
      messages = is.messages;
      rest = ahead.0;
      reading = record { whole = ahead.2; each = is.answered.each };
      ends = is.ends ahead.0 ahead.1;
    }

-- ---- one text

-- of the statuses and texts of two runs
pub record AreAlike (status : ℕ) (text : List ℕ) (code : ℕ) (other : List ℕ) : Type 0 where
  pub statuses : status ≡ code
  pub texts : text ≡ other

-- the texts behind some replies at one end
same_ends : (replies : List ℕ) (end last : End) (status code : ℕ) (text other : List ℕ) → status ≡ status_of end → code ≡ status_of last
    → text ≡ replies ++ last_text end → other ≡ replies ++ last_text last → end ≡ last → AreAlike status text code other
same_ends replies end last status code text other is also mine yours same = record {
  statuses = is ∙ ap status_of same ∙ sym also;
  texts = mine ∙ ap (λ e. replies ++ last_text e) same ∙ sym yours;
}

-- the statuses and the texts are one
pub alike : (bytes : List ℕ) (drawn : List (List ℕ)) (times : List ℕ) (status : ℕ) (text : List ℕ) (code : ℕ) (other : List ℕ)
    → IsDryText bytes drawn times status text → IsDryText bytes drawn times code other → AreAlike status text code other
alike bytes drawn times status text code other (inl a) (inr r) =
    absurd (not_both (at_time (line_of bytes) a.now r.now drawn (Ok a.accepted)
    (first_time a.now r.now a.later [] (sym a.clock ∙ r.clock)).0 a.declared) r.declared)
alike bytes drawn times status text code other (inr r) (inl a) =
    absurd (not_both a.declared (at_time (line_of bytes) r.now a.now drawn (Err r.refused)
    (first_time r.now a.now [] a.later (sym r.clock ∙ a.clock)).0 r.declared))
alike bytes drawn times status text code other (inr r) (inr s) =
    let time = first_time r.now s.now [] [] (sym r.clock ∙ s.clock) in
    let same : r.refused ≡ s.refused = one_refusal (at_time (line_of bytes) r.now s.now drawn (Err r.refused) time.0 r.declared) s.declared in
    record {
      statuses = r.ending ∙ sym s.ending;
      texts = r.written ∙ ap (λ (e : RefusedLine). refusal_line e.response) same ∙ sym s.written;
    }
alike bytes drawn times status text code other (inl a) (inl b) =
    let time = first_time a.now b.now a.later b.later (sym a.clock ∙ b.clock) in
    let rows : a.accepted ≡ b.accepted = one_outcome (at_time (line_of bytes) a.now b.now drawn (Ok a.accepted) time.0 a.declared) b.declared in
    let same = same_whole (after_line bytes) a.messages b.messages a.rest b.rest a.end b.end a.reading b.reading a.most b.most a.ends b.ends in
    let ends = subst (EndsSo b.end a.messages) (sym same.1) (subst (λ ms. EndsSo b.end ms b.rest) (sym same.0) b.ends) in
    same_ends (texts (rows_of a.accepted) [] 0 a.later a.messages) a.end b.end status code text other a.ending b.ending a.written
    (b.written
    ∙ ap (λ (p : Accepted). texts (rows_of p) [] 0 b.later b.messages ++ last_text b.end) (sym rows)
    ∙ ap (λ ms. texts (rows_of a.accepted) [] 0 b.later ms ++ last_text b.end) (sym same.0)
    ∙ ap (λ ts. texts (rows_of a.accepted) [] 0 ts a.messages ++ last_text b.end) (sym time.1))
    (one_end a.end b.end a.messages a.rest a.ends ends)

-- ---- a run that was cut short, and one that goes on

-- nothing is a front
nothing_front : (front text : List ℕ) → front ≡ [] → IsFront front text
nothing_front front text none = (text, ap (λ f. f ++ text) (sym none))

-- in the first line
first_goes_on : (bytes : List ℕ) (drawn more : List (List ℕ)) (times later : List ℕ) (status : ℕ) (front text : List ℕ)
    → StopsAtFirst bytes drawn times front → IsDryText bytes (drawn ++ more) (times ++ later) status text → IsFront front text
first_goes_on bytes drawn more times later status front text s meant = by_cases s.written meant
  where
    by_cases : (front ≡ []) ⊎ BeginsRefusal (line_of bytes) s.now most_rows drawn front
        → IsDryText bytes (drawn ++ more) (times ++ later) status text → IsFront front text
    by_cases (inl none) meant = nothing_front front text none
    by_cases (inr is) (inl a) =
        let time = first_time s.now a.now later a.later (sym (ap (λ ts. ts ++ later) s.clock) ∙ a.clock) in
        absurd (not_both a.declared (at_time (line_of bytes) s.now a.now (drawn ++ more) (Err (record { response = is.response; drawn = length drawn })) time.0 (is.refused more)))
    by_cases (inr is) (inr r) =
        let time = first_time s.now r.now later [] (sym (ap (λ ts. ts ++ later) s.clock) ∙ r.clock) in
        let same : r.refused ≡ record { response = is.response; drawn = length drawn } =
        one_refusal r.declared (at_time (line_of bytes) s.now r.now (drawn ++ more) (Err (record { response = is.response; drawn = length drawn })) time.0 (is.refused more)) in
        (is.begins.0, r.written ∙ ap (λ (e : RefusedLine). refusal_line e.response) same ∙ is.begins.1)

-- one request more is read
one_more : (bytes : List ℕ) (ms : List Message) (m : Message) (rest behind : List ℕ) → IsReading bytes ms rest → IsRequest m
    → rest ≡ print_message m ++ behind → IsReading bytes (ms ++ m ∷ []) behind
one_more bytes ms m rest behind reading is stands = record {
  whole =
      reading.whole
      ∙ ap (λ r. flat_map print_message ms ++ r) stands
      ∙ sym (append_assoc (flat_map print_message ms) (print_message m) behind)
      ∙ ap (λ t. t ++ behind)
      (ap (λ t. flat_map print_message ms ++ t) (sym (append-nil (print_message m)))
      ∙ sym (flat_map-append print_message ms (m ∷ [])));
  each = each-push IsRequest ms m reading.each is;
}

-- behind some replies, in a text at the front of what the other run writes
front_behind : (mine yours part front text end : List ℕ) → front ≡ mine ++ part → text ≡ yours ++ end
    → IsFront (mine ++ part) (yours ++ end) → IsFront front text
front_behind mine yours part front text end wrote writes (rest, is) = (rest, writes ∙ is ∙ ap (λ t. t ++ rest) (sym wrote))

-- no readings but these
no_more : (times later : List ℕ) (n : ℕ) → length (times ++ later) ≡ n → length times ≡ n → times ++ later ≡ times
no_more times [] n all some = append-nil times
no_more times (t ∷ later) n all some = absurd (omega (arith, length-append times (t ∷ later)))

-- in the replies
replies_go_on : (bytes : List ℕ) (rows : GatewayRows) (ms ns : List Message) (rest left part front text : List ℕ) (end : End) (earlier since more times : List ℕ)
    → IsReading bytes ms rest → GoOn ms → length ms < most_requests → length earlier ≡ length ms → StopsIn rows (hits_of rows earlier ms) (length ms) since rest part
    → IsReading bytes ns left → length ns ≤ most_requests → EndsSo end ns left → length times ≡ length ns → times ≡ (earlier ++ since) ++ more
    → front ≡ texts rows [] 0 earlier ms ++ part → text ≡ texts rows [] 0 times ns ++ last_text end → IsFront front text
replies_go_on bytes rows ms ns rest left part front text end earlier since more times mine on few one_each (inl (once, none)) yours most ends also same wrote writes =
    let all = front_of_whole bytes ms ns rest left mine yours (omega arith) (all_on ms on) (is_last end ns left ends) in
    let before = reading_front bytes ms ns rest left mine yours all in
    let read : times ≡ earlier ++ more = same ∙ ap (λ ts. (earlier ++ ts) ++ more) once ∙ ap (λ ts. ts ++ more) (append-nil earlier) in
    let replies = texts_front rows earlier more times ms ns one_each read (before.0, before.1) in
    let whole = texts rows [] 0 earlier ms in
    front_behind whole (texts rows [] 0 times ns) part front text (last_text end) wrote writes
    (front_within (whole ++ part) whole (texts rows [] 0 times ns) (last_text end)
    ([], sym (append-nil whole) ∙ ap (λ t. whole ++ t) (sym none) ∙ sym (append-nil (whole ++ part))) replies)
replies_go_on bytes rows ms ns rest left part front text end earlier since more times mine on few one_each (inr (inl (time, once, is))) yours most ends also same wrote writes =
    let longer = one_more bytes ms is.next rest is.behind mine is.is is.stands in
    let len : length (ms ++ is.next ∷ []) ≤ most_requests = simp length-append (omega arith) in
    let only : OnlyLastMayAsk (ms ++ is.next ∷ []) = record { before = ms; last = is.next ∷ []; joined = refl; on = on; one = omega arith } in
    let all = front_of_whole bytes (ms ++ is.next ∷ []) ns is.behind left longer yours len only (is_last end ns left ends) in
    let before = reading_front bytes (ms ++ is.next ∷ []) ns is.behind left longer yours all in
    let read : times ≡ (earlier ++ time ∷ []) ++ more = same ∙ ap (λ ts. (earlier ++ ts) ++ more) once in
    let each : length (earlier ++ time ∷ []) ≡ length (ms ++ is.next ∷ []) = simp length-append (omega arith) in
    let replies = texts_front rows (earlier ++ time ∷ []) more times (ms ++ is.next ∷ []) ns each read (before.0, before.1) in
    let whole = texts rows [] 0 earlier ms in
    front_behind whole (texts rows [] 0 times ns) part front text (last_text end) wrote writes
    (front_within (whole ++ part) (texts rows [] 0 (earlier ++ time ∷ []) (ms ++ is.next ∷ [])) (texts rows [] 0 times ns) (last_text end) (
      is.begins.0,
      texts-push rows [] 0 (length ms) earlier ms time is.next (omega arith) one_each
          ∙ ap (λ t. whole ++ t) is.begins.1
          ∙ sym (append_assoc whole part is.begins.0),
    ) replies)
replies_go_on bytes rows ms ns rest left part front text end earlier since more times mine on few one_each (inr (inr (once, bad, begins))) yours most ends also same wrote writes =
    let refused : End = Bad (length (flat_map print_message ms)) in
    let here : EndsSo refused ms rest = (on, few, bad, refl) in
    let one = same_whole bytes ms ns rest left refused end mine yours (omega arith) most here ends in
    let there = subst (EndsSo end ms) (sym one.1) (subst (λ xs. EndsSo end xs left) (sym one.0) ends) in
    let closes : end ≡ refused = one_end end refused ms rest there here in
    let read : times ≡ earlier ++ more = same ∙ ap (λ ts. (earlier ++ ts) ++ more) once ∙ ap (λ ts. ts ++ more) (append-nil earlier) in
    let count : length (earlier ++ more) ≡ length ms = ap length (sym read) ∙ also ∙ ap length (sym one.0) in
    let these : times ≡ earlier = read ∙ no_more earlier more (length ms) count one_each in
    let whole = texts rows [] 0 earlier ms in
    front_behind whole (texts rows [] 0 times ns) part front text (last_text end) wrote writes (
      begins.0,
      ap (λ xs. texts rows [] 0 times xs ++ last_text end) (sym one.0)
          ∙ ap (λ ts. texts rows [] 0 ts ms ++ last_text end) these
          ∙ ap (λ e. whole ++ last_text e) closes
          ∙ ap (λ t. whole ++ t) begins.1
          ∙ sym (append_assoc whole part begins.0),
    )

-- behind the first line
behind_goes_on : (bytes : List ℕ) (drawn more : List (List ℕ)) (times later : List ℕ) (status : ℕ) (front text : List ℕ)
    → StopsBehind bytes drawn times front → IsDryText bytes (drawn ++ more) (times ++ later) status text → IsFront front text
behind_goes_on bytes drawn more times later status front text s (inr r) =
    let time = first_time s.now r.now ((s.earlier ++ s.since) ++ later) [] (sym (ap (λ ts. ts ++ later) s.clock) ∙ r.clock) in
    absurd (not_both (at_time (line_of bytes) s.now r.now (drawn ++ more) (Ok s.accepted) time.0 (s.declared more)) r.declared)
behind_goes_on bytes drawn more times later status front text s (inl a) =
    let time = first_time s.now a.now ((s.earlier ++ s.since) ++ later) a.later (sym (ap (λ ts. ts ++ later) s.clock) ∙ a.clock) in
    let same : s.accepted ≡ a.accepted =
    one_outcome (at_time (line_of bytes) s.now a.now (drawn ++ more) (Ok s.accepted) time.0 (s.declared more)) a.declared in
    replies_go_on (after_line bytes) (rows_of s.accepted) s.messages a.messages s.rest a.rest s.part front text a.end s.earlier s.since later a.later
    s.reading s.on s.few s.one_each s.stops a.reading a.most a.ends a.one_each (sym time.1) s.written
    (a.written ∙ ap (λ (p : Accepted). texts (rows_of p) [] 0 a.later a.messages ++ last_text a.end) (sym same))

-- what it wrote is a front of what the other writes
pub goes_on : (bytes : List ℕ) (drawn more : List (List ℕ)) (times later : List ℕ) (status : ℕ) (front text : List ℕ)
    → IsCutText bytes drawn times front → IsDryText bytes (drawn ++ more) (times ++ later) status text → IsFront front text
goes_on bytes drawn more times later status front text (inl s) meant = first_goes_on bytes drawn more times later status front text s meant
goes_on bytes drawn more times later status front text (inr s) meant = behind_goes_on bytes drawn more times later status front text s meant

-- ---- statuses

-- a run that came to an end wrote all, and one that stopped didn't
end_status : (end : End) → IsWhole (status_of end)
end_status Closed = inl refl
end_status Asked = inl refl
end_status Spent = inl refl
end_status (Bad at) = inr (inr refl)
end_status (Cut have) = inr (inr refl)

not_both_ways : (status : ℕ) → IsWhole status → IsCutShort status → ⊥
not_both_ways status (inl zero) (inl four) = omega arith
not_both_ways status (inl zero) (inr (inl five)) = omega arith
not_both_ways status (inl zero) (inr (inr six)) = omega arith
not_both_ways status (inr (inl three)) (inl four) = omega arith
not_both_ways status (inr (inl three)) (inr (inl five)) = omega arith
not_both_ways status (inr (inl three)) (inr (inr six)) = omega arith
not_both_ways status (inr (inr seven)) (inl four) = omega arith
not_both_ways status (inr (inr seven)) (inr (inl five)) = omega arith
not_both_ways status (inr (inr seven)) (inr (inr six)) = omega arith

pub answered_status : (F : Type 0) (result : Result End ℕ) → IfErr result (λ status. IsCutShort status × F)
    → IsWhole (exit_of result) ⊎ IsCutShort (exit_of result)
answered_status F (Ok end) err = inl (end_status end)
answered_status F (Err status) err = inr err.0

-- what holds of each end holds of a run that wasn't cut short
pub answered_whole : (F : Type 0) (W : ℕ → Type 0) (result : Result End ℕ) → IfErr result (λ status. IsCutShort status × F)
    → IfOk result (λ end. W (status_of end)) → IsWhole (exit_of result) → W (exit_of result)
answered_whole F W (Ok end) err ok whole = ok
answered_whole F W (Err status) err ok whole = absurd (not_both_ways status whole err.0)

-- and what holds of each stop of one that was
pub answered_short : (F : Type 0) (result : Result End ℕ) → IfErr result (λ status. IsCutShort status × F) → IsCutShort (exit_of result) → F
answered_short F (Ok end) err short = absurd (not_both_ways (status_of end) (end_status end) short)
answered_short F (Err status) err short = err.1

pub first_status : (status : ℕ) → IsFirstStatus status → IsWhole status ⊎ IsCutShort status
first_status status (inl three) = inl (inr (inl three))
first_status status (inr short) = inr short

-- a first line that gave no commands, and whose run wasn't cut short, is refused
pub is_three : (status : ℕ) → IsFirstStatus status → IsWhole status → status ≡ 3
is_three status first (inr (inl three)) = three
is_three status (inl three) (inl zero) = three
is_three status (inr (inl four)) (inl zero) = absurd (omega arith)
is_three status (inr (inr (inl five))) (inl zero) = absurd (omega arith)
is_three status (inr (inr (inr six))) (inl zero) = absurd (omega arith)
is_three status (inl three) (inr (inr seven)) = three
is_three status (inr (inl four)) (inr (inr seven)) = absurd (omega arith)
is_three status (inr (inr (inl five))) (inr (inr seven)) = absurd (omega arith)
is_three status (inr (inr (inr six))) (inr (inr seven)) = absurd (omega arith)

-- its refusal was written
refuses : (call : FirstLineCall) (status : ℕ) → ((status ≡ 3) × WritesRefusal call) ⊎ StopsFirst call status → IsWhole status
    → (status ≡ 3) × WritesRefusal call
refuses call status (inl is) whole = is
refuses call status (inr (inl (four, none, is))) (inl zero) = absurd (omega arith)
refuses call status (inr (inl (four, none, is))) (inr (inl three)) = absurd (omega arith)
refuses call status (inr (inl (four, none, is))) (inr (inr seven)) = absurd (omega arith)
refuses call status (inr (inr (inl (six, draws, is)))) (inl zero) = absurd (omega arith)
refuses call status (inr (inr (inl (six, draws, is)))) (inr (inl three)) = absurd (omega arith)
refuses call status (inr (inr (inl (six, draws, is)))) (inr (inr seven)) = absurd (omega arith)
refuses call status (inr (inr (inr (five, is)))) (inl zero) = absurd (omega arith)
refuses call status (inr (inr (inr (five, is)))) (inr (inl three)) = absurd (omega arith)
refuses call status (inr (inr (inr (five, is)))) (inr (inr seven)) = absurd (omega arith)

-- or it was cut short
stops : (call : FirstLineCall) (status : ℕ) → ((status ≡ 3) × WritesRefusal call) ⊎ StopsFirst call status → IsCutShort status
    → StopsFirst call status
stops call status (inr is) short = is
stops call status (inl (three, is)) (inl four) = absurd (omega arith)
stops call status (inl (three, is)) (inr (inl five)) = absurd (omega arith)
stops call status (inl (three, is)) (inr (inr six)) = absurd (omega arith)

-- a call that took the first line of a dry run
abbrev pub first_call : ℕ → List ℕ → Option (List ℕ) → Option (List ℕ) → Option (List ℕ) → List (List ℕ) → FirstLineCall
first_call now bytes left before written drawn = record {
  now = now;
  limit = most_rows;
  bytes = bytes;
  left = left;
  before = before;
  written = written;
  drawn = drawn;
}

pub refused_whole : (Drew : List (List ℕ) → Type 0) (Read : List ℕ → Type 0) (bytes : List ℕ) (left before written : Option (List ℕ))
    (now : ℕ) (drawn : List (List ℕ)) (status : ℕ) → Drew drawn → Read (now ∷ []) → IsWhole status
    → AnswersFirst (first_call now bytes left before written drawn) (Err status)
    → WritesText Drew Read bytes before written status
refused_whole Drew Read bytes left before written now drawn status drew read whole says =
    let refused = refuses (first_call now bytes left before written drawn) status says whole in
    subst (WritesText Drew Read bytes before written) (sym refused.0)
    (refusal_written Drew Read (first_call now bytes left before written drawn) refl drew read refused.1)

pub refused_front : (Drew : List (List ℕ) → Type 0) (Read : List ℕ → Type 0) (bytes : List ℕ) (left before written : Option (List ℕ))
    (now : ℕ) (drawn : List (List ℕ)) (status : ℕ) → Drew drawn → Read (now ∷ []) → IsCutShort status
    → AnswersFirst (first_call now bytes left before written drawn) (Err status)
    → WritesFront Drew Read bytes before written
refused_front Drew Read bytes left before written now drawn status drew read short says =
    first_front Drew Read (first_call now bytes left before written drawn) status refl drew read
    (stops (first_call now bytes left before written drawn) status says short)

-- behind the commands
pub answered_text : (Drew : List (List ℕ) → Type 0) (Read Later : List ℕ → Type 0) (bytes : List ℕ) (left before middle written : Option (List ℕ))
    (now : ℕ) (drawn : List (List ℕ)) (commands : List Command) (result : Result End ℕ)
    → AnswersFirst (first_call now bytes left before middle drawn) (Ok commands) → middle ≡ before → Drew drawn
    → ((times : List ℕ) → Later times → Read (now ∷ times))
    → IfOk result (AnswersAll (gateway_rows (rows_after commands) (length commands)) Later left middle written)
    → IfOk result (λ end. WritesText Drew Read bytes before written (status_of end))
answered_text Drew Read Later bytes left before middle written now drawn commands (Err status) gives same drew on ended = tt
answered_text Drew Read Later bytes left before middle written now drawn commands (Ok end) gives same drew on ended =
    replies_written Drew Read Later bytes left before written now drawn (accepted_after commands (length drawn)) end
    gives.declared refl gives.after drew on
    (subst (λ w. AnswersAll (gateway_rows (rows_after commands) (length commands)) Later left w written end) same ended)

pub answered_end : (Later : List ℕ → Type 0) (bytes : List ℕ) (left before middle written : Option (List ℕ))
    (now : ℕ) (drawn : List (List ℕ)) (commands : List Command) (result : Result End ℕ)
    → AnswersFirst (first_call now bytes left before middle drawn) (Ok commands)
    → IfOk result (AnswersAll (gateway_rows (rows_after commands) (length commands)) Later left middle written) → IfOk result (IsEndOf (after_line bytes))
answered_end Later bytes left before middle written now drawn commands (Err status) gives ended = tt
answered_end Later bytes left before middle written now drawn commands (Ok end) gives ended =
    end_of Later (after_line bytes) left middle written (gateway_rows (rows_after commands) (length commands)) end gives.after ended

pub answered_front : (Drew : List (List ℕ) → Type 0) (Read Later : List ℕ → Type 0) (bytes : List ℕ) (left before middle written : Option (List ℕ))
    (now : ℕ) (drawn : List (List ℕ)) (commands : List Command)
    → AnswersFirst (first_call now bytes left before middle drawn) (Ok commands) → middle ≡ before → Drew drawn
    → ((times : List ℕ) → Later times → Read (now ∷ times))
    → AnswersFront (gateway_rows (rows_after commands) (length commands)) Later left middle written → WritesFront Drew Read bytes before written
answered_front Drew Read Later bytes left before middle written now drawn commands gives same drew on front =
    replies_front Drew Read Later bytes left before written now drawn (accepted_after commands (length drawn))
    gives.declared refl gives.after drew on
    (subst (λ w. AnswersFront (gateway_rows (rows_after commands) (length commands)) Later left w written) same front)
