-- What a whole head says of the message that it begins.
use Rattle.std.proofs.Common.{◌≡◌, ℕ, ◌+◌, ◌<◌, ◌≤◌, Bool, true, false, ◌&&◌, if◌then◌else◌, List, [], ◌∷◌, ◌++◌, length, map, take, drop, Option, Some, None, Ok, Err, inr, refl, sym, ap, ◌∙◌, subst, eq-eqb, ltb, arith}
use Rattle.std.proofs.Math.Seq.{take-append-add, drop-append-add}
use Rattle.std.specs.Prelude.{All, IsTrue, Result, IfErr, IsErrAnd}
use Rattle.std.specs.List.{list_all, prefix_len}
use Rattle.std.proofs.lemmas.Bool.{lt-ltb}
use Rattle.std.proofs.lemmas.List.{append_assoc, length-append, length-take-le, take-append-drop, drop_at}
use Rattle.std.proofs.lemmas.List.Elements.{All-nil, All-cons, All-head, All-tail, All-same, All-map, All-weaker}
use Rattle.std.proofs.lemmas.List.Sums.{list_all-from_AllPass, prefix_len_is}
use Rattle.httparse.specs.Grammar.{is_token_byte, IsToken, RequestHead, print_request, ReadsRequest, IsField}
use Rattle.httparse.specs.Spans.{header_bytes, name_and_value, IsRequestAt}
use Rattle.httparse.specs.declared.spans.HeaderSpan.{HeaderSpan}
use Rattle.httparse.specs.declared.spans.RequestSpans.{RequestSpans}
use Rattle.kg_text.specs.Names.{is_tchar, is_token}
use Rattle.kg_outside.specs.Moves.{with_front}
use Rattle.kg_outside.proofs.Observed.{with_front-append}
use Rattle.kg_wire.specs.declared.head.Head.{Head}
use Rattle.kg_message.specs.declared.request.Request.{Request}
use Rattle.kg_wire.specs.declared.held.FillError.{FillError}
use Rattle.kg_wire.specs.declared.held.FillError.TheVariants.{Fault, NoMemory as OutOfMemory}
use Rattle.kg_wire.specs.declared.reader.ReadError.{ReadError}
use Rattle.kg_wire.specs.declared.reader.ReadError.TheVariants.{Bad, HeadTooLarge, BodyTooLarge, Cut, ReadFault, NoMemory}
use Rattle.kg_wire.specs.declared.reader.Start.{Start}
use Rattle.kg_wire.specs.Checks.{body_len}
use Rattle.kg_wire.specs.Messages.{most_head, most_body, Message, print_message, head_of, request_with, request_of, BeginsNoRequest, IsRequest}
use Rattle.kg_wire.specs.Targets.{is_target}
use Rattle.kg_wire.specs.Reading.{ReaderState, Grows, Takes, Ends, Counts}
use Rattle.kg_wire.specs.ReadingSteps.{IsStart, HaveTokens, head_at, error_of}
use Rattle.kg_wire.specs.Refusals.{IsBad, IsCut}

-- httparse's tokens are ours
token_of : (bytes : List ℕ) → IsToken bytes → IsTrue (is_token bytes)
unfolding is_token_byte
token_of bytes token =
    let some : ltb 0 (length bytes) ≡ true = lt-ltb 0 (length bytes) token.0 in
    let all : list_all is_tchar bytes ≡ true = list_all-from_AllPass is_tchar bytes token.1 in
    let front : prefix_len is_tchar bytes ≡ length bytes =
    prefix_len_is is_tchar bytes (length bytes) 0 (omega arith) (λ k within. token.1 k 0 within) (λ past. absurd (omega arith)) in
    simp (some, all, front, eq-eqb (length bytes) (length bytes) refl) refl

-- what holds of each image holds of each element
All-unmap : {X Y : Type 0} (P : Y → Type 0) (f : X → Y) (xs : List X) → All P (map f xs) → All (λ x. P (f x)) xs
All-unmap P f [] all = All-nil (λ x. P (f x))
All-unmap P f (x ∷ xs) all =
    All-cons (λ x. P (f x)) x xs (All-head P (f x) (map f xs) all) (All-unmap P f xs (All-tail P (f x) (map f xs) all))

-- the fields of a head have tokens as their names
pub names_are_tokens : (held : List ℕ) (room : List HeaderSpan) (spans : RequestSpans) (h : RequestHead)
    → IsRequestAt held room spans h → HaveTokens held (take spans.headers room)
names_are_tokens held room spans h there =
    let HasToken : List ℕ × List ℕ → Type 0 = λ field. IsTrue (is_token field.0) in
    let of_fields : All HasToken (map name_and_value h.fields) =
    All-map HasToken name_and_value h.fields
    (All-weaker IsField (λ f. HasToken (name_and_value f)) (λ f is. token_of f.name is.name) h.fields there.reads.0.fields) in
    All-unmap HasToken (header_bytes held) (take spans.headers room)
    (All-same HasToken (map (header_bytes held) (take spans.headers room)) (map name_and_value h.fields) there.fields of_fields)

-- the parts that the spans tell of are those of the head
pub head_at-head_of : (held : List ℕ) (room : List HeaderSpan) (spans : RequestSpans) (h : RequestHead)
    → IsRequestAt held room spans h → head_at held room spans ≡ head_of h
head_at-head_of held room spans h there = rw (there.method, there.path, there.version, there.fields) refl

-- the body that a copied head states is the one that the head at the front states
pub copied_body : (held : List ℕ) (room : List HeaderSpan) (spans : RequestSpans) (h : RequestHead) (head : Head) (len : Option ℕ)
    → IsRequestAt held room spans h → head ≡ head_at held room spans → len ≡ body_len head → body_len (head_of h) ≡ len
copied_body held room spans h head len there copied is =
    ap body_len (sym (head_at-head_of held room spans h there) ∙ sym copied) ∙ sym is

-- a head within its limit that fails a check stands at the front
pub bad_when_failing : (held : List ℕ) (h : RequestHead) (rest : List ℕ) → ReadsRequest held h rest
    → length (print_request h) ≤ most_head → body_len (head_of h) ≡ None → IsBad held
bad_when_failing held h rest reads short fails = inr (inr (record {
  head = h;
  after = rest;
  reads = reads;
  short_head = short;
  wrong = λ len states. let other : None ≡ Some len = sym fails ∙ states in absurd (cc);
}))

-- a head within its limit that states a body past the limit stands at the front
pub bad_when_long : (held : List ℕ) (h : RequestHead) (rest : List ℕ) (len : ℕ) → ReadsRequest held h rest
    → length (print_request h) ≤ most_head → body_len (head_of h) ≡ Some len → most_body < len → IsBad held
bad_when_long held h rest len reads short states long = inr (inr (record {
  head = h;
  after = rest;
  reads = reads;
  short_head = short;
  wrong = λ other is. let same : Some len ≡ Some other = sym states ∙ is in let len_is : len ≡ other = cc in omega arith;
}))

-- a head whose body is known has a target of the grammar
pub target_passes : (head : Head) (len : ℕ) → body_len head ≡ Some len → IsTrue (is_target head.target)
target_passes head len passes = first _ _ _ _ len passes
  where
    first : (target host coding : Bool) (stated : Option ℕ) (len : ℕ)
        → (if target && host && coding then stated else None) ≡ Some len → target ≡ true
    first true host coding stated len is = refl
    first false host coding stated len is = absurd (cc)

-- the message of a start, once all of it is held
pub record IsWhole (held : List ℕ) (start : Start) (m : Message) : Type 0 where
  pub is : IsRequest m
  pub len : start.message_len ≡ length (print_message m)
  pub head : start.head ≡ head_of m.head
  pub body : m.body ≡ drop start.head_len (take start.message_len held)
  pub whole : held ≡ print_message m ++ drop start.message_len held

pub whole_message : (held_before held_now : List ℕ) (left_before left_now : Option (List ℕ)) (start : Start)
    → IsStart held_before start → Grows held_before held_now left_before left_now → start.message_len ≤ length held_now
    → (m : Message) × IsWhole held_now start m
whole_message held_before held_now left_before left_now start begins grows held =
    let text = print_request begins.spelt in
    let after = begins.rest ++ grows.piece in
    let n = begins.body in
    let reads : held_now ≡ text ++ after =
    grows.grown ∙ ap (λ bytes. bytes ++ grows.piece) begins.reads.1 ∙ append_assoc text begins.rest grows.piece in
    let len : start.message_len ≡ length text + n = omega (arith, begins.head_len, begins.message_len) in
    let held_len : length held_now ≡ length text + length after = ap length reads ∙ length-append text after in
    let front : take start.message_len held_now ≡ text ++ take n after =
    ap (λ k. take k held_now) len ∙ ap (take (length text + n)) reads ∙ take-append-add text after n in
    let body_is : drop start.head_len (take start.message_len held_now) ≡ take n after =
    ap (drop start.head_len) front ∙ drop_at text (take n after) start.head_len (sym begins.head_len) in
    let body_len_is : length (take n after) ≡ n = length-take-le n after (omega arith) in
    let rest_is : drop start.message_len held_now ≡ drop n after =
    ap (λ k. drop k held_now) len ∙ ap (drop (length text + n)) reads ∙ drop-append-add text after n in
    let m : Message = record { head = begins.spelt; body = take n after } in (
      m,
      record {
        is = record {
          message = record { grammar = begins.reads.0; framed = begins.framed ∙ ap Some (sym body_len_is) };
          short_head = begins.short;
          short_body = omega (arith, begins.short_body, body_len_is);
        };
        len = len ∙ ap (λ k. length text + k) (sym body_len_is) ∙ sym (length-append text (take n after));
        head = begins.parts;
        body = sym body_is;
        whole = reads ∙ ap (λ bytes. text ++ bytes) (sym (take-append-drop n after))
            ∙ sym (append_assoc text (take n after) (drop n after))
            ∙ ap (λ bytes. text ++ take n after ++ bytes) (sym rest_is);
      },
    )

-- what is ahead is the same before a piece is read and after it
pub grows_ahead : (held_before held_now : List ℕ) (left_before left_now : Option (List ℕ))
    → Grows held_before held_now left_before left_now → with_front held_before left_before ≡ with_front held_now left_now
grows_ahead held_before held_now left_before left_now grows =
    ap (with_front held_before) grows.moved ∙ sym (with_front-append held_before grows.piece left_now)
    ∙ ap (λ held. with_front held left_now) (sym grows.grown)

-- two pieces, one after the other, are one
pub grows_on : (first second third : List ℕ) (left_first left_second left_third : Option (List ℕ))
    → Grows first second left_first left_second → Grows second third left_second left_third
    → Grows first third left_first left_third
grows_on first second third left_first left_second left_third before after = record {
  piece = before.piece ++ after.piece;
  grown = after.grown ∙ ap (λ held. held ++ after.piece) before.grown ∙ append_assoc first before.piece after.piece;
  moved = before.moved ∙ ap (with_front before.piece) after.moved
      ∙ sym (with_front-append before.piece after.piece left_third);
}

-- how a reading ends that read a piece first
pub ends_later : (at : ℕ) (first second third : List ℕ) (left_first left_second left_third : Option (List ℕ)) (e : ReadError)
    → Grows first second left_first left_second → Ends at second third left_second left_third e
    → Ends at first third left_first left_third e
ends_later at first second third left_first left_second left_third (Bad place) grows ends =
    (grows_on first second third left_first left_second left_third grows ends.0, ends.1)
ends_later at first second third left_first left_second left_third HeadTooLarge grows ends =
    (grows_on first second third left_first left_second left_third grows ends.0, ends.1)
ends_later at first second third left_first left_second left_third BodyTooLarge grows ends =
    (grows_on first second third left_first left_second left_third grows ends.0, ends.1)
ends_later at first second third left_first left_second left_third (Cut have) grows ends =
    (grows_on first second third left_first left_second left_third grows ends.0, ends.1)
ends_later at first second third left_first left_second left_third ReadFault grows ends =
    (grows_on first second third left_first left_second left_third grows ends.0, ends.1)
ends_later at first second third left_first left_second left_third NoMemory grows ends = ends

-- how a reading ends where a read failed, before which no whole request was held
pub ends_failed : (at : ℕ) (first second third : List ℕ) (left_first left_second left_third : Option (List ℕ)) (f : FillError)
    → Grows first second left_first left_second → BeginsNoRequest second → third ≡ second → left_third ≡ left_second
    → Ends at first third left_first left_third (error_of f)
ends_failed at first second third left_first left_second left_third Fault grows none held left = (
  record { piece = grows.piece; grown = held ∙ grows.grown; moved = grows.moved ∙ ap (with_front grows.piece) (sym left) },
  subst BeginsNoRequest (sym held) none,
)
ends_failed at first second third left_first left_second left_third OutOfMemory grows none held left = tt

-- a request that was taken after a piece was read
pub takes_later : (first second third : ReaderState) (left_first left_second left_third : Option (List ℕ)) (request : Request)
    → Grows first.held second.held left_first left_second → second.at ≡ first.at → second.address ≡ first.address
    → Takes second third left_second left_third request → Takes first third left_first left_third request
takes_later first second third left_first left_second left_third request grows at address takes = record {
  message = takes.message;
  is = takes.is;
  means = takes.means ∙ ap (λ client. request_of client takes.message) address;
  at = takes.at ∙ ap (λ place. place + length (print_message takes.message)) at;
  moved = grows_ahead first.held second.held left_first left_second grows ∙ takes.moved;
}

-- a message whose head passes isn't held whole
pub cut_in_body : (held_before held_now : List ℕ) (left_before left_now : Option (List ℕ)) (start : Start)
    → IsStart held_before start → Grows held_before held_now left_before left_now → length held_now < start.message_len
    → IsCut held_now
cut_in_body held_before held_now left_before left_now start begins grows short = inr (record {
  head = begins.spelt;
  after = begins.rest ++ grows.piece;
  reads = (begins.reads.0, whole);
  short_head = begins.short;
  len = begins.body;
  states = begins.framed;
  short_body = begins.short_body;
  part =
      let size = ap length whole ∙ length-append (print_request begins.spelt) (begins.rest ++ grows.piece) in
      omega (arith, begins.head_len, begins.message_len);
})
  where
    whole : held_now ≡ print_request begins.spelt ++ (begins.rest ++ grows.piece)
    whole = grows.grown ∙ ap (λ bytes. bytes ++ grows.piece) begins.reads.1
        ∙ append_assoc (print_request begins.spelt) begins.rest grows.piece

-- the request of a message that is held whole was taken
pub takes_whole : (before now : ReaderState) (held : List ℕ) (left_before left_now : Option (List ℕ)) (start : Start)
    (m : Message) (request : Request)
    → IsWhole held start m → Grows before.held held left_before left_now
    → request ≡ request_with before.address start.head (drop start.head_len (take start.message_len held))
    → now.at ≡ before.at + start.message_len → now.held ≡ drop start.message_len held
    → Takes before now left_before left_now request
takes_whole before now held left_before left_now start m request whole grows request_is at_is held_is = record {
  message = m;
  is = whole.is;
  means = request_is
      ∙ ap (λ head. request_with before.address head (drop start.head_len (take start.message_len held))) whole.head
      ∙ ap (request_with before.address (head_of m.head)) (sym whole.body);
  at = at_is ∙ ap (λ len. before.at + len) whole.len;
  moved = grows_ahead before.held held left_before left_now grows
      ∙ ap (λ bytes. with_front bytes left_now) (whole.whole ∙ ap (λ rest. print_message m ++ rest) (sym held_is));
}

-- an exit with the error of a call
pub exits : {V : Type 0} (result : Result V ReadError) (e : ReadError) (P : ReadError → Type 0)
    → IsErrAnd result (λ r. r ≡ e) → P e → IfErr result P
exits (Ok value) e P is holds = tt
exits (Err r) e P is holds = subst P (sym is) holds

-- the count of faults at an exit is that of the call that failed
pub counts_on : {V : Type 0} (result : Result V ReadError) (e : ReadError) (before middle now : ℕ)
    → IsErrAnd result (λ r. r ≡ e) → middle ≡ before → Counts middle now e → IfErr result (Counts before now)
counts_on result e before middle now is same counts =
    exits result e (Counts before now) is (subst (λ n. Counts n now e) same counts)
