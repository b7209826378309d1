-- Where the bytes ahead are known, so is the answer.
use Rattle.std.proofs.Common.{◌≡◌, ℕ, ◌<◌, List, [], ◌++◌, length, Option, Some, None, Ok, Err, inl, inr, refl, sym, ap, ◌∙◌, subst, arith}
use Rattle.std.specs.Prelude.{Result, IfOk, IfErr}
use Rattle.std.proofs.lemmas.List.{append-nil, append_assoc, length-append}
use Rattle.kg_message.specs.declared.request.Request.{Request}
use Rattle.kg_outside.specs.Moves.{with_front}
use Rattle.kg_outside.proofs.Observed.{with_front-nil}
use Rattle.kg_wire.specs.declared.reader.ReadError.{ReadError}
use Rattle.kg_wire.specs.declared.reader.ReadError.TheVariants.{Bad, HeadTooLarge, BodyTooLarge, Cut, ReadFault, NoMemory}
use Rattle.kg_wire.specs.Messages.{Message, print_message, request_of, IsRequest, BeginsNoRequest}
use Rattle.kg_wire.specs.Reading.{ReaderState, IsEnded, Grows, Gives, Ends, IsUnlessPrevented, RefusesUnlessPrevented}
use Rattle.kg_wire.specs.Refusals.{IsBad, IsCut}
use Rattle.kg_wire.proofs.JudgeLemmas.{head_some}
use Rattle.kg_wire.proofs.MessageLemmas.{head_reads, message_unique}
use Rattle.kg_wire.proofs.ReaderLemmas.{grows_ahead}
use Rattle.kg_wire.proofs.RefusalLemmas.{bad_some, cut_some, bad_stays, bad_not_cut, bad_begins_none, cut_begins_none, bad_never_begins}

-- a message has bytes
pub message_some : (m : Message) (rest : List ℕ) → IsRequest m → 0 < length (print_message m ++ rest)
message_some m rest is = head_some _ m.head _ (head_reads m (print_message m ++ rest) rest is.message refl)

-- what is known of the whole is known of what is left
left_is : (front whole : List ℕ) (left : Option (List ℕ)) → with_front front left ≡ Some whole
    → (later : List ℕ) × (left ≡ Some later) × (whole ≡ front ++ later)
left_is front whole None is = absurd (cc)
left_is front whole (Some later) is = (later, refl, let same : Some (front ++ later) ≡ Some whole = is in cc)

-- where the source ended, all that was ahead is held
ended_at : (before now : ReaderState) (left_before left_now : Option (List ℕ)) (whole : List ℕ)
    → with_front before.held left_before ≡ Some whole → Grows before.held now.held left_before left_now → IsEnded left_now
    → whole ≡ now.held
ended_at before now left_before left_now whole ahead grows ended =
    let left = left_is now.held whole left_now (sym (grows_ahead before.held now.held left_before left_now grows) ∙ ahead) in
    left.2 ∙ ap (λ later. now.held ++ later) (ended left.0 left.1) ∙ append-nil now.held

-- where a request is ahead, it is the answer
pub reads_request : (result : Result (Option Request) ReadError) (before now : ReaderState) (left_before left_now : Option (List ℕ))
    (m : Message) (rest : List ℕ) → IsRequest m → with_front before.held left_before ≡ Some (print_message m ++ rest)
    → IfOk result (Gives before now left_before left_now)
    → IfErr result (Ends before.at before.held now.held left_before left_now)
    → IsUnlessPrevented result (Some (request_of before.address m))
reads_request (Ok None) before now left_before left_now m rest is ahead gives ends =
    let left : left_now ≡ Some (print_message m ++ rest) =
    gives.left ∙ sym (with_front-nil left_before) ∙ ap (λ held. with_front held left_before) (sym gives.none_held) ∙ ahead in
    let none : print_message m ++ rest ≡ [] = gives.ended (print_message m ++ rest) left in
    let some = message_some m rest is in
    let len : length (print_message m ++ rest) ≡ 0 = ap length none in
    absurd (omega arith)
reads_request (Ok (Some request)) before now left_before left_now m rest is ahead gives ends =
    let left = left_is (print_message gives.message ++ now.held) (print_message m ++ rest) left_now (sym gives.moved ∙ ahead) in
    let whole : print_message m ++ rest ≡ print_message gives.message ++ (now.held ++ left.0) =
    left.2 ∙ append_assoc (print_message gives.message) now.held left.0 in
    let same = message_unique (print_message m ++ rest) gives.message m (now.held ++ left.0) rest gives.is.message is.message whole refl in
    ap Some (gives.means ∙ ap (request_of before.address) same.0)
reads_request (Err (Bad place)) before now left_before left_now m rest is ahead gives ends =
    let left = left_is now.held (print_message m ++ rest) left_now (sym (grows_ahead before.held now.held left_before left_now ends.0) ∙ ahead) in
    bad_never_begins now.held ends.1.1 left.0 m rest is (sym left.2)
reads_request (Err HeadTooLarge) before now left_before left_now m rest is ahead gives ends = ends.1
reads_request (Err BodyTooLarge) before now left_before left_now m rest is ahead gives ends = ends.1
reads_request (Err (Cut have)) before now left_before left_now m rest is ahead gives ends =
    let held = ended_at before now left_before left_now (print_message m ++ rest) ahead ends.0 ends.1.2 in
    cut_begins_none now.held ends.1.1 m rest is (sym held)
reads_request (Err ReadFault) before now left_before left_now m rest is ahead gives ends = tt
reads_request (Err NoMemory) before now left_before left_now m rest is ahead gives ends = tt

-- bytes are held, though none is ahead
none_ahead : (before now : ReaderState) (left_before left_now : Option (List ℕ)) → 0 < length now.held
    → with_front before.held left_before ≡ Some [] → Grows before.held now.held left_before left_now → ⊥
none_ahead before now left_before left_now some ahead grows =
    let left = left_is now.held [] left_now (sym (grows_ahead before.held now.held left_before left_now grows) ∙ ahead) in
    let len : 0 ≡ length (now.held ++ left.0) = ap length left.2 in
    omega (arith, length-append now.held left.0)

-- where no bytes are ahead, the answer is the end
pub reads_end : (result : Result (Option Request) ReadError) (before now : ReaderState) (left_before left_now : Option (List ℕ))
    → with_front before.held left_before ≡ Some []
    → IfOk result (Gives before now left_before left_now)
    → IfErr result (Ends before.at before.held now.held left_before left_now)
    → IsUnlessPrevented result None
reads_end (Ok None) before now left_before left_now ahead gives ends = refl
reads_end (Ok (Some request)) before now left_before left_now ahead gives ends =
    let left = left_is (print_message gives.message ++ now.held) [] left_now (sym gives.moved ∙ ahead) in
    let some = message_some gives.message now.held gives.is in
    let len : 0 ≡ length ((print_message gives.message ++ now.held) ++ left.0) = ap length left.2 in
    absurd (omega (arith, length-append (print_message gives.message ++ now.held) left.0))
reads_end (Err (Bad place)) before now left_before left_now ahead gives ends =
    none_ahead before now left_before left_now (bad_some now.held ends.1.1) ahead ends.0
reads_end (Err HeadTooLarge) before now left_before left_now ahead gives ends = ends.1
reads_end (Err BodyTooLarge) before now left_before left_now ahead gives ends = ends.1
reads_end (Err (Cut have)) before now left_before left_now ahead gives ends =
    none_ahead before now left_before left_now (cut_some now.held ends.1.1) ahead ends.0
reads_end (Err ReadFault) before now left_before left_now ahead gives ends = tt
reads_end (Err NoMemory) before now left_before left_now ahead gives ends = tt

-- what a call that gives a request or the end says of bytes ahead that begin no request
gives_none : (given : Option Request) (before now : ReaderState) (left_before left_now : Option (List ℕ)) (rest : List ℕ)
    → with_front before.held left_before ≡ Some rest → Gives before now left_before left_now given
    → 0 < length rest → BeginsNoRequest rest → ⊥
gives_none None before now left_before left_now rest ahead gives some none =
    let left : left_now ≡ Some rest =
    gives.left ∙ sym (with_front-nil left_before) ∙ ap (λ held. with_front held left_before) (sym gives.none_held) ∙ ahead in
    let len : length rest ≡ 0 = ap length (gives.ended rest left) in
    omega arith
gives_none (Some request) before now left_before left_now rest ahead gives some none =
    let left = left_is (print_message gives.message ++ now.held) rest left_now (sym gives.moved ∙ ahead) in
    none gives.message (now.held ++ left.0) gives.is
    (left.2 ∙ append_assoc (print_message gives.message) now.held left.0)

-- where what is ahead is refused, that is the answer
pub refuses_bad : (result : Result (Option Request) ReadError) (before now : ReaderState) (left_before left_now : Option (List ℕ))
    (rest : List ℕ) → with_front before.held left_before ≡ Some rest → IsBad rest
    → IfOk result (Gives before now left_before left_now)
    → IfErr result (Ends before.at before.held now.held left_before left_now)
    → RefusesUnlessPrevented result (Bad before.at)
refuses_bad (Ok given) before now left_before left_now rest ahead bad gives ends =
    gives_none given before now left_before left_now rest ahead gives (bad_some rest bad) (bad_begins_none rest bad)
refuses_bad (Err (Bad place)) before now left_before left_now rest ahead bad gives ends = inl (ap Bad ends.1.0)
refuses_bad (Err HeadTooLarge) before now left_before left_now rest ahead bad gives ends = absurd ends.1
refuses_bad (Err BodyTooLarge) before now left_before left_now rest ahead bad gives ends = absurd ends.1
refuses_bad (Err (Cut have)) before now left_before left_now rest ahead bad gives ends =
    let held = ended_at before now left_before left_now rest ahead ends.0 ends.1.2 in
    absurd (bad_not_cut now.held (subst IsBad held bad) ends.1.1)
refuses_bad (Err ReadFault) before now left_before left_now rest ahead bad gives ends = inr tt
refuses_bad (Err NoMemory) before now left_before left_now rest ahead bad gives ends = inr tt

-- where a request is cut off ahead, that is the answer
pub refuses_cut : (result : Result (Option Request) ReadError) (before now : ReaderState) (left_before left_now : Option (List ℕ))
    (rest : List ℕ) → with_front before.held left_before ≡ Some rest → IsCut rest
    → IfOk result (Gives before now left_before left_now)
    → IfErr result (Ends before.at before.held now.held left_before left_now)
    → RefusesUnlessPrevented result (Cut (length rest))
refuses_cut (Ok given) before now left_before left_now rest ahead cut gives ends =
    gives_none given before now left_before left_now rest ahead gives (cut_some rest cut) (cut_begins_none rest cut)
refuses_cut (Err (Bad place)) before now left_before left_now rest ahead cut gives ends =
    let left = left_is now.held rest left_now (sym (grows_ahead before.held now.held left_before left_now ends.0) ∙ ahead) in
    absurd (bad_not_cut rest (subst IsBad (sym left.2) (bad_stays now.held left.0 ends.1.1)) cut)
refuses_cut (Err HeadTooLarge) before now left_before left_now rest ahead cut gives ends = absurd ends.1
refuses_cut (Err BodyTooLarge) before now left_before left_now rest ahead cut gives ends = absurd ends.1
refuses_cut (Err (Cut have)) before now left_before left_now rest ahead cut gives ends =
    let held = ended_at before now left_before left_now rest ahead ends.0 ends.1.2 in
    inl (ap Cut (ends.1.0 ∙ ap length (sym held)))
refuses_cut (Err ReadFault) before now left_before left_now rest ahead cut gives ends = inr tt
refuses_cut (Err NoMemory) before now left_before left_now rest ahead cut gives ends = inr tt
