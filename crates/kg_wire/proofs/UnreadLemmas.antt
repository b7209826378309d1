-- Where the answer is held, nothing is read.
use Rattle.std.proofs.Common.{◌≡◌, ℕ, ◌<◌, ◌≤◌, inl, inr, List, ◌++◌, length, take, Option, Some, refl, sym, ap, ◌∙◌, subst, arith}
use Rattle.std.proofs.lemmas.List.{append_assoc, length-append, take_at}
use Rattle.httparse.specs.Grammar.{print_request, HasNoRequest}
use Rattle.httparse.proofs.GrammarLemmas.{request_unique}
use Rattle.kg_wire.specs.declared.reader.Start.{Start}
use Rattle.kg_wire.specs.Checks.{body_len}
use Rattle.kg_wire.specs.Messages.{most_head, most_body, Message, print_message, head_of, IsRequest, BeginsNoRequest}
use Rattle.kg_wire.specs.Reading.{Grows}
use Rattle.kg_wire.specs.ReadingSteps.{Fills, IsOpen, IsStart}
use Rattle.kg_wire.specs.Refusals.{IsBad}
use Rattle.kg_wire.proofs.MessageLemmas.{head_reads}
use Rattle.kg_wire.proofs.ReaderLemmas.{cut_in_body}
use Rattle.kg_wire.proofs.RefusalLemmas.{bad_not_cut, bad_some, bad_stays, cut_begins_none, none_yet, reads_in_front}

-- without a whole head there is no request
pub no_head_begins_none : (held : List ℕ) → HasNoRequest held → BeginsNoRequest held
no_head_begins_none held none m rest is whole = none m.head (m.body ++ rest) (head_reads m held rest is.message whole)

-- nor is there one before its body is whole
pub part_begins_none : (held_before held_now : List ℕ) (left_before left_now : Option (List ℕ)) (start : Start)
    → IsStart held_before start → Grows held_before held_now left_before left_now → length held_now < start.message_len
    → BeginsNoRequest held_now
part_begins_none held_before held_now left_before left_now start begins grows short =
    cut_begins_none held_now (cut_in_body held_before held_now left_before left_now start begins grows short)

-- a piece was read behind bytes without a whole head, and no head ends in it
pub none_in_piece : (held_before held_now : List ℕ) (left_before left_now : Option (List ℕ)) (n : ℕ)
    → Fills held_before held_now left_before left_now n → HasNoRequest held_before
    → (HasNoRequest (take (length held_before) held_now) → HasNoRequest held_now) → HasNoRequest held_now
none_in_piece held_before held_now left_before left_now n fills none behind =
    behind (subst HasNoRequest
    (sym (ap (take (length held_before)) fills.grows.grown ∙ take_at held_before fills.grows.piece (length held_before) refl)) none)

-- where a request is held, or refused bytes, no more is to be read for a head
pub request_not_open : (held : List ℕ) (m : Message) (rest : List ℕ) → IsRequest m → held ≡ print_message m ++ rest → IsOpen held → ⊥
request_not_open held m rest is whole may = may.none m.head (m.body ++ rest) (head_reads m held rest is.message whole)

pub bad_not_open : (held : List ℕ) → IsBad held → IsOpen held → ⊥
bad_not_open held bad may =
    let some = bad_some held bad in
    bad_not_cut held bad (inl (record { some = some; short = may.short; none = may.none; may = may.may some }))

-- and none for a body
pub request_is_whole : (held_before held_now : List ℕ) (left_before left_now : Option (List ℕ)) (start : Start) (m : Message) (rest : List ℕ)
    → IsRequest m → held_before ≡ print_message m ++ rest → Grows held_before held_now left_before left_now → IsStart held_now start
    → start.message_len ≤ length held_now
request_is_whole held_before held_now left_before left_now start m rest is before grows begins =
    let whole : held_now ≡ print_message m ++ (rest ++ grows.piece) =
    grows.grown ∙ ap (λ bytes. bytes ++ grows.piece) before ∙ append_assoc (print_message m) rest grows.piece in
    let reads = head_reads m held_now (rest ++ grows.piece) is.message whole in
    let same = (request_unique held_now begins.spelt m.head begins.rest (m.body ++ (rest ++ grows.piece)) begins.reads reads).0 in
    let lens : Some begins.body ≡ Some (length m.body) =
    sym begins.framed ∙ ap (λ head. body_len (head_of head)) same ∙ is.message.framed in
    let len : begins.body ≡ length m.body = cc in
    let text = ap (λ head. length (print_request head)) same in
    let size = ap length whole in
    omega (arith, begins.head_len, begins.message_len, length-append (print_message m) (rest ++ grows.piece), length-append (print_request m.head) m.body)

-- refused bytes begin with no head that passes
pub bad_not_start : (held_before held_now : List ℕ) (left_before left_now : Option (List ℕ)) (start : Start)
    → IsBad held_before → Grows held_before held_now left_before left_now → IsStart held_now start → ⊥
bad_not_start held_before held_now left_before left_now start bad grows begins =
    by_cases (subst IsBad (sym grows.grown) (bad_stays held_before grows.piece bad))
  where
    by_cases : IsBad held_now → ⊥
    by_cases (inl not_head) = none_yet held_now not_head.never begins.spelt begins.rest begins.reads
    by_cases (inr (inl long)) =
        long.none begins.spelt _ (reads_in_front most_head held_now begins.spelt begins.rest begins.reads begins.short)
    by_cases (inr (inr wrong)) =
        let same = (request_unique held_now wrong.head begins.spelt wrong.after begins.rest wrong.reads begins.reads).0 in
        let past : most_body < begins.body = wrong.wrong begins.body (ap (λ head. body_len (head_of head)) same ∙ begins.framed) in
        let fits = begins.short_body in
        omega arith
