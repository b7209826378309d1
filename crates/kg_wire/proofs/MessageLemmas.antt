-- Bytes are read as requests in one way.
use Rattle.std.proofs.Common.{◌≡◌, ℕ, ◌<◌, ◌≤◌, List, [], ◌∷◌, ◌++◌, length, take, drop, Some, refl, sym, ap, ◌∙◌, arith}
use Rattle.std.specs.List.{flat_map}
use Rattle.std.proofs.lemmas.List.{append-nil, append_assoc, length-append, take_at, drop_at}
use Rattle.httparse.specs.Grammar.{print_request, ReadsRequest}
use Rattle.httparse.proofs.GrammarLemmas.{request_unique}
use Rattle.kg_wire.specs.Checks.{body_len}
use Rattle.kg_wire.specs.Messages.{Message, print_message, head_of, IsMessage, BeginsNoRequest, IsReading}

-- where a message stands at the front, its head does
pub head_reads : (m : Message) (bytes rest : List ℕ) → IsMessage m → bytes ≡ print_message m ++ rest
    → ReadsRequest bytes m.head (m.body ++ rest)
head_reads m bytes rest is whole = (is.grammar, whole ∙ append_assoc (print_request m.head) m.body rest)

-- at most one message stands at the front
pub message_unique : (bytes : List ℕ) (m n : Message) (rest more : List ℕ) → IsMessage m → IsMessage n
    → bytes ≡ print_message m ++ rest → bytes ≡ print_message n ++ more → (m ≡ n) × (rest ≡ more)
message_unique bytes m n rest more m_is n_is first second =
    let same = request_unique bytes m.head n.head (m.body ++ rest) (n.body ++ more)
    (head_reads m bytes rest m_is first) (head_reads n bytes more n_is second) in
    let framed : Some (length m.body) ≡ Some (length n.body) =
    sym m_is.framed ∙ ap (λ head. body_len (head_of head)) same.0 ∙ n_is.framed in
    let len : length n.body ≡ length m.body = cc in
    let body : m.body ≡ n.body =
    sym (take_at m.body rest (length m.body) refl) ∙ ap (take (length m.body)) same.1 ∙ take_at n.body more (length m.body) len in
    let after : rest ≡ more =
    sym (drop_at m.body rest (length m.body) refl) ∙ ap (drop (length m.body)) same.1 ∙ drop_at n.body more (length m.body) len in
    (λ i. record { head = same.0 i; body = body i }, after)

-- of two readings of the same bytes, the one of fewer requests is a front of the other
pub reading_front : (bytes : List ℕ) (ms ns : List Message) (rest more : List ℕ)
    → IsReading bytes ms rest → IsReading bytes ns more → length ms ≤ length ns
    → (later : List Message) × (ns ≡ ms ++ later) × IsReading rest later more
reading_front bytes [] ns rest more first second fewer =
    (ns, refl, record { whole = sym first.whole ∙ second.whole; each = second.each })
reading_front bytes (m ∷ ms) [] rest more first second fewer = absurd (omega arith)
reading_front bytes (m ∷ ms) (n ∷ ns) rest more first second fewer =
    let same = message_unique bytes m n (flat_map print_message ms ++ rest) (flat_map print_message ns ++ more)
    first.each.0.message second.each.0.message
    (first.whole ∙ append_assoc (print_message m) (flat_map print_message ms) rest)
    (second.whole ∙ append_assoc (print_message n) (flat_map print_message ns) more) in
    let front = reading_front (flat_map print_message ms ++ rest) ms ns rest more
    (record { whole = refl; each = first.each.1 }) (record { whole = same.1; each = second.each.1 }) (omega arith) in
    (front.0, λ i. sym same.0 i ∷ front.1 i, front.2)

-- two readings of as many requests are the same
pub reading_same : (bytes : List ℕ) (ms ns : List Message) (rest more : List ℕ)
    → IsReading bytes ms rest → IsReading bytes ns more → length ms ≡ length ns → (ms ≡ ns) × (rest ≡ more)
reading_same bytes ms ns rest more first second as_many =
    let front = reading_front bytes ms ns rest more first second (omega arith) in
    let len = ap length front.1 ∙ length-append ms front.0 in
    no_more ms ns front.0 rest more (omega arith) front.1 front.2
  where
    no_more : (ms ns later : List Message) (rest more : List ℕ) → length later ≡ 0 → ns ≡ ms ++ later
        → IsReading rest later more → (ms ≡ ns) × (rest ≡ more)
    no_more ms ns [] rest more empty joined reads = (sym (joined ∙ append-nil ms), reads.whole)
    no_more ms ns (m ∷ later) rest more empty joined reads = absurd (omega arith)

-- a reading to where no request begins has the most requests
pub reading_most : (bytes : List ℕ) (ms ns : List Message) (rest more : List ℕ)
    → IsReading bytes ms rest → IsReading bytes ns more → BeginsNoRequest rest → length ns ≤ length ms
reading_most bytes ms ns rest more first second end =
    at_most (length ns) (length ms) (λ fewer.
    let front = reading_front bytes ms ns rest more first second (omega arith) in
    let len = ap length front.1 ∙ length-append ms front.0 in
    goes_on front.0 rest more (omega arith) front.2 end)
  where
    goes_on : (later : List Message) (rest more : List ℕ) → 0 < length later → IsReading rest later more
        → BeginsNoRequest rest → ⊥
    goes_on [] rest more some reads end = absurd (omega arith)
    goes_on (m ∷ later) rest more some reads end =
        end m (flat_map print_message later ++ more) reads.each.0
        (reads.whole ∙ append_assoc (print_message m) (flat_map print_message later) more)

    at_most : (a b : ℕ) → (b < a → ⊥) → a ≤ b
    at_most a b not_more = omega arith

-- two readings to where no request begins are the same
pub reading_unique : (bytes : List ℕ) (ms ns : List Message) (rest more : List ℕ)
    → IsReading bytes ms rest → IsReading bytes ns more → BeginsNoRequest rest → BeginsNoRequest more
    → (ms ≡ ns) × (rest ≡ more)
reading_unique bytes ms ns rest more first second end other_end =
    let fewer : length ns ≤ length ms = reading_most bytes ms ns rest more first second end in
    let more_of : length ms ≤ length ns = reading_most bytes ns ms more rest second first other_end in
    reading_same bytes ms ns rest more first second (omega arith)

-- no message's text is a proper front of another's
pub no_proper_front : (m n : Message) (more : List ℕ) → IsMessage m → IsMessage n
    → print_message m ++ more ≡ print_message n → more ≡ []
no_proper_front m n more m_is n_is front =
    (message_unique (print_message n) m n more [] m_is n_is (sym front) (sym (append-nil (print_message n)))).1
