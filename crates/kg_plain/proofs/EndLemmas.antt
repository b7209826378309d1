-- Where the answering of a connection's requests ends is determined by the bytes.
use Rattle.std.proofs.Common.{◌≡◌, ℕ, ◌<◌, ◌≤◌, ◌⊎◌, inl, inr, false, true≢false, List, [], ◌∷◌, ◌++◌, length, refl, sym, ap, ◌∙◌, subst, arith}
use Rattle.std.proofs.lemmas.List.{append_assoc, append-nil, length-append}
use Rattle.kg_wire.specs.Messages.{Message, IsReading, BeginsNoRequest}
use Rattle.kg_wire.proofs.MessageLemmas.{reading_front, reading_most, reading_same}
use Rattle.kg_wire.proofs.NextLemmas.{message_some}
use Rattle.kg_wire.proofs.RefusalLemmas.{bad_begins_none, bad_not_cut, bad_some, cut_begins_none, cut_some}
use Rattle.kg_plain.specs.Replies.{EndsSo, GoOn, LastAsks, asks, most_requests}
use Rattle.kg_plain.specs.declared.answers.End.{End}
use Rattle.kg_plain.specs.declared.answers.End.TheVariants.{Closed, Asked, Spent, Bad, Cut}

-- nothing is no request
nothing_begins : BeginsNoRequest []
nothing_begins m rest is same =
    let some = message_some m rest is in
    let none = ap length same in
    absurd (omega arith)

-- a request in front of the last of those that go on goes on
goes_on_at : (before front : List Message) (m : Message) (after tail : List Message) → front ++ tail ≡ before ++ m ∷ after
    → length before < length front → GoOn front → asks m ≡ false
goes_on_at before [] m after tail same within on = absurd (omega arith)
goes_on_at [] (x ∷ front) m after tail same within on =
    let first : x ≡ m = cc in
    ap asks (sym first) ∙ on.0
goes_on_at (b ∷ before) (x ∷ front) m after tail same within on =
    let behind : front ++ tail ≡ before ++ m ∷ after = cc in
    goes_on_at before front m after tail behind (omega arith) on.1

-- where one asks for the end, not all go on
not_both : (ms : List Message) → GoOn ms → LastAsks ms → ⊥
not_both ms on last =
    let len = ap length last.joined ∙ length-append last.before (last.last ∷ []) in
    true≢false (sym last.asked
    ∙ goes_on_at last.before ms last.last [] [] (append-nil ms ∙ last.joined) (omega arith) on)

-- all of these but perhaps the last go on
pub record OnlyLastMayAsk (messages : List Message) : Type 0 where
  pub before : List Message
  pub last : List Message
  pub joined : messages ≡ before ++ last
  pub on : GoOn before
  pub one : length last ≤ 1

-- where all go on, all but the last do
pub all_on : (ms : List Message) → GoOn ms → OnlyLastMayAsk ms
all_on ms on = record { before = ms; last = []; joined = sym (append-nil ms); on = on; one = omega arith }

-- all but perhaps the last of the requests of a run that ended go on
pub only_last : (end : End) (ms : List Message) (rest : List ℕ) → EndsSo end ms rest → OnlyLastMayAsk ms
only_last Closed ms rest ends = all_on ms ends.0
only_last Asked ms rest last =
    record { before = last.before; last = last.last ∷ []; joined = last.joined; on = last.on; one = omega arith }
only_last Spent ms rest ends = all_on ms ends.0
only_last (Bad at) ms rest ends = all_on ms ends.0
only_last (Cut have) ms rest ends = all_on ms ends.0

-- why there is no further request: none begins, the last one asks for the end, or a thousand were answered
abbrev pub IsLast : List Message → List ℕ → Type 0
IsLast ms rest = (length ms ≡ most_requests) ⊎ (LastAsks ms ⊎ BeginsNoRequest rest)

pub is_last : (end : End) (ms : List Message) (rest : List ℕ) → EndsSo end ms rest → IsLast ms rest
is_last Closed ms rest (on, few, none) = inr (inr (subst BeginsNoRequest (sym none) nothing_begins))
is_last Asked ms rest last = inr (inl last)
is_last Spent ms rest (on, all) = inl all
is_last (Bad at) ms rest (on, few, bad, place) = inr (inr (bad_begins_none rest bad))
is_last (Cut have) ms rest (on, few, cut, len) = inr (inr (cut_begins_none rest cut))

-- requests that were read, all but perhaps the last of which go on, are at the front of those of a run that ended
pub front_of_whole : (bytes : List ℕ) (ms ns : List Message) (left rest : List ℕ) → IsReading bytes ms left → IsReading bytes ns rest
    → length ms ≤ most_requests → OnlyLastMayAsk ms → IsLast ns rest → length ms ≤ length ns
front_of_whole bytes ms ns left rest a b few on (inl all) = omega arith
front_of_whole bytes ms ns left rest a b few on (inr (inr none)) = reading_most bytes ns ms rest left b a none
front_of_whole bytes ms ns left rest a b few on (inr (inl last)) = at_most (length ms) (length ns) further
  where
    at_most : (m n : ℕ) → (n < m → ⊥) → m ≤ n
    at_most m n not_more = omega arith

    further : length ns < length ms → ⊥
    further more =
        let front = reading_front bytes ns ms rest left b a (omega arith) in
        let same : on.before ++ on.last ≡ last.before ++ last.last ∷ front.0 =
        sym on.joined ∙ front.1 ∙ ap (λ xs. xs ++ front.0) last.joined ∙ append_assoc last.before (last.last ∷ []) front.0 in
        let all = ap length on.joined ∙ length-append on.before on.last in
        let those = ap length last.joined ∙ length-append last.before (last.last ∷ []) in
        let one = on.one in
        true≢false (sym last.asked ∙ goes_on_at last.before on.before last.last front.0 on.last same (omega arith) on.on)

-- the requests of two runs that ended are the same, and so is the rest
pub same_whole : (bytes : List ℕ) (ms ns : List Message) (left rest : List ℕ) (end other : End) → IsReading bytes ms left → IsReading bytes ns rest
    → length ms ≤ most_requests → length ns ≤ most_requests → EndsSo end ms left → EndsSo other ns rest → (ms ≡ ns) × (left ≡ rest)
same_whole bytes ms ns left rest end other a b few less mine yours =
    let there = front_of_whole bytes ms ns left rest a b few (only_last end ms left mine) (is_last other ns rest yours) in
    let back = front_of_whole bytes ns ms rest left b a less (only_last other ns rest yours) (is_last end ms left mine) in
    reading_same bytes ms ns left rest a b (omega arith)

-- some bytes are not none
some_not_none : (rest : List ℕ) → rest ≡ [] → 0 < length rest → ⊥
some_not_none rest none some = let e : length rest ≡ 0 = ap length none in omega arith

-- two ends after the same requests are one
pub one_end : (end other : End) (ms : List Message) (rest : List ℕ) → EndsSo end ms rest → EndsSo other ms rest → end ≡ other
one_end Closed Closed ms rest a b = refl
one_end Closed Asked ms rest a b = absurd (not_both ms a.0 b)
one_end Closed Spent ms rest (on, few, none) (go, all) = absurd (omega arith)
one_end Closed (Bad place) ms rest (on, few, none) (go, less, bad, there) = absurd (some_not_none rest none (bad_some rest bad))
one_end Closed (Cut size) ms rest (on, few, none) (go, less, cut, whole) = absurd (some_not_none rest none (cut_some rest cut))
one_end Asked Closed ms rest a b = absurd (not_both ms b.0 a)
one_end Asked Asked ms rest a b = refl
one_end Asked Spent ms rest a b = absurd (not_both ms b.0 a)
one_end Asked (Bad place) ms rest a b = absurd (not_both ms b.0 a)
one_end Asked (Cut size) ms rest a b = absurd (not_both ms b.0 a)
one_end Spent Closed ms rest (on, all) (go, less, none) = absurd (omega arith)
one_end Spent Asked ms rest a b = absurd (not_both ms a.0 b)
one_end Spent Spent ms rest a b = refl
one_end Spent (Bad place) ms rest (on, all) (go, less, bad, there) = absurd (omega arith)
one_end Spent (Cut size) ms rest (on, all) (go, less, cut, whole) = absurd (omega arith)
one_end (Bad at) Closed ms rest (on, few, bad, here) (go, less, none) = absurd (some_not_none rest none (bad_some rest bad))
one_end (Bad at) Asked ms rest a b = absurd (not_both ms a.0 b)
one_end (Bad at) Spent ms rest (on, few, bad, here) (go, all) = absurd (omega arith)
one_end (Bad at) (Bad place) ms rest a b = ap Bad (a.3 ∙ sym b.3)
one_end (Bad at) (Cut size) ms rest (on, few, bad, here) (go, less, cut, whole) = absurd (bad_not_cut rest bad cut)
one_end (Cut have) Closed ms rest (on, few, cut, part) (go, less, none) = absurd (some_not_none rest none (cut_some rest cut))
one_end (Cut have) Asked ms rest a b = absurd (not_both ms a.0 b)
one_end (Cut have) Spent ms rest (on, few, cut, part) (go, all) = absurd (omega arith)
one_end (Cut have) (Bad place) ms rest (on, few, cut, part) (go, less, bad, there) = absurd (bad_not_cut rest bad cut)
one_end (Cut have) (Cut size) ms rest a b = ap Cut (a.3 ∙ sym b.3)
