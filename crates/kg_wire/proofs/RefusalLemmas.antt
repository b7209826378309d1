-- What is refused stays refused, and is never a request that was cut off.
use Rattle.std.proofs.Common.{◌≡◌, ℕ, ◌+◌, ◌-◌, ◌<◌, ◌≤◌, ◌⊎◌, inl, inr, Bool, List, [], ◌∷◌, ◌++◌, length, take, drop, Some, refl, sym, ap, ◌∙◌, subst, arith}
use Rattle.std.specs.Prelude.{IsTrue}
use Rattle.std.proofs.Math.Seq.{take-append-add}
use Rattle.std.proofs.lemmas.List.{append-nil, append_assoc, length-append, length-take, take-append-le, take-append-drop}
use Rattle.std.proofs.lemmas.List.Elements.{All-nil, All-cons, All-head, All-tail}
use Rattle.std.proofs.lemmas.Str.{IsUtf8-from_ascii}
use Rattle.std.proofs.lemmas.Str.Ascii.{IsAscii-cons, IsAscii-nil}
use Rattle.httparse.specs.Grammar.{LineEnd, lf, is_uri_byte, AllPass, IsToken, print_end, print_blank, print_version, print_section, RequestHead, IsRequestHead, print_request, ReadsRequest, HasNoRequest, NeverHasRequest, MayBecomeRequest, EndsInTarget}
use Rattle.httparse.proofs.GrammarLemmas.{ReadsRequest-append, request_unique}
use Rattle.kg_wire.specs.Checks.{body_len}
use Rattle.kg_wire.specs.Messages.{most_head, most_body, head_of, BeginsNoRequest, NeverBegins}
use Rattle.kg_wire.specs.Refusals.{IsBad, IsCut}
use Rattle.kg_wire.proofs.JudgeLemmas.{head_some}
use Rattle.kg_wire.proofs.MessageLemmas.{head_reads}

-- of two fronts of a text, one is a front of the other
fronts : (a b c d : List ℕ) → a ++ b ≡ c ++ d
    → ((x : List ℕ) × (c ≡ a ++ x)) ⊎ ((x : List ℕ) × (a ≡ c ++ x) × (d ≡ x ++ b))
fronts [] b c d same = inl (c, refl)
fronts (a ∷ xs) b [] d same = inr (a ∷ xs, refl, sym same)
fronts (a ∷ xs) b (c ∷ zs) d same =
    let first : a ≡ c = cc in
    let others : xs ++ b ≡ zs ++ d = cc in
    behind a c first xs zs b d (fronts xs b zs d others)
  where
    behind : (a c : ℕ) → a ≡ c → (xs zs b d : List ℕ)
        → ((x : List ℕ) × (zs ≡ xs ++ x)) ⊎ ((x : List ℕ) × (xs ≡ zs ++ x) × (d ≡ x ++ b))
        → ((x : List ℕ) × (c ∷ zs ≡ (a ∷ xs) ++ x)) ⊎ ((x : List ℕ) × (a ∷ xs ≡ (c ∷ zs) ++ x) × (d ≡ x ++ b))
    behind a c first xs zs b d (inl (x, is)) = inl (x, λ i. sym first i ∷ is i)
    behind a c first xs zs b d (inr (x, is, rest)) = inr (x, (λ i. first i ∷ is i), rest)

-- what passes of a whole passes of its front
pass_front : (test : ℕ → Bool) (front rest : List ℕ) → AllPass test (front ++ rest) → AllPass test front
pass_front test [] rest all = All-nil (λ b. IsTrue (test b))
pass_front test (b ∷ front) rest all =
    All-cons (λ b. IsTrue (test b)) b front (All-head (λ b. IsTrue (test b)) b (front ++ rest) all)
    (pass_front test front rest (All-tail (λ b. IsTrue (test b)) b (front ++ rest) all))

-- a head of this method, whose target is `/`
abbrev short_head : List LineEnd → List ℕ → RequestHead
short_head blank method = record { blank = blank; method = method; target = 47 ∷ []; minor = 0; line_end = lf; fields = []; last = lf }

-- what stands behind its method and the space
abbrev short_rest : List ℕ
short_rest = 47 ∷ 32 ∷ print_version 0 ++ print_end lf ++ print_section [] lf

short_is : (blank : List LineEnd) (method : List ℕ) → IsToken method → IsRequestHead (short_head blank method)
short_is blank method token = record {
  method = token;
  target = (omega arith, All-cons (λ b. IsTrue (is_uri_byte b)) 47 [] refl (All-nil (λ b. IsTrue (is_uri_byte b))));
  target_text = IsUtf8-from_ascii _ (IsAscii-cons 47 [] (omega arith) IsAscii-nil);
  minor = omega arith;
  fields = All-nil _;
}

short_text : (blank : List LineEnd) (method : List ℕ)
    → print_request (short_head blank method) ≡ (print_blank blank ++ method ++ 32 ∷ []) ++ short_rest
unfolding print_request
short_text blank method = regroup (print_blank blank ++ method)
  where
    regroup : (front : List ℕ) → front ++ 32 ∷ 47 ∷ [] ++ 32 ∷ print_version 0 ++ print_end lf ++ print_section [] lf
        ≡ (front ++ 32 ∷ []) ++ (47 ∷ 32 ∷ print_version 0 ++ print_end lf ++ print_section [] lf)
    regroup front = simp append_assoc

-- where nothing that begins so is a head, a target that is open at the end was open before
target_open_before : (bytes more : List ℕ) → NeverHasRequest bytes → EndsInTarget (bytes ++ more) → EndsInTarget bytes
target_open_before bytes more never (blank, method, target, token, uri, is) =
    by_fronts blank method target token uri
    (fronts bytes more (print_blank blank ++ method ++ 32 ∷ []) target
    (is ∙ sym (append_assoc (print_blank blank ++ method) (32 ∷ []) target)))
  where
    by_fronts : (blank : List LineEnd) (method target : List ℕ) → IsToken method → AllPass is_uri_byte target
        → ((x : List ℕ) × (print_blank blank ++ method ++ 32 ∷ [] ≡ bytes ++ x))
        ⊎ ((x : List ℕ) × (bytes ≡ (print_blank blank ++ method ++ 32 ∷ []) ++ x) × (target ≡ x ++ more))
        → EndsInTarget bytes
    by_fronts blank method target token uri (inl (x, front)) =
        absurd (never (x ++ short_rest) (short_head blank method) [] (
          short_is blank method token,
          sym (append_assoc bytes x short_rest) ∙ ap (λ text. text ++ short_rest) (sym front) ∙ sym (short_text blank method)
              ∙ sym (append-nil (print_request (short_head blank method))),
        ))
    by_fronts blank method target token uri (inr (x, front, rest)) = (
      blank,
      method,
      x,
      token,
      pass_front is_uri_byte x more (subst (AllPass is_uri_byte) rest uri),
      front ∙ append_assoc (print_blank blank ++ method) (32 ∷ []) x,
    )

-- what never is a head isn't one as it is
pub none_yet : (bytes : List ℕ) → NeverHasRequest bytes → HasNoRequest bytes
none_yet bytes never = subst HasNoRequest (append-nil bytes) (never [])

-- a head is in as many bytes as it has
pub reads_in_front : (n : ℕ) (bytes : List ℕ) (h : RequestHead) (rest : List ℕ) → ReadsRequest bytes h rest
    → length (print_request h) ≤ n → ReadsRequest (take n bytes) h (take (n - length (print_request h)) rest)
reads_in_front n bytes h rest reads short =
    let text = print_request h in
    let size : n ≡ length text + (n - length text) = omega arith in
    (reads.0, ap (take n) reads.1 ∙ ap (λ k. take k (text ++ rest)) size ∙ take-append-add text rest (n - length text))

-- what holds no head holds none in its front
pub none_in_front : (n : ℕ) (bytes : List ℕ) → HasNoRequest bytes → HasNoRequest (take n bytes)
none_in_front n bytes none h rest reads =
    none h (rest ++ drop n bytes)
    (subst (λ text. ReadsRequest text h (rest ++ drop n bytes)) (take-append-drop n bytes)
    (ReadsRequest-append (take n bytes) h rest (drop n bytes) reads))

-- a front is the same, whatever stands behind the whole
same_front : (n : ℕ) (bytes more : List ℕ) → n ≤ length bytes → HasNoRequest (take n bytes) → HasNoRequest (take n (bytes ++ more))
same_front n bytes more long none = subst HasNoRequest (sym (take-append-le n bytes more long)) none

-- a head that is longer than so many bytes isn't in them
pub none_shorter : (n : ℕ) (bytes : List ℕ) (h : RequestHead) (rest : List ℕ) → ReadsRequest bytes h rest
    → n < length (print_request h) → HasNoRequest (take n bytes)
none_shorter n bytes h rest reads long k after found =
    let whole : ReadsRequest bytes k (after ++ drop n bytes) =
    subst (λ text. ReadsRequest text k (after ++ drop n bytes)) (take-append-drop n bytes)
    (ReadsRequest-append (take n bytes) k after (drop n bytes) found) in
    let same = (request_unique bytes h k rest (after ++ drop n bytes) reads whole).0 in
    let len = ap (λ head. length (print_request head)) same in
    let fits = ap length found.1 ∙ length-append (print_request k) after in
    omega (arith, length-take n bytes)

-- what is refused has bytes
pub bad_some : (bytes : List ℕ) → IsBad bytes → 0 < length bytes
bad_some bytes (inl not_head) = not_head.some
bad_some bytes (inr (inl long)) = let held = long.long in omega arith
bad_some bytes (inr (inr wrong)) = head_some bytes wrong.head wrong.after wrong.reads

-- and so has what is cut off
pub cut_some : (bytes : List ℕ) → IsCut bytes → 0 < length bytes
cut_some bytes (inl part) = part.some
cut_some bytes (inr part) = head_some bytes part.head part.after part.reads

-- what is refused is refused whatever follows
pub bad_stays : (bytes more : List ℕ) → IsBad bytes → IsBad (bytes ++ more)
bad_stays bytes more (inl not_head) = inl (record {
  some = let some = not_head.some in omega (arith, length-append bytes more);
  never = λ later. subst HasNoRequest (sym (append_assoc bytes more later)) (not_head.never (more ++ later));
  closed = λ ends. not_head.closed (target_open_before bytes more not_head.never ends);
})
bad_stays bytes more (inr (inl long)) = inr (inl (record {
  long = let held = long.long in omega (arith, length-append bytes more);
  none = same_front most_head bytes more long.long long.none;
}))
bad_stays bytes more (inr (inr wrong)) = inr (inr (record {
  head = wrong.head;
  after = wrong.after ++ more;
  reads = ReadsRequest-append bytes wrong.head wrong.after more wrong.reads;
  short_head = wrong.short_head;
  wrong = wrong.wrong;
}))

-- what is refused isn't cut off
pub bad_not_cut : (bytes : List ℕ) → IsBad bytes → IsCut bytes → ⊥
bad_not_cut bytes (inl not_head) (inl part) = by_end part.may
  where
    by_end : MayBecomeRequest bytes → ⊥
    by_end (inl (more, h, reads)) = not_head.never more h [] reads
    by_end (inr ends) = not_head.closed ends
bad_not_cut bytes (inl not_head) (inr part) = none_yet bytes not_head.never part.head part.after part.reads
bad_not_cut bytes (inr (inl long)) (inl part) = let held = long.long in let short = part.short in omega arith
bad_not_cut bytes (inr (inl long)) (inr part) =
    long.none part.head _ (reads_in_front most_head bytes part.head part.after part.reads part.short_head)
bad_not_cut bytes (inr (inr wrong)) (inl part) = part.none wrong.head wrong.after wrong.reads
bad_not_cut bytes (inr (inr wrong)) (inr part) =
    let same = (request_unique bytes wrong.head part.head wrong.after part.after wrong.reads part.reads).0 in
    let past : most_body < part.len = wrong.wrong part.len (ap (λ head. body_len (head_of head)) same ∙ part.states) in
    let fits = part.short_body in
    omega arith

-- no request begins what is refused
pub bad_begins_none : (bytes : List ℕ) → IsBad bytes → BeginsNoRequest bytes
bad_begins_none bytes (inl not_head) m rest is whole =
    none_yet bytes not_head.never m.head (m.body ++ rest) (head_reads m bytes rest is.message whole)
bad_begins_none bytes (inr (inl long)) m rest is whole =
    long.none m.head _ (reads_in_front most_head bytes m.head (m.body ++ rest) (head_reads m bytes rest is.message whole) is.short_head)
bad_begins_none bytes (inr (inr wrong)) m rest is whole =
    let reads = head_reads m bytes rest is.message whole in
    let same = (request_unique bytes wrong.head m.head wrong.after (m.body ++ rest) wrong.reads reads).0 in
    let past : most_body < length m.body =
    wrong.wrong (length m.body) (ap (λ head. body_len (head_of head)) same ∙ is.message.framed) in
    let fits = is.short_body in
    omega arith

-- nor what is cut off
pub cut_begins_none : (bytes : List ℕ) → IsCut bytes → BeginsNoRequest bytes
cut_begins_none bytes (inl part) m rest is whole = part.none m.head (m.body ++ rest) (head_reads m bytes rest is.message whole)
cut_begins_none bytes (inr part) m rest is whole =
    let reads = head_reads m bytes rest is.message whole in
    let same = request_unique bytes part.head m.head part.after (m.body ++ rest) part.reads reads in
    let lens : Some part.len ≡ Some (length m.body) =
    sym part.states ∙ ap (λ head. body_len (head_of head)) same.0 ∙ is.message.framed in
    let len : part.len ≡ length m.body = cc in
    let size = ap length same.1 in
    let short = part.part in
    omega (arith, length-append m.body rest)

-- and none ever does
pub bad_never_begins : (bytes : List ℕ) → IsBad bytes → NeverBegins bytes
bad_never_begins bytes bad more = bad_begins_none (bytes ++ more) (bad_stays bytes more bad)
