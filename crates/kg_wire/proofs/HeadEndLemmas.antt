-- A whole head ends in a line that isn't empty and an empty one, so where none is missed none is there.
use Rattle.std.proofs.Common.{◌≡◌, ◌≢◌, ℕ, ◌+◌, ◌-◌, ◌<◌, ◌≤◌, false, true≢false, List, [], ◌∷◌, ◌++◌, length, take, refl, sym, ap, ◌∙◌, subst, arith}
use Rattle.std.specs.Prelude.{All, IsTrue, codes}
use Rattle.std.specs.List.{flat_map}
use Rattle.std.proofs.lemmas.List.{append-nil, append_assoc, length-append, take_at}
use Rattle.std.proofs.lemmas.List.Elements.{All-head, All-tail}
use Rattle.httparse.specs.Grammar.{LineEnd, crlf, lf, print_end, print_blank, print_version, Field, IsField, is_value_byte, print_field, RequestHead, IsRequestHead, print_request, HasNoRequest}
use Rattle.kg_wire.specs.HeadEnds.{EndsHead, EndsInText, HasNoReturn}
use Rattle.kg_wire.proofs.RefusalLemmas.{reads_in_front}

-- lists that are the same have the same last member and the same front
pub same_last : (xs ys : List ℕ) (x y : ℕ) → xs ++ x ∷ [] ≡ ys ++ y ∷ [] → (xs ≡ ys) × (x ≡ y)
same_last [] [] x y same = (refl, cc)
same_last [] (b ∷ ys) x y same = let size = ap length same in absurd (omega (arith, length-append ys (y ∷ [])))
same_last (a ∷ xs) [] x y same = let size = ap length same in absurd (omega (arith, length-append xs (x ∷ [])))
same_last (a ∷ xs) (b ∷ ys) x y same =
    let first : a ≡ b = cc in
    let others : xs ++ x ∷ [] ≡ ys ++ y ∷ [] = cc in
    let both = same_last xs ys x y others in
    ((λ i. first i ∷ both.0 i), both.1)

-- a text ends in no carriage return
pub text_no_return : (line : List ℕ) → EndsInText line → HasNoReturn line
text_no_return line text front is = text.no_return (same_last text.front front text.last 13 (sym text.is ∙ is)).1

-- nor does a line end
pub line_no_return : (line : List ℕ) (end : LineEnd) → HasNoReturn (line ++ print_end end)
line_no_return line crlf front is =
    let last = (same_last (line ++ 13 ∷ []) front 10 13 (append_assoc line (13 ∷ []) (10 ∷ []) ∙ is)).1 in
    omega arith
line_no_return line lf front is =
    let last = (same_last line front 10 13 is).1 in
    omega arith

-- a line without its end, as its last bytes show it
pub line_stripped : (bytes front line got : List ℕ) (last : ℕ) (end : LineEnd) → bytes ≡ front ++ last ∷ [] → HasNoReturn line
    → bytes ≡ line ++ print_end end → (HasNoReturn front → got ≡ front) → ((l : List ℕ) → front ≡ l ++ 13 ∷ [] → got ≡ l) → got ≡ line
line_stripped bytes front line got last crlf here clean is same shorter =
    shorter line (same_last front (line ++ 13 ∷ []) last 10 (sym here ∙ is ∙ sym (append_assoc line (13 ∷ []) (10 ∷ [])))).0
line_stripped bytes front line got last lf here clean is same shorter =
    let front_is = (same_last front line last 10 (sym here ∙ is)).0 in
    same (subst HasNoReturn (sym front_is) clean) ∙ front_is

-- the last byte of a line's end is a line feed
pub feed_at_end : (bytes front line : List ℕ) (last : ℕ) (end : LineEnd) → bytes ≡ front ++ last ∷ [] → bytes ≡ line ++ print_end end → last ≡ 10
feed_at_end bytes front line last crlf here is =
    (same_last front (line ++ 13 ∷ []) last 10 (sym here ∙ is ∙ sym (append_assoc line (13 ∷ []) (10 ∷ [])))).1
feed_at_end bytes front line last lf here is = (same_last front line last 10 (sym here ∙ is)).1

-- what ends in a text does so behind other bytes
text_behind : (front back : List ℕ) → EndsInText back → EndsInText (front ++ back)
text_behind front back text = record {
  front = front ++ text.front;
  last = text.last;
  is = ap (λ bytes. front ++ bytes) text.is ∙ sym (append_assoc front text.front (text.last ∷ []));
  no_return = text.no_return;
  no_feed = text.no_feed;
}

-- the bytes end in a line that isn't empty
record EndsInLine (bytes : List ℕ) : Type 0 where
  line : List ℕ
  text : EndsInText line
  end : LineEnd
  is : bytes ≡ line ++ print_end end

line_behind : (front back : List ℕ) → EndsInLine back → EndsInLine (front ++ back)
line_behind front back ends = record {
  line = front ++ ends.line;
  text = text_behind front ends.line ends.text;
  end = ends.end;
  is = ap (λ bytes. front ++ bytes) ends.is ∙ sym (append_assoc front ends.line (print_end ends.end));
}

-- bytes of a value belong to no line end
not_value : (b other : ℕ) → IsTrue (is_value_byte b) → is_value_byte other ≡ false → b ≢ other
not_value b other value none same = true≢false (sym value ∙ ap is_value_byte same ∙ none)

value_text : (b : ℕ) (bytes : List ℕ) → IsTrue (is_value_byte b) → All (λ x. IsTrue (is_value_byte x)) bytes → EndsInText (b ∷ bytes)
value_text b [] value all = record {
  front = [];
  last = b;
  is = refl;
  no_return = not_value b 13 value refl;
  no_feed = not_value b 10 value refl;
}
value_text b (x ∷ bytes) value all =
    let Passes : ℕ → Type 0 = λ y. IsTrue (is_value_byte y) in
    text_behind (b ∷ []) (x ∷ bytes) (value_text x bytes (All-head Passes x bytes all) (All-tail Passes x bytes all))

-- a field line isn't empty
field_line : (f : Field) → IsField f → EndsInLine (print_field f)
field_line f is = record {
  line = f.name ++ 58 ∷ f.raw;
  text = text_behind f.name (58 ∷ f.raw) (value_text 58 f.raw refl is.raw);
  end = f.end;
  is = refl;
}

-- nor is a line with the fields behind it
fields_line : (front : List ℕ) (fields : List Field) → All IsField fields → EndsInLine front
    → EndsInLine (front ++ flat_map print_field fields)
fields_line front [] all ends = subst EndsInLine (sym (append-nil front)) ends
fields_line front (f ∷ fields) all ends =
    subst EndsInLine (append_assoc front (print_field f) (flat_map print_field fields))
    (fields_line (front ++ print_field f) fields (All-tail IsField f fields all)
    (line_behind front (print_field f) (field_line f (All-head IsField f fields all))))

-- the version stands at the end of the first line
version_text : (minor : ℕ) → minor ≤ 1 → EndsInText (print_version minor)
version_text minor most =
    text_behind (codes "HTTP/1.") ((48 + minor) ∷ []) (record {
      front = [];
      last = 48 + minor;
      is = refl;
      no_return = λ same. omega arith;
      no_feed = λ same. omega arith;
    })

-- what stands before the fields of a head
abbrev first_line : RequestHead → List ℕ
first_line h = print_blank h.blank ++ h.method ++ 32 ∷ h.target ++ 32 ∷ print_version h.minor ++ print_end h.line_end

first_ends : (h : RequestHead) → h.minor ≤ 1 → EndsInLine (first_line h)
first_ends h most =
    let version = print_version h.minor in
    let front = print_blank h.blank ++ h.method ++ 32 ∷ h.target in
    record {
      line = front ++ 32 ∷ version;
      text = text_behind front (32 ∷ version) (text_behind (32 ∷ []) version (version_text h.minor most));
      end = h.line_end;
      is = refl;
    }

-- a head ends so
head_ends : (h : RequestHead) → IsRequestHead h → EndsHead (print_request h)
unfolding print_request
head_ends h is =
    let fields = flat_map print_field h.fields in
    let ends = fields_line (first_line h) h.fields is.fields (first_ends h is.minor) in
    record {
      line = ends.line;
      text = ends.text;
      first = ends.end;
      last = h.last;
      is = sym (append_assoc (first_line h) fields (print_end h.last)) ∙ ap (λ lines. lines ++ print_end h.last) ends.is;
    }

-- where no head ends behind the first bytes, and none is in these, there is none
pub none_missed : (bytes : List ℕ) (before : ℕ) → ((k : ℕ) → before ≤ k → k < length bytes → EndsHead (take (k + 1) bytes) → ⊥)
    → HasNoRequest (take before bytes) → HasNoRequest bytes
none_missed bytes before none front h rest reads =
    let text = print_request h in
    front h _ (reads_in_front before bytes h rest reads (at_most (length text) before further))
  where
    at_most : (m n : ℕ) → (n < m → ⊥) → m ≤ n
    at_most m n not_more = omega arith

    further : before < length (print_request h) → ⊥
    further more =
        let text = print_request h in
        let size = ap length reads.1 ∙ length-append text rest in
        let at : length text - 1 + 1 ≡ length text = omega arith in
        let here : take (length text - 1 + 1) bytes ≡ text =
        ap (λ n. take n bytes) at ∙ ap (take (length text)) reads.1 ∙ take_at text rest (length text) refl in
        none (length text - 1) (omega arith) (omega arith) (subst EndsHead (sym here) (head_ends h reads.0))
