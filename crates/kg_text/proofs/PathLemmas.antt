-- The normal form of a path is a path, and when it is the path itself.
use Rattle.std.proofs.Common.{◌≡◌, ℕ, ◌+◌, ◌<◌, ◌≤◌, Bool, true, false, cond, eqb, List, [], ◌∷◌, ◌++◌, length, drop, get_or, refl, sym, ap, ◌∙◌, arith, Ok, Err, Result, IsAscii}
use Rattle.std.specs.List.{list_all}
use Rattle.std.specs.Char.{to_ascii_uppercase}
use Rattle.std.proofs.lemmas.Bool.{and_parts, and_from, cond-true, cond-false, eqb-true}
use Rattle.std.proofs.lemmas.Bool.Decides.{nat_tests}
use Rattle.std.proofs.lemmas.List.{length-append}
use Rattle.std.proofs.lemmas.List.Elements.{All-weaker}
use Rattle.std.proofs.lemmas.List.Folds.{list_all-append}
use Rattle.std.proofs.lemmas.List.Sums.{AllPass-from_list_all}
use Rattle.std.proofs.lemmas.Str.Ascii.{IsAscii-from_all}
use Rattle.kg_text.specs.Paths.{slash, percent_sign, is_unreserved, is_path_byte, is_path, is_escape, escaped_byte, normal_escape, normal_escapes, segments, kept, ends_open, without_dots, path_len, normal_form}
use Rattle.kg_text.specs.Segments.{spelled}
use Rattle.kg_text.specs.Escapes.{begins_escape}
use Rattle.kg_text.proofs.EscapeLemmas.{normal_escapes-byte}
use Rattle.kg_text.proofs.SegmentLemmas.{list_all-slice_split, list_all-kept, without_dots-spelled}
use Rattle.kg_text.proofs.DotLemmas.{is_plain, length_path, dot_free_is}

-- ---- escapes

unreserved_path : (b : ℕ) → is_unreserved b ≡ true → is_path_byte b ≡ true
unreserved_path b plain = grind (arith, nat_tests)

upper_path : (b : ℕ) → is_path_byte b ≡ true → is_path_byte (to_ascii_uppercase b) ≡ true
upper_path b plain = grind (arith, nat_tests)

escape_path : (plain : Bool) (byte high low : ℕ) → (plain ≡ true → is_path_byte byte ≡ true) → is_path_byte high ≡ true → is_path_byte low ≡ true → list_all is_path_byte (cond plain (byte ∷ []) (percent_sign ∷ high ∷ low ∷ [])) ≡ true
escape_path true byte high low one first second = and_from _ _ (one refl) refl
escape_path false byte high low one first second = and_from _ _ first (and_from _ _ second refl)

read_path : (here : Bool) (b : ℕ) (front rest more : List ℕ) → is_path_byte b ≡ true → list_all is_path_byte front ≡ true → list_all is_path_byte rest ≡ true → list_all is_path_byte more ≡ true → list_all is_path_byte (cond here (front ++ rest) (b ∷ more)) ≡ true
read_path true b front rest more one all after other = list_all-append is_path_byte front rest ∙ and_from _ _ all after
read_path false b front rest more one all after other = and_from _ _ one other

escapes_path : (bytes : List ℕ) → list_all is_path_byte bytes ≡ true → list_all is_path_byte (normal_escapes bytes) ≡ true
unfolding normal_escapes
escapes_path [] all = refl
escapes_path (b ∷ []) all = all
escapes_path (b ∷ c ∷ []) all = all
escapes_path (b ∷ high ∷ low ∷ rest) all =
    let first = and_parts _ _ all in
    let second = and_parts _ _ first.1 in
    let third = and_parts _ _ second.1 in
    read_path (is_escape b high low) b (normal_escape high low) (normal_escapes rest) (normal_escapes (high ∷ low ∷ rest)) first.0
    (escape_path (is_unreserved (escaped_byte high low)) (escaped_byte high low) (to_ascii_uppercase high) (to_ascii_uppercase low) (unreserved_path (escaped_byte high low)) (upper_path high second.0) (upper_path low third.0))
    (escapes_path rest third.1)
    (escapes_path (high ∷ low ∷ rest) first.1)

escape_short : (plain : Bool) (byte high low : ℕ) → length (cond plain (byte ∷ []) (percent_sign ∷ high ∷ low ∷ [])) ≤ 3
escape_short true byte high low = omega arith
escape_short false byte high low = omega arith

read_short : (here : Bool) (b n : ℕ) (front rest more : List ℕ) → length front ≤ 3 → length rest ≤ n → length more ≤ n + 2 → length (cond here (front ++ rest) (b ∷ more)) ≤ n + 3
read_short true b n front rest more short after other = omega (arith, length-append front rest)
read_short false b n front rest more short after other = omega arith

escapes_short : (bytes : List ℕ) → length (normal_escapes bytes) ≤ length bytes
unfolding normal_escapes
escapes_short [] = omega arith
escapes_short (b ∷ []) = omega arith
escapes_short (b ∷ c ∷ []) = omega arith
escapes_short (b ∷ high ∷ low ∷ rest) =
    let n = length rest in
    let short = read_short (is_escape b high low) b n (normal_escape high low) (normal_escapes rest) (normal_escapes (high ∷ low ∷ rest)) (escape_short (is_unreserved (escaped_byte high low)) (escaped_byte high low) (to_ascii_uppercase high) (to_ascii_uppercase low)) (escapes_short rest) (let more = escapes_short (high ∷ low ∷ rest) in omega arith) in
    omega arith

-- the first slash begins no escape
pub escapes_first : (path : List ℕ) → eqb (get_or path 0 0) slash ≡ true → (rest : List ℕ) × (normal_escapes path ≡ slash ∷ rest)
escapes_first [] first = cc
escapes_first (b ∷ rest) first =
    let is_slash = eqb-true b slash first in
    let none = ap (λ x. begins_escape (x ∷ rest)) is_slash in
    (normal_escapes rest, normal_escapes-byte (b ∷ rest) b rest refl none ∙ ap (λ x. x ∷ normal_escapes rest) is_slash)

slash_stays : (path : List ℕ) → eqb (get_or path 0 0) slash ≡ true → eqb (get_or (normal_escapes path) 0 0) slash ≡ true
slash_stays path first = ap (λ bytes. eqb (get_or bytes 0 0) slash) (escapes_first path first).1

-- ---- dots

spelled_path : (q : ℕ → Bool) (parts : List (List ℕ)) → q slash ≡ true → list_all (list_all q) parts ≡ true → list_all q (spelled parts) ≡ true
spelled_path q [] one all = refl
spelled_path q (part ∷ parts) one all =
    let both = and_parts _ _ all in
    and_from _ _ one (list_all-append q part (spelled parts) ∙ and_from _ _ both.0 (spelled_path q parts one both.1))

ending_path : (q : ℕ → Bool) (ends : Bool) → q slash ≡ true → list_all q (cond ends (slash ∷ []) []) ≡ true
ending_path q true one = and_from _ _ one refl
ending_path q false one = refl

dots_path : (path : List ℕ) → list_all is_path_byte path ≡ true → list_all is_path_byte (without_dots path) ≡ true
dots_path path all =
    let q = is_path_byte in
    let parts = list_all-kept (list_all q) [] (segments path) refl (list_all-slice_split q (λ b. eqb b slash) (drop 1 path) (list_all-drop path all)) in
    ap (list_all q) (without_dots-spelled path)
    ∙ list_all-append q (spelled (kept (segments path))) (cond (ends_open (segments path)) (slash ∷ []) [])
    ∙ and_from _ _ (spelled_path q (kept (segments path)) refl parts) (ending_path q (ends_open (segments path)) refl)
  where
    list_all-drop : (path : List ℕ) → list_all is_path_byte path ≡ true → list_all is_path_byte (drop 1 path) ≡ true
    list_all-drop [] all = refl
    list_all-drop (b ∷ rest) all = (and_parts _ _ all).1

-- ---- the normal form

-- the normal form of a path is a path
pub normal_form_is_path : (path : List ℕ) → is_path path ≡ true → is_path (without_dots (normal_escapes path)) ≡ true
normal_form_is_path path h =
    and_from _ _ refl (dots_path (normal_escapes path) (escapes_path path (and_parts _ _ h).1))

path_byte_ascii : (b : ℕ) → is_path_byte b ≡ true → b < 128
path_byte_ascii b h = grind (arith, nat_tests)

-- a path is ASCII
pub path_ascii : (path : List ℕ) → is_path path ≡ true → IsAscii path
path_ascii path h =
    IsAscii-from_all path (All-weaker (λ b. is_path_byte b ≡ true) (λ b. b < 128) path_byte_ascii path (AllPass-from_list_all is_path_byte path (and_parts _ _ h).1))

pub normal_form_of : (path : List ℕ) → is_path path ≡ true → normal_form path ≡ Ok (without_dots (normal_escapes path))
unfolding normal_form
normal_form_of path h = cond-true (is_path path) _ _ h

pub no_normal_form : (path : List ℕ) → is_path path ≡ false → normal_form path ≡ Err (path_len path)
unfolding normal_form
no_normal_form path h = cond-false (is_path path) _ _ h

-- a path with nothing to rewrite is its own normal form
pub normal_from_parts : (path : List ℕ) → is_path path ≡ true → normal_escapes path ≡ path → without_dots path ≡ path → normal_form path ≡ Ok path
normal_from_parts path h escapes dots =
    normal_form_of path h ∙ ap (λ bytes. Ok (without_dots bytes)) escapes ∙ ap Ok dots

-- what has a normal form is a path
pub path_from_form : (path form : List ℕ) → normal_form path ≡ Ok form → (is_path path ≡ true) × (without_dots (normal_escapes path) ≡ form)
unfolding normal_form
path_from_form path form e = by_test (is_path path) (without_dots (normal_escapes path)) (path_len path) form e
  where
    by_test : (test : Bool) (text : List ℕ) (at : ℕ) (form : List ℕ) → ◌≡◌ {A = Result (List ℕ) ℕ} (cond test (Ok text) (Err at)) (Ok form) → (test ≡ true) × (text ≡ form)
    by_test true text at form e = (refl, cc)
    by_test false text at form e = (cc, cc)

-- the normal form of a path is no longer than the path
pub normal_form_within : (path : List ℕ) → is_path path ≡ true → length (without_dots (normal_escapes path)) ≤ length path
normal_form_within path h =
    let escaped = normal_escapes path in
    omega (arith, length_path escaped (slash_stays path (and_parts _ _ h).0), escapes_short path)

-- the normal form of a path is the path only where neither step rewrites: each may only shorten it
pub parts_of_normal : (path : List ℕ) → normal_form path ≡ Ok path → (is_path path ≡ true) × (normal_escapes path ≡ path) × (without_dots path ≡ path)
parts_of_normal path e =
    let form = path_from_form path path e in
    let escaped = normal_escapes path in
    let first = slash_stays path (and_parts _ _ form.0).0 in
    let shorter = length_path escaped first in
    let plain = plain_from_cost (is_plain false (segments escaped)) (omega (arith, shorter, escapes_short path, ap length form.1)) in
    let same = sym ((dot_free_is escaped first true plain).0 refl) ∙ form.1 in
    (form.0, same, ap without_dots (sym same) ∙ form.1)
  where
    plain_from_cost : (plain : Bool) → cond plain 0 1 ≤ 0 → plain ≡ true
    plain_from_cost true none = refl
    plain_from_cost false none = absurd (omega (arith, none))
