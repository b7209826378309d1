-- The place after some bytes tells whether they end in a target.
use Rattle.std.proofs.Common.{◌≡◌, ℕ, ◌==◌, Bool, true, false, if◌then◌else◌, List, [], ◌∷◌, ◌++◌, refl, sym, ap, ◌∙◌, subst, arith}
use Rattle.std.specs.Prelude.{IsTrue, ⊤}
use Rattle.std.specs.List.{fold}
use Rattle.std.proofs.lemmas.Bool.{eqb-true, ne_eqb}
use Rattle.std.proofs.lemmas.List.{append-nil, append_assoc, length-append}
use Rattle.std.proofs.lemmas.List.Elements.{All-nil, All-push, All-head, All-tail}
use Rattle.std.proofs.lemmas.List.Sums.{fold-append}
use Rattle.std.proofs.lemmas.Grind.{flat_map-append}
use Rattle.httparse.specs.Grammar.{LineEnd, crlf, lf, is_token_byte, is_uri_byte, AllPass, IsToken, print_end, print_blank, EndsInTarget}
use Rattle.httparse.proofs.PieceLemmas.{space_ends_token}
use Rattle.kg_text.specs.Names.{is_tchar}
use Rattle.kg_wire.specs.OpenTargets.{next_state}
use Rattle.kg_wire.specs.declared.open_target.State.{State}
use Rattle.kg_wire.specs.declared.open_target.State.TheVariants.{Blank, Return, Method, Target, Elsewhere}

-- ---- what a place says of the bytes before it

abbrev IsState : State → List ℕ → Type 0
IsState Blank text = (blank : List LineEnd) × (text ≡ print_blank blank)
IsState Return text = (blank : List LineEnd) × (text ≡ print_blank blank ++ 13 ∷ [])
IsState Method text = (blank : List LineEnd) × (method : List ℕ) × IsToken method × (text ≡ print_blank blank ++ method)
IsState Target text = EndsInTarget text
IsState Elsewhere text = ⊤

token_byte : (b : ℕ) → is_tchar b ≡ true → is_token_byte b ≡ true
unfolding is_token_byte
token_byte b is = is

-- one empty line more
blank_more : (blank : List LineEnd) (e : LineEnd) → print_blank (blank ++ e ∷ []) ≡ print_blank blank ++ print_end e
blank_more blank e =
    flat_map-append print_end blank (e ∷ []) ∙ ap (λ text. print_blank blank ++ text) (append-nil (print_end e))

from_blank : (text : List ℕ) (b : ℕ) (blank : List LineEnd) → text ≡ print_blank blank
    → (x y z : Bool) → (b == 10) ≡ x → (b == 13) ≡ y → is_tchar b ≡ z
    → IsState (if x then Blank else (if y then Return else (if z then Method else Elsewhere))) (text ++ b ∷ [])
from_blank text b blank is true y z feed other token =
    let same : b ≡ 10 = eqb-true b 10 feed in
    (blank ++ lf ∷ [], ap (λ t. t ++ b ∷ []) is ∙ ap (λ c. print_blank blank ++ c ∷ []) same ∙ sym (blank_more blank lf))
from_blank text b blank is false true z feed other token =
    let same : b ≡ 13 = eqb-true b 13 other in
    (blank, ap (λ t. t ++ b ∷ []) is ∙ ap (λ c. print_blank blank ++ c ∷ []) same)
from_blank text b blank is false false true feed other token = (
  blank,
  b ∷ [],
  (omega arith, All-push (λ c. IsTrue (is_token_byte c)) [] b (All-nil (λ c. IsTrue (is_token_byte c))) (token_byte b token)),
  ap (λ t. t ++ b ∷ []) is,
)
from_blank text b blank is false false false feed other token = tt

from_return : (text : List ℕ) (b : ℕ) (blank : List LineEnd) → text ≡ print_blank blank ++ 13 ∷ []
    → (x : Bool) → (b == 10) ≡ x → IsState (if x then Blank else Elsewhere) (text ++ b ∷ [])
from_return text b blank is true feed =
    let same : b ≡ 10 = eqb-true b 10 feed in (
      blank ++ crlf ∷ [],
      ap (λ t. t ++ b ∷ []) is ∙ append_assoc (print_blank blank) (13 ∷ []) (b ∷ [])
          ∙ ap (λ c. print_blank blank ++ 13 ∷ c ∷ []) same ∙ sym (blank_more blank crlf),
    )
from_return text b blank is false feed = tt

from_method : (text : List ℕ) (b : ℕ) (blank : List LineEnd) (method : List ℕ) → IsToken method → text ≡ print_blank blank ++ method
    → (x z : Bool) → (b == 32) ≡ x → is_tchar b ≡ z
    → IsState (if x then Target else (if z then Method else Elsewhere)) (text ++ b ∷ [])
from_method text b blank method token is true z blank_byte more =
    let same : b ≡ 32 = eqb-true b 32 blank_byte in (
      blank,
      method,
      [],
      token,
      All-nil (λ c. IsTrue (is_uri_byte c)),
      ap (λ t. t ++ b ∷ []) is ∙ ap (λ c. print_blank blank ++ method ++ c ∷ []) same,
    )
from_method text b blank method token is false true blank_byte more = (
  blank,
  method ++ b ∷ [],
  (omega (arith, token.0, length-append method (b ∷ [])), All-push (λ c. IsTrue (is_token_byte c)) method b token.1 (token_byte b more)),
  ap (λ t. t ++ b ∷ []) is ∙ append_assoc (print_blank blank) method (b ∷ []),
)
from_method text b blank method token is false false blank_byte more = tt

from_target : (text : List ℕ) (b : ℕ) (blank : List LineEnd) (method target : List ℕ) → IsToken method → AllPass is_uri_byte target
    → text ≡ print_blank blank ++ method ++ 32 ∷ target
    → (z : Bool) → is_uri_byte b ≡ z → IsState (if z then Target else Elsewhere) (text ++ b ∷ [])
from_target text b blank method target token uri is true more = (
  blank,
  method,
  target ++ b ∷ [],
  token,
  All-push (λ c. IsTrue (is_uri_byte c)) target b uri more,
  ap (λ t. t ++ b ∷ []) is ∙ append_assoc (print_blank blank ++ method) (32 ∷ target) (b ∷ []),
)
from_target text b blank method target token uri is false more = tt

step : (p : State) (text : List ℕ) (b : ℕ) → IsState p text → IsState (next_state p b) (text ++ b ∷ [])
step Blank text b (blank, is) = from_blank text b blank is (b == 10) (b == 13) (is_tchar b) refl refl refl
step Return text b (blank, is) = from_return text b blank is (b == 10) refl
step Method text b (blank, method, token, is) = from_method text b blank method token is (b == 32) (is_tchar b) refl refl
step Target text b (blank, method, target, token, uri, is) = from_target text b blank method target token uri is (is_uri_byte b) refl
step Elsewhere text b is = tt

steps : (p : State) (front rest : List ℕ) → IsState p front → IsState (fold next_state p rest) (front ++ rest)
steps p front [] is = subst (IsState p) (sym (append-nil front)) is
steps p front (b ∷ rest) is =
    subst (IsState (fold next_state (next_state p b) rest)) (append_assoc front (b ∷ []) rest)
    (steps (next_state p b) (front ++ b ∷ []) rest (step p front b is))

-- where the place is the target, the bytes end in one
pub target_ends : (bytes : List ℕ) (p : State) → p ≡ fold next_state Blank bytes → p ≡ Target → EndsInTarget bytes
target_ends bytes p is target =
    subst (λ q. IsState q bytes) (sym is ∙ target) (steps Blank [] bytes ([], refl))

-- ---- the place where the bytes end in a target

after_blank : (blank : List LineEnd) → fold next_state Blank (print_blank blank) ≡ Blank
after_blank [] = refl
after_blank (crlf ∷ blank) = after_blank blank
after_blank (lf ∷ blank) = after_blank blank

no_space : (b : ℕ) → is_token_byte b ≡ true → (b == 32) ≡ false
no_space b token = ne_eqb b 32 (λ same. let space : is_token_byte 32 ≡ true = subst (λ c. is_token_byte c ≡ true) same token in
    let ends : is_token_byte 32 ≡ false = space_ends_token in cc)

no_feed : (b : ℕ) → is_token_byte b ≡ true → (b == 10) ≡ false
unfolding is_token_byte
no_feed b token = ne_eqb b 10 (λ same. let feed : is_token_byte 10 ≡ true = subst (λ c. is_token_byte c ≡ true) same token in cc)

no_return : (b : ℕ) → is_token_byte b ≡ true → (b == 13) ≡ false
unfolding is_token_byte
no_return b token = ne_eqb b 13 (λ same. let feed : is_token_byte 13 ≡ true = subst (λ c. is_token_byte c ≡ true) same token in cc)

tchar : (b : ℕ) → is_token_byte b ≡ true → is_tchar b ≡ true
unfolding is_token_byte
tchar b is = is

in_method : (b : ℕ) → is_token_byte b ≡ true → next_state Method b ≡ Method
in_method b token = rw (no_space b token, tchar b token) refl

begins_method : (b : ℕ) → is_token_byte b ≡ true → next_state Blank b ≡ Method
begins_method b token = rw (no_feed b token, no_return b token, tchar b token) refl

in_target : (b : ℕ) → is_uri_byte b ≡ true → next_state Target b ≡ Target
in_target b uri = rw uri refl

all_method : (method : List ℕ) → AllPass is_token_byte method → fold next_state Method method ≡ Method
all_method [] all = refl
all_method (b ∷ method) all =
    ap (λ p. fold next_state p method) (in_method b (All-head (λ c. IsTrue (is_token_byte c)) b method all))
    ∙ all_method method (All-tail (λ c. IsTrue (is_token_byte c)) b method all)

after_method : (method : List ℕ) → IsToken method → fold next_state Blank method ≡ Method
after_method [] token = absurd (let some = token.0 in omega arith)
after_method (b ∷ method) token =
    ap (λ p. fold next_state p method) (begins_method b (All-head (λ c. IsTrue (is_token_byte c)) b method token.1))
    ∙ all_method method (All-tail (λ c. IsTrue (is_token_byte c)) b method token.1)

after_target : (target : List ℕ) → AllPass is_uri_byte target → fold next_state Target target ≡ Target
after_target [] all = refl
after_target (b ∷ target) all =
    ap (λ p. fold next_state p target) (in_target b (All-head (λ c. IsTrue (is_uri_byte c)) b target all))
    ∙ after_target target (All-tail (λ c. IsTrue (is_uri_byte c)) b target all)

-- where the bytes end in a target, the place is one
pub ends_target : (bytes : List ℕ) → EndsInTarget bytes → fold next_state Blank bytes ≡ Target
ends_target bytes (blank, method, target, token, uri, is) =
    ap (fold next_state Blank) is
    ∙ fold-append next_state Blank (print_blank blank ++ method) (32 ∷ target)
    ∙ ap (λ p. fold next_state p (32 ∷ target))
    (fold-append next_state Blank (print_blank blank) method
    ∙ ap (λ p. fold next_state p method) (after_blank blank) ∙ after_method method token)
    ∙ after_target target uri
