-- How `normal_escapes` goes over the front of the bytes.
use Rattle.std.proofs.Common.{◌≡◌, ◌≢◌, ℕ, Bool, true, false, ◌&&◌, cond, List, [], ◌∷◌, ◌++◌, length, refl, sym, ap, ◌∙◌}
use Rattle.std.specs.Char.{is_digit, to_ascii_uppercase}
use Rattle.std.proofs.lemmas.Bool.{cond-true, cond-false, and_from, true≢false}
use Rattle.kg_text.specs.Paths.{percent_sign, is_unreserved, is_escape, escaped_byte, normal_escape, normal_escapes}
use Rattle.kg_text.specs.Escapes.{begins_escape, StartsEscape}

pub normal_escapes-nil : (bytes : List ℕ) → length bytes ≡ 0 → normal_escapes bytes ≡ []
unfolding normal_escapes
normal_escapes-nil [] none = refl
normal_escapes-nil (b ∷ rest) none = cc

-- an escape at the front becomes its normal form
pub normal_escapes-escape : (bytes : List ℕ) (high low : ℕ) (rest : List ℕ) → StartsEscape bytes high low rest → normal_escapes bytes ≡ normal_escape high low ++ normal_escapes rest
unfolding normal_escapes
normal_escapes-escape bytes high low rest h =
    ap normal_escapes h.parts ∙ cond-true (is_digit high 16 && is_digit low 16) _ _ (and_from _ _ h.high_digit h.low_digit)

kept_byte : (b : ℕ) (rest : List ℕ) → begins_escape (b ∷ rest) ≡ false → normal_escapes (b ∷ rest) ≡ b ∷ normal_escapes rest
unfolding normal_escapes
kept_byte b [] h = refl
kept_byte b (c ∷ []) h = refl
kept_byte b (high ∷ low ∷ rest) h = cond-false (is_escape b high low) _ _ h

-- a byte that begins no escape stays
pub normal_escapes-byte : (bytes : List ℕ) (b : ℕ) (rest : List ℕ) → bytes ≡ b ∷ rest → begins_escape bytes ≡ false → normal_escapes bytes ≡ b ∷ normal_escapes rest
normal_escapes-byte bytes b rest e none = ap normal_escapes e ∙ kept_byte b rest (sym (ap begins_escape e) ∙ none)

-- no escape stands for `%`, so one that becomes a single byte has another front
same_front : (plain : Bool) (byte high low up_high up_low : ℕ) (xs ys : List ℕ) → (plain ≡ true → byte ≢ percent_sign) → cond plain (byte ∷ []) (percent_sign ∷ up_high ∷ up_low ∷ []) ++ xs ≡ percent_sign ∷ high ∷ low ∷ ys → (cond plain (byte ∷ []) (percent_sign ∷ up_high ∷ up_low ∷ []) ≡ percent_sign ∷ high ∷ low ∷ []) × (xs ≡ ys)
same_front true byte high low up_high up_low xs ys ne e = absurd (ne refl cc)
same_front false byte high low up_high up_low xs ys ne e = (cc, cc)

-- bytes that begin with an escape are normal just where the escape and the rest are
pub normal_escapes-escape_same : (bytes : List ℕ) (high low : ℕ) (rest : List ℕ) → StartsEscape bytes high low rest → normal_escapes bytes ≡ bytes → (normal_escape high low ≡ percent_sign ∷ high ∷ low ∷ []) × (normal_escapes rest ≡ rest)
normal_escapes-escape_same bytes high low rest h same =
    same_front (is_unreserved (escaped_byte high low)) (escaped_byte high low) high low (to_ascii_uppercase high) (to_ascii_uppercase low) (normal_escapes rest) rest
    (λ plain e. true≢false (sym plain ∙ ap is_unreserved e))
    (sym (normal_escapes-escape bytes high low rest h) ∙ same ∙ h.parts)

pub normal_escapes-escape_kept : (bytes : List ℕ) (high low : ℕ) (rest : List ℕ) → StartsEscape bytes high low rest → normal_escape high low ≡ percent_sign ∷ high ∷ low ∷ [] → normal_escapes rest ≡ rest → normal_escapes bytes ≡ bytes
normal_escapes-escape_kept bytes high low rest h normal same =
    normal_escapes-escape bytes high low rest h ∙ rw (normal, same) (sym h.parts)
