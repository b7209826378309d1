-- Calls of a connection, and then further calls of it.
use Rattle.std.proofs.Common.{◌≡◌, ℕ, ◌+◌, inl, inr, List, [], ◌∷◌, ◌++◌, length, Option, refl, sym, ap, subst, ◌∙◌, arith}
use Rattle.std.proofs.lemmas.List.{append_assoc, length-append}
use Rattle.std.proofs.lemmas.Grind.{flat_map-append}
use Rattle.kg_crew.specs.AdminReplies.{Allows, Call, EndsSo, GoOn, LastAsks, LastFails, StopsIn, bytes_of, is_spent, left_behind, less, refusal_text, replies, request_in, text_of}
use Rattle.kg_crew.specs.AdminServing.{AreCalls}
use Rattle.kg_crew.specs.declared.allowance.Allowance.{Allowance}
use Rattle.kg_crew.specs.declared.end.End.{End}
use Rattle.kg_crew.specs.declared.end.End.TheVariants.{Closed, Asked, Spent, BadMessage, HeadTooLarge, BodyTooLarge, Cut, ReadFault, WriteFault, NoMemory}
use Rattle.kg_keeper.specs.Observed.{Observed}
use Rattle.kg_wire.specs.Messages.{print_message}

-- what is left behind both
pub left_append : (left : Allowance) (xs ys : List Call) → left_behind left (xs ++ ys) ≡ left_behind (left_behind left xs) ys
left_append left [] ys = refl
left_append left (x ∷ xs) ys = left_append (less left x.done.response) xs ys

-- the replies to both
pub replies_append : (left : Allowance) (xs ys : List Call) → replies left (xs ++ ys) ≡ replies left xs ++ replies (left_behind left xs) ys
replies_append left [] ys = refl
replies_append left (x ∷ xs) ys =
    let first = text_of (less left x.done.response) (request_in x.message) x.done.response in
    let more = less left x.done.response in
    ap (λ t. first ++ t) (replies_append more xs ys)
    ∙ sym (append_assoc first (replies more xs) (replies (left_behind more xs) ys))

-- both are allowed
pub allows_append : (left : Allowance) (xs ys : List Call) → Allows left xs → Allows (left_behind left xs) ys → Allows left (xs ++ ys)
allows_append left [] ys a b = b
allows_append left (x ∷ xs) ys a b = (a.0, a.1, allows_append (less left x.done.response) xs ys a.2 b)

pub on_append : (left : Allowance) (xs ys : List Call) → Allows left xs → GoOn (left_behind left xs) ys → GoOn left (xs ++ ys)
on_append left xs ys a b =
    (allows_append left xs ys a b.0, ap is_spent (left_append left xs ys) ∙ b.1)

-- both were made
pub calls_append : (before mid now : Observed) (xs ys : List Call) → AreCalls before xs mid → AreCalls mid ys now → AreCalls before (xs ++ ys) now
calls_append before mid now [] ys a b = subst (λ store. AreCalls store ys now) a b
calls_append before mid now (x ∷ xs) ys a b = (a.0, a.1, calls_append x.after mid now xs ys a.2 b)

-- how many bytes both have, behind so many
pub place_append : (start middle : ℕ) (xs ys : List Call) → middle ≡ start + length (bytes_of xs)
    → middle + length (bytes_of ys) ≡ start + length (bytes_of (xs ++ ys))
place_append start middle xs ys same =
    let both = ap length (flat_map-append (λ (call : Call). print_message call.message) xs ys) in
    omega (arith, length-append (bytes_of xs) (bytes_of ys))

-- ---- the end

-- the replies to the first are written in front of what is written behind them
whole_append : (left : Allowance) (xs ys : List Call) (text : List ℕ) → text ≡ replies (left_behind left xs) ys
    → replies left xs ++ text ≡ replies left (xs ++ ys)
whole_append left xs ys text same = ap (λ t. replies left xs ++ t) same ∙ sym (replies_append left xs ys)

stops_append : (left : Allowance) (xs ys : List Call) (next text : List ℕ) → StopsIn (replies (left_behind left xs) ys) next text
    → StopsIn (replies left (xs ++ ys)) next (replies left xs ++ text)
stops_append left xs ys next text (front, begins, same) = (
  front,
  begins,
  ap (λ t. replies left xs ++ t) same
      ∙ sym (append_assoc (replies left xs) (replies (left_behind left xs) ys) front)
      ∙ ap (λ t. t ++ front) (sym (replies_append left xs ys)),
)

asks_append : (left : Allowance) (xs ys : List Call) → Allows left xs → LastAsks (left_behind left xs) ys → LastAsks left (xs ++ ys)
asks_append left xs ys a b = record {
  before = xs ++ b.before;
  last = b.last;
  joined = ap (λ t. xs ++ t) b.joined ∙ sym (append_assoc xs b.before (b.last ∷ []));
  on = on_append left xs b.before a b.on;
  asked = b.asked;
}

fails_append : (left : Allowance) (xs ys : List Call) (text : List ℕ) → Allows left xs → LastFails (left_behind left xs) ys text
    → LastFails left (xs ++ ys) (replies left xs ++ text)
fails_append left xs ys text a b = record {
  before = xs ++ b.before;
  last = b.last;
  joined = ap (λ t. xs ++ t) b.joined ∙ sym (append_assoc xs b.before (b.last ∷ []));
  on = on_append left xs b.before a b.on;
  part = subst (λ more. StopsIn (replies left (xs ++ b.before)) (replies more (b.last ∷ [])) (replies left xs ++ text)) (sym (left_append left xs b.before))
      (stops_append left xs b.before (replies (left_behind (left_behind left xs) b.before) (b.last ∷ [])) text b.part);
}

-- the connection ends behind both as it ends behind the later ones
pub ends_append : (end : End) (start middle : ℕ) (left : Allowance) (xs ys : List Call) (ahead ahead_now : Option (List ℕ)) (text : List ℕ)
    → Allows left xs → middle ≡ start + length (bytes_of xs) → EndsSo middle (left_behind left xs) ys ahead ahead_now text end
    → EndsSo start left (xs ++ ys) ahead ahead_now (replies left xs ++ text) end
ends_append Closed start middle left xs ys ahead ahead_now text a place (on, none, same) =
    (on_append left xs ys a on, none, whole_append left xs ys text same)
ends_append Asked start middle left xs ys ahead ahead_now text a place (last, same) = (asks_append left xs ys a last, whole_append left xs ys text same)
ends_append Spent start middle left xs ys ahead ahead_now text a place (more, spent, same) =
    (allows_append left xs ys a more, ap is_spent (left_append left xs ys) ∙ spent, whole_append left xs ys text same)
ends_append (BadMessage at) start middle left xs ys ahead ahead_now text a place (on, bad, here, same) = (
  on_append left xs ys a on,
  bad,
  here ∙ place_append start middle xs ys place,
  ap (λ t. replies left xs ++ t) same
      ∙ sym (append_assoc (replies left xs) (replies (left_behind left xs) ys) refusal_text)
      ∙ ap (λ t. t ++ refusal_text) (sym (replies_append left xs ys)),
)
ends_append HeadTooLarge start middle left xs ys ahead ahead_now text a place none = absurd none
ends_append BodyTooLarge start middle left xs ys ahead ahead_now text a place none = absurd none
ends_append (Cut have) start middle left xs ys ahead ahead_now text a place (on, cut, same) =
    (on_append left xs ys a on, cut, whole_append left xs ys text same)
ends_append ReadFault start middle left xs ys ahead ahead_now text a place (on, none, same) =
    (on_append left xs ys a on, none, whole_append left xs ys text same)
ends_append WriteFault start middle left xs ys ahead ahead_now text a place (inl last) = inl (fails_append left xs ys text a last)
ends_append WriteFault start middle left xs ys ahead ahead_now text a place (inr (on, bad, part)) =
    inr (on_append left xs ys a on, bad, stops_append left xs ys refusal_text text part)
ends_append NoMemory start middle left xs ys ahead ahead_now text a place (more, same) =
    (allows_append left xs ys a more, whole_append left xs ys text same)
