-- An object in which nothing is broken has members that are accepted, each by itself.
use Rattle.std.proofs.Common.{◌≡◌, ℕ, if◌then◌else◌, List, [], ◌∷◌, ◌++◌, map, codes, Option, Some, None, is_some, option_and_then, refl, sym, subst, ap, ◌∙◌}
use Rattle.std.proofs.lemmas.Map.Lookups.{exact_bytes}
use Rattle.std.specs.Cmp.Lexicographic.{slice_cmp}
use Rattle.std.specs.Option.{option_map_or}
use Rattle.std.specs.Ordering.{nat_cmp, match_ordering}
use Rattle.std.specs.declared.cmp.Ordering.{Ordering}
use Rattle.std.specs.declared.cmp.Ordering.TheVariants.{Less, Equal, Greater}
use Rattle.serde_json.specs.Data.{Data, null, boolean, number, string, array, object, no_items, item, Members, no_members, member}
use Rattle.serde_json.specs.Find.{get, get_member}
use Rattle.kg_row_types.specs.declared.entity.Kind.TheVariants as kind
use Rattle.kg_field_rules.specs.TextRules.{stored}
use Rattle.kg_field_rules.specs.declared.text_kind.TextKind.{TextKind}
use Rattle.kg_field_rules.specs.declared.text_kind.TextKind.TheVariants as text_kind
use Rattle.kg_bodies.specs.Settings.{texts_at}
use Rattle.kg_field_tables.specs.Accepted.{AcceptsMembers, IsAccepted}
use Rattle.kg_field_tables.specs.BrokenRules.{violations_in, violations_inside, field_violations, field_rule, told}
use Rattle.kg_field_tables.specs.FieldTables.{field_of}
use Rattle.kg_field_rules.specs.declared.rule.Rule.{Rule}
use Rattle.kg_field_tables.specs.Judging.{is_set, judged, texts_of}
use Rattle.kg_field_tables.specs.declared.shape.Shape.TheVariants as shape
use Rattle.kg_field_tables.specs.declared.table.Table.{Table}
use Rattle.kg_field_tables.specs.declared.table.Table.TheVariants as table

nil_parts : {A : Type 0} (xs ys : List A) → xs ++ ys ≡ [] → (xs ≡ []) × (ys ≡ [])
nil_parts [] ys h = (refl, h)
nil_parts (x ∷ xs) ys h = cc

nothing_told : (path : List ℕ) (rule : Option Rule) → told path rule ≡ [] → rule ≡ None
nothing_told path None h = refl
nothing_told path (Some rule) h = cc

-- texts that compare as equal are one text
same_key : (k l : List ℕ) → slice_cmp nat_cmp k l ≡ Equal → l ≡ k
same_key k l same = sym (exact_bytes k l same)

-- the violations of the first member, and those of the rest
step : (name : List ℕ) (d : Data) (rest : Members) (table : Table) (front : List ℕ)
    → violations_in (member name d rest) table front
    ≡ told (front ++ name) (field_rule (field_of table name) d) ++ violations_inside d (field_of table name) (front ++ name) ++ violations_in rest table front
step name null rest table front = refl
step name (boolean b) rest table front = refl
step name (number n) rest table front = refl
step name (string s) rest table front = refl
step name (array ds) rest table front = refl
step name (object ms) rest table front = refl

first_violations : (name : List ℕ) (d : Data) (rest : Members) (table : Table) (front : List ℕ) → violations_in (member name d rest) table front ≡ []
    → IsAccepted table front name d × (violations_in rest table front ≡ [])
first_violations name d rest table front h =
    let itself = told (front ++ name) (field_rule (field_of table name) d) in
    let inside = violations_inside d (field_of table name) (front ++ name) in
    let parts = nil_parts (itself ++ inside) (violations_in rest table front) (sym (step name d rest table front) ∙ h) in
    let two = nil_parts itself inside parts.0 in
    (record { itself = nothing_told (front ++ name) (field_rule (field_of table name) d) two.0; inside = two.1 }, parts.1)

some_same : {A : Type 0} (x y : A) → Some x ≡ Some y → x ≡ y
some_same x y h = cc

at_order : (table : Table) (front name l : List ℕ) (d e : Data) (later : Option Data) (o : Ordering) → slice_cmp nat_cmp name l ≡ o
    → match_ordering o later (Some e) later ≡ Some d → IsAccepted table front l e → (later ≡ Some d → IsAccepted table front name d) → IsAccepted table front name d
at_order table front name l d e later Less is found here there = there found
at_order table front name l d e later Greater is found here there = there found
at_order table front name l d e later Equal is found here there =
    subst (λ x. IsAccepted table front name x) (some_same e d found) (subst (λ k. IsAccepted table front k e) (same_key name l is) here)

pub members_accepted : AcceptsMembers
members_accepted no_members table front name d h found = cc
members_accepted (member l e rest) table front name d h found =
    let parts = first_violations l e rest table front h in
    at_order table front name l d e (get_member name rest) (slice_cmp nat_cmp name l) refl found parts.0
    (λ later. members_accepted rest table front name d parts.1 later)

-- ---- the paths of a route

-- the texts of a list that breaks no rule, as they are stored
list_accepted : (kind : TextKind) (d : Data) → judged (shape.Texts kind) d ≡ None
    → option_map_or (map (stored kind)) (option_and_then texts_of (if is_set d then (if is_some (judged (shape.Texts kind) d) then None else Some d) else None)) []
    ≡ option_map_or (map (stored kind)) (texts_of d) []
list_accepted kind null ok = refl
list_accepted kind (boolean b) ok = cc
list_accepted kind (number n) ok = cc
list_accepted kind (string s) ok = cc
list_accepted kind (object ms) ok = cc
list_accepted kind (array no_items) ok = refl
list_accepted kind (array (item first rest)) ok =
    ap (λ (rule : Option Rule). option_map_or (map (stored kind)) (option_and_then texts_of (if is_some rule then None else Some (array (item first rest)))) []) ok

-- of a body in which nothing is broken
pub paths_accepted : (body : Data) → field_violations kind.Route body ≡ []
    → texts_at text_kind.RoutePath (codes "paths") body ≡ option_map_or (map (stored text_kind.RoutePath)) (option_and_then texts_of (get (codes "paths") body)) []
paths_accepted null ok = refl
paths_accepted (boolean b) ok = refl
paths_accepted (number n) ok = refl
paths_accepted (string s) ok = refl
paths_accepted (array ds) ok = refl
paths_accepted (object ms) ok = at_member (get_member (codes "paths") ms) refl
  where
    at_member : (o : Option Data) → get_member (codes "paths") ms ≡ o
        → option_map_or (map (stored text_kind.RoutePath)) (option_and_then texts_of (option_and_then (λ d. if is_set d then (if is_some (judged (shape.Texts text_kind.RoutePath) d) then None else Some d) else None) o)) []
        ≡ option_map_or (map (stored text_kind.RoutePath)) (option_and_then texts_of o) []
    at_member None is = refl
    at_member (Some d) is = list_accepted text_kind.RoutePath d (members_accepted ms table.Route [] (codes "paths") d ok is).itself
