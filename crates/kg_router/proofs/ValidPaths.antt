-- A valid route has no bad pattern.
use Rattle.std.proofs.Common.{◌≡◌, ℕ, Bool, true, false, not, ◌&&◌, ◌||◌, List, [], ◌∷◌, drop, get_or, None, refl, sym, ap, ◌∙◌, nat_eq, true≢false, arith}
use Rattle.std.proofs.lemmas.List.Sums.{AllPass-from_list_all}
use Rattle.kg_text.proofs.PathLemmas.{no_normal_form}
use Rattle.kg_row_types.specs.Patterns.{is_pattern}
use Rattle.kg_row_types.specs.ValidRows.{IsValidRoute}
use Rattle.kg_row_types.specs.TextForms.{is_normal_path, is_regex_path, is_route_path}
use Rattle.kg_row_types.specs.declared.route.Route.{Route}
use Rattle.kg_match.specs.RoutePaths.{bad_pattern_of, has_bad_pattern}
use Rattle.kg_match.proofs.CompileLemmas.{position-none}
use Rattle.kg_router.proofs.TableLemmas.{and_left, and_right}

-- a path behind a tilde is in no normal form, since that begins with a slash
not_normal : (path : List ℕ) → is_regex_path path ≡ true → is_normal_path path ≡ false
not_normal [] regex = absurd (true≢false (sym regex))
not_normal (first ∷ rest) regex =
    ap (λ byte. is_normal_path (byte ∷ rest)) (sym (equal first (and_left (nat_eq 126 first) true regex))) ∙ behind_tilde
  where
    equal : (byte : ℕ) → nat_eq 126 byte ≡ true → 126 ≡ byte
    equal byte is = grind arith

    behind_tilde : is_normal_path (126 ∷ rest) ≡ false
    behind_tilde = rw (no_normal_form (126 ∷ rest) refl) refl

good_pattern : (path : List ℕ) → is_route_path path ≡ true → has_bad_pattern path ≡ false
good_pattern path good = by_parts (is_regex_path path) (is_normal_path path) (is_pattern (drop 1 path)) (and_right _ _ good) (not_normal path)
  where
    by_parts : (regex normal pattern : Bool) → (normal || (regex && pattern)) ≡ true → (regex ≡ true → normal ≡ false) → (regex && not pattern) ≡ false
    by_parts false normal pattern good plain = refl
    by_parts true normal true good plain = refl
    by_parts true true false good plain = plain refl
    by_parts true false false good plain = sym good

pub no_bad_pattern : (route : Route) → IsValidRoute route → bad_pattern_of route.paths ≡ None
no_bad_pattern route valid =
    position-none has_bad_pattern route.paths []
    (λ k below. good_pattern (get_or route.paths k []) (AllPass-from_list_all is_route_path route.paths (and_left _ _ (and_left _ _ valid.paths)) k [] below))
