-- Lists that compare as equal are the same.
use Rattle.std.proofs.Common.{◌≡◌, Bool, true, false, ◌&&◌, ℕ, nat_eq, List, refl, sym, ap, ap₂, true≢false}
use Rattle.std.proofs.lemmas.Slice.Eq.{bytes_eq-Decides}
use Rattle.std.specs.Bool.{Decides}
use Rattle.std.specs.Cmp.Lexicographic.{pointwise, pointwise_decides}
use Rattle.kg_row_types.specs.declared.route.HeaderTest.{HeaderTest}

pub texts_decide : (xs ys : List (List ℕ)) → Decides (pointwise (pointwise nat_eq) xs ys) (xs ≡ ys)
texts_decide = pointwise_decides bytes_eq-Decides

and_left : (a b : Bool) → (a && b) ≡ true → a ≡ true
and_left true b both = refl
and_left false b both = both

and_right : (a b : Bool) → (a && b) ≡ true → b ≡ true
and_right true b both = both
and_right false b both = absurd (true≢false (sym both))

abbrev pub same_header : HeaderTest → HeaderTest → Bool
same_header a b = pointwise nat_eq a.name b.name && pointwise (pointwise nat_eq) a.values b.values

header_decides : (a b : HeaderTest) → Decides (same_header a b) (a ≡ b)
header_decides a b =
    let name = bytes_eq-Decides a.name b.name in
    let values = texts_decide a.values b.values in
    let first = pointwise nat_eq a.name b.name in
    let second = pointwise (pointwise nat_eq) a.values b.values in (
      (λ both.
          let names : a.name ≡ b.name = name.0 (and_left first second both) in
          let lists : a.values ≡ b.values = values.0 (and_right first second both) in
          λ j. record { name = names j; values = lists j }),
      λ same. ap₂ (λ x y. x && y) (name.1 (ap (λ h. h.name) same)) (values.1 (ap (λ h. h.values) same)),
    )

pub headers_decide : (xs ys : List HeaderTest) → Decides (pointwise same_header xs ys) (xs ≡ ys)
headers_decide = pointwise_decides header_decides
