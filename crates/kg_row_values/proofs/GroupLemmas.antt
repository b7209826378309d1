-- The groups of a consumer, told by what each list has of the other.
use Rattle.std.proofs.Common.{Contains, ◌↔◌, ◌≡◌, ℕ, Bool, true, ◌||◌, ◌&&◌, ◌==◌, List, [], ◌∷◌, map, filter, All, refl, sym, ap, ◌∙◌, is_eq, nat_cmp}
use Rattle.std.proofs.lemmas.Cmp.{eq_by_cmp_equiv, nat_list_cmp_total}
use Rattle.std.proofs.lemmas.List.Elements.{All-nil, All-cons}
use Rattle.std.proofs.lemmas.List.Folds.{list_all-map}
use Rattle.std.proofs.lemmas.Map.Lookups.{exact_bytes}
use Rattle.std.proofs.lemmas.Map.Text.{is_eq-slice_cmp}
use Rattle.std.proofs.lemmas.Map.Views.{Contains-from_any, list_any-from_Contains, tells_apart}
use Rattle.std.specs.Cmp.Lexicographic.{slice_cmp}
use Rattle.std.specs.BTreeSet.{insert_key}
use Rattle.std.specs.List.{fold, list_any, list_all}
use Rattle.std.specs.Str.{bytes_eq}
use Rattle.kg_row_types.specs.RowLists.{RowLists}
use Rattle.kg_row_types.specs.declared.consumer.AclRow.{AclRow}
use Rattle.kg_row_types.specs.declared.key.Key.{Key}
use Rattle.kg_row_types.specs.declared.key.Key.TheVariants.{Cred, Basic, Consumer, Named, Acls}
use Rattle.kg_row_values.specs.ByteOrder.{IsInByteOrder, in_byte_order}
use Rattle.kg_row_values.specs.Values.{groups_of, value_of}
use Rattle.kg_row_values.specs.Watching.{IsOrderly, watched_at}
use Rattle.kg_row_values.specs.declared.watch.Watched.{Watched}
use Rattle.kg_tables.proofs.SetLemmas.{both, fold_is_order, has_order, sorted_order, same_sorted, included, includes_itself}

-- the rows of a consumer
abbrev pub rows_of : ℕ → List AclRow → List AclRow
rows_of consumer acls = filter (λ row. row.consumer == consumer) acls

-- their groups
abbrev groups_in : ℕ → List AclRow → List (List ℕ)
groups_in consumer acls = map (λ row. row.group) (rows_of consumer acls)

-- the text is one of them, by the order of bytes
abbrev has : List ℕ → List (List ℕ) → Bool
has t xs = list_any (λ x. is_eq (slice_cmp nat_cmp t x)) xs

same_has : (t : List ℕ) (xs : List (List ℕ)) → list_any (bytes_eq t) xs ≡ has t xs
same_has t [] = refl
same_has t (x ∷ xs) =
    ap (λ b. b || list_any (bytes_eq t) xs) (sym (is_eq-slice_cmp t x)) ∙ ap (λ b. is_eq (slice_cmp nat_cmp t x) || b) (same_has t xs)

all_same : {X : Type 0} (p q : X → Bool) → ((x : X) → p x ≡ q x) → (xs : List X) → list_all p xs ≡ list_all q xs
all_same p q same [] = refl
all_same p q same (x ∷ xs) = ap (λ b. b && list_all p xs) (same x) ∙ ap (λ b. q x && b) (all_same p q same xs)

-- texts that are put in one after another stand in byte order
pub bytes_in_order : (texts : List (List ℕ)) → fold (insert_key (slice_cmp nat_cmp)) [] texts ≡ in_byte_order texts
bytes_in_order texts = fold_is_order nat_list_cmp_total exact_bytes texts

pub ordered_texts : (texts : List (List ℕ)) → IsInByteOrder (in_byte_order texts)
ordered_texts texts = sorted_order nat_list_cmp_total exact_bytes texts

pub contains_texts : (texts : List (List ℕ)) (text : List ℕ) → Contains (in_byte_order texts) text ↔ Contains texts text
contains_texts texts text =
    let same = has_order nat_list_cmp_total exact_bytes text texts in (
      (λ there. Contains-from_any (tells_apart exact_bytes) text texts (sym same ∙ list_any-from_Contains (eq_by_cmp_equiv nat_list_cmp_total) text (in_byte_order texts) there)),
      (λ there. Contains-from_any (tells_apart exact_bytes) text (in_byte_order texts) (same ∙ list_any-from_Contains (eq_by_cmp_equiv nat_list_cmp_total) text texts there)),
    )

any_group : (p : List ℕ → Bool) (rows : List AclRow) → list_any (λ row. p row.group) rows ≡ list_any p (map (λ row. row.group) rows)
any_group p [] = refl
any_group p (row ∷ rows) = ap (λ b. p row.group || b) (any_group p rows)

module _ (consumer : ℕ) (acls : List AclRow) (groups : List (List ℕ)) where
  -- each group of the consumer is among them
  abbrev pub among : Bool
  among = list_all (λ row. list_any (bytes_eq row.group) groups) (rows_of consumer acls)

  -- each of them is a group of the consumer
  abbrev pub each : Bool
  each = list_all (λ group. list_any (λ row. bytes_eq group row.group) (rows_of consumer acls)) groups

  among_is : among ≡ list_all (λ g. has g groups) (groups_in consumer acls)
  among_is =
      sym (list_all-map (λ g. list_any (bytes_eq g) groups) (λ row. row.group) (rows_of consumer acls))
      ∙ all_same (λ g. list_any (bytes_eq g) groups) (λ g. has g groups) (λ g. same_has g groups) (groups_in consumer acls)

  each_is : each ≡ list_all (λ g. has g (groups_in consumer acls)) groups
  each_is =
      all_same (λ group. list_any (λ row. bytes_eq group row.group) (rows_of consumer acls)) (λ g. has g (groups_in consumer acls))
      (λ g. any_group (bytes_eq g) (rows_of consumer acls) ∙ same_has g (groups_in consumer acls)) groups

  -- a text is in the set exactly where it is a group
  in_set : (t : List ℕ) → has t (groups_of consumer acls) ≡ has t (groups_in consumer acls)
  in_set t = has_order nat_list_cmp_total exact_bytes t (groups_in consumer acls)

  pub groups_same : IsInByteOrder groups → among ≡ true → each ≡ true → groups_of consumer acls ≡ groups
  groups_same sorted one other =
      same_sorted nat_list_cmp_total exact_bytes (groups_of consumer acls) groups
      (sorted_order nat_list_cmp_total exact_bytes (groups_in consumer acls)) sorted
      (λ t. in_set t ∙ both (has t (groups_in consumer acls)) (has t groups)
      (included nat_list_cmp_total exact_bytes (groups_in consumer acls) groups (sym among_is ∙ one) t)
      (included nat_list_cmp_total exact_bytes groups (groups_in consumer acls) (sym each_is ∙ other) t))

  pub groups_among : groups_of consumer acls ≡ groups → among ≡ true
  groups_among same =
      among_is ∙ includes_itself nat_list_cmp_total exact_bytes (groups_in consumer acls) groups
      (λ t there. ap (has t) (sym same) ∙ in_set t ∙ there)

  pub groups_each : groups_of consumer acls ≡ groups → each ≡ true
  groups_each same =
      each_is ∙ includes_itself nat_list_cmp_total exact_bytes groups (groups_in consumer acls)
      (λ t there. sym (in_set t) ∙ ap (has t) same ∙ there)

-- the groups of a consumer stand in byte order
pub groups_ordered : (consumer : ℕ) (acls : List AclRow) → IsInByteOrder (groups_of consumer acls)
groups_ordered consumer acls = sorted_order nat_list_cmp_total exact_bytes (groups_in consumer acls)

-- the values of keys are orderly
orderly : (rows : RowLists) (k : Key) → IsOrderly (value_of rows k)
orderly rows (Cred t) = tt {0}
orderly rows (Basic t) = tt {0}
orderly rows (Consumer i) = tt {0}
orderly rows (Named t) = tt {0}
orderly rows (Acls i) = groups_ordered i rows.acls

pub all_orderly : (rows : RowLists) (ks : List Key) → All (λ w. IsOrderly w.before) (map (watched_at rows) ks)
all_orderly rows [] = All-nil (λ (w : Watched). IsOrderly w.before)
all_orderly rows (k ∷ ks) =
    All-cons (λ (w : Watched). IsOrderly w.before) (watched_at rows k) (map (watched_at rows) ks) (orderly rows k) (all_orderly rows ks)
