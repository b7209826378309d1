-- each call adds its fields behind those of the calls before it
use Rattle.std.proofs.Common.{◌≡◌, List, [], ◌∷◌, ◌++◌, refl, subst, ap, ◌∙◌, append_assoc}
use Rattle.std.specs.Prelude.{OnOk, codes}
use Rattle.kg_row_types.specs.Ids.{printed}
use Rattle.kg_context.specs.Fields.{field, set_field}
use Rattle.kg_context.specs.SetConsumer.{credential_field}
use Rattle.kg_context.proofs.consumer.add_identity.Goals as goal

gathered : {X : Type 0} (fields customs names : List X) (first last : X)
    → (((fields ++ first ∷ []) ++ customs) ++ names) ++ last ∷ [] ≡ fields ++ first ∷ (customs ++ names ++ last ∷ [])
gathered fields customs names first last = simp append_assoc refl

pub returns : goal.returns
returns c =
    let old = c.args.headers.now in
    let first = field (codes "x-consumer-id") (printed c.args.consumer.now.id) in
    let customs = set_field (codes "x-consumer-custom-id") c.args.consumer.now.custom_id in
    let names = set_field (codes "x-consumer-username") c.args.consumer.now.username in
    let last = credential_field c.args.credential.now in
    let with_first : c.add_value.new.headers ≡ c.args.headers.now ++ field (codes "x-consumer-id") (printed c.args.consumer.now.id) ∷ [] = rw c.in_ok-to_bytes.ensures at c.in_ok-add_value.ensures in
    let with_customs = c.in_ok-add_set.ensures ∙ ap (λ l. l ++ customs) with_first in
    let with_names = c.in_ok-add_set-2.ensures ∙ ap (λ l. l ++ names) with_customs in
    let whole = ap (λ l. l ++ last ∷ []) with_names ∙ gathered old customs names first last in
    subst (λ l. OnOk c.add_credential.result (c.add_credential.new.headers ≡ l)) whole c.add_credential.ensures
