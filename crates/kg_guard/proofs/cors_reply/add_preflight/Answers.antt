-- each call adds its fields behind those of the calls before it
use Rattle.std.proofs.Common.{◌≡◌, [], ◌∷◌, ◌++◌, decimal, option_map, ap, ◌∙◌, append_assoc, codes}
use Rattle.std.specs.Option.{option_or}
use Rattle.kg_message.specs.HeaderLists.{first_value}
use Rattle.kg_context.specs.Fields.{field, joined, set_field}
use Rattle.kg_guard.specs.CorsHeaders.{comma_list}
use Rattle.kg_guard.proofs.FieldLemmas.{further_added}
use Rattle.kg_guard.proofs.cors_reply.add_preflight.Goals as goal

pub returns : goal.returns
returns c =
    let old = c.args.headers.now in
    let config = c.args.config.now in
    let methods = field (codes "access-control-allow-methods") (joined (codes ",") config.methods) ∷ [] in
    let names = set_field (codes "access-control-allow-headers") (option_or (comma_list config.headers) (first_value (codes "access-control-request-headers") c.args.request.now.headers)) in
    let age = set_field (codes "access-control-max-age") (option_map decimal config.max_age) in
    let with_methods : c.add_field.new.headers ≡ c.args.headers.now ++ (field (codes "access-control-allow-methods") (joined (codes ",") c.args.config.now.methods) ∷ []) = rw (c.as_slice-2.ensures ∙ c.in_ok-methods.ensures ∙ ap (joined (codes ",")) c.as_slice.ensures) at c.in_ok-add_field.ensures in
    let with_names = rw (c.as_slice-3.ensures) at c.in_ok-add_allowed_headers.ensures ∙ ap (λ l. l ++ names) with_methods ∙ append_assoc old methods names in
    further_added c.add_max_age.result c.add_max_age.new.headers c.add_allowed_headers.new.headers old (methods ++ names) age with_names c.add_max_age.ensures
