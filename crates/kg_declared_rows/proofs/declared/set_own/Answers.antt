use Rattle.std.proofs.Common.{[], ◌∷◌, codes, ap, ◌∙◌, refl}
use Rattle.serde_json.specs.View.{members_view}
use Rattle.kg_row_types.specs.declared.entity.Kind.TheVariants as kind
use Rattle.kg_declared_rows.specs.Rows.{listed, without}
use Rattle.kg_declared_rows.proofs.DeclaredLemmas.{listed_after}
use Rattle.kg_declared_rows.proofs.declared.set_own.Goals as goal

pub returns : goal.returns
returns c =
    let all = members_view c.args.declaration.now.entries in
    let taken_1 = c.set_list.ensures.left in
    let taken_2 = c.set_list-2.ensures.left ∙ ap (without (codes "routes")) taken_1 in
    let taken_3 = c.set_list-3.ensures.left ∙ ap (without (codes "consumers")) taken_2 in
    let taken_4 = c.set_list-4.ensures.left ∙ ap (without (codes "keyauth_credentials")) taken_3 in
    let taken_5 = c.set_list-5.ensures.left ∙ ap (without (codes "basicauth_credentials")) taken_4 in
    let taken_6 = c.set_list-6.ensures.left ∙ ap (without (codes "acls")) taken_5 in
    let names_1 = codes "services" ∷ [] in
    let names_2 = codes "routes" ∷ names_1 in
    let names_3 = codes "consumers" ∷ names_2 in
    let names_4 = codes "keyauth_credentials" ∷ names_3 in
    let names_5 = codes "basicauth_credentials" ∷ names_4 in
    let names_6 = codes "acls" ∷ names_5 in
    record {
      services = c.in_ok-set_list.ensures.rows;
      routes = c.in_ok-set_list-2.ensures.rows ∙ ap (listed kind.Route (codes "routes")) taken_1
          ∙ listed_after kind.Route (codes "routes") names_1 all refl;
      consumers = c.in_ok-set_list-3.ensures.rows ∙ ap (listed kind.Consumer (codes "consumers")) taken_2
          ∙ listed_after kind.Consumer (codes "consumers") names_2 all refl;
      keys = c.in_ok-set_list-4.ensures.rows ∙ ap (listed kind.KeyCred (codes "keyauth_credentials")) taken_3
          ∙ listed_after kind.KeyCred (codes "keyauth_credentials") names_3 all refl;
      logins = c.in_ok-set_list-5.ensures.rows ∙ ap (listed kind.BasicCred (codes "basicauth_credentials")) taken_4
          ∙ listed_after kind.BasicCred (codes "basicauth_credentials") names_4 all refl;
      acls = c.in_ok-set_list-6.ensures.rows ∙ ap (listed kind.Acl (codes "acls")) taken_5
          ∙ listed_after kind.Acl (codes "acls") names_5 all refl;
      plugins = c.in_ok-set_list-7.ensures.rows ∙ ap (listed kind.Plugin (codes "plugins")) taken_6
          ∙ listed_after kind.Plugin (codes "plugins") names_6 all refl;
    }
