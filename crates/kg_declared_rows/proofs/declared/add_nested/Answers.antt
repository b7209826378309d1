use Rattle.std.proofs.Common.{◌++◌, ◌+◌, map, codes, ap, ◌∙◌, refl}
use Rattle.kg_row_types.specs.declared.entity.Kind.TheVariants as kind
use Rattle.kg_declared_rows.specs.Rows.{nested, stripped}
use Rattle.kg_declared_rows.specs.SeenRows.{seen_all}
use Rattle.kg_declared_rows.proofs.DeclaredLemmas.{nested_skips}
use Rattle.kg_declared_rows.proofs.declared.add_nested.Goals as goal

pub returns : goal.returns
returns c =
    let before = c.args.lists.now in
    let key = codes "keyauth_credentials" in
    let login = codes "basicauth_credentials" in
    let acl = codes "acls" in
    let first = c.in_ok-first.first in
    let number = c.in_ok-first.ensures ∙ (λ i. (c.len.ensures ∙ c.take_nested.new.rows.ok.0) i + (c.len-2.ensures ∙ c.take_nested.new.found.ok.0) i) in
    let rows = seen_all before.consumers.items in
    let keyless = c.in_ok-take_nested-2.ensures.left in
    let both = c.in_ok-take_nested-3.ensures.left ∙ ap (map (stripped login)) keyless in
    record {
      services = c.in_ok-take_nested.ensures.left;
      routes = c.in_ok-take_nested.ensures.found;
      consumers = c.in_ok-take_nested-4.ensures.left ∙ ap (map (stripped acl)) both;
      keys = c.in_ok-take_nested-2.ensures.found
          ∙ ap (λ n. seen_all before.keys.items ++ nested n kind.KeyCred key rows) number;
      logins = c.in_ok-take_nested-3.ensures.found
          ∙ ap (λ found. seen_all before.logins.items ++ found)
          (ap (nested first kind.BasicCred login) keyless ∙ nested_skips first kind.BasicCred login key rows refl
          ∙ ap (λ n. nested n kind.BasicCred login rows) number);
      acls = c.in_ok-take_nested-4.ensures.found
          ∙ ap (λ found. seen_all before.acls.items ++ found)
          (ap (nested first kind.Acl acl) both
          ∙ nested_skips first kind.Acl acl login (map (stripped key) rows) refl
          ∙ nested_skips first kind.Acl acl key rows refl
          ∙ ap (λ n. nested n kind.Acl acl rows) number);
      plugins = refl;
    }
