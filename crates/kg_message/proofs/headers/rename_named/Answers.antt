-- there are as many names left as fields that want one
use Rattle.std.proofs.Common.{◌≡◌, ◌+◌, ◌-◌, ◌<◌, vec_len, true, false, cond, length, drop, replicate, slice_index_or, slice_set, sym, ap, ◌∙◌, arith, rules, tests}
use Rattle.std.specs.List.{count_by}
use Rattle.std.proofs.lemmas.List.{length-replicate, length-set, set-get_or}
use Rattle.kg_text.proofs.ListChangeLemmas.{count_here, count_later, not_reached, changed_further, same_at}
use Rattle.kg_message.specs.HeaderLists.{is_named, with_name}
use Rattle.kg_message.proofs.RenameLemmas.{pile_last, pile_left}
use Rattle.kg_message.proofs.headers.rename_named.Goals as goal
use Rattle.kg_message.proofs.headers.rename_named.Goals.{then-same+in-Some, else-same}

pub unreachable-requires : goal.unreachable-requires
unreachable-requires c =
    let p = is_named c.args.old.now in
    let all = c.args.fields.now.items in
    let field = c.index.result.now in
    let within : c.loop-i.i < length c.args.fields.now.items =
    omega (arith, c.loop-i-test.true, c.len.ensures, c.loop-i.fields.ok.0, c.loop-i.invariant.0) in
    let here = c.index.ensures ∙ not_reached p (with_name c.args.new.now) all c.loop-i.fields.items c.loop-i.i field within c.loop-i.invariant.1 in
    let named : is_named c.args.old.now c.index.result.now ≡ true = search (rules, tests) in
    let left = count_here p all c.loop-i.i field within (ap p (sym here) ∙ named) in
    let names = ap length c.loop-i.invariant.2 ∙ length-replicate (count_by p (drop c.loop-i.i all)) c.args.new.now in
    c.in_default.not-Some _ (c.pop.ensures.value c.args.new.now (omega (arith, left, names, c.loop-i.names.ok.0)))

pub loop-i-preserved : goal.loop-i-preserved
loop-i-preserved c =
    let p = is_named c.args.old.now in
    let new = c.args.new.now in
    let change = with_name c.args.new.now in
    let all = c.args.fields.now.items in
    let fields = c.loop-i.fields.items in
    let i = c.loop-i.i in
    let field = c.index.result.now in
    let at = slice_index_or c.args.fields.now.items c.loop-i.i c.index.result.now in
    let within : c.loop-i.i < length c.args.fields.now.items =
    omega (arith, c.loop-i-test.true, c.len.ensures, c.loop-i.fields.ok.0, c.loop-i.invariant.0) in
    let as_it_was = not_reached p change all fields i field within c.loop-i.invariant.1 in
    let here = c.index.ensures ∙ as_it_was in
    let further = changed_further p change all fields i field within c.loop-i.invariant.1 in
    elim c.if-same.branch [
      | then-same+in-Some w ↦
          let named : is_named c.args.old.now c.index.result.now ≡ true = search (rules, tests) in
          let named_here = ap p (sym here) ∙ named in
          let same = w.index_mut.ensures.value ∙ same_at fields i w.index_mut.result.now field (omega (arith, within, c.loop-i.invariant.0)) ∙ sym c.index.ensures in
          let left = count_here p all i field within named_here in
          let names = ap length c.loop-i.invariant.2 ∙ length-replicate (count_by p (drop i all)) new in
          let last = w.pop.ensures.value new (omega (arith, left, names, c.loop-i.names.ok.0)) in
          let popped = pile_last (count_by p (drop i all)) (vec_len c.loop-i.names - 1) new c.loop-i.names.items c.loop-i.invariant.2 in
          let name : w.in-Some.name ≡ c.args.new.now = cc in (
            ap (λ v. length v.items) w.fields-is ∙ length-set fields i _ ∙ c.loop-i.invariant.0,
            ap (λ v. v.items) w.fields-is
                ∙ ap (λ n. slice_set fields i (with_name n w.index_mut.result.now)) name
                ∙ ap (λ x. slice_set fields i (change x)) (same ∙ here)
                ∙ ap (λ t. slice_set fields i (cond t (change at) at)) (sym named_here)
                ∙ further,
            ap (λ v. v.items) w.names-is
                ∙ pile_left (count_by p (drop i all)) (count_by p (drop (i + 1) all)) _ new c.loop-i.names.items _ c.loop-i.invariant.2 left c.loop-i.names.ok.0 w.pop.ensures.rest,
          )
      | else-same w ↦
          let named : is_named c.args.old.now c.index.result.now ≡ false = search (rules, tests) in
          let named_here = ap p (sym here) ∙ named in (
            ap (λ v. length v.items) w.fields-is ∙ c.loop-i.invariant.0,
            ap (λ v. v.items) w.fields-is
                ∙ sym (set-get_or fields i field)
                ∙ ap (λ x. slice_set fields i x) as_it_was
                ∙ ap (λ t. slice_set fields i (cond t (change at) at)) (sym named_here)
                ∙ further,
            ap (λ v. v.items) w.names-is
                ∙ c.loop-i.invariant.2
                ∙ ap (λ k. replicate k new) (count_later p all i field within named_here),
          )
    ]
