-- the first field of the name keeps its place when the others go
use Rattle.std.proofs.Common.{◌≡◌, ◌<◌, length, slice_set, slice_index_or, sym, ap, ◌∙◌, arith}
use Rattle.std.specs.List.{position_or_len}
use Rattle.kg_text.specs.ListChanges.{one_changed}
use Rattle.kg_text.proofs.ListChangeLemmas.{first_is_within, first_changed, none_changed, any_at_place, none_at_end}
use Rattle.kg_message.specs.HeaderLists.{is_named, with_value}
use Rattle.kg_message.proofs.headers.replace_value.Goals as goal

pub returns-then-first-len-clause-found : goal.returns-then-first-len-clause-found
returns-then-first-len-clause-found c =
    let at : c.len_before-first.result ≡ position_or_len (is_named c.args.name.now) c.args.fields.now.items = rw c.deref.ensures.value at c.len_before-first.ensures.place in
    let end : position_or_len (is_named c.args.name.now) c.args.fields.now.items ≡ length c.args.fields.now.items =
    omega (arith, at, c.if-first-len.true, c.len.ensures, c.args.fields.now.ok.0) in
    sym (none_at_end (is_named c.args.name.now) c.args.fields.now.items end)

pub returns-then-first-len-clause-fields : goal.returns-then-first-len-clause-fields
returns-then-first-len-clause-fields c =
    let at : c.len_before-first.result ≡ position_or_len (is_named c.args.name.now) c.args.fields.now.items = rw c.deref.ensures.value at c.len_before-first.ensures.place in
    let end : position_or_len (is_named c.args.name.now) c.args.fields.now.items ≡ length c.args.fields.now.items =
    omega (arith, at, c.if-first-len.true, c.len.ensures, c.args.fields.now.ok.0) in
    sym (none_changed (is_named c.args.name.now) (with_value c.args.value) c.args.fields.now.items end)

pub index_mut-requires : goal.index_mut-requires
index_mut-requires c =
    let at : c.len_before-first.result ≡ position_or_len (is_named c.args.name.now) c.args.fields.now.items = rw c.deref.ensures.value at c.len_before-first.ensures.place in
    let within : position_or_len (is_named c.args.name.now) c.args.fields.now.items < length c.args.fields.now.items =
    omega (arith, at, c.len_before-first.ensures.within, ap length c.deref.ensures.value, c.if-first-len.false, c.len.ensures, c.args.fields.now.ok.0) in
    let there = first_is_within (is_named c.args.name.now) c.args.fields.now.items within in
    omega (arith, at, there, ap length c.drop_later.ensures, c.drop_later.new.fields.ok.0)

pub returns-clause-found : goal.returns-clause-found
returns-clause-found c =
    let at : c.len_before-first.result ≡ position_or_len (is_named c.args.name.now) c.args.fields.now.items = rw c.deref.ensures.value at c.len_before-first.ensures.place in
    let within : position_or_len (is_named c.args.name.now) c.args.fields.now.items < length c.args.fields.now.items =
    omega (arith, at, c.len_before-first.ensures.within, ap length c.deref.ensures.value, c.if-first-len.false, c.len.ensures, c.args.fields.now.ok.0) in
    sym (any_at_place (is_named c.args.name.now) c.args.fields.now.items within)

pub returns-clause-fields : goal.returns-clause-fields
returns-clause-fields c =
    let p = is_named c.args.name.now in
    let fields = c.args.fields.now.items in
    let kept = one_changed p (λ field. field) fields in
    let field = c.index_mut.result.now in
    let change = with_value c.args.value in
    let at : c.len_before-first.result ≡ position_or_len (is_named c.args.name.now) c.args.fields.now.items = rw c.deref.ensures.value at c.len_before-first.ensures.place in
    let within : position_or_len (is_named c.args.name.now) c.args.fields.now.items < length c.args.fields.now.items =
    omega (arith, at, c.len_before-first.ensures.within, ap length c.deref.ensures.value, c.if-first-len.false, c.len.ensures, c.args.fields.now.ok.0) in
    ap (λ x. slice_set c.drop_later.new.fields.items c.len_before-first.result (change x)) c.index_mut.ensures.value
    ∙ ap (λ l. slice_set l c.len_before-first.result (change (slice_index_or l c.len_before-first.result field))) c.drop_later.ensures
    ∙ ap (λ n. slice_set kept n (change (slice_index_or kept n field))) at
    ∙ first_changed p change fields field within
