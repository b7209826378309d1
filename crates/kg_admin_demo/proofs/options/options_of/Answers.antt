use Rattle.std.proofs.Common.{sym, ap, ◌∙◌}
use Rattle.kg_admin_demo.specs.Words.{with_option}
use Rattle.kg_admin_demo.proofs.WordLemmas.{words_on}
use Rattle.kg_admin_demo.proofs.options.options_of.Goals as goal

-- one more option is set
pub loop-rest-preserved : goal.loop-rest-preserved
loop-rest-preserved c =
    words_on c.loop-rest.rest.now c.name-item.result c.value-item.result c.loop-rest.options c.set.new.options
    c.in-len2-up.len_at_least c.name-item.is c.value-item.is
    (ap (λ name. with_option c.loop-rest.options name c.value-item.result) (sym c.as_str.ensures)
    ∙ ap (with_option c.loop-rest.options c.as_str.result.now) (sym c.as_str-in-len2-up.ensures)
    ∙ c.in_ok-set.ensures.set c.if-not-branch.false)
    ∙ c.loop-rest.invariant
