use Rattle.std.proofs.Common.{◌<◌, ◌≤◌, nat_lt, sym, ap, ◌∙◌, arith, lt-ltb, le-ltb}
use Rattle.kg_level1.specs.Entries.{Kept}
use Rattle.kg_level1.proofs.DropLemmas.{absent_stays, old_goes, young_stays}
use Rattle.kg_level1.proofs.dropping.drop_key.Goals as goal

pub returns-in_default-clause-entries : goal.returns-in_default-clause-entries
returns-in_default-clause-entries g c = sym (absent_stays (g.K.PartialEq.eq c.args.key.now) (λ (v : Kept g.row.V.Denot). nat_lt v.stamp c.args.number) c.args.cache.now.entries
    (sym c.in_default.ensures))

pub returns-then-entry-number-clause-entries : goal.returns-then-entry-number-clause-entries
returns-then-entry-number-clause-entries g c =
    let earlier : c.in-Some.entry.now.stamp < c.args.number = omega (arith, ap (λ (v : Kept g.row.V.Denot). v.stamp) c.entry.view_is) in
    ap (λ m. m.entries) c.pop.ensures.entries
    ∙ sym (old_goes g.K.PartialEq.eq g.met.K.CopyKey.eq_is_same (λ (v : Kept g.row.V.Denot). nat_lt v.stamp c.args.number) c.args.key.now c.args.cache.now.entries
    c.in-Some.entry.now c.len-len.ensures.valid.0 (sym c.in-Some.ensures) (lt-ltb c.in-Some.entry.now.stamp c.args.number earlier))

pub returns-else-entry-number-clause-entries : goal.returns-else-entry-number-clause-entries
returns-else-entry-number-clause-entries g c =
    let later : c.args.number ≤ c.in-Some.entry.now.stamp = omega (arith, ap (λ (v : Kept g.row.V.Denot). v.stamp) c.entry.view_is) in
    sym (young_stays g.K.PartialEq.eq g.met.K.CopyKey.eq_is_same (λ (v : Kept g.row.V.Denot). nat_lt v.stamp c.args.number) c.args.key.now c.args.cache.now.entries
    c.in-Some.entry.now c.len-len.ensures.valid.0 (sym c.in-Some.ensures) (le-ltb c.in-Some.entry.now.stamp c.args.number later))
