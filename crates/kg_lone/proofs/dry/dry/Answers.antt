use Rattle.std.proofs.Common.{◌≡◌, ◌∷◌, [], ap, ◌∙◌}
use Rattle.kg_lone.specs.DryText.{WritesText}
use Rattle.kg_lone.proofs.DryLemmas.{answered_end, answered_front, answered_short, answered_status, answered_text, answered_whole, first_status, is_three, refused_front, refused_whole}
use Rattle.kg_lone.proofs.dry.dry.Goals as goal

-- the status of each
pub returns-in-Ok-clause-statuses : goal.returns-in-Ok-clause-statuses
returns-in-Ok-clause-statuses g c = answered_status _ _ c.answered.ensures.err

pub returns-in-Err-clause-statuses : goal.returns-in-Err-clause-statuses
returns-in-Err-clause-statuses g c = first_status _ c.in-Err.ensures.statuses

-- the replies are written
pub returns-in-Ok-clause-whole : goal.returns-in-Ok-clause-whole
returns-in-Ok-clause-whole g c whole bytes seen =
    let drew = c.first_commands.ensures.line in
    answered_whole _ (WritesText (g.I.Ids.draws c.args.ids.now c.first_commands.new.ids) (g.T.Clock.reads c.args.clock.now c.answered.new.clock) bytes
    (g.K.Sink.written c.args.sink.now) (g.K.Sink.written c.answered.new.sink)) _ c.answered.ensures.err
    (answered_text _ _ _ bytes _ _ _ _ c.now-now.result drew.drawn c.in-Ok.commands _
    (rw c.in-Ok.is at (drew.says bytes seen)) (ap g.K.Sink.written c.in-Ok.ensures.unwritten) drew.moved
    (λ times read. g.met.T.Clock.reads_on _ _ _ (c.now-now.result ∷ []) times c.now-now.ensures read) c.answered.ensures.ok) whole

-- or a front of them
pub returns-in-Ok-clause-front : goal.returns-in-Ok-clause-front
returns-in-Ok-clause-front g c short bytes seen =
    let drew = c.first_commands.ensures.line in
    answered_front _ _ _ bytes _ _ _ _ c.now-now.result drew.drawn c.in-Ok.commands
    (rw c.in-Ok.is at (drew.says bytes seen)) (ap g.K.Sink.written c.in-Ok.ensures.unwritten) drew.moved
    (λ times read. g.met.T.Clock.reads_on _ _ _ (c.now-now.result ∷ []) times c.now-now.ensures read)
    (answered_short _ _ c.answered.ensures.err short)

-- up to the end
pub returns-in-Ok-clause-end : goal.returns-in-Ok-clause-end
returns-in-Ok-clause-end g c bytes seen =
    let drew = c.first_commands.ensures.line in
    answered_end _ bytes _ _ _ _ c.now-now.result drew.drawn c.in-Ok.commands _ (rw c.in-Ok.is at (drew.says bytes seen)) c.answered.ensures.ok

-- the refusal is written
pub returns-in-Err-clause-whole : goal.returns-in-Err-clause-whole
returns-in-Err-clause-whole g c whole bytes seen =
    let drew = c.first_commands.ensures.line in
    refused_whole _ _ bytes _ _ _ c.now-now.result drew.drawn c.in-Err.status drew.moved c.now-now.ensures whole
    (rw c.in-Err.is at (drew.says bytes seen))

-- or a front of it
pub returns-in-Err-clause-front : goal.returns-in-Err-clause-front
returns-in-Err-clause-front g c short bytes seen =
    let drew = c.first_commands.ensures.line in
    refused_front _ _ bytes _ _ _ c.now-now.result drew.drawn c.in-Err.status drew.moved c.now-now.ensures short
    (rw c.in-Err.is at (drew.says bytes seen))

-- no fault was counted
pub returns-in-Ok-clause-kept : goal.returns-in-Ok-clause-kept
returns-in-Ok-clause-kept g c whole =
    let same = answered_whole _ (λ status. (g.S.Source.faults c.answered.new.source ≡ g.S.Source.faults c.first_commands.new.source)
    × (g.K.Sink.faults c.answered.new.sink ≡ g.K.Sink.faults c.first_commands.new.sink)) _ c.answered.ensures.err c.answered.ensures.kept whole in
    (same.0 ∙ c.in-Ok.ensures.kept, same.1 ∙ ap g.K.Sink.faults c.in-Ok.ensures.unwritten)

pub returns-in-Err-clause-kept : goal.returns-in-Err-clause-kept
returns-in-Err-clause-kept g c whole = c.in-Err.ensures.refused (is_three _ c.in-Err.ensures.statuses whole)
