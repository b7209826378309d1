use Rattle.kg_plain.proofs.gateway.Gateway.driven.Goals as goal

-- what its questions come to
pub returns-in-Ok : goal.returns-in-Ok
returns-in-Ok c hits stands = c.drive.ensures c.args.time c.args.request c.in-Ok.ensures hits stands
