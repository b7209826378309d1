use Rattle.kg_wire.proofs.ReaderLemmas.{ends_later, takes_later, exits}
use Rattle.kg_wire.proofs.UnreadLemmas.{bad_not_open, bad_not_start, request_is_whole, request_not_open}
use Rattle.std.proofs.Common.{refl, ◌∙◌}
use Rattle.kg_wire.proofs.reader.Reader.read.Goals as goal

pub returns-in_err-take_request-in-Some-clause-err : goal.returns-in_err-take_request-in-Some-clause-err
returns-in_err-take_request-in-Some-clause-err g c =
    let found = rw c.in-Some.is at c.in_ok-start.ensures.ok in
    let ends = c.in_err-take_request-in-Some.ensures.err in
    rw (← c.self.view_is)
    (exits _ _ _ c.from_residual-in_err-take_request-in-Some.ensures.1
    (ends_later c.self.inside.at c.self.inside.held c.next_head.new.held c.take_request.new.self.held _ _ _ _ found.1 ends))

pub returns-in_ok-take_request-in-Some-clause-ok : goal.returns-in_ok-take_request-in-Some-clause-ok
returns-in_ok-take_request-in-Some-clause-ok g c =
    let found = rw c.in-Some.is at c.in_ok-start.ensures.ok in
    rw (← c.self.view_is)
    (takes_later _ _ c.take_request.new.self _ _ _ _ found.1 refl refl c.in_ok-take_request-in-Some.ensures.ok)

pub returns-in_err-start-clause-whole : goal.returns-in_err-start-clause-whole
returns-in_err-start-clause-whole g c =
    rw (← c.self.view_is) (λ m rest is whole. c.next_head.ensures.unread (request_not_open c.self.inside.held m rest is whole))

pub returns-in_err-start-clause-refused : goal.returns-in_err-start-clause-refused
returns-in_err-start-clause-refused g c = rw (← c.self.view_is) (λ bad. c.next_head.ensures.unread (bad_not_open c.self.inside.held bad))

pub returns-in-None-clause-whole : goal.returns-in-None-clause-whole
returns-in-None-clause-whole g c =
    rw (← c.self.view_is) (λ m rest is whole. c.next_head.ensures.unread (request_not_open c.self.inside.held m rest is whole))

pub returns-in-None-clause-refused : goal.returns-in-None-clause-refused
returns-in-None-clause-refused g c = rw (← c.self.view_is) (λ bad. c.next_head.ensures.unread (bad_not_open c.self.inside.held bad))

pub returns-in_err-take_request-in-Some-clause-whole : goal.returns-in_err-take_request-in-Some-clause-whole
returns-in_err-take_request-in-Some-clause-whole g c =
    let found = rw c.in-Some.is at c.in_ok-start.ensures.ok in
    rw (← c.self.view_is)
    (λ m rest is whole.
    c.take_request.ensures.unread (request_is_whole c.self.inside.held c.next_head.new.held _ _ c.in-Some.start m rest is whole found.1 found.0)
    ∙ c.next_head.ensures.unread (request_not_open c.self.inside.held m rest is whole))

pub returns-in_err-take_request-in-Some-clause-refused : goal.returns-in_err-take_request-in-Some-clause-refused
returns-in_err-take_request-in-Some-clause-refused g c =
    let found = rw c.in-Some.is at c.in_ok-start.ensures.ok in
    rw (← c.self.view_is)
    (λ bad. absurd (bad_not_start c.self.inside.held c.next_head.new.held _ _ c.in-Some.start bad found.1 found.0))

pub returns-in_ok-take_request-in-Some-clause-whole : goal.returns-in_ok-take_request-in-Some-clause-whole
returns-in_ok-take_request-in-Some-clause-whole g c =
    let found = rw c.in-Some.is at c.in_ok-start.ensures.ok in
    rw (← c.self.view_is)
    (λ m rest is whole.
    c.take_request.ensures.unread (request_is_whole c.self.inside.held c.next_head.new.held _ _ c.in-Some.start m rest is whole found.1 found.0)
    ∙ c.next_head.ensures.unread (request_not_open c.self.inside.held m rest is whole))

pub returns-in_ok-take_request-in-Some-clause-refused : goal.returns-in_ok-take_request-in-Some-clause-refused
returns-in_ok-take_request-in-Some-clause-refused g c =
    let found = rw c.in-Some.is at c.in_ok-start.ensures.ok in
    rw (← c.self.view_is)
    (λ bad. absurd (bad_not_start c.self.inside.held c.next_head.new.held _ _ c.in-Some.start bad found.1 found.0))
