-- What a request and its reply say of their connection (RFC 9112, section 9.3).
use Rattle.std.specs.Prelude.{Bool, not, ◌||◌, ◌&&◌, ◌==◌, codes, if◌then◌else◌}
use Rattle.kg_message.specs.CommaLists.{lists}
use Rattle.kg_message.specs.declared.request.Request.{Request}
use Rattle.kg_print.specs.declared.connection.Keeping.{Keeping}
use Rattle.kg_print.specs.declared.connection.Keeping.TheVariants.{Silent, Close, Alive}

-- the connection is to end with the reply to this request: a Connection field lists `close`, or the
-- request is of version 1.0 and none lists `keep-alive`
abbrev pub asks_for_end : Request → Bool
asks_for_end request =
    lists (codes "connection") (codes "close") request.headers
    || (request.minor == 0 && not (lists (codes "connection") (codes "keep-alive") request.headers))

-- what the reply to this request says, where `last` tells that it is the connection's last for another
-- reason
abbrev pub keeping_of : Bool → Request → Keeping
keeping_of last request =
    if last || asks_for_end request then Close else (if request.minor == 0 then Alive else Silent)
