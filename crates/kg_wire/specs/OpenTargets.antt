-- Machinery for proofs: where in a request line some bytes end.
use Rattle.std.specs.Prelude.{ℕ, ◌==◌, if◌then◌else◌}
use Rattle.httparse.specs.Grammar.{is_uri_byte}
use Rattle.kg_text.specs.Names.{is_tchar}
use Rattle.kg_wire.specs.declared.open_target.State.{State}
use Rattle.kg_wire.specs.declared.open_target.State.TheVariants.{Blank, Return, Method, Target, Elsewhere}

-- the state after one more byte
abbrev pub next_state : State → ℕ → State
next_state Blank b = if b == 10 then Blank else (if b == 13 then Return else (if is_tchar b then Method else Elsewhere))
next_state Return b = if b == 10 then Blank else Elsewhere
next_state Method b = if b == 32 then Target else (if is_tchar b then Method else Elsewhere)
next_state Target b = if is_uri_byte b then Target else Elsewhere
next_state Elsewhere b = Elsewhere
