-- How long a head is at least.
use Rattle.std.proofs.Common.{◌≡◌, ℕ, ◌*◌, ◌<◌, ◌≤◌, List, [], ◌∷◌, length, ap, ◌∙◌, arith}
use Rattle.std.specs.Prelude.{All}
use Rattle.std.specs.List.{flat_map}
use Rattle.std.proofs.lemmas.List.{length-append}
use Rattle.std.proofs.lemmas.List.Elements.{All-head, All-tail}
use Rattle.httparse.specs.Grammar.{LineEnd, crlf, lf, print_end, Field, print_field, IsField, RequestHead, IsRequestHead, print_request, ReadsRequest, HasNoRequest}

end_long : (e : LineEnd) → 1 ≤ length (print_end e)
end_long crlf = omega arith
end_long lf = omega arith

-- a field line has three bytes at least
section_long : (fields : List Field) → All IsField fields → 3 * length fields ≤ length (flat_map print_field fields)
section_long [] all = omega arith
section_long (f ∷ fields) all =
    let first = All-head IsField f fields all in
    let ends = end_long f.end in
    let rest = section_long fields (All-tail IsField f fields all) in
    let some = first.name.0 in
    simp length-append (omega arith)

-- a head has more than three bytes for each field
pub head_long : (h : RequestHead) → IsRequestHead h → 3 * length h.fields < length (print_request h)
unfolding print_request
head_long h is =
    let lines = section_long h.fields is.fields in
    let ends = end_long h.last in
    simp length-append (omega arith)

-- where a head stands at the front, there are bytes
pub head_some : (bytes : List ℕ) (h : RequestHead) (rest : List ℕ) → ReadsRequest bytes h rest → 0 < length bytes
head_some bytes h rest reads =
    let long = head_long h reads.0 in
    let len = ap length reads.1 ∙ length-append (print_request h) rest in
    omega arith

-- no head stands where there are no bytes
pub nothing_begins : (bytes : List ℕ) → length bytes ≡ 0 → HasNoRequest bytes
nothing_begins bytes none h rest reads =
    let some = head_some bytes h rest reads in
    omega arith
