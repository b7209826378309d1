-- What the first line is answered.
use Rattle.std.proofs.Common.{◌≡◌, ℕ, ◌≤◌, ◌⊎◌, inl, inr, false, List, [], ◌++◌, Option, Result, Ok, Err, length, refl, sym, ap, subst, ◌∙◌, arith}
use Rattle.std.specs.Prelude.{nat_lt}
use Rattle.std.proofs.lemmas.Bool.{le-ltb, lt-ltb}
use Rattle.kg_declare.specs.Outcome.{Accepted, Refused, drawn_for, outcome}
use Rattle.kg_declare.specs.declared.error.DeclareError.TheVariants as error
use Rattle.kg_message.specs.declared.response.Response.{Response}
use Rattle.kg_outside.specs.Moves.{with_end}
use Rattle.kg_plain.specs.Fronts.{IsFront}
use Rattle.kg_row_values.specs.declared.command.Command.{Command}
use Rattle.kg_lone.specs.FirstCommands.{AnswersFirst, DrawsWithin, FirstLineCall, GivesCommands, IsRefused, first_outcome, most_line, refusal_line}
use Rattle.kg_lone.specs.FirstLine.{GivesLine, line_of}
use Rattle.kg_lone.specs.LineSteps.{AnswersLine, DecidesMeant, read_outcome}
use Rattle.kg_lone.specs.declared.line.FirstLine.{FirstLine}
use Rattle.kg_lone.specs.declared.line.FirstLine.TheVariants.{Whole, TooLong}

-- ---- the line

not_past : (n : ℕ) → n ≤ most_line → nat_lt most_line n ≡ false
not_past n within = le-ltb most_line n within

-- what becomes of a line that was read is what becomes of the first line
pub read_is_first : (bytes : List ℕ) (line : FirstLine) (left : Option (List ℕ)) (now limit : ℕ) (draws : List (List ℕ))
    → GivesLine most_line bytes left line → first_outcome (line_of bytes) now limit draws ≡ read_outcome line now limit draws
unfolding first_outcome
read_is_first bytes (Whole line) left now limit draws is =
    let short : nat_lt most_line (length (line_of bytes)) ≡ false = not_past (length (line_of bytes)) (subst (λ l. length l ≤ most_line) is.is is.within) in
    rw short (ap (λ l. outcome l now limit draws) (sym is.is))
read_is_first bytes TooLong left now limit draws is = rw (lt-ltb most_line (length (line_of bytes)) is) refl

-- ---- how many ids are drawn

-- a line that is decided so draws its ids
pub within_decided : (meant : List (List ℕ) → Result Accepted Refused) (drawn : List (List ℕ)) (answer : Result Accepted Refused)
    → drawn_for answer ≡ length drawn → DecidesMeant meant drawn answer → DrawsWithin meant drawn
within_decided meant drawn answer all is = λ more. let same = ap drawn_for (is more) in omega arith

-- what is drawn within a line that was read is drawn within the first line
within_first : (bytes : List ℕ) (line : FirstLine) (left : Option (List ℕ)) (now limit : ℕ) (drawn : List (List ℕ))
    → GivesLine most_line bytes left line → DrawsWithin (read_outcome line now limit) drawn
    → DrawsWithin (first_outcome (line_of bytes) now limit) drawn
within_first bytes line left now limit drawn first within = λ more.
    let same = ap drawn_for (read_is_first bytes line left now limit (drawn ++ more) first) in
    let some = within more in
    omega arith

-- ---- what the call is answered

-- the commands, and what is left
pub gives_commands : (now limit : ℕ) (bytes : List ℕ) (left before written : Option (List ℕ)) (drawn : List (List ℕ))
    (line : FirstLine) (commands : List Command)
    → GivesLine most_line bytes left line → AnswersLine (Ok commands) (read_outcome line now limit) drawn
    → GivesCommands (record { now = now; limit = limit; bytes = bytes; left = left; before = before; written = written; drawn = drawn }) commands
gives_commands now limit bytes left before written drawn (Whole line) commands first is = record {
  declared = λ more. read_is_first bytes (Whole line) left now limit (drawn ++ more) first ∙ is more;
  after = first.after;
}
gives_commands now limit bytes left before written drawn TooLong commands first is =
    absurd (let no = is [] in cc)

-- the refusal, as far as it was written
pub tells_refusal : (now limit : ℕ) (bytes : List ℕ) (left before written : Option (List ℕ)) (drawn : List (List ℕ))
    (line : FirstLine) (response : Response) (status : ℕ)
    → GivesLine most_line bytes left line → AnswersLine (Err (error.Refused response)) (read_outcome line now limit) drawn
    → (status ≡ 3) ⊎ (status ≡ 5) ⊎ (status ≡ 6)
    → (status ≡ 3 → written ≡ with_end before (refusal_line response))
    → (status ≡ 5 → (front : List ℕ) × IsFront front (refusal_line response) × (written ≡ with_end before front))
    → (status ≡ 6 → written ≡ before)
    → AnswersFirst (record { now = now; limit = limit; bytes = bytes; left = left; before = before; written = written; drawn = drawn }) (Err status)
tells_refusal now limit bytes left before written drawn line response status first is known whole part none = by_cases known
  where
    call : FirstLineCall
    call = record { now = now; limit = limit; bytes = bytes; left = left; before = before; written = written; drawn = drawn }

    refused : IsRefused (line_of bytes) now limit drawn response
    refused more = read_is_first bytes line left now limit (drawn ++ more) first ∙ is more

    by_cases : (status ≡ 3) ⊎ (status ≡ 5) ⊎ (status ≡ 6) → AnswersFirst call (Err status)
    by_cases (inl three) = inl (three, record { response = response; refused = refused; written = whole three })
    by_cases (inr (inl five)) =
        let front = part five in
        inr (inr (inr (
          five,
          record {
            front = front.0;
            begins = record { response = response; refused = refused; begins = front.1 };
            written = front.2;
          },
        )))
    by_cases (inr (inr six)) =
        inr (inr (inl (six, within_decided (first_outcome (line_of bytes) now limit) drawn _ refl refused, none six)))

-- nothing was written for want of memory
pub tells_nothing : (now limit : ℕ) (bytes : List ℕ) (left written : Option (List ℕ)) (drawn : List (List ℕ)) (line : FirstLine)
    → GivesLine most_line bytes left line → AnswersLine (Err error.NoMemory) (read_outcome line now limit) drawn
    → AnswersFirst (record { now = now; limit = limit; bytes = bytes; left = left; before = written; written = written; drawn = drawn }) (Err 6)
tells_nothing now limit bytes left written drawn line first within =
    inr (inr (inl (refl, within_first bytes line left now limit drawn first within, refl)))
