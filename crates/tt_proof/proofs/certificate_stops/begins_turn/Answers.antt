use Rattle.std.proofs.Common.{◌<◌, arith}
use Rattle.std.proofs.lemmas.Bool.{false≢true, le-leb, leb-true}
use Rattle.tt_proof.proofs.StopLemmas.{letter_begins, letter_is_high, no_letter}
use Rattle.tt_proof.proofs.certificate_stops.begins_turn.Goals as goal

pub returns-in-Some : goal.returns-in-Some
returns-in-Some c =
    let in_board : c.in-Some.column < c.args.size.columns = rw c.columns.ensures at c.in-Some.ensures.0 in
    rw (c.rows.ensures, c.columns-in-Some.ensures) (
      λ high. letter_begins c.args.size c.args.byte c.in-Some.column in_board c.in-Some.ensures.1 c.args.least (leb-true _ _ high),
      λ first. le-leb _ _ (letter_is_high c.args.size c.args.byte c.in-Some.column in_board c.in-Some.ensures.1 c.args.least first),
    )

pub returns-in-None : goal.returns-in-None
returns-in-None c = (
  λ t. absurd (false≢true t),
  λ first. absurd (no_letter c.args.size c.args.byte c.args.least c.if-byte-eq45.false (λ n lt. c.in-None.ensures n (omega (arith, lt, c.columns.ensures))) first),
)
