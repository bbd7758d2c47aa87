use Rattle.std.proofs.Common.{◌∙◌, sym, ap, subst, length, arith}
use Rattle.std.proofs.lemmas.Bool.{false≢true}
use Rattle.tt_proof.specs.inside.CertificateWalking.{StopsBefore, IsTextOfTurnFrom, IsFirstByteOfTurnFrom}
use Rattle.tt_proof.proofs.TextLemmas.{heads}
use Rattle.tt_proof.proofs.StopLemmas.{turn_first, turn_second, turn_low}
use Rattle.tt_proof.proofs.certificate_stops.skip_turn.Goals as goal

pub returns-in_default : goal.returns-in_default
returns-in_default c =
    turn_first c.args.size c.args.least c.requires c.args.bytes.now
    (λ b bs e _. let n = ap length e in omega (arith, c.in_default.ensures.cases, n))

pub returns-then-not-begins_turn : goal.returns-then-not-begins_turn
returns-then-not-begins_turn c =
    turn_first c.args.size c.args.least c.requires c.args.bytes.now
    (λ b bs e h. false≢true (sym c.if-not-begins_turn.true ∙ c.begins_turn.ensures.1 (subst (IsFirstByteOfTurnFrom c.args.size c.args.least) (sym (heads (sym c.in-Some.ensures.cases.0 ∙ e))) h)))

pub returns-in_default-read_turn : goal.returns-in_default-read_turn
returns-in_default-read_turn c =
    subst (λ w. StopsBefore (IsTextOfTurnFrom c.args.size c.args.least) w c.in-Some.rest.now) (sym c.in-Some.ensures.cases.0)
    (turn_second c.args.size c.args.least c.requires c.in-Some.first.now c.in-Some.rest.now (c.begins_turn.ensures.0 c.if-not-begins_turn.false)
    (λ t y from e. c.in_default-read_turn.ensures t y from.on_board (c.in-Some.ensures.cases.0 ∙ e)))

pub returns-then-number-least : goal.returns-then-number-least
returns-then-number-least c =
    subst (λ w. StopsBefore (IsTextOfTurnFrom c.args.size c.args.least) w c.in-Some.rest.now) (sym c.in-Some.ensures.cases.0)
    (turn_second c.args.size c.args.least c.requires c.in-Some.first.now c.in-Some.rest.now (c.begins_turn.ensures.0 c.if-not-begins_turn.false)
    (λ t y from e. turn_low c.args.size c.args.least c.in-Some-read_turn.field-0-0 c.in-Some-read_turn.behind.now
    (omega (arith, c.in-Some-read_turn.ensures.1, c.if-number-least.true)) t y from (sym e ∙ sym c.in-Some.ensures.cases.0 ∙ c.in-Some-read_turn.ensures.3)))
