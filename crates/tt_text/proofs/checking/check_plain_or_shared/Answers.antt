use Rattle.std.proofs.Common.{Bool, IfOk, sym, subst}
use Rattle.tt_text.specs.Checking.{FindsPlainOrShared}
use Rattle.tt_text.proofs.checking.check_plain_or_shared.Goals as goal

pub returns-then-parts : goal.returns-then-parts
returns-then-parts c = subst (λ (b : Bool). IfOk c.check_shared.result (FindsPlainOrShared b c.args.line.now c.args.certificate.now)) (sym c.if-parts.true) c.check_shared.ensures

pub returns-else-parts : goal.returns-else-parts
returns-else-parts c = subst (λ (b : Bool). IfOk c.check_plain.result (FindsPlainOrShared b c.args.line.now c.args.certificate.now)) (sym c.if-parts.false) c.check_plain.ensures
