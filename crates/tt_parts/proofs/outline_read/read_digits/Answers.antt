use Rattle.std.proofs.Common.{rules, arith, ◌≡◌, ◌≤◌, ◌-◌}
use Rattle.tt_parts.proofs.NameLemmas.{counted_more}
use Rattle.tt_parts.proofs.outline_read.read_digits.Goals as goal

pub loop-byte-preserved : goal.loop-byte-preserved
loop-byte-preserved c =
    let digit : (48 ≤ c.in-Some.byte.now) × (c.in-Some.byte.now ≤ 57) = search rules in
    let value : c.from-digit.result ≡ c.in-Some.byte.now - 48 = search rules in
    counted_more c.loop-byte.number c.saturating_add-number.result c.in-Some.byte.now c.args.bytes.now c.loop-byte.now.now c.in-Some.rest.now
    c.loop-byte.invariant c.in-Some.ensures.cases.0 digit (omega (arith, c.saturating_add-number.ensures, c.saturating_mul.ensures, value))
