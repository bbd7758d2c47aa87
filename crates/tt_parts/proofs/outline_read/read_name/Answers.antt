use Rattle.std.proofs.Common.{rules, arith}
use Rattle.tt_parts.proofs.NameLemmas.{name_stands, no_name_empty, no_name_great, no_name_zero}
use Rattle.tt_parts.proofs.outline_read.read_name.Goals.{then-length-eq0-via-then-length-eq0, then-length-eq0-via-else-length-eq0+then-number-gt-GREATEST_NAME}
use Rattle.tt_parts.proofs.outline_read.read_name.Goals.{then-length-eq0-via-else-length-eq0+else-number-gt-GREATEST_NAME+then-bytes-eq48, then-length-gt1, else-length-gt1}
use Rattle.tt_parts.proofs.outline_read.read_name.Goals as goal

pub returns-then-length-eq0 : goal.returns-then-length-eq0
returns-then-length-eq0 c =
    let n = c.read_digits-number.result.0 in
    let bytes = c.args.bytes.now in
    let rest = c.read_digits-number.result.1.now in
    let w = c.read_digits-number.ensures in
    elim c.then-length-eq0.branch [
      | then-length-eq0-via-then-length-eq0 h ↦ no_name_empty n bytes rest w (search rules)
      | then-length-eq0-via-else-length-eq0+then-number-gt-GREATEST_NAME h ↦ no_name_great n bytes rest w (search rules)
      | then-length-eq0-via-else-length-eq0+else-number-gt-GREATEST_NAME+then-bytes-eq48 h ↦ no_name_zero n bytes rest w (search rules) (search rules)
    ]

pub returns : goal.returns
returns c =
    let n = c.read_digits-number.result.0 in
    let bytes = c.args.bytes.now in
    let rest = c.read_digits-number.result.1.now in
    let w = c.read_digits-number.ensures in
    let small = c.if-number-gt-GREATEST_NAME.false in (
      omega (arith, small),
      w.ends,
      name_stands n bytes rest w (search rules) (omega (arith, small))
          (elim c.if-length-gt1.branch [ then-length-gt1 h ↦ λ long zero. search rules | else-length-gt1 h ↦ λ long zero. search rules ]),
    )
