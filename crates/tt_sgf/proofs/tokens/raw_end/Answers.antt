use Rattle.std.proofs.Common.{◌≡◌, sym, ◌∙◌, ◌+◌, ap}
use Rattle.std.proofs.lemmas.Bool.{eq-eqb, ne_eqb}
use Rattle.tt_sgf.proofs.TokenLemmas.{raw_ends, raw_stops, raw_more_plain, raw_more_escaped, raw_so_far}
use Rattle.tt_sgf.proofs.tokens.raw_end.Goals as goal
use Rattle.tt_sgf.proofs.tokens.raw_end.Goals.{then-escaped, else-escaped+else-b-eq93}

pub returns-then-b-eq93 : goal.returns-then-b-eq93
returns-then-b-eq93 c =
    let bytes = c.args.bytes.now in
    let i = c.loop-i.i in
    let e : raw_so_far bytes i c.loop-i.escaped ≡ raw_so_far bytes i _ = ap (raw_so_far bytes i) c.if-escaped.false in
    (c.loop-i-test.true, sym c.loop-i.invariant ∙ e ∙ raw_ends bytes i c.loop-i-test.true (eq-eqb _ _ c.if-b-eq93.true))

pub loop-i-preserved : goal.loop-i-preserved
loop-i-preserved c =
    let bytes = c.args.bytes.now in
    let i = c.loop-i.i in
    elim c.if-escaped.branch [
      | then-escaped w ↦ ap (raw_so_far bytes (i + 1)) w.escaped-is ∙ raw_more_escaped bytes i c.loop-i-test.true ∙ sym (ap (raw_so_far bytes i) w.if-escaped.true) ∙ c.loop-i.invariant
      | else-escaped+else-b-eq93 w ↦ ap (raw_so_far bytes (i + 1)) w.escaped-is ∙ raw_more_plain bytes i c.loop-i-test.true (ne_eqb _ _ w.if-b-eq93.false)
          ∙ sym (ap (raw_so_far bytes i) w.if-escaped.false) ∙ c.loop-i.invariant
    ]

pub returns : goal.returns
returns c = sym c.loop-i.invariant ∙ raw_stops c.args.bytes.now c.loop-i.i c.loop-i.escaped c.loop-i-test.false
