use Rattle.std.proofs.Common.{arith, rules}
use Rattle.std.proofs.lemmas.List.{length-take}
use Rattle.devices.proofs.Watching.{IsReadInput-full, IsReadInput-end, TakesAtMost-more}
use Rattle.devices.proofs.input.read_input.Goals as goal
use Rattle.devices.proofs.input.read_input.Goals.{else-loop-chunk-test, then-loop-chunk-test+in-Ok-eq0}

pub returns-clause-read : goal.returns-clause-read
returns-clause-read g c =
    elim c.loop-chunk-test.branch [
      | else-loop-chunk-test w ↦ IsReadInput-full c.args.most _ _ _ c.loop-chunk.invariant.given (omega (arith, c.loop-chunk.input.ok.0))
      | then-loop-chunk-test+in-Ok-eq0 w ↦ IsReadInput-end c.args.most _ _ _ c.loop-chunk.invariant.given (search (rules, w.in-Ok-eq0.ensures.bytes)) (omega (arith, c.loop-chunk.input.ok.0))
    ]

pub returns-then-is_err-clause-taken : goal.returns-then-is_err-clause-taken
returns-then-is_err-clause-taken g c =
    TakesAtMost-more c.args.most c.in-Ok.count _ _ _ c.loop-chunk.input.items c.read.new.buf c.loop-chunk.invariant.given c.in-Ok.ensures.bytes.0
    (omega (arith, c.loop-chunk.input.ok.0, c.in-Ok.ensures.bound, length-take c.min-room.result c.loop-chunk.chunk))
