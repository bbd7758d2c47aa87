use Rattle.std.proofs.Common.{refl, rules}
use Rattle.tsumego_c.specs.Calls.{no_memory}
use Rattle.tsumego_c.proofs.Endings.{ends_as}
use Rattle.tsumego_c.proofs.caller_buffer.hand_over.Goals as goal

pub returns-in-Ok : goal.returns-in-Ok
returns-in-Ok c = ends_as c.args.out.now c.hand_over_text.new.out c.hand_over_text.new.taken c.hand_over_text.result
    (λ bytes s h. (c.in-Ok.text, c.in-Ok.is, search (rules, h.0, c.as_slice.ensures.value), h.1)) c.hand_over_text.ensures

pub returns-in-Err : goal.returns-in-Err
returns-in-Err c = no_memory (refl, refl)
