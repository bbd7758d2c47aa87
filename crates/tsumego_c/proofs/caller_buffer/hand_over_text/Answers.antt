use Rattle.std.proofs.Common.{refl, rules}
use Rattle.tsumego_c.specs.Calls.{no_room, written}
use Rattle.tsumego_c.proofs.caller_buffer.hand_over_text.Goals as goal

pub returns-then-has_room : goal.returns-then-has_room
returns-then-has_room c =
    let put = c.tell_length_and_copy_if_room-has_room.ensures in
    let at = put.written (search (rules, c.if-has_room.true)) in
    written c.args.text.now c.args.status (refl, refl) put.taken (rw put.taken at.0) (rw put.taken at.1)

pub returns-else-has_room : goal.returns-else-has_room
returns-else-has_room c =
    let put = c.tell_length_and_copy_if_room-has_room.ensures in
    let at = put.no_room (search (rules, c.if-has_room.false)) in
    no_room c.args.text.now c.args.status (refl, refl) put.taken (rw put.taken at.0) at.1
