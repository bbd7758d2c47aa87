use Rattle.tt_text.specs.Checking.{IsCheckText}
use Rattle.tsumego_c.proofs.Endings.{hands_over}
use Rattle.tsumego_c.proofs.tsumego_c_check.Goals as goal

pub returns : goal.returns
returns c = hands_over (IsCheckText c.args.parts c.args.sgf.now) c.check_text-made.result c.args.out.now c.hand_over.new.out c.hand_over.new.taken c.hand_over.result
    c.check_text-made.ensures c.hand_over.ensures
