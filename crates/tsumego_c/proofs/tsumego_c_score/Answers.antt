use Rattle.tt_text.specs.Scoring.{Scores}
use Rattle.tsumego_c.specs.First.{IsFirstTreeText}
use Rattle.tsumego_c.proofs.Endings.{hands_over}
use Rattle.tsumego_c.proofs.tsumego_c_score.Goals as goal

pub returns : goal.returns
returns c = hands_over (IsFirstTreeText Scores c.args.sgf.now) c.score_text-made.result c.args.out.now c.hand_over.new.out c.hand_over.new.taken c.hand_over.result
    c.score_text-made.ensures c.hand_over.ensures
