use Rattle.std.proofs.Common.{arith}
use Rattle.std.proofs.lemmas.Bool.{lt-ltb, ltb-true}
use Rattle.tt_marks.proofs.EnclosedLemmas.{walled_in_by}
use Rattle.tt_marks.proofs.regions.is_walled_in.Goals as goal

pub returns-then-count-gt0 : goal.returns-then-count-gt0
returns-then-count-gt0 c = (
  λ h. record {
    wall = c.region-found.result.wall;
    wall_on_board = c.region-found.ensures.wall_on_board;
    whole = c.region-found.ensures.wall;
    has_stone = omega (arith, c.count.ensures, c.if-count-gt0.true);
    region = c.region-found.result.points;
    within = c.region-found.ensures.points;
    on_board = c.region-found.ensures.on_board;
    inner = c.is_inner.ensures.0 h;
  },
  λ h. c.is_inner.ensures.1 (walled_in_by c.args.board.now.size c.args.board.now.points c.args.colour c.args.stone c.region-found.result.wall c.region-found.result.points
      c.region-found.ensures.wall_on_board c.region-found.ensures.on_board c.region-found.ensures.wall c.region-found.ensures.points h).1,
)

pub returns-else-count-gt0 : goal.returns-else-count-gt0
returns-else-count-gt0 c = (
  λ h. absurd (omega (arith, ltb-true 0 c.count.result h)),
  λ h. let found = walled_in_by c.args.board.now.size c.args.board.now.points c.args.colour c.args.stone c.region-found.result.wall c.region-found.result.points
      c.region-found.ensures.wall_on_board c.region-found.ensures.on_board c.region-found.ensures.wall c.region-found.ensures.points h in
      lt-ltb 0 c.count.result (omega (arith, c.count.ensures, found.0)),
)
