use Rattle.std.proofs.Common.{◌∙◌, sym}
use Rattle.std.proofs.lemmas.Bool.{false≢true}
use Rattle.tt_marks.proofs.EnclosedLemmas.{not_inner}
use Rattle.tt_marks.proofs.proposals.closed_candidate.Goals as goal

pub returns-then-not-is_closed : goal.returns-then-not-is_closed
returns-then-not-is_closed c =
    not_inner c.args.board.now.size c.args.board.now.points c.args.colour c.args.stone c.region-found.result.wall c.region-found.result.points c.requires.stands
    c.region-found.ensures.only (λ closed _. absurd (false≢true (sym c.if-not-is_closed.true ∙ c.is_closed.ensures.1 closed)))

pub returns-then-not-is_inner : goal.returns-then-not-is_inner
returns-then-not-is_inner c =
    not_inner c.args.board.now.size c.args.board.now.points c.args.colour c.args.stone c.region-found.result.wall c.region-found.result.points c.requires.stands
    c.region-found.ensures.only (λ _ inner. absurd (false≢true (sym c.if-not-is_inner.true ∙ c.is_inner.ensures.1 inner)))

pub returns : goal.returns
returns c = (
  c.args.colour,
  c.region-found.result.points,
  record {
    is_point = c.requires.on_board;
    stands = c.requires.stands;
    wall = c.region-found.result.wall;
    wall_on_board = c.region-found.ensures.wall_on_board;
    whole = c.region-found.ensures.wall;
    within = c.region-found.ensures.points;
    on_board = c.region-found.ensures.on_board;
    closed = c.is_closed.ensures.0 c.if-not-is_closed.false;
  },
  c.is_inner.ensures.0 c.if-not-is_inner.false,
)
