use Rattle.std.proofs.Common.{rules, ◌<◌, ◌∙◌, ap, inl, inr, subst, sym}
use Rattle.std.proofs.lemmas.Bool.{false≢true}
use Rattle.tt_sgf.specs.declared.size.Size.{Size}
use Rattle.tt_sgf.specs.Sizes.{point_count}
use Rattle.tt_board.specs.Position.{Colouring}
use Rattle.tt_board.specs.Reach.{entry_at}
use Rattle.tt_game.specs.Line.{LineWithUndo}
use Rattle.tt_marks.specs.Walls.{IsEnclosedGroup, IsWalledIn}
use Rattle.tsumego_show.proofs.Marked.{empty_has_none, enclosed_on_board, marked_board, open_has_none}
use Rattle.tsumego_show.specs.Written.{IsTextOf}
use Rattle.tsumego_show.proofs.marking.marked_tree.Goals as goal

pub returns-then-is_enclosed : goal.returns-then-is_enclosed
returns-then-is_enclosed c =
    let board = c.present-board.result.now in
    let squares = c.region-found.result.points in
    let closed = c.is_enclosed.ensures.0 c.if-is_enclosed.true in
    let enclosed : IsEnclosedGroup board.size board.points c.in-Some.colour c.args.stone squares = record {
      is_point = subst (λ (s : Size). c.args.stone < point_count s) (sym c.present-board.ensures.size) c.requires.0;
      stands = sym c.in-Some.ensures;
      wall = c.region-found.result.wall;
      wall_on_board = c.region-found.ensures.wall_on_board;
      whole = c.region-found.ensures.wall;
      within = c.region-found.ensures.points;
      on_board = c.region-found.ensures.on_board;
      closed = closed.0;
    } in (
      c.args.stone,
      c.requires.1,
      inl (
        c.in_ok-text.ensures.given,
        marked_board c.args.wanted.name c.in_ok-text.text.items c.args.game c.args.stone c.in-Some.colour squares board.size board.points
            c.present-board.ensures.size c.present-board.ensures.points enclosed closed.1
            (subst (λ (l : LineWithUndo). IsTextOf c.in_ok-text.text.items l) c.in_ok-line.ensures c.in_ok-text.ensures.reads),
      ),
    )

pub returns-then-not-wanted : goal.returns-then-not-wanted
returns-then-not-wanted c =
    let board = c.present-board.result.now in
    open_has_none c.args.wanted.name c.args.game c.args.stone c.requires board.size board.points c.present-board.ensures.size c.present-board.ensures.points c.in-Some.colour
    c.region-found.result.wall c.region-found.result.points (sym c.in-Some.ensures) c.region-found.ensures.only
    (λ h. false≢true (sym c.if-is_enclosed.false ∙ c.is_enclosed.ensures.1 h))

pub returns-then-is_closed : goal.returns-then-is_closed
returns-then-is_closed c =
    let board = c.present-board.result.now in
    open_has_none c.args.wanted.name c.args.game c.args.stone c.requires board.size board.points c.present-board.ensures.size c.present-board.ensures.points c.in-Some.colour
    c.region-found.result.wall c.region-found.result.points (sym c.in-Some.ensures) c.region-found.ensures.only
    (λ h. false≢true (sym c.if-is_enclosed.false ∙ c.is_enclosed.ensures.1 h))

pub returns-then-is_walled_in : goal.returns-then-is_walled_in
returns-then-is_walled_in c =
    let board = c.present-board.result.now in
    open_has_none c.args.wanted.name c.args.game c.args.stone c.requires board.size board.points c.present-board.ensures.size c.present-board.ensures.points c.in-Some.colour
    c.region-found.result.wall c.region-found.result.points (sym c.in-Some.ensures) c.region-found.ensures.only
    (λ h. false≢true (sym c.if-is_enclosed.false ∙ c.is_enclosed.ensures.1 h))

pub closed_tree-requires-clause-stands : goal.closed_tree-requires-clause-stands
closed_tree-requires-clause-stands c = ap (λ points. entry_at points c.args.stone) (sym c.present-board.ensures.points) ∙ sym c.in-Some.ensures

pub closed_tree-requires-clause-unmarked : goal.closed_tree-requires-clause-unmarked
closed_tree-requires-clause-unmarked c = λ squares h.
    let board = c.present-board.result.now in
    let there = enclosed_on_board c.args.game c.args.stone board.size board.points c.present-board.ensures.size c.present-board.ensures.points c.in-Some.colour squares h in
    false≢true (sym c.if-is_closed.false ∙ c.is_closed.ensures.1 (c.region-found.ensures.only squares there).0)

pub closed_tree-requires-clause-open : goal.closed_tree-requires-clause-open
closed_tree-requires-clause-open c = λ h.
    let board = c.present-board.result.now in
    let game = c.args.game in
    let sized = subst (λ (x : Size). IsWalledIn x game.present c.in-Some.colour c.args.stone) (sym c.present-board.ensures.size) h in
    let there = subst (λ (x : Colouring). IsWalledIn board.size x c.in-Some.colour c.args.stone) (sym c.present-board.ensures.points) sized in
    false≢true (sym c.if-is_walled_in.false ∙ c.is_walled_in.ensures.1 there)

pub returns-in-None : goal.returns-in-None
returns-in-None c =
    let board = c.present-board.result.now in
    open_has_none c.args.wanted.name c.args.game c.args.stone c.requires board.size board.points c.present-board.ensures.size c.present-board.ensures.points c.in-Some.colour
    c.region-found.result.wall c.region-found.result.points (sym c.in-Some.ensures) c.region-found.ensures.only
    (λ h. false≢true (sym c.if-is_enclosed.false ∙ c.is_enclosed.ensures.1 h))

pub returns-in-Some-2 : goal.returns-in-Some-2
returns-in-Some-2 c =
    let board = c.present-board.result.now in
    let none =
    open_has_none c.args.wanted.name c.args.game c.args.stone c.requires board.size board.points c.present-board.ensures.size c.present-board.ensures.points c.in-Some.colour
    c.region-found.result.wall c.region-found.result.points (sym c.in-Some.ensures) c.region-found.ensures.only
    (λ h. false≢true (sym c.if-is_enclosed.false ∙ c.is_enclosed.ensures.1 h)) in
    let made = rw c.in-Some-2.is at c.in_ok-text-2.ensures in
    (c.args.stone, c.requires.1, inr (search rules, none, made.0, made.1))

pub returns-in_default : goal.returns-in_default
returns-in_default c =
    let board = c.present-board.result.now in
    empty_has_none c.args.wanted.name c.args.game c.args.stone c.requires board.size board.points c.present-board.ensures.size c.present-board.ensures.points (sym c.in_default.ensures)
