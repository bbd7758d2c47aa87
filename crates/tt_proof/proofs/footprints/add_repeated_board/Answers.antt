use Rattle.std.proofs.Common.{◌≡◌, ◌∙◌, sym, ap, inl, inr, Contains}
use Rattle.tt_board.specs.Position.{Position}
use Rattle.tt_proof.specs.KeptFootprints.{board_of_colouring}
use Rattle.tt_proof.proofs.ResultLemmas.{on_ok}
use Rattle.tt_proof.proofs.FootprintLemmas.{board_is, otherwise}
use Rattle.tt_proof.proofs.RepeatLemmas.{one_more}
use Rattle.tt_proof.proofs.footprints.add_repeated_board.Goals as goal

pub returns-in-Some-clause-sized : goal.returns-in-Some-clause-sized
returns-in-Some-clause-sized c =
    on_ok c.add.result _ _
    (λ h before b m. elim ((h b).0 m) [ inl old ↦ before b old | inr e ↦ ap (λ (w : Position). w.size) (e ∙ c.in-Some.ensures.1) ])
    c.add.ensures

pub returns-in-Some-clause-more : goal.returns-in-Some-clause-more
returns-in-Some-clause-more c =
    let f = c.args.line.now.frame in
    let board = c.in-Some.board in
    let size : board.size ≡ f.size = ap (λ (w : Position). w.size) c.in-Some.ensures.1 in
    on_ok c.add.result _ _
    (λ h. one_more f c.args.line.now.state (λ x. Contains c.args.needs.now (board_of_colouring f x)) (λ x. Contains c.add.new.self (board_of_colouring f x)) c.args.p board.points
    c.in-Some.ensures.0 (ap (λ (w : Position). w.points) c.in-Some.ensures.1)
    (λ x. otherwise _ _ _ _ (h (board_of_colouring f x)) (λ e. ap (λ (w : Position). w.points) e, λ e. sym (board_is board f.size x size (sym e)))))
    c.add.ensures
