use Rattle.std.proofs.Common.{◌≡◌, List, length, take, sym, ap, subst, refl, ◌∙◌}
use Rattle.tt_board.specs.Position.{Position}
use Rattle.tt_game.proofs.RootLemmas.{begun_boards}
use Rattle.tt_game.proofs.history.snapshot.begins_with_root.Goals as goal

pub returns-then-keeps_beginning_alike : goal.returns-then-keeps_beginning_alike
returns-then-keeps_beginning_alike c =
    let there = c.args.boards.now in let other = c.args.other.now in
    let same : other.begun ≡ c.args.root.now.begun = c.keeps_beginning_alike.ensures.same c.if-keeps_beginning_alike.true in (
      λ _. subst (λ (bs : List Position). bs ≡ take (length bs) there) same
          (begun_boards other.frame.size other.begun there c.keeps_beginning_alike.ensures.sizes c.requires.sizes c.requires.begins),
      λ _. refl,
    )

pub returns : goal.returns
returns c =
    let there = c.args.boards.now in let begun = c.args.root.now.begun in
    let n : c.board_count-begun.result ≡ length begun = c.board_count-begun.ensures.value in (
      λ y. c.equals_beginning.ensures.0 y ∙ ap (λ k. take k there) n,
      λ e. c.equals_beginning.ensures.1 (e ∙ ap (λ k. take k there) (sym n)),
    )
