use Rattle.std.proofs.Common.{ap, sym, subst, ◌∙◌, arith}
use Rattle.std.specs.FinSet as set
use Rattle.tt_sgf.specs.MachineWords.{AreBitsOf}
use Rattle.tt_sgf.specs.Sizes.{point_count}
use Rattle.tt_sgf.proofs.BitLemmas.{has_point}
use Rattle.tt_sgf.proofs.sets.PointSet.words_on_board.Goals as goal

pub returns : goal.returns
returns c =
    let count = c.point_count.ensures in
    let made = c.truncated_to.result.words in
    let handed : AreBitsOf made (point_count c.args.size) (λ p. set.contains c.args.self.now p) = record {
      below = λ p on_board small. c.truncated_to.ensures.kept p small (omega (arith, count.value))
          ∙ sym (has_point c.self.inside.bits.words p (omega (arith, count.value, count.most))) ∙ ap (λ s. set.contains s p) c.self.view_is;
      behind = λ p past small. c.truncated_to.ensures.none p small (omega (arith, count.value));
    } in
    subst (λ words. AreBitsOf words (point_count c.args.size) (λ p. set.contains c.args.self.now p)) (sym c.words.ensures) handed
