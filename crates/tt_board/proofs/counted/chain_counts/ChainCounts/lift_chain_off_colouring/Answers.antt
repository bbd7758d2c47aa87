use Rattle.std.proofs.Common.{sym, ap, ◌∙◌}
use Rattle.tt_board.specs.inside.Chains.{name_at}
use Rattle.tt_board.proofs.CaptureLemmas.{lone_lost}
use Rattle.tt_board.proofs.JoinLemmas.{living_stones}
use Rattle.tt_board.proofs.counted.chain_counts.ChainCounts.lift_chain_off_colouring.Goals as goal

pub returns-then-self-root-eq1 : goal.returns-then-self-root-eq1
returns-then-self-root-eq1 c =
    let s = c.args.size in let b = c.args.self.now in let e = c.args.name in let root = c.root_of-root.ensures.value in
    let one = sym (living_stones s b e c.requires.counted c.requires.living) ∙ ap (name_at b.stones) (sym root) ∙ c.if-self-root-eq1.true in
    rw (c.set.ensures, root) (lone_lost s b.names e c.args.points.now c.requires.fits c.requires.counted.ends c.requires.living one)
