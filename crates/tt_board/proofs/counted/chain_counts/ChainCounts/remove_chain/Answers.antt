use Rattle.std.proofs.Common.{set, sym, ap, arith, ◌∙◌}
use Rattle.tt_board.specs.inside.Chains.{name_at}
use Rattle.tt_board.proofs.CaptureLemmas.{lone_lost}
use Rattle.tt_board.proofs.JoinLemmas.{living_stones, one_renamed, root_below, root_on_board}
use Rattle.tt_board.proofs.PlacedLemmas.{counted_taken}
use Rattle.tt_board.proofs.counted.chain_counts.ChainCounts.remove_chain.Goals as goal

pub remove_stone-requires-clause-on_board : goal.remove_stone-requires-clause-on_board
remove_stone-requires-clause-on_board c =
    let at = root_on_board c.args.size c.args.self.now.names c.args.name c.requires.counted.ends c.requires.living.0 c.requires.living.1 in
    omega (arith, at, c.root_of-root.ensures.value)

pub returns-then-self-root-eq1 : goal.returns-then-self-root-eq1
returns-then-self-root-eq1 c =
    let s = c.args.size in let b = c.args.self.now in let e = c.args.name in let h = c.requires.living in let root = c.root_of-root.ensures.value in let r = c.remove_stone.ensures in
    let one = sym (living_stones s b e c.requires.counted h) ∙ ap (name_at b.stones) (sym root) ∙ c.if-self-root-eq1.true in
    let names = r.names ∙ ap (λ p. set b.names p 0) root ∙ one_renamed b.names e 0 h.0 h.0 (root_below b.names e h.0 h.1) h.1 one in
    record {
      names = names;
      lost = rw (r.points, root) (lone_lost s b.names e c.args.points.now c.requires.fits c.requires.counted.ends h one);
      still_counted = counted_taken s b c.remove_stone.new.self e h.0 c.requires.counted names r.stones r.still_counted;
    }

pub returns-else-self-root-eq1-clause-still_counted : goal.returns-else-self-root-eq1-clause-still_counted
returns-else-self-root-eq1-clause-still_counted c =
    let r = c.remove_chain_stones.ensures in
    counted_taken c.args.size c.args.self.now c.remove_chain_stones.new.self c.args.name c.requires.living.0 c.requires.counted r.names r.stones r.still_counted
