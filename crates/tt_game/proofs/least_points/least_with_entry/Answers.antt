use Rattle.std.proofs.Common.{rules, ◌≡◌, ℕ, ◌<◌, true, false, arith}
use Rattle.tt_sgf.specs.Sizes.{point_count}
use Rattle.tt_sgf.specs.laws.SizeLaws.{point_count_is_bounded}
use Rattle.tt_board.specs.Reach.{entry_at}
use Rattle.tt_game.specs.Faults.{has_entry}
use Rattle.tt_game.proofs.FaultLemmas.{fails_here, none_behind, passes_here}
use Rattle.tt_game.proofs.least_points.least_with_entry.Goals as goal

pub returns-then-has_entry : goal.returns-then-has_entry
returns-then-has_entry c =
    let p = c.in-Some.p in let found = c.in-Some.ensures in
    let test = λ (q : ℕ). has_entry c.args.entry (entry_at c.args.board.now.points q) in
    let on : has_entry c.args.entry (entry_at c.args.board.now.points p) ≡ true = search rules in
    let below : p < point_count c.args.board.now.size = c.requires p found.0 in
    let most = point_count_is_bounded c.args.board.now.size in
    passes_here c.args.points.now test c.loop-p.from c.loop-p.invariant.before p (omega (arith, below, most)) found.0 found.2 on

pub loop-p-preserved : goal.loop-p-preserved
loop-p-preserved c =
    let p = c.in-Some.p in let found = c.in-Some.ensures in
    let test = λ (q : ℕ). has_entry c.args.entry (entry_at c.args.board.now.points q) in
    let off : has_entry c.args.entry (entry_at c.args.board.now.points p) ≡ false = search rules in
    let is : c.number-from.result ≡ p = c.number-from.ensures.number in
    let bound = c.number-from.ensures.bound in
    record {
      before = λ q lt. fails_here c.args.points.now test c.loop-p.from c.loop-p.invariant.before p found.0 found.2 off q (omega (arith, lt, is));
      most = omega (arith, bound);
    }

pub returns : goal.returns
returns c =
    let test = λ (q : ℕ). has_entry c.args.entry (entry_at c.args.board.now.points q) in
    none_behind c.args.points.now test c.loop-p.from c.loop-p.invariant.before c.in_default.ensures
