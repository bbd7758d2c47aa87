use Rattle.std.proofs.Common.{ℕ, ◌≡◌, ◌<◌, ◌≤◌, ◌↔◌, length, true, false, subst}
use Rattle.tt_sgf.specs.declared.bits.TheConstants.{BITS}
use Rattle.tt_sgf.specs.Sizes.{point_count}
use Rattle.tt_sgf.specs.MachineWords.{bit_in, AreBitsOf}
use Rattle.tt_board.specs.Reach.{entry_at}
use Rattle.tt_board.specs.Play.{other, is_stone_of}
use Rattle.tt_board.specs.Around.{IsBesideSome}
use Rattle.tt_board.specs.inside.Chains.{ChainBoard, IsChainBoard}
use Rattle.tt_board.proofs.AmongLemmas.{no_capture_here}
use Rattle.tt_board.proofs.counted.chains.Chains.some_noncapturing_plays.Goals as goal

pub returns-clause-no_capture : goal.returns-clause-no_capture
returns-clause-no_capture c =
    let b = c.args.self.now in let k = c.args.colour in
    let is : IsChainBoard b = subst IsChainBoard c.self.view_is c.self.invariant in
    no_capture_here b k is c.args.points.now.words c.truncated_to-points.result.words c.adjacent_points-near.result.words c.bits.result.now.words c.and.result.words c.requires
    (subst (λ (v : ChainBoard). (q : ℕ) → q < BITS → q < point_count v.size → bit_in c.truncated_to-points.result.words q ≡ bit_in c.args.points.now.words q) c.self.view_is
    (rw c.point_count.ensures.value at c.truncated_to-points.ensures.kept))
    (subst (λ (v : ChainBoard). (q : ℕ) → q < BITS → point_count v.size ≤ q → bit_in c.truncated_to-points.result.words q ≡ false) c.self.view_is
    (rw c.point_count.ensures.value at c.truncated_to-points.ensures.none))
    (subst (λ (v : ChainBoard). (p : ℕ) → p < point_count v.size → (bit_in c.adjacent_points-near.result.words p ≡ true) ↔ IsBesideSome v.size c.truncated_to-points.result.words p)
    c.self.view_is c.adjacent_points-near.ensures)
    (subst (λ (v : ChainBoard). AreBitsOf c.bits.result.now.words (length v.points) (λ p. is_stone_of (entry_at v.points p) (other k))) c.self.view_is (rw c.other.ensures at c.bits.ensures))
    c.and.ensures c.stones_in_atari-last.result.words c.stones_in_atari-last.ensures c.adjacent_points.result.words c.and-2.result.words c.minus.result.words
    (subst (λ (v : ChainBoard). (p : ℕ) → p < point_count v.size
    → (bit_in c.adjacent_points.result.words p ≡ true) ↔ IsBesideSome v.size c.stones_in_atari-last.result.words p) c.self.view_is c.adjacent_points.ensures)
    c.and-2.ensures c.minus.ensures
