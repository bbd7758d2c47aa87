use Rattle.std.proofs.Common.{◌≡◌, ap, rules, arith}
use Rattle.tt_sgf.specs.laws.SizeLaws.{size_is_fixed_by_sides}
use Rattle.tt_game.specs.declared.frame.Frame.{Frame}
use Rattle.tt_game.proofs.FrameLemmas.{same_frames}
use Rattle.tt_game.proofs.frame.Frame.same.Goals as goal

pub returns : goal.returns
returns c =
    let f = c.args.self.now in let g = c.args.other.now in
    let columns : f.size.columns ≡ g.size.columns = grind arith in
    let rows : f.size.rows ≡ g.size.rows = grind arith in
    let size : f.size ≡ g.size = size_is_fixed_by_sides f.size g.size columns rows in
    let defender : f.defender ≡ g.defender = search rules in (
      λ same. same_frames f g size (c.same.ensures.0 c.if-not-same.false) (c.same-2.ensures.0 same) defender,
      λ e. c.same-2.ensures.1 (ap (λ (h : Frame). h.targets) e),
    )
