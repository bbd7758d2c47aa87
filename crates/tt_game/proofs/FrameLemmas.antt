-- When two tests, and two frames, are one.
use Rattle.std.proofs.Common.{◌≡◌, Bool, true, false, refl, sym, ap, ◌∙◌}
use Rattle.std.specs.FinSet as set
use Rattle.std.specs.Ordering.{nat_cmp}
use Rattle.std.proofs.lemmas.Bool.{true≢false}
use Rattle.tt_board.specs.declared.Colour.{Colour}
use Rattle.tt_sgf.specs.declared.size.Size.{Size}
use Rattle.tt_game.specs.declared.frame.Frame.{Frame}

-- two tests that pass together are one
pub bools : (a b : Bool) → (a ≡ true → b ≡ true) → (b ≡ true → a ≡ true) → a ≡ b
bools true b f g = sym (f refl)
bools false true f g = absurd (true≢false (sym (g refl)))
bools false false f g = refl

-- frames with the same parts are one
pub same_frames : (f g : Frame) → f.size ≡ g.size → f.region ≡ g.region → f.targets ≡ g.targets → f.defender ≡ g.defender → f ≡ g
same_frames f g a b c d =
    ap (λ (x : Size). let h : Frame = record { size = x; region = f.region; targets = f.targets; defender = f.defender } in h) a
    ∙ ap (λ (x : set.FinSet nat_cmp). let h : Frame = record { size = g.size; region = x; targets = f.targets; defender = f.defender } in h) b
    ∙ ap (λ (x : set.FinSet nat_cmp). let h : Frame = record { size = g.size; region = g.region; targets = x; defender = f.defender } in h) c
    ∙ ap (λ (x : Colour). let h : Frame = record { size = g.size; region = g.region; targets = g.targets; defender = x } in h) d
