-- When a proof with a footprint fits.
use Rattle.std.proofs.Common.{◌≡◌, ◌∙◌, inl, inr, List, [], ◌∷◌, All, Contains, refl, ap, subst}
use Rattle.std.proofs.lemmas.List.Elements.{All-head, All-tail}
use Rattle.tt_board.specs.Position.{Position, Colouring, colourings}
use Rattle.tt_game.specs.Game.{State}
use Rattle.tt_game.specs.Line.{IsPositionOf, HasBoardInHistory}
use Rattle.tt_game.specs.laws.Members.{IsIn}
use Rattle.tt_game.specs.declared.frame.Frame.{Frame}
use Rattle.tt_proof.specs.declared.footprints.Footprint.{Footprint}
use Rattle.tt_proof.specs.Strategy.{Strategy}
use Rattle.tt_proof.specs.EndRules.{EndRule}
use Rattle.tt_proof.specs.ProofClaim.{ProofClaim, IsWinningTreeUnder, StandsAt}
use Rattle.tt_proof.specs.Footprints.{FitsAt}
use Rattle.tt_proof.specs.KeptFootprints.{IsFootprint, HaveFrameSize, board_of_colouring}
use Rattle.tt_proof.proofs.FootprintLemmas.{board_is}
use Rattle.tt_proof.proofs.FitsLemmas.{fitting_wins}

-- a footprint at one state is that at the same state
pub foot_moved : (f f' : Frame) (s s' : State) (u : Strategy) (x : Footprint) → f ≡ f' → s ≡ s' → IsFootprint f s u x → IsFootprint f' s' u x
foot_moved f f' s s' u x e g h = subst (λ y. IsFootprint f' y u x) g (subst (λ y. IsFootprint y s u x) e h)

-- the board of a proof that stands at a state
pub board_there : (p : ProofClaim) (f : Frame) (s : State) (b : Position) → b ≡ record { size = p.frame.size; points = p.state.present } → StandsAt p f s →
    b ≡ record { size = f.size; points = s.present }
board_there p f s b is h =
    board_is b f.size s.present (ap (λ (w : Position). w.size) is ∙ ap (λ (g : Frame). g.size) h.0) (ap (λ (w : Position). w.points) is ∙ ap (λ (z : State). z.present) h.1)

-- a colouring of boards of one size is that of the board that shows it
pub board_in : (f : Frame) (bs : List Position) (c : Colouring) → All (λ (b : Position). b.size ≡ f.size) bs → IsIn (colourings bs) c → IsIn bs (board_of_colouring f c)
board_in f [] c all m = absurd m
board_in f (x ∷ bs) c all (inl e) = inl (board_is x f.size c (All-head (λ (b : Position). b.size ≡ f.size) x bs all) e)
board_in f (x ∷ bs) c all (inr m) = inr (board_in f bs c (All-tail (λ (b : Position). b.size ≡ f.size) x bs all) m)

module _ (p : ProofClaim) (f : Frame) (s : State) (x : Footprint) (foot : IsFootprint p.frame p.state p.tree x) where
  -- a proof fits where the position is its own, and the lists stand right to the history's boards
  pub fits_yes : IsPositionOf (record { frame = p.frame; state = p.state }) f s → ((b : Position) → Contains x.needs b → HasBoardInHistory f s b) →
      ((b : Position) → Contains x.avoids b → HasBoardInHistory f s b → ⊥) → FitsAt p f s
  fits_yes at n a = (
    at.0,
    record {
      present = at.1;
      to_move = at.2;
      passes = at.3;
      needs = λ c h. (n (board_of_colouring f c) (subst (λ g. Contains x.needs (board_of_colouring g c)) at.0 ((foot.needed c).1 h))).1;
      avoids = λ c h m. a (board_of_colouring f c) (subst (λ g. Contains x.avoids (board_of_colouring g c)) at.0 ((foot.avoided c).1 h)) (refl, m);
    },
  )

  -- a board that is held shows its colouring, on the proof's frame and on this one
  held : (bs' : List Position) (b : Position) → HaveFrameSize p.frame bs' → Contains bs' b → Contains bs' (board_of_colouring p.frame b.points)
  held bs' b sized m = subst (λ w. Contains bs' w) (board_is b p.frame.size b.points (sized b m) refl) m

  pub fits_needs : FitsAt p f s → (b : Position) → Contains x.needs b → HasBoardInHistory f s b
  fits_needs h b m =
      (foot.needs_sized b m ∙ ap (λ (g : Frame). g.size) h.0, h.1.needs b.points ((foot.needed b.points).0 (held x.needs b foot.needs_sized m)))

  pub fits_avoids : FitsAt p f s → (b : Position) → Contains x.avoids b → HasBoardInHistory f s b → ⊥
  fits_avoids h b m k = h.1.avoids b.points ((foot.avoided b.points).0 (held x.avoids b foot.avoids_sized m)) k.1

-- a proof wins where it fits
pub won_where_fits : (rule : EndRule) (p : ProofClaim) (f : Frame) (s : State) → IsWinningTreeUnder rule p.side p.frame p.state p.tree → FitsAt p f s → IsWinningTreeUnder rule p.side f s p.tree
won_where_fits rule p f s w h =
    subst (λ y. IsWinningTreeUnder rule p.side y s p.tree) h.0
    (record { wins = fitting_wins rule p.side p.frame p.tree p.state s w.wins h.1; shallow = w.shallow; in_order = w.in_order })
