-- Not both sides force a win at one state.
use Rattle.std.proofs.Common.{◌≡◌, ℕ, zero, suc, Some, inl, inr, sym, ◌∙◌}
use Rattle.std.proofs.lemmas.Option.{none-some}
use Rattle.tt_game.specs.declared.frame.Side.{Side}
use Rattle.tt_game.specs.declared.frame.Side.TheVariants.{Attacker, Defender}
use Rattle.tt_game.specs.declared.frame.Frame.{Frame}
use Rattle.tt_game.specs.Game.{State, Forces, winner_of, after}

-- a state has one winner at most
one : (f : Frame) (s : State) → winner_of f s ≡ Some Attacker → winner_of f s ≡ Some Defender → ⊥
one f s a d = let e = sym a ∙ d in cc

-- no side is both
apart : (s : Side) → s ≡ Attacker → s ≡ Defender → ⊥
apart s a d = let e = sym a ∙ d in cc

-- not both sides force a win
pub not_both : (m n : ℕ) (f : Frame) (s : State) → Forces f Attacker m s → Forces f Defender n s → ⊥
not_both zero zero f s a d = one f s a d
not_both zero (suc n) f s a (inl d) = one f s a d
not_both zero (suc n) f s a (inr d) = none-some Attacker (sym d.0 ∙ a)
not_both (suc m) zero f s (inl a) d = one f s a d
not_both (suc m) zero f s (inr a) d = none-some Defender (sym a.0 ∙ d)
not_both (suc m) (suc n) f s (inl a) (inl d) = one f s a d
not_both (suc m) (suc n) f s (inl a) (inr d) = none-some Attacker (sym d.0 ∙ a)
not_both (suc m) (suc n) f s (inr a) (inl d) = none-some Defender (sym a.0 ∙ d)
not_both (suc m) (suc n) f s (inr (_, inl (mine, (t, legal, next)))) (inr (_, inl (its, _))) = apart s.to_move mine its
not_both (suc m) (suc n) f s (inr (_, inl (mine, (t, legal, next)))) (inr (_, inr (_, all))) = not_both m n f (after f s t) next (all t legal)
not_both (suc m) (suc n) f s (inr (_, inr (_, all))) (inr (_, inl (mine, (t, legal, next)))) = not_both m n f (after f s t) (all t legal) next
not_both (suc m) (suc n) f s (inr (_, inr (its, _))) (inr (_, inr (mine, _))) = apart s.to_move mine its
