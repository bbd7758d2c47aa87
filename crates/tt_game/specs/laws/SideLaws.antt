-- What the words of the sides tell.
use Rattle.std.specs.Prelude.{◌≡◌, ℕ, List, [], ◌∷◌, ◌++◌}
use Rattle.std.proofs.Common.{refl, ap, arith}
use Rattle.std.proofs.lemmas.List.{append_cancel_left}
use Rattle.tt_game.specs.declared.frame.Side.{Side}
use Rattle.tt_game.specs.declared.frame.Side.TheVariants.{Attacker, Defender}
use Rattle.tt_game.specs.Sides.{verdict_word}

-- the first byte, or 0
abbrev first : List ℕ → ℕ
first [] = 0
first (b ∷ bs) = b

-- what begins with a side's word tells the side and what follows
pub verdict_word_is_prefix_free : (s t : Side) (x y : List ℕ) → verdict_word s ++ x ≡ verdict_word t ++ y → (s ≡ t) × (x ≡ y)
verdict_word_is_prefix_free Attacker Attacker x y e = (refl, append_cancel_left (verdict_word Attacker) x y e)
verdict_word_is_prefix_free Attacker Defender x y e = let other = ap first e in absurd (omega (arith, other))
verdict_word_is_prefix_free Defender Attacker x y e = let other = ap first e in absurd (omega (arith, other))
verdict_word_is_prefix_free Defender Defender x y e = (refl, append_cancel_left (verdict_word Defender) x y e)
