use Rattle.std.proofs.Common.{refl, sym}
use Rattle.tt_game.proofs.KeyLemmas.{key_told}
use Rattle.tt_game.proofs.history.snapshot.Snapshot.has_key_of.Goals as goal

pub returns-then-is_position_of : goal.returns-then-is_position_of
returns-then-is_position_of c =
    let here = c.is_position_of.ensures.0 c.if-is_position_of.true in
    (λ _. key_told _ _ _ _ here.0 (sym here.1) (sym here.2) (sym here.3), λ _. refl)
