use Rattle.std.proofs.Common.{ap, sym, ◌∙◌}
use Rattle.tt_game.specs.declared.frame.Frame.{Frame}
use Rattle.tt_game.proofs.KeyLemmas.{key_told}
use Rattle.tt_game.proofs.line.Line.key.Goals as goal

pub key_from_parts-requires : goal.key_from_parts-requires
key_from_parts-requires c = c.present.ensures.size ∙ sym (ap (λ (f : Frame). f.size) c.frame.ensures.value)

pub returns : goal.returns
returns c = c.key_from_parts.ensures ∙ key_told _ _ _ _ c.frame.ensures.value c.present.ensures.points c.to_move.ensures c.passes.ensures.value
