use Rattle.std.proofs.Common.{◌≡◌, Option, Some, None, refl, ◌∙◌}
use Rattle.std.specs.Option.{option_eq}
use Rattle.tt_board.specs.declared.Colour.{Colour}
use Rattle.tt_board.specs.declared.Colour.TheVariants.{Black, White}
use Rattle.tt_board.specs.contracts.ColourPartialEq.TheImpl.{eq-value}
use Rattle.tt_board.specs.Play.{is_stone_of}
use Rattle.tt_board.proofs.colouring.is_stone_of.Goals as goal

-- the comparison with a stone says what the definition says
tests : (e : Option Colour) (k : Colour) → option_eq eq-value.it e (Some k) ≡ is_stone_of e k
tests None k = refl
tests (Some Black) Black = refl
tests (Some Black) White = refl
tests (Some White) Black = refl
tests (Some White) White = refl

pub returns : goal.returns
returns c = c.eq.ensures ∙ tests c.args.entry c.args.colour
