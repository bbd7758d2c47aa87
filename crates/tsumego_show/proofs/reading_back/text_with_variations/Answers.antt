use Rattle.std.proofs.Common.{rules, List, ℕ, subst}
use Rattle.tsumego_show.specs.Written.{IsTextOf}
use Rattle.tsumego_show.proofs.reading_back.text_with_variations.Goals as goal

pub returns : goal.returns
returns c = (
  c.in_ok-text.ensures.reads,
  (
    c.args.front.now,
    c.args.variations.now,
    c.in_ok-text.ensures.joined,
    search rules,
    subst (λ (text : List ℕ). IsTextOf text c.args.line.now) c.in_ok-_alone.ensures.joined c.in_ok-_alone.ensures.reads,
  ),
)
