use Rattle.std.proofs.Common.{rules}
use Rattle.tt_game.specs.laws.KeyLaws.{equal_keys_have_equal_sizes}
use Rattle.tt_search.proofs.store.usable_proofs.is_usable.Goals as goal

pub wins_at-requires : goal.wins_at-requires
wins_at-requires c = equal_keys_have_equal_sizes c.args.proof.now.frame c.args.line.now.frame c.args.proof.now.state c.args.line.now.state c.requires

pub returns-clause-usable : goal.returns-clause-usable
returns-clause-usable c = (
  λ wins. record { won = c.in_ok-wins.ensures.exact.0 wins; shallow = search rules },
  λ usable. c.in_ok-wins.ensures.exact.1 usable.won,
)
