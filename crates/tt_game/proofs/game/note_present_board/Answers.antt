use Rattle.std.proofs.Common.{inl, inr, subst}
use Rattle.std.proofs.lemmas.List.Elements.{Contains-push_cases}
use Rattle.tt_game.specs.BloomFilter.{MayHold, filter_index}
use Rattle.tt_game.proofs.game.note_present_board.Goals as goal

pub returns-else-boards-eq-MANY_BOARDS : goal.returns-else-boards-eq-MANY_BOARDS
returns-else-boards-eq-MANY_BOARDS c = λ col has.
    let h = c.args.history.now in
    elim (Contains-push_cases h.earlier h.present col has) [
      | inl before ↦ c.add.ensures.still (filter_index h.size col) (c.requires.before col before)
      | inr same ↦ subst (λ x. MayHold c.add.new.self (filter_index h.size x)) same (subst (MayHold c.add.new.self) c.requires.hash c.add.ensures.here)
    ]
