use Rattle.std.proofs.Common.{rules, ◌≡◌, inl, inr, false, IsTrue, sym, ◌∙◌}
use Rattle.std.proofs.lemmas.Bool.{false≢true}
use Rattle.tt_game.specs.Line.{HasBoardInHistory}
use Rattle.tt_proof.proofs.SharedLemmas.{in_three, all_of_three}
use Rattle.tt_proof.proofs.shared_board_set.SharedBoardSet.none_in_history.Goals as goal
use Rattle.tt_proof.proofs.shared_board_set.SharedBoardSet.none_in_history.Goals.{then-none_in_history, else-none_in_history}

pub returns-then-none_in_history-2 : goal.returns-then-none_in_history-2
returns-then-none_in_history-2 c =
    let a = c.self.inside.added in
    let m = c.self.inside.middle in
    let z = c.self.inside.base in
    let line = c.args.line.now in
    let last = c.none_in_history-then-none_in_history-2.ensures in
    elim c.if-none_in_history.branch [
      | then-none_in_history w ↦
          let first : IsTrue c.none_in_history.result = search rules in
          let second : IsTrue w.none_in_history-then-none_in_history.result = search rules in (
            λ y. all_of_three (λ b. HasBoardInHistory line.frame line.state b → ⊥) a m z c.args.self.now c.self.view_is
                (c.none_in_history.ensures.0 first) (w.none_in_history-then-none_in_history.ensures.0 second) (last.0 y),
            λ h. last.1 (λ b x. h b ((in_three a m z c.args.self.now c.self.view_is b).1 (inr (inr x)))),
          )
      | else-none_in_history w ↦ absurd (false≢true (search rules))
    ]

pub returns-else-none_in_history-2 : goal.returns-else-none_in_history-2
returns-else-none_in_history-2 c =
    let a = c.self.inside.added in
    let m = c.self.inside.middle in
    let z = c.self.inside.base in
    let off : c.if-none_in_history.value ≡ false = search rules in (
      λ y. absurd (false≢true (sym off ∙ y)),
      λ h. elim c.if-none_in_history.branch [
        | then-none_in_history w ↦
            let no : w.none_in_history-then-none_in_history.result ≡ false = search rules in
            absurd (false≢true (sym no ∙ w.none_in_history-then-none_in_history.ensures.1 (λ b x. h b ((in_three a m z c.args.self.now c.self.view_is b).1 (inr (inl x))))))
        | else-none_in_history w ↦
            let no : c.none_in_history.result ≡ false = search rules in
            absurd (false≢true (sym no ∙ c.none_in_history.ensures.1 (λ b x. h b ((in_three a m z c.args.self.now c.self.view_is b).1 (inl x)))))
      ],
    )
