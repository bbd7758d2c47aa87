use Rattle.std.proofs.Common.{◌≡◌, ◌≢◌, ◌<◌, inl, inr, sym, ◌∙◌, arith}
use Rattle.std.proofs.lemmas.Bool.{cases_lt, cases_eq, true≢false}
use Rattle.tt_board.proofs.AroundLemmas.{next_first, none_between}
use Rattle.tt_board.proofs.colouring.around.first_column.Goals as goal

-- the first column has the point that was put, and none behind it for a row
pub loop-p-preserved : goal.loop-p-preserved
loop-p-preserved c =
    let p = c.loop-p.p in let w = c.args.size.columns in let made = c.loop-p.invariant in
    let pos : 0 < w = omega (arith, c.args.size.columns_in.0) in
    let row : c.from-columns.result ≡ w = c.from-columns.ensures ∙ c.columns.ensures in
    record {
      column = rw row (next_first w pos p made.column);
      done = λ q before lt. elim (cases_lt q p) [
        | inl old ↦
            let apart : q ≢ p = λ e. omega (arith, e, old) in
            let stays = c.set.ensures.others q lt apart in
            (λ on. (made.done q old lt).0 (sym stays ∙ on), λ zero. stays ∙ (made.done q old lt).1 zero)
        | inr since ↦ elim (cases_eq q p) [
          | inl e ↦ rw e (λ _. made.column, λ _. c.set.ensures.same)
          | inr d ↦
              let apart : q ≢ p = d in (
                λ on. absurd (true≢false (sym on ∙ c.set.ensures.others q lt apart ∙ made.rest q since lt)),
                λ zero. absurd (none_between w pos p q made.column (omega (arith, since, d)) (omega (arith, before, row)) zero),
              )
        ]
      ];
      rest = λ q past lt.
          let apart : q ≢ p = λ e. omega (arith, e, past, row, pos) in
          c.set.ensures.others q lt apart ∙ made.rest q (omega (arith, past)) lt;
    }
