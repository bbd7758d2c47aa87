use Rattle.std.proofs.Common.{◌≡◌, true, false, not, cond, sym, ap, ◌∙◌}
use Rattle.std.proofs.lemmas.Bool.{true≢false, and_from, and_left, and_right, eq-eqb, ne_eqb}
use Rattle.tt_board.specs.inside.Chains.{is_new, touching, count_there}
use Rattle.tt_board.specs.Decided.{decision_test, decision_test_is_exact, decision_test_is_false}
use Rattle.tt_board.proofs.counted.chain_names.one_if_new_liberty.Goals as goal
use Rattle.tt_board.proofs.counted.chain_names.one_if_new_liberty.Goals.{else-names-q-eq0-via-then-names-q-eq0+else-not-touches, else-names-q-eq0-via-else-names-q-eq0}

pub returns-then-not-touches-clause-value : goal.returns-then-not-touches-clause-value
returns-then-not-touches-clause-value c =
    let s = c.args.size in let ns = c.args.names.now in let e = c.args.name in let q = c.in-Some.q in
    let off : decision_test (touching s ns e q) ≡ false = decision_test_is_false (touching s ns e q) (λ t. true≢false (sym (c.touches.ensures.1 t) ∙ c.if-not-touches.true)) in
    let yes' : is_new s ns e q ≡ true = and_from _ _ (eq-eqb _ 0 c.if-names-q-eq0.true) (ap not off) in
    sym (ap (count_there (is_new s ns e)) c.in-Some.is ∙ ap (λ b. cond b 1 0) yes')

pub returns-else-names-q-eq0-clause-value : goal.returns-else-names-q-eq0-clause-value
returns-else-names-q-eq0-clause-value c =
    let s = c.args.size in let ns = c.args.names.now in let e = c.args.name in let q = c.in-Some.q in
    let no' : is_new s ns e q ≡ false = elim c.else-names-q-eq0.branch [
      | else-names-q-eq0-via-then-names-q-eq0+else-not-touches w ↦
          let on : decision_test (touching s ns e q) ≡ true = (decision_test_is_exact (touching s ns e q)).1 (w.touches.ensures.0 w.if-not-touches.false) in
          and_right _ _ (ap not on)
      | else-names-q-eq0-via-else-names-q-eq0 w ↦ and_left _ _ (ne_eqb _ 0 w.if-names-q-eq0.false)
    ] in
    sym (ap (count_there (is_new s ns e)) c.in-Some.is ∙ ap (λ b. cond b 1 0) no')
