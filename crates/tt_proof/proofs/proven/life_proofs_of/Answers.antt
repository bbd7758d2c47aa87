use Rattle.std.proofs.Common.{◌∙◌, ◌++◌, [], ◌∷◌, arith, sym, ap, subst}
use Rattle.std.proofs.Math.Seq.{append_snoc}
use Rattle.tt_proof.specs.EndRules.{at_win}
use Rattle.tt_proof.specs.inside.WonChildren.{AllWon}
use Rattle.tt_proof.proofs.ProvenLemmas.{at_end, all_won_push}
use Rattle.tt_proof.proofs.proven.life_proofs_of.Goals as goal

pub loop-turn-init : goal.loop-turn-init
loop-turn-init c = record { order = c.into_iter-turn-iterator.ensures.into_iter_gives.0; same = c.in_ok-made.ensures.items; won = tt }

pub loop-turn-preserved : goal.loop-turn-preserved
loop-turn-preserved c =
    let turn = c.in-Some.turn in
    let child = c.in-Some.child in
    record {
      order =
          append_snoc c.loop-turn.yielded (turn, child) _
          ∙ ap (λ r. c.loop-turn.yielded ++ r) (sym c.in-Some.ensures.steps.0) ∙ c.loop-turn.invariant.order;
      same =
          c.in_ok-push.ensures.items ∙ ap (λ xs. xs ++ ((turn, c.into_life_proof.result) ∷ [])) c.loop-turn.invariant.same
          ∙ ap (λ p. c.loop-turn.yielded ++ ((turn, p) ∷ [])) c.into_life_proof.ensures.same;
      won = all_won_push at_win c.loop-turn.yielded (turn, child) c.loop-turn.invariant.won c.into_life_proof.ensures.wins;
    }

pub returns-clause-same : goal.returns-clause-same
returns-clause-same c =
    let rest = c.loop-turn.turn-iterator.rest in
    c.loop-turn.invariant.same ∙ at_end c.loop-turn.yielded rest.items _ c.loop-turn.invariant.order (omega (arith, rest.ok.0, c.in-None.ensures.steps.0))

pub returns-clause-won : goal.returns-clause-won
returns-clause-won c = subst (AllWon at_win) (sym c.loop-turn.invariant.same) c.loop-turn.invariant.won
