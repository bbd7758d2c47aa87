-- Lemmas on the solution that a proof or an answer is.
use Rattle.std.proofs.Common.{◌≡◌, ◌∙◌, ℕ, inl, inr, List, Option, Some, None, sym, subst}
use Rattle.std.proofs.lemmas.Option.{none-some}
use Rattle.tt_game.specs.declared.frame.Frame.{Frame}
use Rattle.tt_game.specs.declared.frame.Side.{Side}
use Rattle.tt_game.specs.declared.frame.Side.TheVariants.{Attacker, Defender}
use Rattle.tt_game.specs.declared.turns.Turn.{Turn}
use Rattle.tt_game.specs.Game.{HasValue, State, after, opponent, value_won_by, winner_of, game_length_bound}
use Rattle.tt_game.specs.GameLaws.{IsWellFormedState}
use Rattle.tt_game.specs.Line.{LineWithUndo}
use Rattle.tt_game.proofs.SomeSide.{state_after, values_forced}
use Rattle.tt_proof.specs.EndRules.{at_win_or_life}
use Rattle.tt_proof.specs.ProofClaim.{IsWinningTree, IsWinningTreeUnder, ProofClaim, StandsAt, first_turn_of}
use Rattle.tt_proof.specs.Strategy.{Strategy, done, pick, reply}
use Rattle.tt_proof.specs.Wins.{WinsOrLives}
use Rattle.tt_proof.proofs.HoldsLemmas.{wins_either, strategy_forces}
use Rattle.tt_search.specs.declared.limits.Limits.{Limits}
use Rattle.tt_search.specs.declared.limits.Reason.{Reason}
use Rattle.tt_search.specs.declared.limits.Reason.TheVariants.{Budget, Depth, Total, Memory}
use Rattle.tt_share.specs.declared.answer.Stuck.{Stuck}
use Rattle.tt_share.specs.Answers.{IsUnsettledAnswer}
use Rattle.tt_solve.specs.declared.options.CertKind.{CertKind}
use Rattle.tt_solve.specs.declared.solution.Solution.{Solution}
use Rattle.tt_solve.specs.declared.solution.Solution.TheVariants.{Settled, Unsettled}
use Rattle.tt_solve.specs.Solutions.{IsCertificateAsked, IsDecided, IsFirstTurnOfWinner, IsSolution, IsUnsettledFor, IsValueOrReason, value_of}

-- a side isn't its opponent
apart : (x : Side) → x ≡ opponent x → ⊥
apart Attacker e = cc
apart Defender e = cc

module _ (line : LineWithUndo) (is : IsWellFormedState line.frame line.state) where
  -- a strategy that wins or ends at life says the value
  life_value : (side : Side) (u : Strategy) (s : State) → IsWellFormedState line.frame s → WinsOrLives side line.frame u s → HasValue line.frame s (value_won_by side)
  life_value side u s formed w = (values_forced line.frame s side formed).1 (game_length_bound line.frame) (strategy_forces side line.frame u s formed w)

  -- its first turn keeps the value, and is shown where its side is to move
  first_keeps : (side : Side) (u : Strategy) → WinsOrLives side line.frame u line.state → winner_of line.frame line.state ≡ None → IsFirstTurnOfWinner line side (first_turn_of u)
  first_keeps side done (inl won) nobody = absurd (none-some side (sym nobody ∙ won))
  first_keeps side done (inr lives) nobody = λ e. (let h : Attacker ≡ Defender = sym lives.1 ∙ e ∙ lives.0 in cc)
  first_keeps side (pick t u) w nobody =
      (w.1, w.2, life_value side u (after line.frame line.state t) (state_after line.frame line.state t is w.2) w.3)
  first_keeps side (reply es) w nobody = λ e. apart side (sym e ∙ w.1)

  -- a proof at the problem that may end at life decides it
  pub decided : (limits : Limits) (cert : CertKind) (p : ProofClaim) (side : Side) (first : Option Turn) (c : Option (List ℕ))
      → winner_of line.frame line.state ≡ None → StandsAt p line.frame line.state → IsWinningTreeUnder at_win_or_life p.side p.frame p.state p.tree
      → side ≡ p.side → first ≡ first_turn_of p.tree → IsCertificateAsked line limits p.side (first_turn_of p.tree) cert c
      → IsDecided line limits cert (Settled side first c)
  decided limits cert p side first c nobody at won same e asked =
      let w : WinsOrLives p.side line.frame p.tree line.state = subst (λ (x : State). WinsOrLives p.side line.frame p.tree x) at.1
      (subst (λ (x : Frame). WinsOrLives p.side x p.tree p.state) at.0 won.wins) in
      subst (λ (x : Side). IsDecided line limits cert (Settled x first c)) (sym same)
      (subst (λ (o : Option Turn). IsDecided line limits cert (Settled p.side o c)) (sym e)
      (life_value p.side p.tree line.state is w, first_keeps p.side p.tree w nobody, asked))

  -- and so does one that ends at wins
  pub decided_at_win : (limits : Limits) (cert : CertKind) (p : ProofClaim) (side : Side) (first : Option Turn) (c : Option (List ℕ))
      → winner_of line.frame line.state ≡ None → StandsAt p line.frame line.state → IsWinningTree p.side p.frame p.state p.tree
      → side ≡ p.side → first ≡ first_turn_of p.tree → IsCertificateAsked line limits p.side (first_turn_of p.tree) cert c
      → IsDecided line limits cert (Settled side first c)
  decided_at_win limits cert p side first c nobody at won same e asked =
      decided limits cert p side first c nobody at
      (record { wins = wins_either p.side p.frame p.tree p.state won.wins; shallow = won.shallow; in_order = won.in_order }) same e asked

  -- a side that has won has the value
  pub winner_value : (side : Side) → winner_of line.frame line.state ≡ Some side → HasValue line.frame line.state (value_won_by side)
  winner_value side w = (values_forced line.frame line.state side is).1 0 w

-- a solution that decides the problem is one within each total
pub decided_within : (line : LineWithUndo) (limits : Limits) (total : Option ℕ) (cert : CertKind) (s : Solution) → IsDecided line limits cert s
    → IsSolution line limits total cert s
decided_within line limits total cert (Settled side first c) h = h
decided_within line limits total cert (Unsettled reason) h = absurd h

-- what a stuck turn says
pub stuck_for : (line : LineWithUndo) (limits : Limits) (total : Option ℕ) (stuck : Stuck) (reason : Reason) → IsUnsettledAnswer line limits total reason stuck
    → IsUnsettledFor line limits total reason
stuck_for line limits total stuck Budget h = (stuck.turn, h.0, h.2, h.3)
stuck_for line limits total stuck Depth h = (stuck.turn, h.0, h.2, h.3)
stuck_for line limits total stuck Total h = (h.0, h.1, stuck.turn, h.2, stuck.spent.items, h.4, h.5)
stuck_for line limits total stuck Memory h = tt

-- the value that a solution tells
pub told : (line : LineWithUndo) (limits : Limits) (total : Option ℕ) (cert : CertKind) (s : Solution) → IsSolution line limits total cert s
    → IsValueOrReason line limits total (value_of s)
told line limits total cert (Settled side first c) h = h.0
told line limits total cert (Unsettled reason) h = h
