-- The answer of a stuck search.
use Rattle.std.proofs.Common.{◌≡◌, ℕ, List, Option, Some, None, refl, sym, subst, ◌∙◌, inr}
use Rattle.tt_game.specs.declared.turns.Turn.{Turn}
use Rattle.tt_game.specs.Game.{IsLegal}
use Rattle.tt_game.specs.Line.{LineWithUndo}
use Rattle.tt_search.specs.SearchState.{SearchState, IsStuckFor}
use Rattle.tt_search.specs.declared.limits.Limits.{Limits}
use Rattle.tt_search.specs.declared.limits.Reason.{Reason}
use Rattle.tt_search.specs.declared.limits.Reason.TheVariants.{Budget, Depth, Total, Memory}
use Rattle.tt_search.specs.declared.search.End.TheVariants.{Stuck}
use Rattle.tt_share.specs.declared.answer.Stuck as answer
use Rattle.tt_search.specs.Growing.{IsGrownFromRoot}
use Rattle.tt_share.specs.Answers.{IsSearchAfter, IsStuckAfter, LesserTurnsLose, IsSpent, IsWithinTotal, counts_if_total_spent_of, IsUnsettledAnswer}
use Rattle.tt_share.specs.inside.Jobs.{EndsBehind}

none_held : (search : SearchState) → None ≡ Some search → ⊥
none_held search e = cc

-- what is known of a search is known of the one that is held
held_behind : (line : LineWithUndo) (limits : Limits) (t : Turn) (search held : SearchState) → IsSearchAfter line limits t search
    → IsGrownFromRoot search.limits search.line.frame search.line.state search.tree → Some search ≡ Some held
    → IsSearchAfter line limits t held × IsGrownFromRoot held.limits held.line.frame held.line.state held.tree
held_behind line limits t search held behind grown e =
    let same : search ≡ held = cc in
    subst (λ (x : SearchState). IsSearchAfter line limits t x × IsGrownFromRoot x.limits x.line.frame x.line.state x.tree) same (behind, grown)

-- it says what is stuck, where the turn's counts are within the total, and all of it if that is why
module _ (line : LineWithUndo) (limits : Limits) (total : Option ℕ) (stuck : answer.Stuck) (legal : IsLegal line.frame line.state stuck.turn)
    (lesser : LesserTurnsLose line.frame line.state stuck.turn) (spent : List (Turn × ℕ)) where
  stuck_after : (reason : Reason) (held : SearchState) → IsSearchAfter line limits stuck.turn held → IsGrownFromRoot held.limits held.line.frame held.line.state held.tree
      → IsStuckFor reason held → IsStuckAfter line limits reason stuck.turn held
  stuck_after reason held behind grown is = record { legal = legal; behind = behind; grown = grown; stuck_for = is; lesser_lose = lesser }

  pub says : (reason : Reason) (o : Option SearchState) → stuck.search ≡ o → EndsBehind line limits stuck.turn (Stuck reason o) → stuck.spent.items ≡ counts_if_total_spent_of reason spent
      → ((held : SearchState) → o ≡ Some held → IsWithinTotal line limits total stuck.turn held)
      → ((held : SearchState) → reason ≡ Total → o ≡ Some held → (n : ℕ) × (total ≡ Some n) × IsSpent line limits n stuck.turn held spent)
      → IsUnsettledAnswer line limits total reason stuck
  says Budget None is behind counts within all = absurd behind
  says Budget (Some held) is behind counts within all = (held, is, stuck_after Budget held behind.0 behind.1 behind.2, within held refl, counts)
  says Depth None is behind counts within all = absurd behind
  says Depth (Some held) is behind counts within all = (held, is, stuck_after Depth held behind.0 behind.1 behind.2, within held refl, counts)
  says Total None is behind counts within all = absurd behind
  says Total (Some held) is behind counts within all =
      let h = all held refl refl in (h.0, h.1, held, is, stuck_after Total held behind.0 behind.1 behind.2, subst (IsSpent line limits h.0 stuck.turn held) (sym counts) h.2)
  says Memory None is behind counts within all = (record { turn = inr (legal, lesser); behind = λ other held. absurd (none_held other (sym is ∙ held)) }, counts)
  says Memory (Some held) is behind counts within all =
      (record { turn = inr (legal, lesser); behind = λ other at. held_behind line limits stuck.turn held other behind.0 behind.1 (sym is ∙ at) }, counts)
