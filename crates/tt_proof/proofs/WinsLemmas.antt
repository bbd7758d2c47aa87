-- A reply wins exactly where each legal turn has an entry and each entry of a legal turn wins.
use Rattle.std.proofs.Common.{ℕ, ◌+◌, ◌≤◌, ◌↔◌, inl, inr, arith, subst, refl, sym, ap}
use Rattle.tt_game.specs.Game.{State, IsLegal, after}
use Rattle.tt_game.specs.declared.frame.Side.{Side}
use Rattle.tt_game.specs.declared.turns.Turn.{Turn}
use Rattle.tt_game.specs.declared.frame.Frame.{Frame}
use Rattle.tt_proof.specs.Strategy.{Entries, reply, none, entry, AreInOrder, turn_number_on_size}
use Rattle.tt_proof.specs.EndRules.{EndRule}
use Rattle.tt_proof.specs.Wins.{WinsUnder, WinsBehindUnder}
use Rattle.tt_proof.specs.inside.Replaying.{HasEntry, LegalWin, AnswersEach}

module _ (rule : EndRule) (side : Side) (f : Frame) (s : State) where
  -- where each entry of a legal turn wins, a legal turn that has an entry has one that wins
  pub win_behind : (es : Entries) (t : Turn) → IsLegal f s t → LegalWin rule side f s es → HasEntry es t → WinsBehindUnder rule side f es t s
  win_behind none t l w h = h
  win_behind (entry t' u es) t l w (inl e) =
      inl (e, subst (λ x. WinsUnder rule side f u (after f s x)) e (w.0 (subst (λ x. IsLegal f s x) (sym e) l)))
  win_behind (entry t' u es) t l w (inr h) = inr (win_behind es t l w.1 h)

  -- a turn of which some entry wins has an entry
  pub has_behind : (es : Entries) (t : Turn) → WinsBehindUnder rule side f es t s → HasEntry es t
  has_behind none t h = h
  has_behind (entry t' u es) t (inl h) = inl h.0
  has_behind (entry t' u es) t (inr h) = inr (has_behind es t h)

  -- of entries in order, none has a number below the least
  entry_number : (least : ℕ) (es : Entries) (t : Turn) → AreInOrder f.size least es → HasEntry es t → least ≤ turn_number_on_size f.size t
  entry_number least none t o h = absurd h
  entry_number least (entry t' u es) t o (inl e) = let same = ap (turn_number_on_size f.size) e in omega (arith, o.0, same)
  entry_number least (entry t' u es) t o (inr h) =
      let past = entry_number (turn_number_on_size f.size t' + 1) es t o.3 h in omega (arith, o.0, past)

  -- of entries in order, each of a legal turn wins where some entry of each such turn does
  pub legal_win : (least : ℕ) (es : Entries) → AreInOrder f.size least es →
      ((t : Turn) → HasEntry es t → IsLegal f s t → WinsBehindUnder rule side f es t s) → LegalWin rule side f s es
  legal_win least none o h = tt
  legal_win least (entry t u es) o h = (here, legal_win (turn_number_on_size f.size t + 1) es o.3 there)
    where
      -- the first one does
      here : IsLegal f s t → WinsUnder rule side f u (after f s t)
      here l = pass (h t (inl refl) l)
        where
          -- it is the only one of its turn
          pass : WinsBehindUnder rule side f (entry t u es) t s → WinsUnder rule side f u (after f s t)
          pass (inl e) = e.1
          pass (inr w) = let late = entry_number (turn_number_on_size f.size t + 1) es t o.3 (has_behind es t w) in absurd (omega (arith, late))

      -- of the other turns, some entry behind it does
      there : (t' : Turn) → HasEntry es t' → IsLegal f s t' → WinsBehindUnder rule side f es t' s
      there t' e l = pass (h t' (inr e) l)
        where
          -- the first one is not of this turn
          pass : WinsBehindUnder rule side f (entry t u es) t' s → WinsBehindUnder rule side f es t' s
          pass (inl w) =
              let late = entry_number (turn_number_on_size f.size t + 1) es t' o.3 e in
              let same = ap (turn_number_on_size f.size) w.0 in
              absurd (omega (arith, late, same))
          pass (inr w) = w

  -- a reply that wins has an entry for each turn of the other side
  pub reply_answers : (es : Entries) → WinsUnder rule side f (reply es) s → AnswersEach side f s es
  reply_answers es w = ((w.0, w.1), λ t l. has_behind es t (w.2 t l))

  -- where each legal turn has an entry, the reply wins exactly where each entry of a legal turn does
  pub reply_wins : (es : Entries) → AreInOrder f.size 0 es → AnswersEach side f s es → LegalWin rule side f s es ↔ WinsUnder rule side f (reply es) s
  reply_wins es o a =
      (λ w. (a.0.0, a.0.1, λ t l. win_behind es t l w (a.1 t l)), λ w. legal_win 0 es o (λ t h l. w.2 t l))
