-- Lemmas on the values behind turns.
use Rattle.std.proofs.Common.{◌≡◌, ◌∙◌, ◌+◌, ◌<◌, ◌≤◌, ℕ, Bool, false, List, [], ◌∷◌, ◌++◌, Contains, Option, Result, refl, sym, ap, subst, take, length, get_or}
use Rattle.std.proofs.lemmas.List.{take_all, take_more}
use Rattle.std.proofs.lemmas.List.Elements.{Contains-get_or}
use Rattle.tt_game.specs.declared.frame.Side.{Side}
use Rattle.tt_game.specs.declared.turns.Turn.{Turn}
use Rattle.tt_game.specs.Game.{IsLegal}
use Rattle.tt_game.specs.Line.{LineWithUndo, problem_after_turn}
use Rattle.tt_game.specs.Turns.{legal_turns}
use Rattle.tt_game.specs.laws.TurnLaws.{contains-legal_turns}
use Rattle.tt_search.specs.declared.limits.Limits.{Limits}
use Rattle.tt_search.specs.declared.limits.Reason.{Reason}
use Rattle.tt_solve.specs.declared.options.Options.{Options}
use Rattle.tt_solve.specs.declared.solution.Solved.{Solved}
use Rattle.tt_solve.specs.Solutions.{AreTurnValues, AreTurnValuesAsked, IsSolution, IsSolved, IsValueOrReason}
use Rattle.tt_solve.specs.Totals.{HoldsByGrants, HoldsLeaving, total_left}
use Rattle.tt_solve.proofs.Totals.{by_some}

-- a turn in the list of legal turns is legal
pub legal_there : (p : LineWithUndo) (ts : List Turn) (n : ℕ) (t : Turn) → ts ≡ legal_turns p.frame p.state → n < length ts → t ≡ get_or ts n t → IsLegal p.frame p.state t
legal_there p ts n t all lt is =
    let here : Contains ts t = subst (λ (u : Turn). Contains ts u) (sym is) (Contains-get_or ts n t lt) in
    (contains-legal_turns p.frame p.state t).0 (subst (λ (us : List Turn). Contains us t) all here)

module _ (p : LineWithUndo) (limits : Limits) where
  -- one more value behind the values
  one_more : (total mid left : Option ℕ) (ts : List Turn) (t : Turn) (values : List (Turn × Result Side Reason)) (value : Result Side Reason)
      → AreTurnValues p limits total mid ts values → HoldsLeaving (problem_after_turn p t) limits (λ n. IsValueOrReason (problem_after_turn p t) limits n value) mid left
      → AreTurnValues p limits total left (ts ++ t ∷ []) (values ++ (t, value) ∷ [])
  one_more total mid left [] t values value h v = (
    v.0,
    value,
    [],
    subst (λ (o : Option ℕ). HoldsByGrants (problem_after_turn p t) limits (λ n. IsValueOrReason (problem_after_turn p t) limits n value) o v.0) h.0 v.1,
    ap (λ (x : List (Turn × Result Side Reason)). x ++ (t, value) ∷ []) h.1,
    (v.2 ∙ ap (λ (o : Option ℕ). total_left o v.0) h.0, refl),
  )
  one_more total mid left (u ∷ us) t values value h v = (
    h.0,
    h.1,
    h.2 ++ (t, value) ∷ [],
    h.3,
    ap (λ (x : List (Turn × Result Side Reason)). x ++ (t, value) ∷ []) h.4,
    one_more (total_left total h.0) mid left us t h.2 value h.5 v,
  )

  -- the value of the next turn in the list
  pub next_value : (total mid left : Option ℕ) (ts : List Turn) (n : ℕ) (t : Turn) (values after : List (Turn × Result Side Reason)) (value : Result Side Reason)
      → n < length ts → t ≡ get_or ts n t → AreTurnValues p limits total mid (take n ts) values
      → HoldsLeaving (problem_after_turn p t) limits (λ m. IsValueOrReason (problem_after_turn p t) limits m value) mid left → after ≡ values ++ (t, value) ∷ []
      → AreTurnValues p limits total left (take (n + 1) ts) after
  next_value total mid left ts n t values after value lt is h v e =
      let more : take n ts ++ t ∷ [] ≡ take (n + 1) ts = ap (λ (u : Turn). take n ts ++ u ∷ []) is ∙ sym (take_more ts n t lt) in
      subst (λ (x : List (Turn × Result Side Reason)). AreTurnValues p limits total left (take (n + 1) ts) x) (sym e)
      (subst (λ (us : List Turn). AreTurnValues p limits total left us (values ++ (t, value) ∷ [])) more (one_more total mid left (take n ts) t values value h v))

-- the values of the whole list
pub all_values : (p : LineWithUndo) (limits : Limits) (total left : Option ℕ) (ts : List Turn) (n : ℕ) (values : List (Turn × Result Side Reason)) → length ts ≤ n
    → ts ≡ legal_turns p.frame p.state → AreTurnValues p limits total left (take n ts) values → AreTurnValues p limits total left (legal_turns p.frame p.state) values
all_values p limits total left ts n values whole all h = subst (λ (us : List Turn). AreTurnValues p limits total left us values) (take_all n ts whole ∙ all) h

-- the problem, and what follows of its turns
pub solved : (options : Options) (p : LineWithUndo) (left : Option ℕ) (s : Solved) → HoldsLeaving p options.limits (λ n. IsSolution p options.limits n options.cert s.solution) options.total left
    → AreTurnValuesAsked p options.limits left options.turns s.turn_values.items → IsSolved options p s
solved options p left s v h = (v.0, v.1, subst (λ (o : Option ℕ). AreTurnValuesAsked p options.limits o options.turns s.turn_values.items) v.2 h)

-- the problem alone
pub solved_alone : (options : Options) (p : LineWithUndo) (s : Solved) → options.turns ≡ false → IsSolution p options.limits options.total options.cert s.solution
    → s.turn_values.items ≡ [] → IsSolved options p s
solved_alone options p s none is empty =
    let all = by_some p options.limits options.cert s.solution options.total is in
    (all.0, all.1, subst (λ (b : Bool). AreTurnValuesAsked p options.limits (total_left options.total all.0) b s.turn_values.items) (sym none) empty)
