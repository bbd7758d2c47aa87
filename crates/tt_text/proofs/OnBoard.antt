-- What is written lies on the board, and is what is said of the problem.
use Rattle.std.proofs.Common.{◌≡◌, ℕ, Bool, true, false, List, [], ◌∷◌, All, Option, None, Some, Result, Ok, IfOk, sym, subst}
use Rattle.std.proofs.lemmas.List.Elements.{All-cons, All-nil}
use Rattle.tt_sgf.specs.declared.nodes.Node.{Node}
use Rattle.tt_game.specs.declared.faults.GameFault.{GameFault}
use Rattle.tt_game.specs.declared.frame.Side.{Side}
use Rattle.tt_game.specs.declared.turns.Turn.{Turn}
use Rattle.tt_game.specs.declared.turns.Turn.TheVariants.{Play, Pass}
use Rattle.tt_game.specs.Game.{IsLegal}
use Rattle.tt_game.specs.Line.{LineWithUndo}
use Rattle.tt_game.specs.Problems.{problem_of}
use Rattle.tt_game.specs.Turns.{legal_turns}
use Rattle.tt_game.specs.laws.TurnLaws.{EachIsLegal, legal_turns_are_legal}
use Rattle.tt_proof.specs.Strategy.{IsTurnOnBoardOfSize}
use Rattle.tt_search.specs.declared.limits.Limits.{Limits}
use Rattle.tt_search.specs.declared.limits.Reason.{Reason}
use Rattle.tt_solve.specs.declared.options.CertKind.{CertKind}
use Rattle.tt_solve.specs.declared.solution.Solution.{Solution}
use Rattle.tt_solve.specs.declared.solution.Solution.TheVariants.{Settled, Unsettled}
use Rattle.tt_solve.specs.declared.options.Options.{Options}
use Rattle.tt_solve.specs.Solutions.{AreTurnValues, AreTurnValuesAsked, IsSolution}
use Rattle.tt_solve.specs.Totals.{total_left}
use Rattle.tt_text.specs.declared.outcome.TreeOutcome.{TreeOutcome}
use Rattle.tt_text.specs.Solving.{Solves, SolvesProblemAs}
use Rattle.tt_text.specs.inside.OnBoard.{IsFirstOnBoard}

-- a legal turn lies on the board
legal_on_board : (p : LineWithUndo) (t : Turn) → IsLegal p.frame p.state t → IsTurnOnBoardOfSize p.frame.size t
legal_on_board p (Play q) l = l.1
legal_on_board p Pass l = tt

-- so does the first turn of a solution
pub first_on_board : (p : LineWithUndo) (limits : Limits) (total : Option ℕ) (cert : CertKind) (s : Solution) → IsSolution p limits total cert s
    → IsFirstOnBoard p.frame.size s
first_on_board p limits total cert (Settled side None c) is = tt
first_on_board p limits total cert (Settled side (Some t) c) is = legal_on_board p t is.1.1
first_on_board p limits total cert (Unsettled reason) is = tt

-- and each turn that has a value
abbrev AreOnBoard : LineWithUndo → List (Turn × Result Side Reason) → Type 0
AreOnBoard p values = All (λ (e : Turn × Result Side Reason). IsTurnOnBoardOfSize p.frame.size e.0) values

each_on_board : (p : LineWithUndo) (limits : Limits) (total left : Option ℕ) (ts : List Turn) (values : List (Turn × Result Side Reason)) → EachIsLegal p.frame p.state ts
    → AreTurnValues p limits total left ts values → AreOnBoard p values
each_on_board p limits total left [] values legal h = subst (AreOnBoard p) (sym h.1) (All-nil (λ (e : Turn × Result Side Reason). IsTurnOnBoardOfSize p.frame.size e.0))
each_on_board p limits total left (t ∷ ts) values legal h =
    subst (AreOnBoard p) (sym h.4)
    (All-cons (λ (e : Turn × Result Side Reason). IsTurnOnBoardOfSize p.frame.size e.0) (t, h.1) h.2 (legal_on_board p t legal.0)
    (each_on_board p limits (total_left total h.0) left ts h.2 legal.1 h.5))

pub turns_on_board : (p : LineWithUndo) (limits : Limits) (total : Option ℕ) (asked : Bool) (values : List (Turn × Result Side Reason))
    → AreTurnValuesAsked p limits total asked values → AreOnBoard p values
turns_on_board p limits total false values e = subst (AreOnBoard p) (sym e) (All-nil (λ (e : Turn × Result Side Reason). IsTurnOnBoardOfSize p.frame.size e.0))
turns_on_board p limits total true values h = each_on_board p limits total h.0 (legal_turns p.frame p.state) values (legal_turns_are_legal p.frame p.state) h.1

-- what is said of the problem of a main line
pub said_of_nodes : {E : Type 0} (options : Options) (ns : List Node) (p : LineWithUndo) (r : Result TreeOutcome E) → problem_of ns ≡ Ok p → IfOk r (SolvesProblemAs options (Ok p))
    → IfOk r (Solves options ns)
said_of_nodes options ns p r e is = subst (λ (q : Result LineWithUndo GameFault). IfOk r (SolvesProblemAs options q)) (sym e) is
