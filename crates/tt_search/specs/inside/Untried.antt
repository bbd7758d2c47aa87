-- The turns of a node of which none has been tried: plays, and a pass. For private contracts and proofs.
use Rattle.std.specs.Prelude.{◌≤◌, ◌<◌, ℕ, zero, suc, Bool, List, [], ◌∷◌, ◌++◌, if◌then◌else◌, length}
use Rattle.tt_sgf.specs.declared.size.TheConstants.{MOST_POINTS}
use Rattle.tt_search.specs.inside.Edges.{AreFresh}
use Rattle.tt_search.specs.declared.tree.edges.Edge.{Edge}
use Rattle.tt_search.specs.declared.tree.edges.TheConstants.{TURN_NUMBER_BOUND}

-- the edge of the turn of a number to a child of which nothing is known
abbrev pub fresh_edge : ℕ → Edge
fresh_edge n = record { code = n }

-- the edges of the plays on those of the first n points that pass the test
unfoldable pub plays_in : (ℕ → Bool) → ℕ → List Edge
plays_in has zero = []
plays_in has (suc n) = if has n then plays_in has n ++ fresh_edge n ∷ [] else plays_in has n

-- their points are below this one
abbrev pub AreBelow : ℕ → List Edge → Type 0
AreBelow p [] = Unit {0}
AreBelow p (e ∷ es) = (e.code < p) × AreBelow p es

-- the edges of plays, and of a pass
abbrev pub plays_and_pass : List Edge → List Edge
plays_and_pass plays = plays ++ fresh_edge MOST_POINTS ∷ []

-- nothing is known behind any of the edges; there is one at least, and no more than a node can have
pub record AreUntried (es : List Edge) : Type 0 where
  pub fresh : AreFresh es
  pub some : 0 < length es
  pub few : length es ≤ TURN_NUMBER_BOUND
