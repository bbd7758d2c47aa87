-- The neighbours of a point that are on the board. Private contracts alone cite these.
use Rattle.std.specs.Prelude.{◌≡◌, ℕ, ◌⊎◌, List, [], ◌∷◌, Option, Some, None}

-- a neighbour q that is there exactly where P holds
abbrev pub IsThere : Option ℕ → Type 0 → ℕ → Type 0
IsThere neighbour P q = (P × (neighbour ≡ Some q)) ⊎ ((P → ⊥) × (neighbour ≡ None))

-- q is one of four neighbours
abbrev pub IsOneOf : Option ℕ → Option ℕ → Option ℕ → Option ℕ → ℕ → Type 0
IsOneOf a b c d q = (a ≡ Some q) ⊎ (b ≡ Some q) ⊎ (c ≡ Some q) ⊎ (d ≡ Some q)

-- a neighbour at the head of a list, where it is there
abbrev pub ahead : Option ℕ → List ℕ → List ℕ
ahead None rest = rest
ahead (Some q) rest = q ∷ rest

-- those of four neighbours that are there
abbrev pub neighbours_there : Option ℕ → Option ℕ → Option ℕ → Option ℕ → List ℕ
neighbours_there a b c d = ahead a (ahead b (ahead c (ahead d [])))
