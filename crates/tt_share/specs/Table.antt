-- A table of proofs: which of them have a key, and the size of all trees.
use Rattle.std.specs.Prelude.{ℕ, ◌+◌, ◌-◌, ◌^◌, min, Bool, List, [], ◌∷◌, cond, sum_by}
use Rattle.tt_game.specs.declared.keys.Key.{Key}
use Rattle.tt_game.specs.Keys.{key_of}
use Rattle.tt_game.specs.SameKey.{same_key}
use Rattle.tt_proof.specs.ProofClaim.{ProofClaim}
use Rattle.tt_proof.specs.Nodes.{nodes}

-- the rising slots, counted from n on, of what passes the test
abbrev pub slots_passing_from : {X : Type 0} → (X → Bool) → ℕ → List X → List ℕ
slots_passing_from test n [] = []
slots_passing_from test n (x ∷ xs) = cond (test x) (n ∷ slots_passing_from test (n + 1) xs) (slots_passing_from test (n + 1) xs)

-- the rising slots of the proofs whose position has the key
abbrev pub slots_with_key : Key → List ProofClaim → List ℕ
slots_with_key k ps = slots_passing_from (λ (p : ProofClaim). same_key k (key_of p.frame p.state)) 0 ps

-- the nodes of all trees, or the greatest number of 64 bits where they are more
abbrev pub total_node_count : List ProofClaim → ℕ
total_node_count ps = min (sum_by (λ (p : ProofClaim). nodes p.tree) ps) (2 ^ 64 - 1)
