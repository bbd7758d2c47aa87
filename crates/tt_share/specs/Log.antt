-- A log of proofs, and what its tokens and views show.
use Rattle.std.specs.Prelude.{◌≡◌, ℕ, ◌+◌, ◌++◌, ◌∷◌, [], List, Some, map, reverse}
use Rattle.boxcar.specs.Table.{Shelves, id_at}
use Rattle.tt_game.specs.declared.frame.Side.{Side}
use Rattle.tt_game.specs.Line.{LineWithUndo}
use Rattle.tt_proof.specs.ProofClaim.{ProofClaim}
use Rattle.tt_search.specs.Stores.{IsNewest}

-- a slot in a log, and the proof there; the other two numbers tell of which log it is
pub record TokenState : Type 0 where
  pub slot : ℕ
  pub proof : ProofClaim
  pub bucket : ℕ
  pub row : ℕ

-- the token is of this log
abbrev pub IsTokenOf : Shelves → TokenState → Type 0
IsTokenOf log t = t.row ≡ id_at log.buckets t.bucket

-- a view's log, its tokens, the oldest first, and how many proofs were kept through it
pub record ViewState : Type 0 where
  pub log : Shelves
  pub tokens : List TokenState
  pub kept : ℕ

-- the tokens' proofs
abbrev pub proofs_of : List TokenState → List ProofClaim
proofs_of tokens = map (λ (t : TokenState). t.proof) tokens

-- and the last token's first
abbrev pub proofs_newest_first : List TokenState → List ProofClaim
proofs_newest_first tokens = reverse (proofs_of tokens)

-- among the tokens is one of the line's key for the side: a last one
abbrev pub HasTokenOfKeyAndSide : LineWithUndo → Side → List TokenState → Type 0
HasTokenOfKeyAndSide line side tokens = (p : ProofClaim) × IsNewest line side (proofs_newest_first tokens) (Some p)

-- the later tokens are the earlier ones with none or more behind them
abbrev pub Extends : List TokenState → List TokenState → Type 0
Extends before after = (more : List TokenState) × (after ≡ before ++ more)

-- one proof was kept: the view has one more token, of that proof
pub record KeepsProof (before after : ViewState) (p : ProofClaim) : Type 0 where
  pub counted : after.kept ≡ before.kept + 1
  pub token : TokenState
  pub added : after.tokens ≡ before.tokens ++ token ∷ []
  pub of_proof : token.proof ≡ p
