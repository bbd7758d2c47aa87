-- An index of proofs by their keys and sides.
use Rattle.std.specs.Prelude.{ℕ, ◌<◌, List, map, length, reverse, Option, Some, None, IfSome, slice_get}
use Rattle.tt_game.specs.declared.frame.Side.{Side}
use Rattle.tt_game.specs.declared.keys.Key.{Key}
use Rattle.tt_game.specs.Keys.{key_of}
use Rattle.tt_game.specs.KeyHash.{hash_of_key}
use Rattle.tt_game.specs.Line.{LineWithUndo}
use Rattle.tt_proof.specs.ProofClaim.{ProofClaim}
use Rattle.tt_search.specs.Stores.{HasKeyAndSide, IsNewest}

-- the hash of a key. Other keys may have it too: nothing is found by it alone
abbrev pub index_hash : Key → ℕ
index_hash = hash_of_key

-- the hashes of proofs
abbrev pub key_hashes : List ProofClaim → List ℕ
key_hashes ps = map (λ (p : ProofClaim). index_hash (key_of p.frame p.state)) ps

-- the hashes of the proofs that an index was given, and for how many more it has room
pub record IndexState : Type 0 where
  pub hashes : List ℕ
  pub room : ℕ

-- the proof at the slot that was found, if one was
abbrev pub proof_at : List ProofClaim → Option ℕ → Option ProofClaim
proof_at ps None = None
proof_at ps (Some slot) = slice_get ps slot

-- the slot is that of the last proof of the line's key for the side, or there is none
pub record IsSlotOfNewest (line : LineWithUndo) (side : Side) (ps : List ProofClaim) (slot : Option ℕ) : Type 0 where
  pub newest : IsNewest line side (reverse ps) (proof_at ps slot)
  pub within : IfSome slot (λ n. n < length ps)
  pub found : IfSome (proof_at ps slot) (HasKeyAndSide line side)
