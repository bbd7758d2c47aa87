-- How a table finds the slots of a key by an index. Only private contracts cite these.
use Rattle.std.specs.Prelude.{◌≡◌, ℕ, Bool, List, [], unwrap_or}
use Rattle.std.specs.Option.{option_map}
use Rattle.std.specs.HashMap.{HashMap, get}
use Rattle.std.specs.declared.vec.Vec.{Vec}
use Rattle.std.specs.declared.alloc.Global.{Global}
use Rattle.tt_game.specs.declared.keys.Key.{Key}
use Rattle.tt_proof.specs.ProofClaim.{ProofClaim}
use Rattle.tt_game.specs.SameKey.{same_key}
use Rattle.tt_share.specs.Table.{slots_with_key}

-- the slots that the index has at the key
abbrev pub slots_at : {K S : Type 0} → (K → K → Bool) → HashMap K (Vec ℕ Global) S → K → List ℕ
slots_at eq index k = unwrap_or (option_map (λ (v : Vec ℕ Global). v.items) (get eq index k)) []

-- the index has the slots of each key
abbrev pub IsIndexOf : {S : Type 0} → HashMap Key (Vec ℕ Global) S → List ProofClaim → Type 0
IsIndexOf index ps = (k : Key) → slots_at same_key index k ≡ slots_with_key k ps
