-- What is found among a view's tokens.
use Rattle.std.proofs.Common.{◌≡◌, Option, Some, None, IsSome, IfErr, List, Result, Ok, Err, subst}
use Rattle.std.proofs.lemmas.Bool.{false≢true}
use Rattle.std.specs.Option.{option_map}
use Rattle.tt_game.specs.declared.frame.Side.{Side}
use Rattle.tt_game.specs.Line.{LineWithUndo}
use Rattle.tt_proof.specs.ProofClaim.{ProofClaim}
use Rattle.tt_search.specs.Stores.{IsNewest}
use Rattle.tt_share.specs.Log.{TokenState, proofs_newest_first, HasTokenOfKeyAndSide}

newest_of : {A : Type 0} (value : A → ProofClaim) (line : LineWithUndo) (side : Side) (tokens : List TokenState) (o : Option A) → IsNewest line side (proofs_newest_first tokens) (option_map value o)
    → IsSome o → HasTokenOfKeyAndSide line side tokens
newest_of value line side tokens (Some x) newest some = (value x, newest)
newest_of value line side tokens None newest some = absurd (false≢true some)

-- where the newest proof of a view's tokens was found, there is one
pub has_newest : {A : Type 0} (value : A → ProofClaim) (line : LineWithUndo) (side : Side) (seen tokens : List TokenState) (o : Option A) → seen ≡ tokens
    → IsNewest line side (proofs_newest_first seen) (option_map value o) → IsSome o → HasTokenOfKeyAndSide line side tokens
has_newest value line side seen tokens o same newest some = subst (HasTokenOfKeyAndSide line side) same (newest_of value line side seen o newest some)

-- what holds anyway holds where there is an error
pub if_err : {T E : Type 0} (r : Result T E) (P : Type 0) → P → IfErr r (λ _. P)
if_err (Ok x) P holds = tt
if_err (Err e) P holds = holds
