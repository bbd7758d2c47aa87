-- Lemmas on how a call ends.
use Rattle.std.proofs.Common.{◌≡◌, ℕ, List, IfOk, Ok, sym, subst}
use Rattle.std.specs.declared.result.Result.{Result}
use Rattle.tsumego_c.specs.declared.caller_buffer.TextAndStatus.{TextAndStatus}
use Rattle.tsumego_c.specs.Calls.{CallEnds, no_memory, no_room, written}

-- a call that is to write one kind of text writes another kind, where each text of the one is one of the other
pub ends_as : {p q : List ℕ → ℕ → Type 0} (before after : List ℕ) (count status : ℕ) → ((text : List ℕ) (s : ℕ) → p text s → q text s)
    → CallEnds p before after count status → CallEnds q before after count status
ends_as before after count status f (written text s h is fits at) = written text s (f text s h) is fits at
ends_as before after count status f (no_room text s h is more same) = no_room text s (f text s h) is more same
ends_as before after count status f (no_memory same) = no_memory same

-- the text that was made is handed over
pub hands_over : {E : Type 0} (p : List ℕ → ℕ → Type 0) (made : Result TextAndStatus E) (before after : List ℕ) (count status : ℕ)
    → IfOk made (λ t. p t.bytes.items t.status)
    → CallEnds (λ bytes s. (t : TextAndStatus) × (made ≡ Ok t) × (bytes ≡ t.bytes.items) × (s ≡ t.status)) before after count status → CallEnds p before after count status
hands_over {E = E} p made before after count status h = ends_as before after count status (λ text s g.
    let q : p g.0.bytes.items g.0.status = subst (λ (m : Result TextAndStatus E). IfOk m (λ t. p t.bytes.items t.status)) g.1 h in
    subst (λ (x : List ℕ). p x s) (sym g.2) (subst (λ (y : ℕ). p g.0.bytes.items y) (sym g.3) q))
