-- Lemmas on inputs past the limit, of which only a part is read, and on how writing a text ends.
use Rattle.std.proofs.Common.{refl, [], ◌≡◌, ◌≤◌, ◌+◌, ℕ, Bool, List, inl, inr, Option, None, Some, Ok, Err, length, take, arith, subst, sym, ◌∙◌, append-nil}
use Rattle.std.specs.declared.result.Result.{Result}
use Rattle.tt_sgf.specs.declared.trees.TheConstants.{MAX_BYTES}
use Rattle.devices.specs.declared.fault.RunFault.{RunFault}
use Rattle.devices.specs.declared.fault.RunFault.TheVariants.{Input, Output, Memory}
use Rattle.std.specs.Io.KnownBytes.{Appends, Keeps}
use Rattle.devices.specs.laws.PrefixLaws.{prefix_is_whole_or_full}
use Rattle.devices.specs.Watching.{IsReadInput}
use Rattle.devices.specs.Writing.{WritesUntilFault, HoldsForInput}
use Rattle.tsumego_show.specs.declared.mode.Mode.{Mode}
use Rattle.tsumego_show.specs.Shown.{IsInputShown, IsTextWithStatus, too_long, trees}
use Rattle.tsumego_show.specs.Writing.{WritesShown}

-- where a part that is too long is refused, the input is
long_refused : (mode : Mode) (input part : List ℕ) (refused : Bool) (text : List ℕ) → length part ≡ MAX_BYTES + 1 → MAX_BYTES + 1 ≤ length input
    → IsInputShown mode part refused text → IsInputShown mode input refused text
long_refused mode input part refused text e le (too_long _ long on) = too_long text (omega arith) on
long_refused mode input part refused text e le (trees _ _ small h) = absurd (omega arith)

-- the text for the part up to the limit is that for the input
text_whole : (mode : Mode) (input text : List ℕ) (status : ℕ) → IsTextWithStatus mode (take (MAX_BYTES + 1) input) text status
    → IsTextWithStatus mode input text status
text_whole mode input text status h = elim (prefix_is_whole_or_full (MAX_BYTES + 1) input) [
  | inl e ↦ subst (λ (x : List ℕ). IsTextWithStatus mode x text status) e h
  | inr p ↦ (h.0, long_refused mode input (take (MAX_BYTES + 1) input) h.0 text p.0 p.1 h.1, h.2)
]

-- and what is written of it is written of the input
writes_whole : (mode : Mode) (input : List ℕ) (r : Result ℕ RunFault) (a b : Option (List ℕ)) → WritesShown mode (take (MAX_BYTES + 1) input) r a b → WritesShown mode input r a b
writes_whole mode input (Ok status) a b w = (w.0, elim w.1 [ inl h ↦ inl (text_whole mode input w.0 status h) | inr none ↦ inr none ], w.2)
writes_whole mode input (Err Input) a b w = w
writes_whole mode input (Err Output) a b w = (w.0, w.1, (w.2.0, text_whole mode input w.0 w.2.0 w.2.1), w.3)
writes_whole mode input (Err Memory) a b w = w

-- what is written on the part up to the limit is written on the input
pub writes_read : (mode : Mode) (given : Option (List ℕ)) (bytes : List ℕ) (r : Result ℕ RunFault) (a b : Option (List ℕ)) → IsReadInput (MAX_BYTES + 1) given bytes → WritesShown mode bytes r a b
    → HoldsForInput given (λ input. WritesShown mode input r a b)
writes_read mode None bytes r a b e w = (bytes, w)
writes_read mode (Some input) bytes r a b e w = writes_whole mode input r a b (subst (λ (x : List ℕ). WritesShown mode x r a b) e w)

-- what is kept has grown by nothing
kept_whole : (a b : Option (List ℕ)) → Keeps a b → Appends a b []
kept_whole None b w = tt
kept_whole (Some x) None w = absurd w
kept_whole (Some x) (Some y) w = w ∙ sym (append-nil x)

-- a fault came where a text was to be written
pub text_breaks : (mode : Mode) (input text : List ℕ) (status : ℕ) (e : RunFault) (a b : Option (List ℕ)) → IsTextWithStatus mode input text status → WritesUntilFault text e a b
    → WritesShown mode input (Err e) a b
text_breaks mode input text status Input a b h w = absurd w
text_breaks mode input text status Output a b h w = (text, w.0, (status, h), w.1)
text_breaks mode input text status Memory a b h w = ([], refl, kept_whole a b w)
