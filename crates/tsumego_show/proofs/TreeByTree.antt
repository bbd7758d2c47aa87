-- Lemmas on an input that is read tree by tree.
use Rattle.std.proofs.Common.{◌≡◌, ◌≤◌, ◌<◌, ◌+◌, ◌-◌, ◌++◌, ◌⊎◌, ℕ, List, [], Bool, true, false, ◌||◌, inl, inr, sym, length, take, drop, arith, subst, append_assoc, append-nil}
use Rattle.tt_sgf.specs.declared.trees.TheConstants.{MAX_BYTES}
use Rattle.tsumego_show.specs.declared.mode.Mode.{Mode}
use Rattle.std.proofs.lemmas.List.{take_all, length-drop}
use Rattle.std.proofs.Math.Bool.{or_assoc, or-false, or-true}
use Rattle.tt_sgf.specs.declared.nodes.Node.{Node}
use Rattle.tt_sgf.specs.Grammar.{GameTree, HasNoTree, FirstTreeEndsAt, main_line, HasOpeningParenthesis}
use Rattle.tt_game.specs.Problems.{problem_of}
use Rattle.tsumego_show.specs.Shown.{IsInputShown, IsRestShown, IsTreeRefused, ended, stopped, too_long, tree, trees}
use Rattle.tsumego_show.specs.Written.{IsWrittenOn, IsWrittenOnNoTree}

-- what is refused in the rest, or was so far, is refused in the input, and what is written on the rest follows what was written so far
abbrev pub IsSoFar : Mode → List ℕ → ℕ → List ℕ → Bool → List ℕ → Type 0
IsSoFar mode input k rest refused text = (other : Bool) (behind : List ℕ) → IsRestShown mode k rest other behind
    → IsRestShown mode 1 input (refused || other) (text ++ behind)

-- one more tree
pub tree_more : (mode : Mode) (input : List ℕ) (k : ℕ) (rest : List ℕ) (refused : Bool) (text : List ℕ) (used : ℕ) (t : GameTree) (nodes : List Node) (bad : Bool)
    (given part : List ℕ) → IsSoFar mode input k rest refused text → (s : FirstTreeEndsAt rest used t) → given ≡ s.text → nodes ≡ main_line t
    → IsTreeRefused mode k (problem_of nodes) (take (length rest - used) (drop used rest)) bad → IsWrittenOn mode given nodes (problem_of nodes) bad part
    → IsSoFar mode input (k + 1) (take (length rest - used) (drop used rest)) (refused || bad) (text ++ part)
tree_more mode input k rest refused text used t nodes bad given part far s its_text same w on = λ other behind h.
    let all : take (length rest - used) (drop used rest) ≡ drop used rest = take_all (length rest - used) (drop used rest) (omega (arith, length-drop used rest)) in
    let its : IsTreeRefused mode k (problem_of (main_line t)) (drop used rest) bad =
    subst (λ (ns : List Node). IsTreeRefused mode k (problem_of ns) (drop used rest) bad) same (subst (λ (b : List ℕ). IsTreeRefused mode k (problem_of nodes) b bad) all w) in
    let written : IsWrittenOn mode s.text (main_line t) (problem_of (main_line t)) bad part =
    subst (λ (ns : List Node). IsWrittenOn mode s.text ns (problem_of ns) bad part) same (subst (λ (g : List ℕ). IsWrittenOn mode g nodes (problem_of nodes) bad part) its_text on) in
    let one = tree k rest used t bad other part behind s its written (subst (λ (b : List ℕ). IsRestShown mode (k + 1) b other behind) all h) in
    subst (λ (r : Bool). IsRestShown mode 1 input r ((text ++ part) ++ behind)) (sym (or_assoc refused bad other))
    (subst (λ (x : List ℕ). IsRestShown mode 1 input (refused || (bad || other)) x) (sym (append_assoc text part behind)) (far _ _ one))

-- what is read so far; an input with a tree is not too long
pub record Progress (mode : Mode) (input rest : List ℕ) (k : ℕ) (refused : Bool) (text : List ℕ) : Type 0 where
  pub some : 1 ≤ k
  pub small : ((k ≡ 1) × (rest ≡ input) × (text ≡ [])) ⊎ (length input ≤ MAX_BYTES)
  pub far : IsSoFar mode input k rest refused text

module _ {mode : Mode} {input rest : List ℕ} {k : ℕ} {refused : Bool} {text : List ℕ} (p : Progress mode input rest k refused text) where
  -- where the rest is not too long, the input isn't
  small_whole : length rest ≤ MAX_BYTES → length input ≤ MAX_BYTES
  small_whole le = elim p.small [
    | inl e ↦ subst (λ (x : List ℕ). length x ≤ MAX_BYTES) e.1 le
    | inr whole ↦ whole
  ]

  -- one more tree is read
  pub progress_step : (used : ℕ) (t : GameTree) (nodes : List Node) (bad : Bool) (given part : List ℕ) (s : FirstTreeEndsAt rest used t) → given ≡ s.text → nodes ≡ main_line t
      → length rest ≤ MAX_BYTES → IsTreeRefused mode k (problem_of nodes) (take (length rest - used) (drop used rest)) bad
      → IsWrittenOn mode given nodes (problem_of nodes) bad part
      → Progress mode input (take (length rest - used) (drop used rest)) (k + 1) (refused || bad) (text ++ part)
  progress_step used t nodes bad given part s its_text same small w on = record {
    some = omega (arith, p.some);
    small = inr (small_whole small);
    far = tree_more mode input k rest refused text used t nodes bad given part p.far s its_text same w on;
  }

  -- no tree is spelled, at a bracket or before the first tree
  pub progress_stopped : (words : List ℕ) → (k ≡ 1) ⊎ HasOpeningParenthesis rest → length rest ≤ MAX_BYTES → HasNoTree rest → IsWrittenOnNoTree mode words
      → IsInputShown mode input true (text ++ words)
  progress_stopped words why small none on = trees true (text ++ words) (small_whole small)
      (subst (λ (x : Bool). IsRestShown mode 1 input x (text ++ words)) (or-true refused) (p.far true words (stopped k rest words why none on)))

  -- the rest is too long, which can be at the start alone
  pub progress_long : (words : List ℕ) → MAX_BYTES < length rest → k + length rest ≤ length input + 1 → IsWrittenOnNoTree mode words
      → IsInputShown mode input true (text ++ words)
  progress_long words long bound on = elim p.small [
    | inl h ↦ subst (λ (x : List ℕ). IsInputShown mode input true (x ++ words)) (sym h.2)
        (too_long words (subst (λ (x : List ℕ). MAX_BYTES < length x) h.1 long) on)
    | inr small ↦ absurd (omega (arith, p.some))
  ]

  -- all trees are read
  pub progress_ended : ((k ≡ 1) → ⊥) → (HasOpeningParenthesis rest → ⊥) → IsInputShown mode input refused text
  progress_ended more none =
      trees refused text (elim p.small [ inl h ↦ absurd (more h.0) | inr le ↦ le ])
      (subst (λ (x : Bool). IsRestShown mode 1 input x text) (or-false refused)
      (subst (λ (x : List ℕ). IsRestShown mode 1 input (refused || false) x) (append-nil text) (p.far false [] (ended k rest many none))))
    where
      many : 1 < k
      many = elim (Rattle.std.proofs.lemmas.Bool.cases_lt 1 k) [ inl lt ↦ lt | inr le ↦ absurd (more (omega (arith, p.some))) ]
