-- What reading a text back tells.
use Rattle.std.proofs.Common.{◌≡◌, ◌++◌, ◌∷◌, ◌∙◌, ℕ, List, [], Ok, Err, false, refl, sym, ap, subst, slice_index_or}
use Rattle.std.proofs.lemmas.Bool.{eq-eqb, true≢false}
use Rattle.std.specs.Prelude.{◌==◌}
use Rattle.std.specs.List.{list_any}
use Rattle.std.specs.declared.result.Result.{Result}
use Rattle.tt_sgf.specs.Bytes.{open_tree}
use Rattle.tt_sgf.specs.Grammar.{FirstTreeEndsAt, GameTree, GrammarIsUnambiguous, main_line}
use Rattle.tt_sgf.specs.declared.nodes.Node.{Node}
use Rattle.tt_game.specs.declared.faults.GameFault.{GameFault}
use Rattle.tt_game.specs.Line.{LineWithUndo}
use Rattle.tt_game.specs.Problems.{problem_of}
use Rattle.tsumego_show.proofs.GivenBytes.{neither, opens}
use Rattle.tsumego_show.specs.Written.{IsOneTree, IsProblemText}

begun : (text skipped rest : List ℕ) → list_any (λ b. b == open_tree) skipped ≡ false → text ≡ skipped ++ rest → slice_index_or text 0 0 ≡ open_tree → skipped ≡ []
begun text [] rest none parts is = refl
begun text (b ∷ skipped) rest none parts is =
    absurd (true≢false (sym (eq-eqb b open_tree (sym (ap (λ l. slice_index_or l 0 0) parts) ∙ is)) ∙ (neither (b == open_tree) (list_any (λ x. x == open_tree) skipped) none).0))

-- a text begins with its tree where its first byte is `(`
pub starts : (text : List ℕ) (count : ℕ) (t : GameTree) (ends : FirstTreeEndsAt text count t) → slice_index_or text 0 0 ≡ open_tree → ends.skipped ≡ []
starts text count t ends is = begun text ends.skipped (ends.text ++ ends.rest) ends.no_open ends.parts is

pub starts_there : (text : List ℕ) (count : ℕ) (t : GameTree) (ends : FirstTreeEndsAt text count t) → ends.skipped ≡ [] → slice_index_or text 0 0 ≡ open_tree
starts_there text count t ends empty =
    let opened = opens ends.text t ends.spells in
    ap (λ l. slice_index_or l 0 0) (ends.parts ∙ ap (λ s. s ++ (ends.text ++ ends.rest)) empty ∙ ap (λ x. x ++ ends.rest) opened.1)

module _ (reading : GrammarIsUnambiguous) (text : List ℕ) (count : ℕ) (t : GameTree) (ends : FirstTreeEndsAt text count t) where
  -- a text that is one tree has its first one alone
  pub alone : (n : ℕ) (s : GameTree) → IsOneTree text n s → IsOneTree text count t
  alone n s one =
      let same = reading text n count s t one.0 ends in
      subst (λ (k : ℕ). IsOneTree text k t) same.0 (subst (λ (g : GameTree). IsOneTree text n g) same.1 one)

  -- and is the problem of this tree
  pub problem_there : (nodes : List Node) → nodes ≡ main_line t → (q : LineWithUndo) → IsProblemText text q → problem_of nodes ≡ Ok q
  problem_there nodes line q (n, s, one, is) =
      let same = reading text n count s t one.0 ends in
      subst (λ (ns : List Node). problem_of ns ≡ Ok q) (sym line) (subst (λ (g : GameTree). problem_of (main_line g) ≡ Ok q) same.1 is)

  -- so it is none where this is refused
  pub refused_none : (nodes : List Node) (e : GameFault) → nodes ≡ main_line t → problem_of nodes ≡ Err e → (q : LineWithUndo) → IsProblemText text q → ⊥
  refused_none nodes e line fault q is =
      let bad : ◌≡◌ {A = Result LineWithUndo GameFault} (Err e) (Ok q) = sym fault ∙ problem_there nodes line q is in cc

-- a text is one problem
pub problem_same : (reading : GrammarIsUnambiguous) (text : List ℕ) (p q : LineWithUndo) → IsProblemText text p → IsProblemText text q → p ≡ q
problem_same reading text p q (count, t, one, is) other =
    let both : ◌≡◌ {A = Result LineWithUndo GameFault} (Ok p) (Ok q) = sym is ∙ problem_there reading text count t one.0 (main_line t) refl q other in cc
