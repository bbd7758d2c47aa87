-- An input has one status.
use Rattle.std.proofs.Common.{◌≡◌, ◌↔◌, ℕ, Bool, IsTrue, true, false, List, ◌||◌, ◌+◌, inl, inr, Ok, Err, refl, sym, ap, ap₂, ◌∙◌, drop, arith, subst, if◌then◌else◌}
use Rattle.std.proofs.lemmas.Bool.{false≢true}
use Rattle.std.specs.declared.result.Result.{Result}
use Rattle.tt_sgf.specs.declared.nodes.Node.{Node}
use Rattle.tt_sgf.specs.Grammar.{GameTree, main_line, GrammarIsUnambiguous}
use Rattle.tt_sgf.specs.laws.TreeLaws.{tree_has_parenthesis}
use Rattle.tt_game.specs.declared.faults.GameFault.{GameFault}
use Rattle.tt_game.specs.Line.{LineWithUndo}
use Rattle.tt_game.specs.Games.{GameState}
use Rattle.tt_game.specs.Problems.{game_of, problem_of}
use Rattle.tsumego_show.specs.declared.mode.Mode.{Mode}
use Rattle.tsumego_show.specs.declared.mode.Mode.TheVariants.{Picture, Diagram, Marks, Variations}
use Rattle.tsumego_show.specs.declared.mode.WantedMarks.{WantedMarks}
use Rattle.tsumego_show.specs.Shown.{AddsNoStones, InputHasOneStatus, IsInputShown, IsOnlyTree, IsRestShown, IsTreeRefused, ended, stopped, too_long, tree, trees}
use Rattle.tsumego_show.specs.Written.{AsksUnmarked, HasNoGroup, IsMarkedOrKept, IsMarkedText, IsWrittenOn}

-- one test tells of a fact
test_same : (P : Type 0) (a b : Bool) → (IsTrue a ↔ P) → (IsTrue b ↔ P) → a ≡ b
test_same P true true x y = refl
test_same P false false x y = refl
test_same P true false x y = absurd (false≢true (y.1 (x.0 refl)))
test_same P false true x y = absurd (false≢true (x.1 (y.0 refl)))

differ : (wanted : WantedMarks) (given : List ℕ) (nodes : List Node) (text : List ℕ) (g : GameState) → (wanted.closes ≡ true → ⊥) → AsksUnmarked nodes → game_of nodes ≡ Ok g
    → IsMarkedText wanted given nodes text g
    → (AsksUnmarked nodes → (h : GameState) → game_of nodes ≡ Ok h → HasNoGroup wanted.name h.size h.present) → ⊥
differ wanted given nodes text g alone asks is (q, meant, inl (more, (k, squares, enclosed, inner, reads))) none = none asks g is q meant k squares enclosed inner
differ wanted given nodes text g alone asks is (q, meant, inr closed) none = alone closed.0

-- with marks alone a tree is refused or isn't, whatever its bytes are
marked_same : (wanted : WantedMarks) (nodes : List Node) (given other_given text other_text : List ℕ) (a b : Bool) → (wanted.closes ≡ true → ⊥)
    → IsMarkedOrKept wanted given nodes a text → IsMarkedOrKept wanted other_given nodes b other_text → a ≡ b
marked_same wanted nodes given other_given text other_text true true alone x y = refl
marked_same wanted nodes given other_given text other_text false false alone x y = refl
marked_same wanted nodes given other_given text other_text false true alone (asks, (g, is, marked)) y = absurd (differ wanted given nodes text g alone asks is marked y.1)
marked_same wanted nodes given other_given text other_text true false alone x (asks, (g, is, marked)) = absurd (differ wanted other_given nodes other_text g alone asks is marked x.1)

tree_same : (mode : Mode) (k : ℕ) (nodes : List Node) (r : Result LineWithUndo GameFault) (behind given other_given text other_text : List ℕ) (a b : Bool) → AddsNoStones mode
    → IsTreeRefused mode k r behind a → IsTreeRefused mode k r behind b → IsWrittenOn mode given nodes r a text → IsWrittenOn mode other_given nodes r b other_text → a ≡ b
tree_same Picture k nodes (Ok p) behind given other_given text other_text a b alone x y on other_on = x ∙ sym y
tree_same Picture k nodes (Err e) behind given other_given text other_text a b alone x y on other_on = x ∙ sym y
tree_same Diagram k nodes (Ok p) behind given other_given text other_text a b alone x y on other_on = test_same (IsOnlyTree k behind → ⊥) a b x y
tree_same Diagram k nodes (Err e) behind given other_given text other_text a b alone x y on other_on = x ∙ sym y
tree_same (Variations depth) k nodes (Ok p) behind given other_given text other_text a b alone x y on other_on = x ∙ sym y
tree_same (Variations depth) k nodes (Err e) behind given other_given text other_text a b alone x y on other_on = x ∙ sym y
tree_same (Marks wanted) k nodes (Ok p) behind given other_given text other_text a b alone x y on other_on = on.2 ∙ sym other_on.2
tree_same (Marks wanted) k nodes (Err e) behind given other_given text other_text a b alone x y on other_on =
    marked_same wanted nodes given other_given text other_text a b (alone wanted refl) on other_on

module _ (reading : GrammarIsUnambiguous) where
  rest_same : (mode : Mode) (k : ℕ) (bytes : List ℕ) (a b : Bool) (x y : List ℕ) → AddsNoStones mode → IsRestShown mode k bytes a x → IsRestShown mode k bytes b y → a ≡ b
  rest_same mode k bytes a b x y other (tree _ _ n g bad refused part text spells is on rest) (tree _ _ m h bad' refused' part' text' spells' is' on' rest') =
      let same = reading bytes n m g h spells spells' in
      let its : IsTreeRefused mode k (problem_of (main_line h)) (drop m bytes) bad =
      subst (λ (q : GameTree). IsTreeRefused mode k (problem_of (main_line q)) (drop m bytes) bad) same.1
      (subst (λ q. IsTreeRefused mode k (problem_of (main_line g)) (drop q bytes) bad) same.0 is) in
      let written : IsWrittenOn mode spells.text (main_line h) (problem_of (main_line h)) bad part =
      subst (λ (q : GameTree). IsWrittenOn mode spells.text (main_line q) (problem_of (main_line q)) bad part) same.1 on in
      ap₂ (λ (q w : Bool). q || w)
      (tree_same mode k (main_line h) (problem_of (main_line h)) (drop m bytes) spells.text spells'.text part part' bad bad' other its is' written on')
      (rest_same mode (k + 1) (drop m bytes) refused refused' text text' other (subst (λ q. IsRestShown mode (k + 1) (drop q bytes) refused text) same.0 rest) rest')
  rest_same mode k bytes a b x y other (tree _ _ n g bad refused part text spells is on rest) (ended _ _ many none) = absurd (none (tree_has_parenthesis bytes n g spells))
  rest_same mode k bytes a b x y other (tree _ _ n g bad refused part text spells is on rest) (stopped _ _ _ why none on') = absurd (none g n spells)
  rest_same mode k bytes a b x y other (ended _ _ many none) (tree _ _ m h bad' refused' part' text' spells' is' on' rest') = absurd (none (tree_has_parenthesis bytes m h spells'))
  rest_same mode k bytes a b x y other (ended _ _ many none) (ended _ _ many' none') = refl
  rest_same mode k bytes a b x y other (ended _ _ many none) (stopped _ _ _ (inl e) none' on') = absurd (omega arith)
  rest_same mode k bytes a b x y other (ended _ _ many none) (stopped _ _ _ (inr opens) none' on') = absurd (none opens)
  rest_same mode k bytes a b x y other (stopped _ _ _ why none on) (tree _ _ m h bad' refused' part' text' spells' is' on' rest') = absurd (none h m spells')
  rest_same mode k bytes a b x y other (stopped _ _ _ (inl e) none on) (ended _ _ many none') = absurd (omega arith)
  rest_same mode k bytes a b x y other (stopped _ _ _ (inr opens) none on) (ended _ _ many none') = absurd (none' opens)
  rest_same mode k bytes a b x y other (stopped _ _ _ why none on) (stopped _ _ _ why' none' on') = refl

  input_same : (mode : Mode) (input : List ℕ) (a b : Bool) (x y : List ℕ) → AddsNoStones mode → IsInputShown mode input a x → IsInputShown mode input b y → a ≡ b
  input_same mode input a b x y other (too_long _ long on) (too_long _ more on') = refl
  input_same mode input a b x y other (too_long _ long on) (trees b' text small h) = absurd (omega arith)
  input_same mode input a b x y other (trees a' text small h) (too_long _ long on) = absurd (omega arith)
  input_same mode input a b x y other (trees a' text small h) (trees b' text' little g) = rest_same mode 1 input a' b' text text' other h g

  pub status_same : InputHasOneStatus
  status_same mode input m n other (x, a) (y, b) =
      a.2 ∙ ap (λ (r : Bool). if r then 1 else 0) (input_same mode input a.0 b.0 x y other a.1 b.1) ∙ sym b.2
