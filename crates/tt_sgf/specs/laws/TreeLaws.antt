-- What is so of bytes that spell a tree.
use Rattle.std.specs.Prelude.{◌≡◌, ◌≤◌, ◌+◌, ℕ, List, [], ◌∷◌, ◌++◌, length}
use Rattle.std.proofs.Common.{refl, sym, ap, ◌∙◌, subst, arith, length-append, suc}
use Rattle.std.proofs.lemmas.List.Elements.{Contains-append_left, Contains-append_right}
use Rattle.tt_sgf.specs.Bytes.{close_tree, open_tree}
use Rattle.tt_sgf.specs.Grammar.{GameTree, HasOpeningParenthesis, FirstTreeEndsAt, game}

-- a `(` stands in them
pub tree_has_parenthesis : (bytes : List ℕ) (count : ℕ) (t : GameTree) → FirstTreeEndsAt bytes count t → HasOpeningParenthesis bytes
tree_has_parenthesis bytes count (game nodes trees) s =
    let opens : HasOpeningParenthesis s.text = subst HasOpeningParenthesis (sym s.spells.7) (0, omega arith, refl) in
    subst HasOpeningParenthesis (sym s.parts) (Contains-append_right s.skipped (s.text ++ s.rest) open_tree (Contains-append_left s.text s.rest open_tree opens))

-- a tree has a byte at least, and ends within the bytes
pub tree_ends_within : (bytes : List ℕ) (count : ℕ) (t : GameTree) → FirstTreeEndsAt bytes count t → (1 ≤ count) × (count ≤ length bytes)
tree_ends_within bytes count (game nodes trees) s =
    let texts : length s.text ≡ suc (length (s.spells.0 ++ (s.spells.1 ++ (s.spells.2 ++ (close_tree ∷ []))))) = ap (λ (l : List ℕ). length l) s.spells.7 in
    let all : length bytes ≡ length s.skipped + (length s.text + length s.rest) =
    ap (λ (l : List ℕ). length l) s.parts ∙ length-append s.skipped (s.text ++ s.rest) ∙ ap (λ n. length s.skipped + n) (length-append s.text s.rest) in
    (omega (arith, texts, s.count_is), omega (arith, all, s.count_is))
