-- Boards in a row, kept by how each differs from the one behind it.
use Rattle.std.proofs.Common.{◌≡◌, suc, List, [], ◌∷◌, map, All, true, ◌&&◌, eqb, refl, sym, ap, ◌∙◌, arith}
use Rattle.std.proofs.lemmas.Bool.{eqb-true, eq-eqb, and_parts}
use Rattle.tt_sgf.specs.declared.size.Size.{Size}
use Rattle.tt_sgf.specs.laws.SizeLaws.{size_is_fixed_by_sides}
use Rattle.tt_board.specs.Position.{Position, Colouring, colourings}
use Rattle.tt_board.specs.inside.Boards.{board_of}

-- boards of one size are those of their colourings
pub shown_boards : (g : Size) (bs : List Position) → All (λ (b : Position). b.size ≡ g) bs → map (board_of g) (colourings bs) ≡ bs
shown_boards g [] all = refl
shown_boards g (b ∷ bs) all =
    let own : board_of g b.points ≡ b = ap (λ (s : Size). board_of s b.points) (sym (all 0 b (omega arith))) in
    ap (λ (x : Position). x ∷ map (board_of g) (colourings bs)) own ∙ ap (λ xs. b ∷ xs) (shown_boards g bs (λ k d lt. all (suc k) d (omega (arith, lt))))

-- sizes are the same exactly where their columns and rows are
pub tests_same : (a b : Size) → (eqb a.columns b.columns && eqb a.rows b.rows) ≡ true → a ≡ b
tests_same a b h = size_is_fixed_by_sides a b (eqb-true a.columns b.columns (and_parts _ _ h).0) (eqb-true a.rows b.rows (and_parts _ _ h).1)

pub tests_pass : (a b : Size) → a ≡ b → (eqb a.columns b.columns && eqb a.rows b.rows) ≡ true
tests_pass a b e = rw (eq-eqb a.columns b.columns (ap (λ (s : Size). s.columns) e), eq-eqb a.rows b.rows (ap (λ (s : Size). s.rows) e)) refl

-- a position is known by its size and its points
pub positions_same : (s t : Size) (xs ys : Colouring) → s ≡ t → xs ≡ ys → (let a : Position = record { size = s; points = xs } in a) ≡ (let b : Position = record { size = t; points = ys } in b)
positions_same s t xs ys sizes entries =
    ap (λ (g : Size). let a : Position = record { size = g; points = xs } in a) sizes ∙ ap (λ (zs : Colouring). let b : Position = record { size = t; points = zs } in b) entries
