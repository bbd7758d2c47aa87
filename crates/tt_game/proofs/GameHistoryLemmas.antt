-- Histories of games and the boards that show them.
use Rattle.tt_sgf.specs.declared.size.Size.{Size}
use Rattle.std.proofs.Common.{◌≡◌, ℕ, ◌+◌, ◌-◌, ◌<◌, ◌≤◌, List, [], ◌∷◌, ◌++◌, length, take, get_or, All, Contains, drop, suc, refl, sym, ap, subst, ◌∙◌, arith}
use Rattle.std.proofs.lemmas.List.{length-map, get_or-map, get_or_default, take_more, take_all, take_at, get_or_push, length_push, take-map, take-take, length-take-le}
use Rattle.tt_board.specs.Position.{Position, Colouring}
use Rattle.tt_game.specs.declared.frame.Side.{Side}
use Rattle.tt_game.specs.declared.frame.Side.TheVariants.{Attacker, Defender}
use Rattle.tt_game.specs.Game.{opponent}
use Rattle.tt_game.specs.GameHistory.{GameHistory, so_far, colourings}
use Rattle.tt_game.specs.inside.Undoing.{game_history_of, without_play, front, last}

-- two histories are one where their parts are
same_game_history : (g : Size) (xs ys : List Colouring) (x y : Colouring) (n : ℕ) → xs ≡ ys → x ≡ y
    → (let c : GameHistory = record { size = g; earlier = xs; present = x; passes = n } in c) ≡ (let c : GameHistory = record { size = g; earlier = ys; present = y; passes = n } in c)
same_game_history g xs ys x y n e f = cc

-- a list that is not empty is all but its last, and its last
pub front_last : (cs : List Colouring) → 0 < length cs → front cs ++ last cs ∷ [] ≡ cs
front_last cs some = sym (take_more cs (length cs - 1) [] (omega arith)) ∙ take_all (length cs - 1 + 1) cs (omega arith)

-- one more behind a list is its last, and the others are its front
pub front_push : (cs : List Colouring) (c : Colouring) → front (cs ++ c ∷ []) ≡ cs
front_push cs c = ap (λ n. take (n - 1) (cs ++ c ∷ [])) (length_push cs c) ∙ ap (λ n. take n (cs ++ c ∷ [])) (omega arith) ∙ take_at cs (c ∷ []) (length cs) refl

pub last_push : (cs : List Colouring) (c : Colouring) → last (cs ++ c ∷ []) ≡ c
last_push cs c = get_or_push cs c [] _ (omega (arith, length_push cs c))

-- there is a colouring for each board
pub length-colourings : (bs : List Position) → length (colourings bs) ≡ length bs
length-colourings bs = length-map bs (λ b. b.points)

-- a colouring of boards is that of one of them
pub been_at : (bs : List Position) (c : Colouring) → Contains (colourings bs) c → (j : ℕ) × (b : Position) × (j < length bs) × ((d : Position) → get_or bs j d ≡ b) × (b.points ≡ c)
been_at [] c (j, in', e) = absurd (omega (arith, in'))
been_at (b ∷ bs) c (j, in', e) =
    let lt : j < length (b ∷ bs) = subst (λ n. j < n) (length-map (b ∷ bs) (λ x. x.points)) in' in (
      j,
      get_or (b ∷ bs) j b,
      lt,
      λ d. get_or_default (b ∷ bs) j d b lt,
      sym (get_or-map (λ x. x.points) (b ∷ bs) j b b.points lt) ∙ get_or_default (colourings (b ∷ bs)) j b.points c in' ∙ e,
    )

-- the colourings of the history are those of the boards
pub history_is : (g : Size) (bs : List Position) (passes : ℕ) → 0 < length bs → so_far (game_history_of g bs passes) ≡ colourings bs
history_is g bs passes some = front_last (colourings bs) (omega (arith, length-colourings bs))

-- boards with a history's colourings show it
pub game_history_from : (bs : List Position) (c : GameHistory) → colourings bs ≡ so_far c → game_history_of c.size bs c.passes ≡ c
game_history_from bs c e =
    same_game_history c.size _ _ _ _ c.passes (ap front e ∙ front_push c.earlier c.present) (ap last e ∙ last_push c.earlier c.present)

-- all boards but the last show the history before the last play
pub game_history_undone : (g : Size) (bs : List Position) (live passes back : ℕ) → live ≤ length bs
    → game_history_of g (take (live - 1) bs) back ≡ without_play (game_history_of g (take live bs) passes) back
game_history_undone g bs live passes back inside =
    let count : length (colourings (take live bs)) ≡ live = length-colourings (take live bs) ∙ length-take-le live bs inside in
    let fewer : live - 1 ≤ live = omega arith in
    let shorter : take (live - 1) (take live bs) ≡ take (live - 1) bs = take-take (live - 1) live bs fewer in
    let all : colourings (take (live - 1) bs) ≡ front (colourings (take live bs)) =
    ap colourings (sym shorter) ∙ sym (take-map (λ (x : Position). x.points) (live - 1) (take live bs)) ∙ ap (λ n. take (n - 1) (colourings (take live bs))) (sym count) in
    ap (λ (cs : List Colouring). let c : GameHistory = record { size = g; earlier = front cs; present = last cs; passes = back } in c) all

-- boards of one size with one colouring each are one
pub same_boards : (g : Size) (bs cs : List Position) → All (λ (b : Position). b.size ≡ g) bs → All (λ (b : Position). b.size ≡ g) cs → colourings bs ≡ colourings cs → bs ≡ cs
same_boards g [] [] h k e = refl
same_boards g [] (c ∷ cs) h k e = absurd (omega (arith, ap length e))
same_boards g (b ∷ bs) [] h k e = absurd (omega (arith, ap length e))
same_boards g (b ∷ bs) (c ∷ cs) h k e =
    let s : b.size ≡ c.size = h 0 b (omega arith) ∙ sym (k 0 c (omega arith)) in
    let p : b.points ≡ c.points = ap (λ (x : List Colouring). get_or x 0 []) e in
    let r : colourings bs ≡ colourings cs = ap (λ (x : List Colouring). drop 1 x) e in
    let t : bs ≡ cs = same_boards g bs cs (λ i d lt. h (suc i) d (omega (arith, lt))) (λ i d lt. k (suc i) d (omega (arith, lt))) r in
    let q : b ≡ c = one b c s p in
    cc
  where
    one : (x y : Position) → x.size ≡ y.size → x.points ≡ y.points → x ≡ y
    one x y s p = ap (λ (z : Size). let w : Position = record { size = z; points = x.points } in w) s ∙ ap (λ (z : Colouring). let w : Position = record { size = y.size; points = z } in w) p

-- the other side's other side is the side
pub twice : (side : Side) → opponent (opponent side) ≡ side
twice Attacker = refl
twice Defender = refl
