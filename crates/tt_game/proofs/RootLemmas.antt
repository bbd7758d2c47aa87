-- What lines and what is kept of them have in common: the boards of their beginning.
use Rattle.tt_sgf.specs.declared.size.Size.{Size}
use Rattle.std.proofs.Common.{◌≡◌, ℕ, ◌<◌, ◌≤◌, min, All, Contains, inl, inr, List, [], ◌∷◌, ◌++◌, length, take, drop, reverse, refl, sym, ap, subst, ◌∙◌, arith}
use Rattle.std.proofs.lemmas.List.{take-append-le, take-append-drop, take-map, take_at, drop_at, length-take, drop-map, map-append, reverse-append, length_push}
use Rattle.std.proofs.lemmas.List.Elements.{All-drop, All-take, Contains-append_right}
use Rattle.tt_board.specs.Position.{Position, Colouring}
use Rattle.tt_game.specs.declared.frame.Side.{Side}
use Rattle.tt_game.specs.declared.line.Undo.{Undo}
use Rattle.tt_game.specs.declared.line.Undo.TheVariants.{UndoPlay, UndoPass}
use Rattle.tt_game.specs.Game.{State, history, opponent}
use Rattle.tt_game.specs.GameHistory.{GameHistory, so_far, colourings, with_next_colouring, with_pass}
use Rattle.tt_game.specs.inside.Undoing.{game_history_of, state_at, undone, board_on, last, IsUndoable}
use Rattle.tt_game.specs.inside.Roots.{BoardsBegin, AreRooted}
use Rattle.tt_game.specs.laws.Members.{IsIn, in_of_contains, contains_of_in}
use Rattle.tt_game.proofs.GameHistoryLemmas.{length-colourings, game_history_from, front_push, last_push, history_is, same_boards, twice}

-- a history has at least as many colourings as boards that it begins with
pub begins_long : (bs : List Position) (h : List Colouring) → BoardsBegin bs h → length bs ≤ length h
begins_long bs h b =
    let e : min (length bs) (length h) ≡ length bs = sym (length-take (length bs) h) ∙ ap length b ∙ length-colourings bs in
    omega (arith, e)

-- a history that goes on begins as it did
pub begins_on : (bs : List Position) (h t : List Colouring) → BoardsBegin bs h → BoardsBegin bs (h ++ t)
begins_on bs h t b = take-append-le (length bs) h t (begins_long bs h b) ∙ b

-- the present history begins with the root's boards
pub rooted_here : (bs : List Position) (s : State) (us : List Undo) → AreRooted bs s us → BoardsBegin bs (history s)
rooted_here bs s [] r = r
rooted_here bs s (u ∷ us) r = r.0

-- a push that leads back to a rooted state, behind pushes that are rooted
rooted_push : (bs : List Position) (s t : State) (u : Undo) (ps : List Undo) → undone t u ≡ s → BoardsBegin bs (history t) → AreRooted bs s (reverse ps)
    → AreRooted bs t (reverse (ps ++ u ∷ []))
rooted_push bs s t u ps back here r =
    subst (λ us. AreRooted bs t us) (sym (reverse-append ps (u ∷ []))) (here, subst (λ z. AreRooted bs z (reverse ps)) (sym back) r)

-- two states are one where their parts are
same_state : (xs ys : List Colouring) (x y : Colouring) (a b : Side) (n m : ℕ) → xs ≡ ys → x ≡ y → a ≡ b → n ≡ m
    → (let s : State = record { earlier = xs; present = x; to_move = a; passes = n } in s) ≡ (let s : State = record { earlier = ys; present = y; to_move = b; passes = m } in s)
same_state xs ys x y a b n m e f g h = cc

-- a pass leads back to the state before it, and so does a play
before_pass : (c : GameHistory) (side : Side) → undone (state_at (with_pass c) (opponent side)) UndoPass ≡ state_at c side
before_pass c side = same_state c.earlier c.earlier c.present c.present _ side _ c.passes refl refl (twice side) (omega arith)

before_play : (c : GameHistory) (side : Side) (next : Colouring) → undone (state_at (with_next_colouring c next) (opponent side)) (UndoPlay c.passes) ≡ state_at c side
before_play c side next = same_state _ c.earlier _ c.present _ side c.passes c.passes (front_push c.earlier c.present) (last_push c.earlier c.present) (twice side) refl

-- a pass keeps the histories
pub rooted_pass : (bs : List Position) (c : GameHistory) (side : Side) (ps : List Undo) → AreRooted bs (state_at c side) (reverse ps)
    → AreRooted bs (state_at (with_pass c) (opponent side)) (reverse (ps ++ UndoPass ∷ []))
rooted_pass bs c side ps r =
    rooted_push bs (state_at c side) (state_at (with_pass c) (opponent side)) UndoPass ps
    (before_pass c side) (rooted_here bs (state_at c side) (reverse ps) r) r

-- a play goes on with them
pub rooted_play : (bs : List Position) (c : GameHistory) (side : Side) (ps : List Undo) (next : Colouring) → AreRooted bs (state_at c side) (reverse ps)
    → AreRooted bs (state_at (with_next_colouring c next) (opponent side)) (reverse (ps ++ UndoPlay c.passes ∷ []))
rooted_play bs c side ps next r =
    rooted_push bs (state_at c side) (state_at (with_next_colouring c next) (opponent side)) (UndoPlay c.passes) ps
    (before_play c side next) (begins_on bs (so_far c) (next ∷ []) (rooted_here bs (state_at c side) (reverse ps) r)) r

-- a pass can be undone, and so can what could before it
pub undoable_pass : (g : Size) (c : GameHistory) (side : Side) (ps : List Undo) (below : List Position) → IsUndoable g (state_at c side) (reverse ps) below
    → IsUndoable g (state_at (with_pass c) (opponent side)) (reverse (ps ++ UndoPass ∷ [])) below
undoable_pass g c side ps below u =
    subst (λ us. IsUndoable g (state_at (with_pass c) (opponent side)) us below) (sym (reverse-append ps (UndoPass ∷ [])))
    (omega arith, subst (λ s. IsUndoable g s (reverse ps) below) (sym (before_pass c side)) u)

-- so can a play, where the board before it is kept
pub undoable_play : (g : Size) (c : GameHistory) (side : Side) (ps : List Undo) (next : Colouring) (b : Position) (below : List Position) → c.passes ≤ 2
    → b ≡ board_on g c.present → IsUndoable g (state_at c side) (reverse ps) below
    → IsUndoable g (state_at (with_next_colouring c next) (opponent side)) (reverse (ps ++ UndoPlay c.passes ∷ [])) (b ∷ below)
undoable_play g c side ps next b below most here u =
    subst (λ us. IsUndoable g (state_at (with_next_colouring c next) (opponent side)) us (b ∷ below)) (sym (reverse-append ps (UndoPlay c.passes ∷ []))) (
      omega (arith, length_push c.earlier c.present),
      most,
      here ∙ ap (board_on g) (sym (last_push c.earlier c.present)),
      subst (λ s. IsUndoable g s (reverse ps) below) (sym (before_play c side next)) u,
    )

-- boards that a history begins with and the boards behind them show the history
pub begun_and_since : (bs there : List Position) → BoardsBegin bs (colourings there) → colourings (bs ++ drop (length bs) there) ≡ colourings there
begun_and_since bs there b =
    map-append (λ (x : Position). x.points) bs (drop (length bs) there)
    ∙ ap (λ cs. cs ++ colourings (drop (length bs) there)) (sym b)
    ∙ ap (λ cs. take (length bs) (colourings there) ++ cs) (sym (drop-map (λ (x : Position). x.points) (length bs) there))
    ∙ take-append-drop (length bs) (colourings there)

-- what is kept of a history that begins with boards, those and the boards behind them, shows it
pub kept_shows : (c : GameHistory) (bs there : List Position) (side : Side) → colourings there ≡ so_far c → BoardsBegin bs (so_far c)
    → state_at (game_history_of c.size (bs ++ drop (length bs) there) c.passes) side ≡ state_at c side
kept_shows c bs there side e b =
    ap (λ (x : GameHistory). state_at x side) (game_history_from (bs ++ drop (length bs) there) c (begun_and_since bs there (ap (take (length bs)) e ∙ b) ∙ e))

-- boards are two lists one behind the other exactly where they begin with the first and go on with the second
pub two_parts : (bs later there : List Position) → bs ++ later ≡ there → (bs ≡ take (length bs) there) × (later ≡ drop (length bs) there)
two_parts bs later there e =
    (sym (take_at bs later (length bs) refl) ∙ ap (take (length bs)) e, sym (drop_at bs later (length bs) refl) ∙ ap (drop (length bs)) e)

pub of_two_parts : (bs later there : List Position) → bs ≡ take (length bs) there → later ≡ drop (length bs) there → bs ++ later ≡ there
of_two_parts bs later there e f =
    ap (λ xs. xs ++ later) e ∙ ap (λ xs. take (length bs) there ++ xs) f ∙ take-append-drop (length bs) there

-- boards that begin with others show a history that begins as any that goes on from those
pub begin_alike : (bs later there : List Position) → bs ≡ take (length bs) there → take (length bs) (colourings there) ≡ take (length bs) (colourings (bs ++ later))
begin_alike bs later there e =
    take-map (λ (x : Position). x.points) (length bs) there
    ∙ ap colourings (sym e ∙ sym (take_at bs later (length bs) refl))
    ∙ sym (take-map (λ (x : Position). x.points) (length bs) (bs ++ later))

-- the colourings of boards are those of the boards in them
points_in : (bs : List Position) (b : Position) → IsIn bs b → IsIn (colourings bs) b.points
points_in [] b m = absurd m
points_in (x ∷ bs) b (inl e) = inl (ap (λ (w : Position). w.points) e)
points_in (x ∷ bs) b (inr m) = inr (points_in bs b m)

pub made_among : (begun later : List Position) (b : Position) → Contains later b → Contains (colourings (begun ++ later)) b.points
made_among begun later b m =
    contains_of_in (colourings (begun ++ later)) b.points
    (points_in (begun ++ later) b (in_of_contains (begun ++ later) b (Contains-append_right begun later b m)))

-- boards of one size with which a history begins are the first that show it
pub begun_boards : (g : Size) (bs there : List Position) → All (λ (b : Position). b.size ≡ g) bs → All (λ (b : Position). b.size ≡ g) there
    → BoardsBegin bs (colourings there) → bs ≡ take (length bs) there
begun_boards g bs there own sizes begins =
    same_boards g bs (take (length bs) there) own (All-take (λ (b : Position). b.size ≡ g) (length bs) there sizes)
    (sym begins ∙ take-map (λ (x : Position). x.points) (length bs) there)

-- boards that are the first of others are no more
pub begun_fewer : (bs there : List Position) → bs ≡ take (length bs) there → length bs ≤ length there
begun_fewer bs there e =
    let n : length bs ≡ min (length bs) (length there) = ap length e ∙ length-take (length bs) there in
    omega (arith, n)

-- a state that boards show has their history, and no other boards of their size have it
pub shows_boards : (g : Size) (bs there : List Position) (passes : ℕ) (side : Side) (s : State) → 0 < length bs
    → All (λ (b : Position). b.size ≡ g) bs → All (λ (b : Position). b.size ≡ g) there → state_at (game_history_of g bs passes) side ≡ s
    → (history s ≡ colourings there → bs ≡ there) × (bs ≡ there → history s ≡ colourings there)
shows_boards g bs there passes side s some sizes others shown =
    let own : history s ≡ colourings bs = ap history (sym shown) ∙ history_is g bs passes some in
    (λ e. same_boards g bs there sizes others (sym own ∙ e), λ e. own ∙ ap colourings e)

-- of boards that end with one, that one is present
pub last_shown : (bs before : List Position) (b : Position) → bs ≡ before ++ b ∷ [] → last (colourings bs) ≡ b.points
last_shown bs before b e =
    ap (λ xs. last (colourings xs)) e ∙ ap last (map-append (λ (x : Position). x.points) before (b ∷ [])) ∙ last_push (colourings before) b.points

-- and it has the size of all
pub last_sized : (g : Size) (bs before : List Position) (b : Position) → bs ≡ before ++ b ∷ [] → All (λ (x : Position). x.size ≡ g) bs → b.size ≡ g
last_sized g bs before b e all =
    subst (All (λ (x : Position). x.size ≡ g)) (drop_at before (b ∷ []) (length before) refl)
    (All-drop (λ (x : Position). x.size ≡ g) (length before) (before ++ b ∷ []) (subst (All (λ (x : Position). x.size ≡ g)) e all)) 0 b (omega arith)
