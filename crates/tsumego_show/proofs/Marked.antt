-- What a text is that reads as a game with marks.
use Rattle.std.proofs.Common.{◌≡◌, ◌∷◌, ◌-◌, ℕ, List, Option, None, Some, Ok, Err, true, false, not, ap, sym, subst, ◌∙◌, length, if◌then◌else◌}
use Rattle.std.specs.Prelude.{slice_get}
use Rattle.std.proofs.lemmas.Bool.{true≢false}
use Rattle.std.specs.List.{list_any}
use Rattle.std.specs.declared.result.Result.{Result}
use Rattle.tt_sgf.specs.declared.nodes.Node.{Node}
use Rattle.tt_sgf.specs.declared.size.Size.{Size}
use Rattle.tt_board.specs.declared.Colour.{Colour}
use Rattle.tt_board.specs.Play.{other}
use Rattle.tt_board.specs.Position.{Colouring, Position}
use Rattle.tt_board.specs.Reach.{entry_at}
use Rattle.tt_board.specs.Stones.{PointNumberSet}
use Rattle.tt_game.specs.declared.frame.Frame.{Frame}
use Rattle.tt_game.specs.Games.{GameState}
use Rattle.tt_game.specs.Line.{LineWithUndo}
use Rattle.tt_game.specs.declared.faults.GameFault.{GameFault}
use Rattle.tt_game.specs.Nodes.{SQ, TR, has}
use Rattle.tt_game.specs.Problems.{game_of, posed_problem, side_of}
use Rattle.tt_marks.specs.Closings.{ClosesWall, with_stones}
use Rattle.tt_marks.specs.Walls.{IsClosed, IsEnclosedGroup, IsWalledIn}
use Rattle.tsumego_show.specs.declared.mode.PointName.{PointName}
use Rattle.tsumego_show.specs.declared.mode.WantedMarks.{WantedMarks}
use Rattle.tsumego_show.specs.Written.{HasNoGroup, IsClosedText, IsEnclosedText, IsInnerUnlessNamed, IsMarkedOrKept, IsMarkedText, IsNotLoneUnlessNamed}
use Rattle.tsumego_show.specs.Written.{IsSetupText, IsTaken, IsTextOf, MarksNoGroup, as_given, asking_nodes, has_squares, has_triangles_alone, last_has_squares, target}

-- with marks alone
pub marked_board : (name : Option PointName) (text : List ℕ) (g : GameState) (q : ℕ) (k : Colour) (squares : PointNumberSet) (s : Size) (c : Colouring)
    → s ≡ g.size → c ≡ g.present → IsEnclosedGroup s c k q squares → IsInnerUnlessNamed name s c squares
    → IsTextOf text (posed_problem g squares (target q) k) → IsEnclosedText name text g q
marked_board name text g q k squares s c size points enclosed inner is =
    let sized = subst (λ (x : Size). IsEnclosedGroup x c k q squares × IsInnerUnlessNamed name x c squares) size (enclosed, inner) in
    let both = subst (λ (x : Colouring). IsEnclosedGroup g.size x k q squares × IsInnerUnlessNamed name g.size x squares) points sized in
    (k, squares, both.0, both.1, is)

-- where what is taken for the stone that is meant marks no group, none does
module _ (name : Option PointName) (g : GameState) (q : ℕ) (taken : IsTaken name g.size g.present (Some q)) (s : Size) (c : Colouring) (size : s ≡ g.size) (points : c ≡ g.present) where
  in_game : MarksNoGroup name s c q → HasNoGroup name g.size g.present
  in_game none = taken.2 (subst (λ (x : Colouring). MarksNoGroup name g.size x q) points (subst (λ (x : Size). MarksNoGroup name x c q) size none))

  -- no stone on a point marks no group
  pub empty_has_none : entry_at c q ≡ None → HasNoGroup name g.size g.present
  empty_has_none bare = in_game (λ k squares enclosed inner. absurd (let e : Some k ≡ None = sym enclosed.stands ∙ bare in cc))

  -- nor does one with another region than the squares have to be
  pub open_has_none : (k : Colour) (wall region : PointNumberSet) → entry_at c q ≡ Some k
      → ((points : PointNumberSet) → IsEnclosedGroup s c k q points → IsClosed wall region × (points ≡ region))
      → (IsClosed wall region × IsInnerUnlessNamed name s c region → ⊥) → HasNoGroup name g.size g.present
  open_has_none k wall region stands only never = in_game (λ j squares enclosed inner.
      let same : j ≡ k = let e : Some j ≡ Some k = sym enclosed.stands ∙ stands in cc in
      let found = only squares (subst (λ (x : Colour). IsEnclosedGroup s c x q squares) same enclosed) in
      never (found.0, subst (λ (x : PointNumberSet). IsInnerUnlessNamed name s c x) found.1 inner))

-- a group that is enclosed or walled in in the game is so on the board
pub enclosed_on_board : (g : GameState) (q : ℕ) (s : Size) (c : Colouring) → s ≡ g.size → c ≡ g.present → (k : Colour) (squares : PointNumberSet)
    → IsEnclosedGroup g.size g.present k q squares → IsEnclosedGroup s c k q squares
enclosed_on_board g q s c size points k squares h =
    subst (λ (x : Colouring). IsEnclosedGroup s x k q squares) (sym points) (subst (λ (x : Size). IsEnclosedGroup x g.present k q squares) (sym size) h)

-- with stones that close the wall
pub marked_setup : (name : Option PointName) (text : List ℕ) (g : GameState) (q : ℕ) (k foe : Colour) (s : Size) (c : Colouring) (stones region squares : PointNumberSet) (made : Position)
    (l : LineWithUndo) → s ≡ g.size → c ≡ g.present → foe ≡ other k → squares ≡ region
    → ((marked : PointNumberSet) → IsEnclosedGroup g.size g.present k q marked → ⊥) → (IsWalledIn g.size g.present k q → ⊥) → ClosesWall s c k q stones region
    → IsNotLoneUnlessNamed name s c k q region → made ≡ record { size = s; points = with_stones s c foe stones } → l ≡ posed_problem g squares (target q) k
    → IsSetupText text l.frame made.points l.state.to_move → IsClosedText name text g q
marked_setup name text g q k foe s c stones region squares made l size points others same unmarked unwalled closes company stands posed is =
    let f : Frame = record { size = g.size; region = squares; targets = target q; defender = k } in
    let side = side_of k g.to_move in
    let on = subst (λ (x : LineWithUndo). IsSetupText text x.frame made.points x.state.to_move) posed is in
    let placed = subst (λ (x : Position). IsSetupText text f x.points side) stands on in
    let added = subst (λ (x : Colour). IsSetupText text f (with_stones s c x stones) side) others placed in
    let sized = subst (λ (x : Size). ClosesWall x c k q stones region × IsSetupText text f (with_stones x c (other k) stones) side) size (closes, added) in
    let both = subst (λ (x : Colouring). ClosesWall g.size x k q stones region × IsSetupText text f (with_stones g.size x (other k) stones) side) points sized in
    let wide = subst (λ (x : Size). IsNotLoneUnlessNamed name x c k q region) size company in
    let there = subst (λ (x : Colouring). IsNotLoneUnlessNamed name g.size x k q region) points wide in (
      k,
      squares,
      stones,
      unmarked,
      unwalled,
      subst (λ (x : PointNumberSet). ClosesWall g.size g.present k q stones x) (sym same) both.0,
      subst (λ (x : PointNumberSet). IsNotLoneUnlessNamed name g.size g.present k q x) (sym same) there,
      both.1,
    )

module _ (wanted : WantedMarks) (given : List ℕ) (nodes : List Node) (text : List ℕ) where
  -- a tree stays as it was where marks stand there, its game can't be played, or no stone that may be meant marks a group
  pub kept_with_triangles : list_any (has TR) (asking_nodes nodes) ≡ true → text ≡ as_given given → IsMarkedOrKept wanted given nodes true text
  kept_with_triangles there is = (is, λ asks g played. absurd (true≢false (sym there ∙ asks.0)))

  pub kept_with_squares : last_has_squares (asking_nodes nodes) ≡ true → text ≡ as_given given → IsMarkedOrKept wanted given nodes true text
  kept_with_squares there is = (is, λ asks g played. absurd (true≢false (sym there ∙ asks.1)))

  pub kept_unplayed : (e : GameFault) → game_of nodes ≡ Err e → text ≡ as_given given → IsMarkedOrKept wanted given nodes true text
  kept_unplayed e fault is = (is, λ asks g played. absurd (let bad : ◌≡◌ {A = Result GameState GameFault} (Err e) (Ok g) = sym fault ∙ played in cc))

  module _ (game : GameState) (plays : game_of nodes ≡ Ok game) where
    pub kept_without_group : HasNoGroup wanted.name game.size game.present → text ≡ as_given given → IsMarkedOrKept wanted given nodes true text
    kept_without_group none is = (
      is,
      λ asks g played.
          let same : game ≡ g = let e : ◌≡◌ {A = Result GameState GameFault} (Ok game) (Ok g) = sym plays ∙ played in cc in
          subst (λ (x : GameState). HasNoGroup wanted.name x.size x.present) same none,
    )

    -- else it gets marks
    pub marked_there : list_any (has TR) (asking_nodes nodes) ≡ false → last_has_squares (asking_nodes nodes) ≡ false
        → IsMarkedText wanted given nodes text game → IsMarkedOrKept wanted given nodes false text
    marked_there triangles squares h = ((triangles, squares), (game, plays, h))

-- the first node with triangles
pub triangles_here : (n : Node) (ns : List Node) → has TR n ≡ true → has_triangles_alone (n ∷ ns) ≡ not (has SQ n)
triangles_here n ns there = ap (λ b. if b then not (has SQ n) else has_triangles_alone ns) there

pub triangles_behind : (n : Node) (ns : List Node) → has TR n ≡ false → has_triangles_alone (n ∷ ns) ≡ has_triangles_alone ns
triangles_behind n ns there = ap (λ b. if b then not (has SQ n) else has_triangles_alone ns) there

-- the last of some nodes, or none
pub last_squared : (nodes : List Node) (last : Option Node) → last ≡ slice_get nodes (length nodes - 1) → has_squares last ≡ last_has_squares nodes
last_squared nodes last is = ap has_squares is
