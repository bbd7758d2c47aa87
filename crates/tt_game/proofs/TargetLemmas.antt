-- On each target of a problem stands a stone of the defender.
use Rattle.std.proofs.Common.{◌≡◌, ℕ, ◌+◌, ◌<◌, ◌⊎◌, List, [], ◌∷◌, inl, inr, true, false, Option, Some, None, Ok, Err, refl, sym, ap, subst, ◌∙◌, ◌&&◌, nat_eq, arith}
use Rattle.std.specs.FinSet as set
use Rattle.std.proofs.lemmas.Bool.{false≢true}
use Rattle.tt_sgf.specs.declared.nodes.Node.{Node}
use Rattle.tt_sgf.specs.declared.size.TheConstants.{MOST_POINTS}
use Rattle.tt_sgf.specs.laws.SizeLaws.{point_count_is_bounded}
use Rattle.tt_board.specs.declared.Colour.{Colour}
use Rattle.tt_board.specs.declared.Colour.TheVariants.{Black, White}
use Rattle.tt_board.specs.Position.{Colouring}
use Rattle.tt_board.specs.Reach.{entry_at}
use Rattle.tt_board.specs.Play.{is_empty, is_stone_of}
use Rattle.tt_board.specs.Stones.{PointNumberSet}
use Rattle.tt_game.specs.declared.records.GameSoFar.{GameSoFar}
use Rattle.tt_game.specs.Faults.{has_entry, least_with_entry, read_set}
use Rattle.tt_game.specs.Line.{LineWithUndo}
use Rattle.tt_game.specs.Nodes.{TR, has}
use Rattle.tt_game.specs.Problems.{defender_of, posed_problem, problem_at_node, problem_at_targets, problem_if_stones, problem_of, read_region}
use Rattle.tt_game.specs.RecordLaws.{TargetsAreTheDefenders}
use Rattle.tt_game.specs.Records.{at_node, empty_game_for_nodes, step_node}
use Rattle.tt_game.proofs.FaultLemmas.{none_below}
use Rattle.tt_game.proofs.FaultNodes.{set_in}
use Rattle.tt_game.proofs.OpenProblems.{either, step_made}

-- a point that isn't empty has a stone of one of the colours
black_stone : (o : Option Colour) → is_empty o ≡ false → is_stone_of o White ≡ false → o ≡ Some Black
black_stone None some not_white = absurd (false≢true (sym some))
black_stone (Some Black) some not_white = refl
black_stone (Some White) some not_white = absurd (false≢true (sym not_white))

white_stone : (o : Option Colour) → is_empty o ≡ false → is_stone_of o Black ≡ false → o ≡ Some White
white_stone None some not_black = absurd (false≢true (sym some))
white_stone (Some Black) some not_black = absurd (false≢true (sym not_black))
white_stone (Some White) some not_black = refl

-- where no least target of a kind is found, none is of that kind
none_with : (s : PointNumberSet) (c : Colouring) (k : Option Colour) → least_with_entry s c k ≡ None → (q : ℕ) → q < MOST_POINTS → set.contains s q ≡ true
    → has_entry k (entry_at c q) ≡ false
none_with s c k none q below has_it =
    sym (ap (λ b. b && has_entry k (entry_at c q)) has_it) ∙ none_below (λ p. set.contains s p && has_entry k (entry_at c p)) MOST_POINTS q none below

-- Black defends where no target is white, and White where none is black
defender_is : (k : ℕ) (white black : Option ℕ) (d : Colour) → defender_of k white black ≡ Ok d → ((white ≡ None) × (d ≡ Black)) ⊎ ((black ≡ None) × (d ≡ White))
defender_is k None black d h = inl (refl, (let same : Black ≡ d = cc in sym same))
defender_is k (Some p) None d h = inr (refl, (let same : White ≡ d = cc in sym same))
defender_is k (Some p) (Some q) d h = let bad : Err _ ≡ Ok d = h in cc

-- the targets' stones are the defender's
abbrev AreDefenders : LineWithUndo → Type 0
AreDefenders p = (q : ℕ) → set.contains p.frame.targets q ≡ true → entry_at p.state.present q ≡ Some p.frame.defender

defenders_on : (r : GameSoFar) (region targets : PointNumberSet) (o : Option ℕ) (p : LineWithUndo) → ((q : ℕ) → set.contains targets q ≡ true → q < MOST_POINTS)
    → least_with_entry targets r.game.present None ≡ o → problem_if_stones r region targets o ≡ Ok p → AreDefenders p
defenders_on r region targets (Some q) p below is h = let bad : Err _ ≡ Ok p = h in cc
defenders_on r region targets None p below none h =
    let c = r.game.present in
    let made = step_made (defender_of r.node (least_with_entry targets c (Some White)) (least_with_entry targets c (Some Black))) _ p h in
    let same : posed_problem r.game region targets made.0 ≡ p = (let posed : Ok (posed_problem r.game region targets made.0) ≡ Ok p = made.2 in cc) in
    subst AreDefenders same (λ q on.
    let some = none_with targets c None none q (below q on) on in
    elim (defender_is r.node _ _ made.0 made.1) [
      | inl black ↦ black_stone (entry_at c q) some (none_with targets c (Some White) black.0 q (below q on) on) ∙ ap Some (sym black.1)
      | inr white ↦ white_stone (entry_at c q) some (none_with targets c (Some Black) white.0 q (below q on) on) ∙ ap Some (sym white.1)
    ])

-- so they are at a node with TR
defenders_at : (r : GameSoFar) (n : Node) (p : LineWithUndo) → problem_at_node r n ≡ Ok p → AreDefenders p
defenders_at r n p h =
    let targets = step_made (read_set r.node r.game.size TR n) _ p h in
    let region = step_made (read_region r.node r.game.size n) _ p targets.2 in
    let below : (q : ℕ) → set.contains targets.0 q ≡ true → q < MOST_POINTS =
    λ q on. let lt = set_in r.node r.game.size TR n targets.0 targets.1 q on in let most = point_count_is_bounded r.game.size in omega (arith, lt, most) in
    elim (either (nat_eq (set.len targets.0) 0) _ _ _ region.2) [
      | inl none ↦ let bad : Err _ ≡ Ok p = none in cc
      | inr some ↦ defenders_on r region.0 targets.0 (least_with_entry targets.0 r.game.present None) p below refl some
    ]

-- and where nodes come to a problem
defenders_behind : (k : ℕ) (r : GameSoFar) (ns : List Node) (p : LineWithUndo) → problem_at_targets k r ns ≡ Ok p → AreDefenders p
unfolding problem_at_targets
defenders_behind k r [] p h = let bad : Err _ ≡ Ok p = h in cc
defenders_behind k r (n ∷ ns) p h =
    let made = step_made (step_node (at_node (k + 1) r) n) _ p h in
    elim (either (has TR n) _ _ _ made.2) [
      | inl e ↦ defenders_at made.0 n p e
      | inr e ↦ defenders_behind (k + 1) made.0 ns p e
    ]

pub targets_are_the_defenders : TargetsAreTheDefenders
unfolding problem_of
targets_are_the_defenders ns p h = let made = step_made (empty_game_for_nodes ns) _ p h in defenders_behind 0 made.0 ns p made.2
