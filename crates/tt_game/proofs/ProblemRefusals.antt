-- Where a problem is refused: the least node that has a refusal, and that it is named.
use Rattle.std.proofs.Common.{◌≡◌, ℕ, ◌+◌, suc, List, [], ◌∷◌, ◌++◌, length, inl, inr, false, Option, Some, None, Ok, Err, refl, sym, ap, ◌∙◌, cond, nat_eq, nat_le, ◌&&◌, ◌<◌, true, arith}
use Rattle.std.specs.Prelude.{All}
use Rattle.std.specs.FinSet as set
use Rattle.std.proofs.lemmas.Bool.{and_parts}
use Rattle.std.proofs.lemmas.List.Elements.{All-cons, All-nil}
use Rattle.tt_sgf.specs.declared.nodes.Node.{Node}
use Rattle.tt_sgf.specs.declared.nodes.Property.{Property}
use Rattle.tt_sgf.specs.declared.size.PointOrPass.{PointOrPass}
use Rattle.tt_sgf.specs.Values.{point_of, trimmed}
use Rattle.tt_board.specs.declared.Colour.{Colour}
use Rattle.tt_board.specs.declared.Colour.TheVariants.{Black, White}
use Rattle.tt_board.specs.Position.{Colouring}
use Rattle.tt_board.specs.Play.{same_colour}
use Rattle.tt_board.specs.Reach.{entry_at}
use Rattle.tt_sgf.specs.Sizes.{point_count}
use Rattle.tt_sgf.specs.declared.size.TheConstants.{MOST_POINTS}
use Rattle.tt_board.specs.Setup.{placed}
use Rattle.tt_board.specs.Stones.{PointNumberSet}
use Rattle.tt_game.specs.declared.faults.GameFault.{GameFault}
use Rattle.tt_game.specs.declared.faults.GameFault.TheVariants.{EmptyTarget, MixedTargets, NoTarget}
use Rattle.tt_game.specs.declared.records.GameSoFar.{GameSoFar}
use Rattle.tt_game.specs.declared.turns.Turn.{Turn}
use Rattle.tt_game.specs.declared.turns.Turn.TheVariants.{Pass}
use Rattle.tt_game.specs.Faults.{fault_node, least_point, has_entry, least_with_entry, least_without_liberty, read_mover, read_set}
use Rattle.tt_game.specs.Games.{begun_with}
use Rattle.tt_game.specs.Nodes.{AB, AE, AW, B, SQ, TR, W, has, in_two_sets, is_setup, move_count, values_of}
use Rattle.tt_game.specs.Problems.{defender_of, posed_problem, problem_at_node, problem_at_targets, problem_if_stones, problem_if_targets_valid, problem_of, read_region, whole}
use Rattle.tt_game.specs.RecordLaws.{FirstProblemRefusalDecides, IsFirstProblemRefusal}
use Rattle.tt_game.specs.Records.{and_then, apply_nodes, as_turn, at_node, empty_game_for_nodes, play_named_turn}
use Rattle.tt_game.specs.Records.{play_next_turn, play_node_move, play_turn_by, set_up_node, set_up_or_fault, setup_or_fault, step_node}
use Rattle.tt_game.proofs.FaultLemmas.{least_in}
use Rattle.tt_game.proofs.FaultNodes.{HoldsOfFaults, IsAt, Stays, at_holds, begin_at, handed, next_stays, marks_region, marks_targets, set_holds, set_in, stays_same, step_at, step_refused}
use Rattle.tt_game.proofs.OpenProblems.{choice, either, step_made}
use Rattle.tt_game.proofs.RecordLaws.{begins_alike, empty_record, front_taken, never_begun, never_empty}

-- ---- nodes that are made

-- a turn of a colour leaves the number of the node and the size
by_stays : (r : GameSoFar) (k : Colour) (t : Turn) (q : GameSoFar) → play_turn_by r k t ≡ Ok q → Stays r q
by_stays r k t q e = elim (either (same_colour r.game.to_move k) _ _ _ e) [
  | inl its ↦ next_stays r t q its
  | inr others ↦
      let passed = step_made (play_next_turn r Pass) (λ x. play_next_turn x t) q others in
      let first = next_stays r Pass passed.0 passed.1 in
      let second = next_stays passed.0 t q passed.2 in
      record { node = second.node ∙ first.node; size = second.size ∙ first.size }
]

named_stays : (r : GameSoFar) (k : Colour) (f : GameFault) (o : Option PointOrPass) (q : GameSoFar) → play_named_turn r k f o ≡ Ok q → Stays r q
named_stays r k f None q e = let bad : Err _ ≡ Ok q = e in cc
named_stays r k f (Some v) q e = by_stays r k (as_turn v) q e

move_stays : (r : GameSoFar) (ps : List Property) (vs ws : List (List ℕ)) (q : GameSoFar) → play_node_move r ps vs ws ≡ Ok q → Stays r q
move_stays r ps (v ∷ vs) ws q e = named_stays r Black _ (point_of r.game.size (trimmed v)) q e
move_stays r ps [] (w ∷ ws) q e = named_stays r White _ (point_of r.game.size (trimmed w)) q e
move_stays r ps [] [] q e = let same : r ≡ q = cc in stays_same r q same

-- so does a setup
begun_stays : (r : GameSoFar) (c : Colouring) (k : Colour) (o : Option ℕ) (q : GameSoFar) → setup_or_fault r c k o ≡ Ok q → Stays r q
begun_stays r c k None q e =
    let same : record { game = begun_with r.game.size c k; turns = r.turns; node = r.node } ≡ q = cc in
    record { node = ap (λ (x : GameSoFar). x.node) (sym same); size = ap (λ (x : GameSoFar). x.game.size) (sym same) }
begun_stays r c k (Some p) q e = let bad : Err _ ≡ Ok q = e in cc

sets_stay : (r : GameSoFar) (black white bare : PointNumberSet) (k : Colour) (o : Option ℕ) (q : GameSoFar) → set_up_or_fault r black white bare k o ≡ Ok q → Stays r q
sets_stay r black white bare k None q e =
    let c = placed r.game.size r.game.present black white bare in begun_stays r c k (least_without_liberty r.game.size c) q e
sets_stay r black white bare k (Some p) q e = let bad : Err _ ≡ Ok q = e in cc

set_up_stays : (r : GameSoFar) (n : Node) (q : GameSoFar) → set_up_node r n ≡ Ok q → Stays r q
set_up_stays r n q e =
    let black = step_made (read_set r.node r.game.size AB n) _ q e in
    let white = step_made (read_set r.node r.game.size AW n) _ q black.2 in
    let bare = step_made (read_set r.node r.game.size AE n) _ q white.2 in
    let k = step_made (read_mover r.node n) _ q bare.2 in
    sets_stay r black.0 white.0 bare.0 k.0 (least_point (in_two_sets black.0 white.0 bare.0)) q k.2

-- and so does each node
pub step_stays : (r : GameSoFar) (n : Node) (q : GameSoFar) → step_node r n ≡ Ok q → Stays r q
unfolding step_node
step_stays r n q e = elim (either (is_setup n) _ _ _ e) [
  | inl setup ↦ elim (either (nat_le 1 (move_count n)) _ _ _ setup) [
    | inl mixed ↦ let bad : Err _ ≡ Ok q = mixed in cc
    | inr pure ↦ set_up_stays r n q pure
  ]
  | inr moves ↦ elim (either (nat_le 2 (move_count n)) _ _ _ moves) [
    | inl mixed ↦ let bad : Err _ ≡ Ok q = mixed in cc
    | inr pure ↦ move_stays r n.props (values_of B n.props) (values_of W n.props) q pure
  ]
]

-- ---- the node with TR

module _ (P : GameFault → Type 0) (r : GameSoFar) (n : Node) (holds : HoldsOfFaults P r.node r.game.size n) (e : GameFault) where
  defender_holds : (a b : Option ℕ) → ((p : ℕ) → a ≡ Some p → p < point_count r.game.size) → defender_of r.node a b ≡ Err e → P e
  defender_holds None b on h = let bad : Ok _ ≡ Err e = h in cc
  defender_holds (Some p) None on h = let bad : Ok _ ≡ Err e = h in cc
  defender_holds (Some p) (Some q) on h = handed P (MixedTargets r.node p) e (holds.both p (on p refl)) h

  -- the least target of some kind is on the board
  least_on : (targets : PointNumberSet) (k : Option Colour) → ((q : ℕ) → set.contains targets q ≡ true → q < point_count r.game.size)
      → (p : ℕ) → least_with_entry targets r.game.present k ≡ Some p → p < point_count r.game.size
  least_on targets k in_ p h = in_ p (and_parts _ _ (least_in (λ q. set.contains targets q && has_entry k (entry_at r.game.present q)) MOST_POINTS p h).1).0

  stones_hold : (region targets : PointNumberSet) (o : Option ℕ) → ((q : ℕ) → set.contains targets q ≡ true → q < point_count r.game.size)
      → ((p : ℕ) → o ≡ Some p → p < point_count r.game.size) → problem_if_stones r region targets o ≡ Err e → P e
  stones_hold region targets None in_ on h =
      let white = least_with_entry targets r.game.present (Some White) in
      let black = least_with_entry targets r.game.present (Some Black) in
      elim (step_refused (defender_of r.node white black) _ e h) [
        | inl both ↦ defender_holds white black (least_on targets (Some White) in_) both
        | inr one ↦ let bad : Ok (posed_problem r.game region targets one.0) ≡ Err e = one.2 in cc
      ]
  stones_hold region targets (Some p) in_ on h = handed P (EmptyTarget r.node p) e (holds.bare p (on p refl)) h

  targets_hold : (region targets : PointNumberSet) → ((q : ℕ) → set.contains targets q ≡ true → q < point_count r.game.size) → (e ≡ NoTarget → ⊥)
      → problem_if_targets_valid r region targets ≡ Err e → P e
  targets_hold region targets in_ other h = elim (either (nat_eq (set.len targets) 0) _ _ _ h) [
    | inl none ↦ absurd (other (let same : NoTarget ≡ e = cc in sym same))
    | inr some ↦ stones_hold region targets (least_with_entry targets r.game.present None) in_ (least_on targets None in_) some
  ]

  region_holds : read_region r.node r.game.size n ≡ Err e → P e
  region_holds h = elim (either (has SQ n) _ _ _ h) [
    | inl named ↦ set_holds P r n holds e SQ marks_region named
    | inr none ↦ let bad : Ok (whole r.game.size) ≡ Err e = none in cc
  ]

  -- what holds of each fault of a node holds of the fault of the problem at it, unless no target is there
  pub problem_holds : (e ≡ NoTarget → ⊥) → problem_at_node r n ≡ Err e → P e
  problem_holds other h = elim (step_refused (read_set r.node r.game.size TR n) _ e h) [
    | inl here ↦ set_holds P r n holds e TR marks_targets here
    | inr named ↦ elim (step_refused (read_region r.node r.game.size n) _ e named.2) [
      | inl here ↦ region_holds here
      | inr squares ↦ targets_hold squares.0 named.0 (set_in r.node r.game.size TR n named.0 named.1) other squares.2
    ]
  ]

-- ---- the way to the node with TR

-- the node at which that way is refused, behind k nodes, and what the nodes before it came to
record StopsAt (k : ℕ) (r : GameSoFar) (ns : List Node) (e : GameFault) : Type 0 where
  front : List Node
  node : Node
  behind : List Node
  last : GameSoFar
  parts : ns ≡ front ++ node ∷ behind
  unmarked : All (λ n. has TR n ≡ false) front
  taken : apply_nodes k r front ≡ Ok last
  at : fault_node e ≡ Some (k + length front + 1)
  refused : (others : List Node) → problem_at_targets k r (front ++ node ∷ others) ≡ Err e

stops_at : (k : ℕ) (r : GameSoFar) (ns : List Node) (e : GameFault) → (e ≡ NoTarget → ⊥) → problem_at_targets k r ns ≡ Err e → StopsAt k r ns e
unfolding problem_at_targets apply_nodes
stops_at k r [] e other h = absurd (other (let same : NoTarget ≡ e = cc in sym same))
stops_at k r (n ∷ ns) e other h =
    let go = λ (others : List Node) (q : GameSoFar). cond (has TR n) (problem_at_node q n) (problem_at_targets (k + 1) q others) in
    let first : Some (k + 1) ≡ Some (k + 0 + 1) = ap Some (let same : k + 1 ≡ k + 0 + 1 = omega arith in same) in
    elim (step_refused (step_node (at_node (k + 1) r) n) _ e h) [
      | inl here ↦ record {
        front = [];
        node = n;
        behind = ns;
        last = r;
        parts = refl;
        unmarked = All-nil (λ m. has TR m ≡ false);
        taken = refl;
        at = step_at (at_node (k + 1) r) e n here ∙ first;
        refused = λ others. ap (λ x. and_then x (go others)) here;
      }
      | inr on ↦ elim (choice (has TR n) _ _ _ on.2) [
        | inl marked ↦ record {
          front = [];
          node = n;
          behind = ns;
          last = r;
          parts = refl;
          unmarked = All-nil (λ m. has TR m ≡ false);
          taken = refl;
          at = problem_holds (IsAt on.0.node) on.0 n (at_holds on.0.node on.0.game.size n) e other marked.1 ∙ ap Some (step_stays (at_node (k + 1) r) n on.0 on.1).node ∙ first;
          refused = λ others.
              ap (λ x. and_then x (go others)) on.1
              ∙ ap (λ b. cond b (problem_at_node on.0 n) (problem_at_targets (k + 1) on.0 others)) marked.0 ∙ marked.1;
        }
        | inr off ↦
            let later = stops_at (k + 1) on.0 ns e other off.1 in
            record {
              front = n ∷ later.front;
              node = later.node;
              behind = later.behind;
              last = later.last;
              parts = ap (λ (x : List Node). n ∷ x) later.parts;
              unmarked = All-cons (λ m. has TR m ≡ false) n later.front off.0 later.unmarked;
              taken = ap (λ x. and_then x (λ q. apply_nodes (k + 1) q later.front)) on.1 ∙ later.taken;
              at = later.at ∙ ap Some (let same : k + 1 + length later.front + 1 ≡ k + suc (length later.front) + 1 = omega arith in same);
              refused = λ others.
                  ap (λ x. and_then x (go (later.front ++ later.node ∷ others))) on.1
                  ∙ ap (λ b. cond b (problem_at_node on.0 n) (problem_at_targets (k + 1) on.0 (later.front ++ later.node ∷ others))) off.0
                  ∙ later.refused others;
            }
      ]
    ]

-- a line that isn't begun is no problem
never_posed : (ns : List Node) (e : GameFault) → empty_game_for_nodes ns ≡ Err e → problem_of ns ≡ Err e
unfolding problem_of
never_posed ns e h = ap (λ x. and_then x (λ q. problem_at_targets 0 q ns)) h

never_begins : (ns : List Node) (e : GameFault) → empty_game_for_nodes ns ≡ Err e → IsFirstProblemRefusal ns e
never_begins [] e h = absurd (never_empty e (never_begun [] e h))
never_begins (m ∷ ms) e h = record {
  front = [];
  node = m;
  behind = ms;
  score = empty_record.0;
  parts = refl;
  unmarked = All-nil (λ m. has TR m ≡ false);
  taken = empty_record.1;
  at = begin_at (m ∷ ms) e h;
  refused = λ others. never_posed (m ∷ others) e h;
}

-- where the way stops, the problem is refused
least_of : (ns : List Node) (r : GameSoFar) (e : GameFault) → empty_game_for_nodes ns ≡ Ok r → StopsAt 0 r ns e → IsFirstProblemRefusal ns e
unfolding problem_of
least_of ns r e begins stop =
    let begins_so : empty_game_for_nodes (stop.front ++ stop.node ∷ stop.behind) ≡ Ok r = ap empty_game_for_nodes (sym stop.parts) ∙ begins in
    let taken = front_taken stop.front stop.node stop.behind r stop.last begins_so stop.taken in
    record {
      front = stop.front;
      node = stop.node;
      behind = stop.behind;
      score = taken.0;
      parts = stop.parts;
      unmarked = stop.unmarked;
      taken = taken.1;
      at = stop.at ∙ ap Some (let same : 0 + length stop.front + 1 ≡ length stop.front + 1 = omega arith in same);
      refused = λ others.
          ap (λ x. and_then x (λ q. problem_at_targets 0 q (stop.front ++ stop.node ∷ others))) (begins_alike stop.front stop.node stop.behind others ∙ begins_so)
          ∙ stop.refused others;
    }

-- a refusal is that of the least node that has one
pub first_problem_refusal_decides : FirstProblemRefusalDecides
unfolding problem_of
first_problem_refusal_decides ns e other h = elim (step_refused (empty_game_for_nodes ns) _ e h) [
  | inl never ↦ never_begins ns e never
  | inr on ↦ least_of ns on.0 e on.1 (stops_at 0 on.0 ns e other on.2)
]
