-- What is at fault in a refused main line: a value that is there, or a point of the board.
use Rattle.std.proofs.Common.{◌≡◌, ℕ, ◌+◌, ◌<◌, suc, List, [], ◌∷◌, ◌++◌, length, inl, inr, Bool, true, false, not, Option, Some, None, Ok, Err, refl, sym, ap, subst, ◌∙◌, cond, ◌&&◌, ◌==◌, arith}
use Rattle.std.specs.Prelude.{All, Contains}
use Rattle.std.specs.List.{list_all}
use Rattle.std.specs.Option.{is_some}
use Rattle.std.proofs.lemmas.Bool.{and_parts, cases_Bool, false≢true}
use Rattle.std.proofs.lemmas.Bool.Decides.{Decides-eqb}
use Rattle.std.proofs.lemmas.List.Elements.{All-cons, All-nil}
use Rattle.std.proofs.lemmas.List.Folds.{list_all-append}
use Rattle.std.proofs.lemmas.Option.{none-some}
use Rattle.std.proofs.lemmas.Slice.Eq.{slice_eq-Decides}
use lib.Pointwise.{pointwise}
use Rattle.tt_sgf.specs.declared.size.Size.{Size}
use Rattle.tt_sgf.specs.declared.nodes.Node.{Node}
use Rattle.tt_sgf.specs.declared.nodes.Property.{Property}
use Rattle.tt_sgf.specs.PointLists.{is_entry}
use Rattle.tt_sgf.specs.Sizes.{point_count, sized}
use Rattle.tt_sgf.specs.Values.{after_blanks, point_of, trimmed}
use Rattle.tt_game.specs.declared.faults.GameFault.{GameFault}
use Rattle.tt_game.specs.declared.faults.GameFault.TheVariants.{AfterEnd, BadSize, BadValue, EmptyTarget, MixedNode, MixedTargets}
use Rattle.tt_game.specs.declared.faults.GameFault.TheVariants.{NoTarget, NotGo, OccupiedPoint, PointTwice, RepeatedBoard, StoneWithoutLiberty, TooManyTurns}
use Rattle.tt_game.specs.declared.records.GameSoFar.{GameSoFar}
use Rattle.tt_game.specs.Faults.{bad_entry, bad_first_value, fault_node, fault_point, first_bad_entry, has_bad_entry, has_value_named}
use Rattle.tt_game.specs.Games.{empty_game}
use Rattle.tt_game.specs.Nodes.{AB, AE, AW, B, GM, PL, SQ, SZ, TR, W, colour_of_letter, has, has_some_value, is_go, mover_of_values, size_or_default, values_of}
use Rattle.tt_game.specs.Problems.{problem_at_targets, problem_of}
use Rattle.tt_game.specs.RecordLaws.{BadValuesAreThere, FaultPointsAreOnBoard, IsFirstUnread, IsRefused, is_read, size_of_nodes}
use Rattle.tt_game.specs.Records.{apply_nodes, at_node, empty_game_for_nodes, empty_game_for_root, empty_game_of_size, record_of, step_node}
use Rattle.tt_game.proofs.FaultLemmas.{some_unread}
use Rattle.tt_game.proofs.FaultNodes.{HoldsOfFaults, IsAt, IsListName, IsMoveName, adds_black, adds_white, at_holds, bad_entry_is, bad_first_is}
use Rattle.tt_game.proofs.FaultNodes.{begin_refused, black_move, empties, marks_region, marks_targets, step_at, step_holds, step_refused, white_move}
use Rattle.tt_game.proofs.NodeLemmas.{values-named, values-other}
use Rattle.tt_game.proofs.OpenProblems.{choice, either}
use Rattle.tt_game.proofs.ProblemRefusals.{problem_holds, step_stays}
use Rattle.tt_game.proofs.RecordLaws.{refused_by}

-- ---- the node at fault

-- of some of these nodes, which stand behind k others, the fault has what is asked of it
record IsFaultAmong (P : Node → GameFault → Type 0) (k : ℕ) (ns : List Node) (e : GameFault) : Type 0 where
  front : List Node
  node : Node
  behind : List Node
  parts : ns ≡ front ++ node ∷ behind
  at : fault_node e ≡ Some (k + length front + 1)
  holds : P node e

-- what is shown of each fault of each node holds of the fault of some node of a refused main line
module _ (P : Node → GameFault → Type 0) (size : Size) (all : (k : ℕ) (n : Node) → HoldsOfFaults (P n) k size n) (e : GameFault) where
  of_node : (r : GameSoFar) (n : Node) → r.game.size ≡ size → HoldsOfFaults (P n) r.node r.game.size n
  of_node r n same = subst (λ s. HoldsOfFaults (P n) r.node s n) (sym same) (all r.node n)

  among_first : (k : ℕ) (n : Node) (ns : List Node) → fault_node e ≡ Some (k + 1) → P n e → IsFaultAmong P k (n ∷ ns) e
  among_first k n ns at holds = record { front = []; node = n; behind = ns; parts = refl; at = at ∙ ap Some (let same : k + 1 ≡ k + 0 + 1 = omega arith in same); holds = holds }

  among_later : (k : ℕ) (n : Node) (ns : List Node) → IsFaultAmong P (k + 1) ns e → IsFaultAmong P k (n ∷ ns) e
  among_later k n ns later = record {
    front = n ∷ later.front;
    node = later.node;
    behind = later.behind;
    parts = ap (λ (x : List Node). n ∷ x) later.parts;
    at = later.at ∙ ap Some (let same : k + 1 + length later.front + 1 ≡ k + suc (length later.front) + 1 = omega arith in same);
    holds = later.holds;
  }

  among_run : (k : ℕ) (r : GameSoFar) (ns : List Node) → r.game.size ≡ size → apply_nodes k r ns ≡ Err e → IsFaultAmong P k ns e
  unfolding apply_nodes
  among_run k r [] same h = let bad : Ok r ≡ Err e = h in cc
  among_run k r (n ∷ ns) same h = elim (step_refused (step_node (at_node (k + 1) r) n) _ e h) [
    | inl here ↦ among_first k n ns (step_at (at_node (k + 1) r) e n here) (step_holds (P n) (at_node (k + 1) r) n (of_node (at_node (k + 1) r) n same) e here)
    | inr on ↦ among_later k n ns (among_run (k + 1) on.0 ns ((step_stays (at_node (k + 1) r) n on.0 on.1).size ∙ same) on.2)
  ]

  among_targets : (k : ℕ) (r : GameSoFar) (ns : List Node) → r.game.size ≡ size → (e ≡ NoTarget → ⊥) → problem_at_targets k r ns ≡ Err e → IsFaultAmong P k ns e
  unfolding problem_at_targets
  among_targets k r [] same other h = absurd (other (let none : NoTarget ≡ e = cc in sym none))
  among_targets k r (n ∷ ns) same other h = elim (step_refused (step_node (at_node (k + 1) r) n) _ e h) [
    | inl here ↦ among_first k n ns (step_at (at_node (k + 1) r) e n here) (step_holds (P n) (at_node (k + 1) r) n (of_node (at_node (k + 1) r) n same) e here)
    | inr on ↦
        let stays = step_stays (at_node (k + 1) r) n on.0 on.1 in
        elim (choice (has TR n) _ _ _ on.2) [
          | inl marked ↦ among_first k n ns
              (problem_holds (IsAt on.0.node) on.0 n (at_holds on.0.node on.0.game.size n) e other marked.1 ∙ ap Some stays.node)
              (problem_holds (P n) on.0 n (of_node on.0 n (stays.size ∙ same)) e other marked.1)
          | inr off ↦ among_later k n ns (among_targets (k + 1) on.0 ns (stays.size ∙ same) other off.1)
        ]
  ]

-- the size of a line that begins
size_begun : (o : Option Size) (r : GameSoFar) → empty_game_of_size o ≡ Ok r → o ≡ Some r.game.size
size_begun None r h = let bad : Err _ ≡ Ok r = h in cc
size_begun (Some size) r h =
    let same : record { game = empty_game size; turns = 0; node = 0 } ≡ r = cc in
    ap Some (ap (λ (x : GameSoFar). x.game.size) same)

begun_size : (ns : List Node) (r : GameSoFar) → empty_game_for_nodes ns ≡ Ok r → size_of_nodes ns ≡ Some r.game.size
unfolding empty_game_for_root
begun_size [] r h = size_begun (sized 19 19) r h
begun_size (n ∷ ns) r h = elim (either (is_go (values_of GM n.props)) _ _ _ h) [
  | inl go ↦ size_begun (size_or_default (values_of SZ n.props)) r go
  | inr other ↦ let bad : Err _ ≡ Ok r = other in cc
]

-- a fault that isn't of GM or SZ, nor for want of a target, is that of a node
record IsOfNode (e : GameFault) : Type 0 where
  go : e ≡ NotGo → ⊥
  size : e ≡ BadSize → ⊥
  target : e ≡ NoTarget → ⊥

module _ (P : Size → Node → GameFault → Type 0) (all : (size : Size) (k : ℕ) (n : Node) → HoldsOfFaults (P size n) k size n) (ns : List Node) (e : GameFault) (of : IsOfNode e) where
  IsAmong : Type 0
  IsAmong = (size : Size) × (size_of_nodes ns ≡ Some size) × IsFaultAmong (P size) 0 ns e

  never_among : empty_game_for_nodes ns ≡ Err e → IsAmong
  never_among h = elim (begin_refused ns e h) [ inl other ↦ absurd (of.go other) | inr bad ↦ absurd (of.size bad) ]

  problem_among : problem_of ns ≡ Err e → IsAmong
  unfolding problem_of IsAmong
  problem_among h = elim (step_refused (empty_game_for_nodes ns) _ e h) [
    | inl never ↦ never_among never
    | inr on ↦ (on.0.game.size, begun_size ns on.0 on.1, among_targets (P on.0.game.size) on.0.game.size (all on.0.game.size) e 0 on.0 ns refl of.target on.2)
  ]

  record_among : record_of ns ≡ Err e → IsAmong
  unfolding IsAmong
  record_among h = elim (refused_by ns e h) [
    | inl never ↦ never_among never
    | inr on ↦ (on.0.game.size, begun_size ns on.0 on.1, among_run (P on.0.game.size) on.0.game.size (all on.0.game.size) e 0 on.0 ns refl on.2)
  ]

  refused_among : IsRefused ns e → (size : Size) × (size_of_nodes ns ≡ Some size) × IsFaultAmong (P size) 0 ns e
  unfolding IsAmong
  refused_among (inl h) = record_among h
  refused_among (inr h) = problem_among h

-- ---- points

abbrev IsPointOnBoard : Size → Node → GameFault → Type 0
IsPointOnBoard size n e = (p : ℕ) → fault_point e ≡ Some p → p < point_count size

moved_on : (c q p : ℕ) → q < c → Some q ≡ Some p → p < c
moved_on c q p on h = let same : q ≡ p = cc in subst (λ x. x < c) same on

points_on : (size : Size) (k : ℕ) (n : Node) → HoldsOfFaults (IsPointOnBoard size n) k size n
points_on size k n = record {
  entry = λ name _ _ p h. let is = bad_entry_is k size name 0 n.props in absurd (none-some p (sym (ap fault_point is.2) ∙ h));
  move = λ name v vs _ _ _ p h. let is = bad_first_is k name 0 n.props in absurd (none-some p (sym (ap fault_point is.1) ∙ h));
  mover = λ _ p h. let is = bad_first_is k PL 0 n.props in absurd (none-some p (sym (ap fault_point is.1) ∙ h));
  mixed = λ p h. absurd (none-some p h);
  many = λ p h. absurd (none-some p h);
  pass = λ p h. absurd (none-some p h);
  over = λ q on p h. moved_on (point_count size) q p on h;
  occupied = λ q on p h. moved_on (point_count size) q p on h;
  repeated = λ q on p h. moved_on (point_count size) q p on h;
  twice = λ q on p h. moved_on (point_count size) q p on h;
  lifeless = λ q on p h. moved_on (point_count size) q p on h;
  bare = λ q on p h. moved_on (point_count size) q p on h;
  both = λ q on p h. moved_on (point_count size) q p on h;
}

-- a fault with a point is that of a node
of_point : (e : GameFault) (p : ℕ) → fault_point e ≡ Some p → IsOfNode e
of_point e p h = record {
  go = λ same. none-some p (sym (ap fault_point same) ∙ h);
  size = λ same. none-some p (sym (ap fault_point same) ∙ h);
  target = λ same. none-some p (sym (ap fault_point same) ∙ h);
}

pub fault_points_are_on_board : FaultPointsAreOnBoard
fault_points_are_on_board ns e p h is =
    let among = refused_among IsPointOnBoard points_on ns e (of_point e p is) h in
    (among.0, among.1, among.2.holds p is)

-- ---- values that can't be read

name_is : (a b : List ℕ) → pointwise ◌==◌ a b ≡ true → a ≡ b
name_is a b h = (slice_eq-Decides Decides-eqb a b (pointwise ◌==◌ a b) refl).0 h

is_name : (a b : List ℕ) → a ≡ b → pointwise ◌==◌ a b ≡ true
is_name a b h = (slice_eq-Decides Decides-eqb a b (pointwise ◌==◌ a b) refl).1 h

not_true : (b : Bool) → not b ≡ true → b ≡ false
not_true true h = absurd (false≢true h)
not_true false h = refl

not_false : (b : Bool) → not b ≡ false → b ≡ true
not_false true h = refl
not_false false h = absurd (false≢true (sym h))

not_some : {A : Type 0} (o : Option A) → o ≡ None → is_some o ≡ false
not_some None h = refl
not_some (Some x) h = absurd (none-some x (sym h))

-- the first value that isn't read, among these properties, which stand behind i others
record FirstUnread (size : Size) (name : List ℕ) (from : ℕ) (ps : List Property) (i j : ℕ) : Type 0 where
  front : List Property
  property : Property
  behind : List Property
  values_before : List (List ℕ)
  value : List ℕ
  values_behind : List (List ℕ)
  properties : ps ≡ front ++ property ∷ behind
  index : i ≡ from + length front
  values : property.values ≡ values_before ++ value ∷ values_behind
  value_index : j ≡ length values_before
  ident : property.ident ≡ name
  unread : is_read size name value ≡ false
  read_before : All (λ v. is_read size name v ≡ true) values_before
  read_in_front : All (λ p. p.ident ≡ name → All (λ v. is_read size name v ≡ true) p.values) front

module _ (size : Size) (name : List ℕ) where
  -- behind a property whose values of this name are read
  unread_later : (from : ℕ) (p : Property) (ps : List Property) (i j : ℕ) → (p.ident ≡ name → All (λ v. is_read size name v ≡ true) p.values)
      → FirstUnread size name (from + 1) ps i j → FirstUnread size name from (p ∷ ps) i j
  unread_later from p ps i j read later = record {
    front = p ∷ later.front;
    property = later.property;
    behind = later.behind;
    values_before = later.values_before;
    value = later.value;
    values_behind = later.values_behind;
    properties = ap (λ (x : List Property). p ∷ x) later.properties;
    index = later.index ∙ (let same : from + 1 + length later.front ≡ from + suc (length later.front) = omega arith in same);
    values = later.values;
    value_index = later.value_index;
    ident = later.ident;
    unread = later.unread;
    read_before = later.read_before;
    read_in_front = All-cons (λ q. q.ident ≡ name → All (λ v. is_read size name v ≡ true) q.values) p later.front read later.read_in_front;
  }

  -- values of point lists
  module _ (reads : (v : List ℕ) → is_read size name v ≡ is_entry size v) where
    all_entries : (vs : List (List ℕ)) → list_all (is_entry size) vs ≡ true → All (λ v. is_read size name v ≡ true) vs
    all_entries [] h = All-nil (λ v. is_read size name v ≡ true)
    all_entries (v ∷ vs) h =
        let parts = and_parts (is_entry size v) (list_all (is_entry size) vs) h in
        All-cons (λ w. is_read size name w ≡ true) v vs (reads v ∙ parts.0) (all_entries vs parts.1)

    record FirstEntry (vs : List (List ℕ)) : Type 0 where
      before : List (List ℕ)
      value : List ℕ
      behind : List (List ℕ)
      parts : vs ≡ before ++ value ∷ behind
      index : first_bad_entry size vs ≡ length before
      unread : is_read size name value ≡ false
      read : All (λ v. is_read size name v ≡ true) before

    first_entry : (vs : List (List ℕ)) → list_all (is_entry size) vs ≡ false → FirstEntry vs
    unfolding first_bad_entry
    first_entry [] h = absurd (false≢true (sym h))
    first_entry (v ∷ vs) h = elim (cases_Bool (is_entry size v)) [
      | inl on ↦
          let later = first_entry vs (sym (ap (λ b. b && list_all (is_entry size) vs) on) ∙ h) in
          record {
            before = v ∷ later.before;
            value = later.value;
            behind = later.behind;
            parts = ap (λ (x : List (List ℕ)). v ∷ x) later.parts;
            index = ap (λ b. cond b (suc (first_bad_entry size vs)) 0) on ∙ ap suc later.index;
            unread = later.unread;
            read = All-cons (λ w. is_read size name w ≡ true) v later.before (reads v ∙ on) later.read;
          }
      | inr off ↦ record {
        before = [];
        value = v;
        behind = vs;
        parts = refl;
        index = ap (λ b. cond b (suc (first_bad_entry size vs)) 0) off;
        unread = reads v ∙ off;
        read = All-nil (λ w. is_read size name w ≡ true);
      }
    ]

    -- a property without a bad entry of this name
    fine_entries : (p : Property) → has_bad_entry size name p ≡ false → p.ident ≡ name → list_all (is_entry size) p.values ≡ true
    fine_entries p fine same = not_false _ (sym (ap (λ b. b && not (list_all (is_entry size) p.values)) (is_name p.ident name same)) ∙ fine)

    unread_behind : (p : Property) (ps : List Property) → has_bad_entry size name p ≡ false → list_all (is_entry size) (values_of name (p ∷ ps)) ≡ false
        → list_all (is_entry size) (values_of name ps) ≡ false
    unread_behind p ps fine h = elim (cases_Bool (pointwise ◌==◌ p.ident name)) [
      | inl on ↦
          sym (list_all-append (is_entry size) p.values (values_of name ps) ∙ ap (λ b. b && list_all (is_entry size) (values_of name ps)) (fine_entries p fine (name_is p.ident name on)))
          ∙ ap (list_all (is_entry size)) (sym (values-named name p ps on)) ∙ h
      | inr off ↦ ap (list_all (is_entry size)) (sym (values-other name p ps off)) ∙ h
    ]

    first_in_lists : (k from : ℕ) (ps : List Property) (l i j : ℕ) → list_all (is_entry size) (values_of name ps) ≡ false → bad_entry k size name from ps ≡ BadValue l i j
        → FirstUnread size name from ps i j
    unfolding bad_entry values_of
    first_in_lists k from [] l i j h e = absurd (false≢true (sym h))
    first_in_lists k from (p ∷ ps) l i j h e =
        let go = λ (b : Bool). cond b (BadValue k from (first_bad_entry size p.values)) (bad_entry k size name (from + 1) ps) in
        elim (cases_Bool (has_bad_entry size name p)) [
          | inl bad ↦
              let parts = and_parts (pointwise ◌==◌ p.ident name) (not (list_all (is_entry size) p.values)) bad in
              let first = first_entry p.values (not_true _ parts.1) in
              let is : BadValue k from (first_bad_entry size p.values) ≡ BadValue l i j = sym (ap go bad) ∙ e in
              let index : from ≡ i = cc in
              let value_index : first_bad_entry size p.values ≡ j = cc in
              record {
                front = [];
                property = p;
                behind = ps;
                values_before = first.before;
                value = first.value;
                values_behind = first.behind;
                properties = refl;
                index = sym index ∙ (let same : from ≡ from + 0 = omega arith in same);
                values = first.parts;
                value_index = sym value_index ∙ first.index;
                ident = name_is p.ident name parts.0;
                unread = first.unread;
                read_before = first.read;
                read_in_front = All-nil (λ q. q.ident ≡ name → All (λ v. is_read size name v ≡ true) q.values);
              }
          | inr fine ↦ unread_later from p ps i j (λ same. all_entries p.values (fine_entries p fine same))
              (first_in_lists k (from + 1) ps l i j (unread_behind p ps fine h) (sym (ap go fine) ∙ e))
        ]

  -- first values of a name
  no_value : (vs : List (List ℕ)) → has_some_value vs ≡ false → vs ≡ []
  no_value [] h = refl
  no_value (v ∷ vs) h = absurd (false≢true (sym h))

  some_value : (vs : List (List ℕ)) → has_some_value vs ≡ true → (v : List ℕ) × (ws : List (List ℕ)) × (vs ≡ v ∷ ws)
  some_value [] h = absurd (false≢true h)
  some_value (v ∷ vs) h = (v, vs, refl)

  no_values : (p : Property) → has_value_named name p ≡ false → p.ident ≡ name → p.values ≡ []
  no_values p none same = no_value p.values (sym (ap (λ b. b && has_some_value p.values) (is_name p.ident name same)) ∙ none)

  values_later : (p : Property) (ps : List Property) → has_value_named name p ≡ false → values_of name (p ∷ ps) ≡ values_of name ps
  values_later p ps none = elim (cases_Bool (pointwise ◌==◌ p.ident name)) [
    | inl on ↦ values-named name p ps on ∙ ap (λ (x : List (List ℕ)). x ++ values_of name ps) (no_values p none (name_is p.ident name on))
    | inr off ↦ values-other name p ps off
  ]

  first_of_name : (k from : ℕ) (ps : List Property) (v : List ℕ) (vs : List (List ℕ)) (l i j : ℕ) → values_of name ps ≡ v ∷ vs → is_read size name v ≡ false
      → bad_first_value k name from ps ≡ BadValue l i j → FirstUnread size name from ps i j
  unfolding bad_first_value values_of
  first_of_name k from [] v vs l i j there unread e = let bad : [] ≡ v ∷ vs = there in cc
  first_of_name k from (p ∷ ps) v vs l i j there unread e =
      let go = λ (b : Bool). cond b (BadValue k from 0) (bad_first_value k name (from + 1) ps) in
      elim (cases_Bool (has_value_named name p)) [
        | inl here ↦
            let parts = and_parts (pointwise ◌==◌ p.ident name) (has_some_value p.values) here in
            let first = some_value p.values parts.1 in
            let all : first.0 ∷ (first.1 ++ values_of name ps) ≡ v ∷ vs =
            ap (λ (x : List (List ℕ)). x ++ values_of name ps) (sym first.2) ∙ sym (values-named name p ps parts.0) ∙ there in
            let same : first.0 ≡ v = cc in
            let is : BadValue k from 0 ≡ BadValue l i j = sym (ap go here) ∙ e in
            let index : from ≡ i = cc in
            let value_index : 0 ≡ j = cc in
            record {
              front = [];
              property = p;
              behind = ps;
              values_before = [];
              value = first.0;
              values_behind = first.1;
              properties = refl;
              index = sym index ∙ (let same' : from ≡ from + 0 = omega arith in same');
              values = first.2;
              value_index = sym value_index;
              ident = name_is p.ident name parts.0;
              unread = ap (is_read size name) same ∙ unread;
              read_before = All-nil (λ w. is_read size name w ≡ true);
              read_in_front = All-nil (λ q. q.ident ≡ name → All (λ w. is_read size name w ≡ true) q.values);
            }
        | inr none ↦ unread_later from p ps i j (λ same. subst (All (λ w. is_read size name w ≡ true)) (sym (no_values p none same)) (All-nil (λ w. is_read size name w ≡ true)))
            (first_of_name k (from + 1) ps v vs l i j (sym (values_later p ps none) ∙ there) unread (sym (ap go none) ∙ e))
      ]

  -- in a node, under one of the names
  in_node : (n : Node) (i j : ℕ) → Contains (B ∷ W ∷ AB ∷ AW ∷ AE ∷ PL ∷ TR ∷ SQ ∷ []) name → FirstUnread size name 0 n.props i j → IsFirstUnread size n i j
  in_node n i j named first = record {
    front = first.front;
    property = first.property;
    behind = first.behind;
    values_before = first.values_before;
    value = first.value;
    values_behind = first.values_behind;
    properties = first.properties;
    index = first.index ∙ (let same : 0 + length first.front ≡ length first.front = omega arith in same);
    values = first.values;
    value_index = first.value_index;
    named = subst (λ (x : List ℕ). Contains (B ∷ W ∷ AB ∷ AW ∷ AE ∷ PL ∷ TR ∷ SQ ∷ []) x) (sym first.ident) named;
    unread = subst (λ (x : List ℕ). is_read size x first.value ≡ false) (sym first.ident) first.unread;
    read_before = subst (λ (x : List ℕ). All (λ v. is_read size x v ≡ true) first.values_before) (sym first.ident) first.read_before;
    read_in_front = subst (λ (x : List ℕ). All (λ p. p.ident ≡ x → All (λ v. is_read size x v ≡ true) p.values) first.front) (sym first.ident) first.read_in_front;
  }

-- each name is one of those, and has its rule
list_named : (name : List ℕ) → IsListName name → Contains (B ∷ W ∷ AB ∷ AW ∷ AE ∷ PL ∷ TR ∷ SQ ∷ []) name
list_named _ adds_black = (2, omega arith, refl)
list_named _ adds_white = (3, omega arith, refl)
list_named _ empties = (4, omega arith, refl)
list_named _ marks_targets = (6, omega arith, refl)
list_named _ marks_region = (7, omega arith, refl)

list_reads : (size : Size) (name : List ℕ) → IsListName name → (v : List ℕ) → is_read size name v ≡ is_entry size v
list_reads size _ adds_black v = refl
list_reads size _ adds_white v = refl
list_reads size _ empties v = refl
list_reads size _ marks_targets v = refl
list_reads size _ marks_region v = refl

move_named : (name : List ℕ) → IsMoveName name → Contains (B ∷ W ∷ AB ∷ AW ∷ AE ∷ PL ∷ TR ∷ SQ ∷ []) name
move_named _ black_move = (0, omega arith, refl)
move_named _ white_move = (1, omega arith, refl)

move_reads : (size : Size) (name : List ℕ) → IsMoveName name → (v : List ℕ) → is_read size name v ≡ is_some (point_of size (trimmed v))
move_reads size _ black_move v = refl
move_reads size _ white_move v = refl

-- PL that names no colour has a value
mover_value : (vs : List (List ℕ)) → mover_of_values vs ≡ None → (v : List ℕ) × (ws : List (List ℕ)) × (vs ≡ v ∷ ws) × (colour_of_letter (after_blanks v) ≡ None)
mover_value [] h = absurd (none-some _ (sym h))
mover_value (v ∷ vs) h = (v, vs, refl, h)

abbrev HasValueAtFault : Size → Node → GameFault → Type 0
HasValueAtFault size n e = (l i j : ℕ) → e ≡ BadValue l i j → IsFirstUnread size n i j

values_are_there : (size : Size) (k : ℕ) (n : Node) → HoldsOfFaults (HasValueAtFault size n) k size n
values_are_there size k n = record {
  entry = λ name is none l i j e.
      in_node size name n i j (list_named name is) (first_in_lists size name (list_reads size name is) k 0 n.props l i j (some_unread size (values_of name n.props) none) e);
  move = λ name v vs is there none l i j e.
      in_node size name n i j (move_named name is) (first_of_name size name k 0 n.props v vs l i j there (move_reads size name is v ∙ not_some _ none) e);
  mover = λ none l i j e.
      let first = mover_value (values_of PL n.props) none in
      in_node size PL n i j (5, omega arith, refl) (first_of_name size PL k 0 n.props first.0 first.1 l i j first.2 (not_some _ first.3) e);
  mixed = λ l i j e. let bad : MixedNode k ≡ BadValue l i j = e in cc;
  many = λ l i j e. let bad : TooManyTurns k ≡ BadValue l i j = e in cc;
  pass = λ l i j e. let bad : AfterEnd k None ≡ BadValue l i j = e in cc;
  over = λ p _ l i j e. let bad : AfterEnd k (Some p) ≡ BadValue l i j = e in cc;
  occupied = λ p _ l i j e. let bad : OccupiedPoint k p ≡ BadValue l i j = e in cc;
  repeated = λ p _ l i j e. let bad : RepeatedBoard k p ≡ BadValue l i j = e in cc;
  twice = λ p _ l i j e. let bad : PointTwice k p ≡ BadValue l i j = e in cc;
  lifeless = λ p _ l i j e. let bad : StoneWithoutLiberty k p ≡ BadValue l i j = e in cc;
  bare = λ p _ l i j e. let bad : EmptyTarget k p ≡ BadValue l i j = e in cc;
  both = λ p _ l i j e. let bad : MixedTargets k p ≡ BadValue l i j = e in cc;
}

-- a fault of a value is that of a node
of_value : (k i j : ℕ) → IsOfNode (BadValue k i j)
of_value k i j = record {
  go = λ same. let bad : BadValue k i j ≡ NotGo = same in cc;
  size = λ same. let bad : BadValue k i j ≡ BadSize = same in cc;
  target = λ same. let bad : BadValue k i j ≡ NoTarget = same in cc;
}

pub bad_values_are_there : BadValuesAreThere
bad_values_are_there ns k i j h =
    let among = refused_among HasValueAtFault values_are_there ns (BadValue k i j) (of_value k i j) h in
    let is = among.2 in
    let at : Some k ≡ Some (0 + length is.front + 1) = is.at in
    let number : k ≡ 0 + length is.front + 1 = cc in
    record {
      size = among.0;
      front = is.front;
      node = is.node;
      behind = is.behind;
      size_is = among.1;
      parts = is.parts;
      number = number ∙ (let same : 0 + length is.front + 1 ≡ length is.front + 1 = omega arith in same);
      unread = is.holds k i j refl;
    }
