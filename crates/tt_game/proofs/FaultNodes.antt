-- What each fault of a node has: shown one by one, it holds of whatever a node is refused for. The node's number is one such thing.
use Rattle.std.proofs.Common.{◌≡◌, ℕ, ◌+◌, ◌-◌, ◌*◌, ◌<◌, ◌⊎◌, List, [], ◌∷◌, inl, inr, Option, Some, None, Ok, Err, refl, sym, ap, subst, ◌∙◌, ◌&&◌, ◌==◌, nat_le, nat_lt, true, arith}
use Rattle.std.specs.FinSet as set
use Rattle.std.specs.Cmp.{nat_cmp_total}
use Rattle.std.proofs.lemmas.Bool.{and_parts, cases_Bool, or_cases}
use Rattle.std.proofs.lemmas.Bool.Decides.{nat_tests}
use Rattle.std.proofs.lemmas.Nat.{mul-add-lt}
use Rattle.std.specs.declared.result.Result.{Result}
use Rattle.tt_sgf.specs.declared.size.Size.{Size}
use Rattle.tt_sgf.specs.declared.size.PointOrPass.{PointOrPass}
use Rattle.tt_sgf.specs.declared.size.PointOrPass.TheVariants.{On}
use Rattle.tt_sgf.specs.declared.size.PointOrPass.TheVariants as values
use Rattle.tt_sgf.specs.declared.nodes.Node.{Node}
use Rattle.tt_sgf.specs.declared.nodes.Property.{Property}
use Rattle.tt_sgf.specs.Sizes.{point_count, sized}
use Rattle.tt_sgf.specs.Values.{lettered_point, point_of, trimmed}
use Rattle.tt_board.specs.declared.Colour.{Colour}
use Rattle.tt_board.specs.declared.Colour.TheVariants.{Black, White}
use Rattle.tt_board.specs.Position.{Colouring}
use Rattle.tt_board.specs.Play.{same_colour}
use Rattle.tt_board.specs.Setup.{placed}
use Rattle.tt_board.specs.Stones.{PointNumberSet}
use Rattle.tt_game.specs.declared.faults.GameFault.{GameFault}
use Rattle.tt_game.specs.declared.faults.GameFault.TheVariants.{AfterEnd, BadSize, BadValue, EmptyTarget, MixedNode, MixedTargets}
use Rattle.tt_game.specs.declared.faults.GameFault.TheVariants.{NotGo, OccupiedPoint, PointTwice, RepeatedBoard, StoneWithoutLiberty, TooManyTurns}
use Rattle.tt_game.specs.declared.faults.Why.{Why}
use Rattle.tt_game.specs.declared.faults.Why.TheVariants.{Over, Occupied, Outside, Repeats}
use Rattle.tt_game.specs.declared.records.GameSoFar.{GameSoFar}
use Rattle.tt_game.specs.declared.turns.Turn.{Turn}
use Rattle.tt_game.specs.declared.turns.Turn.TheVariants.{Play, Pass}
use Rattle.tt_game.specs.Faults.{bad_entry, bad_first_value, fault_node, first_bad_entry, has_bad_entry, has_value_named, least_point, least_without_liberty, or_fault, read_mover, read_set}
use Rattle.tt_game.specs.Games.{GameState, game_after_turn, refusal_of}
use Rattle.tt_game.specs.Nodes.{AB, AE, AW, B, GM, PL, SQ, SZ, TR, W, in_two_sets, is_go, is_setup, move_count, mover_of_values, set_named, size_or_default, values_of}
use Rattle.tt_game.specs.Records.{and_then, as_turn, empty_game_of_size, empty_game_for_nodes, empty_game_for_root, fault_of, play_named_turn, play_next_turn}
use Rattle.tt_game.specs.Records.{play_node_move, play_turn_by, set_up_node, set_up_or_fault, setup_or_fault, step_node, turn_or_fault, turn_point}
use Rattle.tt_game.specs.Turns.{IsTurnOnBoardOfSize}
use Rattle.tt_game.proofs.FaultLemmas.{least_lifeless_on_board, least_point_in}
use Rattle.tt_game.proofs.OpenProblems.{choice, either, there}
use Rattle.tt_game.proofs.ProblemLemmas.{set_on_board}

-- a fault of two steps is one of the first, or of the second
pub step_refused : {A B : Type 0} (r : Result A GameFault) (f : A → Result B GameFault) (e : GameFault) → and_then r f ≡ Err e
    → (r ≡ Err e) ⊎ ((x : A) × (r ≡ Ok x) × (f x ≡ Err e))
step_refused (Ok x) f e h = inr (x, refl, h)
step_refused (Err c) f e h = inl (let same : c ≡ e = cc in ap Err same)

-- the fault that is handed on
abbrev pub fails : {A : Type 0} → GameFault → Result A GameFault
fails e = Err e

pub handed : {A : Type 0} (P : GameFault → Type 0) (f e : GameFault) → P f → fails {A = A} f ≡ Err e → P e
handed P f e holds h = let same : f ≡ e = cc in subst P same holds

missing : {A : Type 0} (P : GameFault → Type 0) (o : Option A) (f e : GameFault) → (o ≡ None → P f) → or_fault o f ≡ Err e → P e
missing P None f e holds h = handed P f e (holds refl) h
missing P (Some x) f e holds h = let bad : Ok x ≡ Err e = h in cc

-- ---- values

-- the point of two letters is on the board
place_on : (size : Size) (c d p : ℕ) → lettered_point size c d ≡ Some (On p) → p < point_count size
place_on size c d p e = elim (choice ((nat_le 97 c && nat_lt (c - 97) size.columns) && (nat_le 97 d && nat_lt (d - 97) size.rows)) _ _ _ e) [
  | inr not_ ↦ let bad : None ≡ Some (On p) = not_.1 in cc
  | inl is ↦
      let same : (d - 97) * size.columns + (c - 97) ≡ p = cc in
      let column : c - 97 < size.columns = grind (arith, nat_tests, is.0) in
      let row : d - 97 < size.rows = grind (arith, nat_tests, is.0) in
      subst (λ (x : ℕ). x < point_count size) same (mul-add-lt (d - 97) size.columns (c - 97) size.rows row column)
]

-- a value's turn is on the board
pub value_on : (size : Size) (text : List ℕ) (v : PointOrPass) → point_of size text ≡ Some v → IsTurnOnBoardOfSize size (as_turn v)
unfolding point_of
value_on size text values.Pass e = tt
value_on size [] (On p) e = let bad : Some values.Pass ≡ Some (On p) = e in cc
value_on size (c ∷ []) (On p) e = let bad : None ≡ Some (On p) = e in cc
value_on size (c ∷ d ∷ []) (On p) e = elim (choice (c == 116 && d == 116) _ _ _ e) [
  | inl pass ↦ let bad : Some values.Pass ≡ Some (On p) = pass.1 in cc
  | inr point ↦ place_on size c d p point.1
]
value_on size (c ∷ d ∷ x ∷ xs) (On p) e = let bad : None ≡ Some (On p) = e in cc

-- a bad entry's fault is a bad value of the node
pub bad_entry_is : (k : ℕ) (size : Size) (name : List ℕ) (i : ℕ) (ps : List Property) → (x : ℕ) × (y : ℕ) × (bad_entry k size name i ps ≡ BadValue k x y)
unfolding bad_entry
bad_entry_is k size name i [] = (i, 0, refl)
bad_entry_is k size name i (p ∷ ps) = elim (cases_Bool (has_bad_entry size name p)) [
  | inl here ↦ rw here (i, first_bad_entry size p.values, refl)
  | inr behind ↦ rw behind (bad_entry_is k size name (i + 1) ps)
]

pub bad_first_is : (k : ℕ) (name : List ℕ) (i : ℕ) (ps : List Property) → (x : ℕ) × (bad_first_value k name i ps ≡ BadValue k x 0)
unfolding bad_first_value
bad_first_is k name i [] = (i, refl)
bad_first_is k name i (p ∷ ps) = elim (cases_Bool (has_value_named name p)) [
  | inl here ↦ rw here (i, refl)
  | inr behind ↦ rw behind (bad_first_is k name (i + 1) ps)
]

-- a set that was read is on the board
pub set_in : (k : ℕ) (size : Size) (name : List ℕ) (n : Node) (s : PointNumberSet) → read_set k size name n ≡ Ok s → (q : ℕ) → set.contains s q ≡ true → q < point_count size
set_in k size name n s h q has = set_on_board size (values_of name n.props) s q (there _ _ s h) has

-- the least point that two of three sets have is in one of the first two
twice_in : (a b c : PointNumberSet) (p : ℕ) → least_point (in_two_sets a b c) ≡ Some p → (set.contains a p ≡ true) ⊎ (set.contains b p ≡ true)
twice_in a b c p h =
    let has = least_point_in (in_two_sets a b c) p h in
    elim (or_cases _ _ (sym (set.contains-union nat_cmp_total (set.intersection a b) (set.intersection (set.union a b) c) p) ∙ has)) [
      | inl both ↦ inl (and_parts _ _ (sym (set.contains-intersection nat_cmp_total a b p) ∙ both)).0
      | inr third ↦ or_cases _ _ (sym (set.contains-union nat_cmp_total a b p) ∙ (and_parts _ _ (sym (set.contains-intersection nat_cmp_total (set.union a b) c p) ∙ third)).0)
    ]

-- ---- turns that are made

-- the number of the node and the size stay
pub record Stays (r q : GameSoFar) : Type 0 where
  pub node : q.node ≡ r.node
  pub size : q.game.size ≡ r.game.size

pub stays_same : (r q : GameSoFar) → r ≡ q → Stays r q
stays_same r q same = record { node = ap (λ (x : GameSoFar). x.node) (sym same); size = ap (λ (x : GameSoFar). x.game.size) (sym same) }

turned_size : (g : GameState) (t : Turn) → (game_after_turn g t).size ≡ g.size
turned_size g Pass = refl
turned_size g (Play p) = refl

made_stays : (r : GameSoFar) (t : Turn) (o : Option Why) (q : GameSoFar) → turn_or_fault r t o ≡ Ok q → Stays r q
made_stays r t None q h =
    let same : record { game = game_after_turn r.game t; turns = r.turns + 1; node = r.node } ≡ q = cc in
    record { node = sym (ap (λ (x : GameSoFar). x.node) same); size = sym (ap (λ (x : GameSoFar). x.game.size) same) ∙ turned_size r.game t }
made_stays r t (Some why) q h = let bad : Err _ ≡ Ok q = h in cc

pub next_stays : (r : GameSoFar) (t : Turn) (q : GameSoFar) → play_next_turn r t ≡ Ok q → Stays r q
next_stays r t q h = elim (either (r.game.passes == 2) _ _ _ h) [
  | inl over ↦ let bad : Err _ ≡ Ok q = over in cc
  | inr on ↦ elim (either (nat_le 2000 r.turns) _ _ _ on) [
    | inl many ↦ let bad : Err _ ≡ Ok q = many in cc
    | inr few ↦ made_stays r t (refusal_of r.game t) q few
  ]
]

-- ---- faults

-- names whose values are point lists
pub data IsListName : List ℕ → Type 0 where
  adds_black : IsListName AB
  adds_white : IsListName AW
  empties : IsListName AE
  marks_targets : IsListName TR
  marks_region : IsListName SQ

-- names whose first value is a move
pub data IsMoveName : List ℕ → Type 0 where
  black_move : IsMoveName B
  white_move : IsMoveName W

-- what is shown of each fault that node n can have on a board of this size, as the node with number k
pub record HoldsOfFaults (P : GameFault → Type 0) (k : ℕ) (size : Size) (n : Node) : Type 0 where
  pub entry : (name : List ℕ) → IsListName name → set_named size name n ≡ None → P (bad_entry k size name 0 n.props)
  pub move : (name v : List ℕ) (vs : List (List ℕ)) → IsMoveName name → values_of name n.props ≡ v ∷ vs → point_of size (trimmed v) ≡ None → P (bad_first_value k name 0 n.props)
  pub mover : mover_of_values (values_of PL n.props) ≡ None → P (bad_first_value k PL 0 n.props)
  pub mixed : P (MixedNode k)
  pub many : P (TooManyTurns k)
  pub pass : P (AfterEnd k None)
  pub over : (p : ℕ) → p < point_count size → P (AfterEnd k (Some p))
  pub occupied : (p : ℕ) → p < point_count size → P (OccupiedPoint k p)
  pub repeated : (p : ℕ) → p < point_count size → P (RepeatedBoard k p)
  pub twice : (p : ℕ) → p < point_count size → P (PointTwice k p)
  pub lifeless : (p : ℕ) → p < point_count size → P (StoneWithoutLiberty k p)
  pub bare : (p : ℕ) → p < point_count size → P (EmptyTarget k p)
  pub both : (p : ℕ) → p < point_count size → P (MixedTargets k p)

module _ (P : GameFault → Type 0) (r : GameSoFar) (n : Node) (holds : HoldsOfFaults P r.node r.game.size n) (e : GameFault) where
  -- then it holds of the fault of a turn, of this node's number
  over_holds : (t : Turn) → IsTurnOnBoardOfSize r.game.size t → P (AfterEnd r.node (turn_point t))
  over_holds Pass on = holds.pass
  over_holds (Play p) on = holds.over p on

  turn_holds : (t : Turn) (why : Why) → IsTurnOnBoardOfSize r.game.size t → P (fault_of r.node (turn_point t) why)
  turn_holds Pass why on = holds.pass
  turn_holds (Play p) Over on = holds.over p on
  turn_holds (Play p) Occupied on = holds.occupied p on
  turn_holds (Play p) Outside on = holds.occupied p on
  turn_holds (Play p) Repeats on = holds.repeated p on

  tried_holds : (s : GameSoFar) (t : Turn) (o : Option Why) → s.node ≡ r.node → IsTurnOnBoardOfSize r.game.size t → turn_or_fault s t o ≡ Err e → P e
  tried_holds s t None at on h = let bad : Ok _ ≡ Err e = h in cc
  tried_holds s t (Some why) at on h = handed P (fault_of s.node (turn_point t) why) e (subst (λ j. P (fault_of j (turn_point t) why)) (sym at) (turn_holds t why on)) h

  next_holds : (s : GameSoFar) (t : Turn) → s.node ≡ r.node → IsTurnOnBoardOfSize r.game.size t → play_next_turn s t ≡ Err e → P e
  next_holds s t at on h = elim (either (s.game.passes == 2) _ _ _ h) [
    | inl over ↦ handed P (AfterEnd s.node (turn_point t)) e (subst (λ j. P (AfterEnd j (turn_point t))) (sym at) (over_holds t on)) over
    | inr goes ↦ elim (either (nat_le 2000 s.turns) _ _ _ goes) [
      | inl many ↦ handed P (TooManyTurns s.node) e (subst (λ j. P (TooManyTurns j)) (sym at) holds.many) many
      | inr few ↦ tried_holds s t (refusal_of s.game t) at on few
    ]
  ]

  by_holds : (k : Colour) (t : Turn) → IsTurnOnBoardOfSize r.game.size t → play_turn_by r k t ≡ Err e → P e
  by_holds k t on h = elim (either (same_colour r.game.to_move k) _ _ _ h) [
    | inl its ↦ next_holds r t refl on its
    | inr others ↦ elim (step_refused (play_next_turn r Pass) (λ q. play_next_turn q t) e others) [
      | inl first ↦ next_holds r Pass refl tt first
      | inr second ↦ next_holds second.0 t (next_stays r Pass second.0 second.1).node on second.2
    ]
  ]

  named_holds : (k : Colour) (f : GameFault) (o : Option PointOrPass) → (o ≡ None → P f) → ((v : PointOrPass) → o ≡ Some v → IsTurnOnBoardOfSize r.game.size (as_turn v))
      → play_named_turn r k f o ≡ Err e → P e
  named_holds k f None at on h = handed P f e (at refl) h
  named_holds k f (Some v) at on h = by_holds k (as_turn v) (on v refl) h

  move_holds : (vs ws : List (List ℕ)) → values_of B n.props ≡ vs → values_of W n.props ≡ ws → play_node_move r n.props vs ws ≡ Err e → P e
  move_holds (v ∷ vs) ws black white h =
      named_holds Black (bad_first_value r.node B 0 n.props) (point_of r.game.size (trimmed v)) (holds.move B v vs black_move black) (λ x is. value_on r.game.size (trimmed v) x is) h
  move_holds [] (w ∷ ws) black white h =
      named_holds White (bad_first_value r.node W 0 n.props) (point_of r.game.size (trimmed w)) (holds.move W w ws white_move white) (λ x is. value_on r.game.size (trimmed w) x is) h
  move_holds [] [] black white h = let bad : Ok r ≡ Err e = h in cc

  -- ---- setup

  pub set_holds : (name : List ℕ) → IsListName name → read_set r.node r.game.size name n ≡ Err e → P e
  set_holds name is h = missing P (set_named r.game.size name n) (bad_entry r.node r.game.size name 0 n.props) e (holds.entry name is) h

  alive_holds : (c : Colouring) (k : Colour) (o : Option ℕ) → ((p : ℕ) → o ≡ Some p → p < point_count r.game.size) → setup_or_fault r c k o ≡ Err e → P e
  alive_holds c k None on h = let bad : Ok _ ≡ Err e = h in cc
  alive_holds c k (Some p) on h = handed P (StoneWithoutLiberty r.node p) e (holds.lifeless p (on p refl)) h

  once_holds : (black white bare : PointNumberSet) (k : Colour) (o : Option ℕ) → ((p : ℕ) → o ≡ Some p → p < point_count r.game.size) → set_up_or_fault r black white bare k o ≡ Err e → P e
  once_holds black white bare k None on h =
      let c = placed r.game.size r.game.present black white bare in alive_holds c k (least_without_liberty r.game.size c) (least_lifeless_on_board r.game.size c) h
  once_holds black white bare k (Some p) on h = handed P (PointTwice r.node p) e (holds.twice p (on p refl)) h

  set_up_holds : set_up_node r n ≡ Err e → P e
  set_up_holds h = elim (step_refused (read_set r.node r.game.size AB n) _ e h) [
    | inl here ↦ set_holds AB adds_black here
    | inr black ↦ elim (step_refused (read_set r.node r.game.size AW n) _ e black.2) [
      | inl here ↦ set_holds AW adds_white here
      | inr white ↦ elim (step_refused (read_set r.node r.game.size AE n) _ e white.2) [
        | inl here ↦ set_holds AE empties here
        | inr bare ↦ elim (step_refused (read_mover r.node n) _ e bare.2) [
          | inl here ↦ missing P (mover_of_values (values_of PL n.props)) (bad_first_value r.node PL 0 n.props) e holds.mover here
          | inr k ↦ once_holds black.0 white.0 bare.0 k.0 (least_point (in_two_sets black.0 white.0 bare.0))
              (λ p is. elim (twice_in black.0 white.0 bare.0 p is) [
                | inl has ↦ set_in r.node r.game.size AB n black.0 black.1 p has
                | inr has ↦ set_in r.node r.game.size AW n white.0 white.1 p has
              ])
              k.2
        ]
      ]
    ]
  ]

  -- ---- nodes

  -- and of whatever the node is refused for
  pub step_holds : step_node r n ≡ Err e → P e
  unfolding step_node
  step_holds h = elim (either (is_setup n) _ _ _ h) [
    | inl setup ↦ elim (either (nat_le 1 (move_count n)) _ _ _ setup) [ inl mixed ↦ handed P (MixedNode r.node) e holds.mixed mixed | inr pure ↦ set_up_holds pure ]
    | inr moves ↦ elim (either (nat_le 2 (move_count n)) _ _ _ moves) [
      | inl mixed ↦ handed P (MixedNode r.node) e holds.mixed mixed
      | inr pure ↦ move_holds (values_of B n.props) (values_of W n.props) refl refl pure
    ]
  ]

-- ---- the number of the node

abbrev pub IsAt : ℕ → GameFault → Type 0
IsAt k e = fault_node e ≡ Some k

pub at_holds : (k : ℕ) (size : Size) (n : Node) → HoldsOfFaults (IsAt k) k size n
at_holds k size n = record {
  entry = λ name _ _. let is = bad_entry_is k size name 0 n.props in ap fault_node is.2;
  move = λ name v vs _ _ _. let is = bad_first_is k name 0 n.props in ap fault_node is.1;
  mover = λ _. let is = bad_first_is k PL 0 n.props in ap fault_node is.1;
  mixed = refl;
  many = refl;
  pass = refl;
  over = λ p _. refl;
  occupied = λ p _. refl;
  repeated = λ p _. refl;
  twice = λ p _. refl;
  lifeless = λ p _. refl;
  bare = λ p _. refl;
  both = λ p _. refl;
}

-- a node's fault has the number of the node at hand
pub step_at : (r : GameSoFar) (e : GameFault) (n : Node) → step_node r n ≡ Err e → fault_node e ≡ Some r.node
step_at r e n h = step_holds (IsAt r.node) r n (at_holds r.node r.game.size n) e h

-- a line that doesn't begin is refused for its GM or its SZ
sized_refused : (o : Option Size) (e : GameFault) → empty_game_of_size o ≡ Err e → (e ≡ NotGo) ⊎ (e ≡ BadSize)
sized_refused None e h = inr (let same : BadSize ≡ e = cc in sym same)
sized_refused (Some size) e h = let bad : Ok _ ≡ Err e = h in cc

pub begin_refused : (ns : List Node) (e : GameFault) → empty_game_for_nodes ns ≡ Err e → (e ≡ NotGo) ⊎ (e ≡ BadSize)
unfolding empty_game_for_root
begin_refused [] e h = sized_refused (sized 19 19) e h
begin_refused (n ∷ ns) e h = elim (either (is_go (values_of GM n.props)) _ _ _ h) [
  | inl go ↦ sized_refused (size_or_default (values_of SZ n.props)) e go
  | inr other ↦ inl (let same : NotGo ≡ e = cc in sym same)
]

-- at its first node
pub begin_at : (ns : List Node) (e : GameFault) → empty_game_for_nodes ns ≡ Err e → fault_node e ≡ Some 1
begin_at ns e h = elim (begin_refused ns e h) [ inl other ↦ ap fault_node other | inr bad ↦ ap fault_node bad ]
