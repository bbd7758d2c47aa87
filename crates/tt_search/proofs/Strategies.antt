-- The strategy of a settled tree wins, is in order, and reaches no deeper than the tree.
use Rattle.std.proofs.Common.{◌≡◌, ℕ, zero, suc, ◌+◌, ◌-◌, ◌<◌, ◌≤◌, inl, inr, min, sum, List, [], ◌∷◌, ◌==◌, Bool, true, false, Some, None, refl, sym, ◌∙◌, ap, subst, arith, add-one}
use Rattle.std.proofs.lemmas.Grind.{common_steps}
use Rattle.tt_sgf.specs.declared.size.Size.{Size}
use Rattle.tt_game.specs.declared.frame.Side.{Side}
use Rattle.tt_game.specs.declared.frame.Side.TheVariants.{Attacker, Defender}
use Rattle.tt_game.specs.declared.turns.Turn.{Turn}
use Rattle.tt_game.specs.declared.frame.Frame.{Frame}
use Rattle.tt_game.specs.Game.{State, IsLegal, after, winner_of}
use Rattle.tt_game.specs.laws.Members.{IsIn, in_of_contains}
use Rattle.tt_game.specs.laws.TurnLaws.{EachIsLegal, RisesFrom, legal_turns_are_legal, contains-legal_turns, legal_turns_rise_from_0}
use Rattle.tt_game.specs.Turns.{legal_turns}
use Rattle.tt_proof.specs.Strategy.{Strategy, Entries, depth, depth_of_entries, IsInOrder, AreInOrder, turn_number_on_size}
use Rattle.tt_proof.specs.ProofClaim.{IsWinningTree}
use Rattle.tt_proof.specs.Wins.{Wins, WinsBehind}
use Rattle.tt_search.specs.PartialTree.{PartialTree, fresh, won, closed, expanded, Children, no_more, more}
use Rattle.tt_search.specs.Numbers.{is_same_side, least, capped_sum, decided_number, number, child_numbers}
use Rattle.tt_search.specs.MostProving.{first_index_of}
use Rattle.tt_search.specs.Growing.{IsPartialTree, ArePartialTrees}
use Rattle.tt_search.specs.inside.Within.{StaysWithin, AllStayWithin}
use Rattle.tt_search.specs.Settled.{strategy_for, first_settled_index, pick_or_reply, pick_at, replies}
use Rattle.tt_search.specs.inside.Joining.{AreZero}

-- ---- numbers that are 0

-- a leaf that gives a side the number 0 is decided for that side
same_side : (side other : Side) → decided_number side other ≡ 0 → other ≡ side
same_side Attacker Attacker e = refl
same_side Attacker Defender e = absurd (omega arith)
same_side Defender Attacker e = absurd (omega arith)
same_side Defender Defender e = refl

-- the child at the index is there, and its number is 0
abbrev pub IsZeroAt : Side → ℕ → Children → Type 0
IsZeroAt side i no_more = ⊥
IsZeroAt side zero (more tree children) = number side tree ≡ 0
IsZeroAt side (suc i) (more tree children) = IsZeroAt side i children

-- where the lesser of two numbers is 0 and the first one isn't, the second one is
least_zero : (x y : ℕ) → min x y ≡ 0 → (x == 0) ≡ false → y ≡ 0
least_zero x y e h = grind (arith, common_steps)

-- the first 0 is the first child's, or else it is found among the others
zero_by_first : (side : Side) (tree : PartialTree) (children : Children) → least (child_numbers side (more tree children)) ≡ 0
    → (least (child_numbers side children) ≡ 0 → IsZeroAt side (first_index_of 0 (child_numbers side children)) children) → (b : Bool) → (number side tree == 0) ≡ b
    → IsZeroAt side (first_index_of 0 (child_numbers side (more tree children))) (more tree children)
zero_by_first side tree children e below true q = rw q (grind (arith, common_steps))
zero_by_first side tree children e below false q = rw (q, add-one) (below (least_zero (number side tree) (least (child_numbers side children)) e q))

-- where the least number is 0, the first child that is settled is there
pub zero_at : (side : Side) (children : Children) → least (child_numbers side children) ≡ 0 → IsZeroAt side (first_settled_index side children) children
zero_at side no_more e = absurd (omega arith)
zero_at side (more tree children) e = zero_by_first side tree children e (zero_at side children) (number side tree == 0) refl

-- a capped sum of 0 is a sum of 0
pub zero_sum : (xs : List ℕ) → capped_sum xs ≡ 0 → sum xs ≡ 0
zero_sum xs e = grind (arith, common_steps)

-- a sum is the first number and the sum of the others
sum_more : (x : ℕ) (xs : List ℕ) → sum (x ∷ xs) ≡ x + sum xs
sum_more x xs = grind (arith, common_steps)

-- where the children's numbers sum up to 0, each of them is 0
pub all_zero : (side : Side) (children : Children) → sum (child_numbers side children) ≡ 0 → AreZero side children
all_zero side no_more e = tt
all_zero side (more tree children) e =
    (omega (arith, e, sum_more (number side tree) (child_numbers side children)), all_zero side children (omega (arith, e, sum_more (number side tree) (child_numbers side children))))

-- ---- who is to move

-- where the side to move has the number 0, so is the least of the children's
pub own_zero : (side mover : Side) (turns : List Turn) (children : Children) → is_same_side side mover ≡ true
    → number side (expanded mover turns children) ≡ 0 → least (child_numbers side children) ≡ 0
own_zero Attacker Attacker turns children e z = z
own_zero Attacker Defender turns children e z = cc
own_zero Defender Attacker turns children e z = cc
own_zero Defender Defender turns children e z = z

-- where the other side has it, so is their capped sum
pub other_zero : (side mover : Side) (turns : List Turn) (children : Children) → is_same_side side mover ≡ false → number side (expanded mover turns children) ≡ 0
    → capped_sum (child_numbers side children) ≡ 0
other_zero Attacker Attacker turns children e z = cc
other_zero Attacker Defender turns children e z = z
other_zero Defender Attacker turns children e z = z
other_zero Defender Defender turns children e z = cc

-- the sides that the test calls the same are one
pub same_is_same : (side mover : Side) → is_same_side side mover ≡ true → mover ≡ side
same_is_same Attacker Attacker e = refl
same_is_same Attacker Defender e = cc
same_is_same Defender Attacker e = cc
same_is_same Defender Defender e = refl

-- a node wins by its pick where the side is to move, and elsewhere by its replies
by_mover : (side mover : Side) (f : Frame) (s : State) (first : Strategy) (all : Entries) → winner_of f s ≡ None → mover ≡ s.to_move
    → (is_same_side side mover ≡ true → Wins side f first s) → (is_same_side side mover ≡ false → (t : Turn) → IsLegal f s t → WinsBehind side f all t s)
    → Wins side f (pick_or_reply (is_same_side side mover) first all) s
by_mover Attacker Attacker f s first all w m own others = own refl
by_mover Attacker Defender f s first all w m own others = (w, sym m, others refl)
by_mover Defender Attacker f s first all w m own others = (w, sym m, others refl)
by_mover Defender Defender f s first all w m own others = own refl

mutual
  -- the strategy of a settled tree wins
  pub wins : (side : Side) (f : Frame) (s : State) (tree : PartialTree) → IsPartialTree f s tree → number side tree ≡ 0 → Wins side f (strategy_for side tree) s
  wins side f s fresh p z = absurd (omega (arith, z))
  wins side f s (won winner) p z = p ∙ ap Some (same_side side winner z)
  wins side f s (closed winner strategy) p z = subst (λ w. Wins w f strategy s) (same_side side winner z) p
  wins side f s (expanded mover turns children) p z =
      by_mover side mover f s (pick_at side (first_settled_index side children) turns children) (replies side turns children) p.0 p.1
      (λ e. pick_wins side f s (first_settled_index side children) turns children p.0 (sym p.1 ∙ same_is_same side mover e) (subst (EachIsLegal f s) (sym p.2) (legal_turns_are_legal f s)) p.3
      (zero_at side children (own_zero side mover turns children e z)))
      (λ e t l. replies_win side f s turns children t p.3 (all_zero side children (zero_sum (child_numbers side children) (other_zero side mover turns children e z)))
      (subst (λ ts. IsIn ts t) (sym p.2) (in_of_contains (legal_turns f s) t ((contains-legal_turns f s t).1 l))))

  -- so does the pick of a child with the number 0, where the side is to move
  pick_wins : (side : Side) (f : Frame) (s : State) (i : ℕ) (turns : List Turn) (children : Children) → winner_of f s ≡ None → s.to_move ≡ side → EachIsLegal f s turns
      → ArePartialTrees f s turns children → IsZeroAt side i children → Wins side f (pick_at side i turns children) s
  pick_wins side f s i [] no_more w m l p z = absurd z
  pick_wins side f s i [] (more tree children) w m l p z = absurd p
  pick_wins side f s i (t ∷ ts) no_more w m l p z = absurd p
  pick_wins side f s zero (t ∷ ts) (more tree children) w m l p z = (w, m, l.0, wins side f (after f s t) tree p.0 z)
  pick_wins side f s (suc i) (t ∷ ts) (more tree children) w m l p z = pick_wins side f s i ts children w m l.1 p.1 z

  -- and some reply to each of the turns, where each child's number is 0
  replies_win : (side : Side) (f : Frame) (s : State) (turns : List Turn) (children : Children) (t : Turn) → ArePartialTrees f s turns children → AreZero side children
      → IsIn turns t → WinsBehind side f (replies side turns children) t s
  replies_win side f s [] children t p z in' = absurd in'
  replies_win side f s (u ∷ us) no_more t p z in' = absurd p
  replies_win side f s (u ∷ us) (more tree children) t p z (inl e) = inl (e, subst (λ x. Wins side f (strategy_for side tree) (after f s x)) e (wins side f (after f s u) tree p.0 z.0))
  replies_win side f s (u ∷ us) (more tree children) t p z (inr later) = inr (replies_win side f s us children t p.1 z.1 later)

-- ---- depth

-- where neither the pick nor the replies are deeper than the room, the one that is taken isn't
depth_either : (b : Bool) (room : ℕ) (first : Strategy) (all : Entries) → depth first ≤ room → depth_of_entries all ≤ room → depth (pick_or_reply b first all) ≤ room
depth_either true room first all h k = h
depth_either false room first all h k = k

mutual
  -- the strategy of a tree that stays within the room reaches no deeper than the room
  pub low : (side : Side) (size : Size) (room : ℕ) (tree : PartialTree) → StaysWithin size room tree → depth (strategy_for side tree) ≤ room
  low side size room fresh h = omega arith
  low side size room (won winner) h = omega arith
  low side size room (closed winner strategy) h = h.0
  low side size room (expanded mover turns children) h =
      depth_either (is_same_side side mover) room (pick_at side (first_settled_index side children) turns children) (replies side turns children)
      (pick_low side size room (first_settled_index side children) turns children h.0 h.1)
      (replies_low side size room turns children h.0 h.1)

  -- nor does the pick, where the children stay within a turn less
  pick_low : (side : Side) (size : Size) (room : ℕ) (i : ℕ) (turns : List Turn) (children : Children) → 0 < room → AllStayWithin size (room - 1) children → depth (pick_at side i turns children) ≤ room
  pick_low side size room i [] children h k = omega arith
  pick_low side size room i (t ∷ ts) no_more h k = omega arith
  pick_low side size room zero (t ∷ ts) (more tree children) h k = omega (arith, h, low side size (room - 1) tree k.0)
  pick_low side size room (suc i) (t ∷ ts) (more tree children) h k = pick_low side size room i ts children h k.1

  -- nor do the replies
  replies_low : (side : Side) (size : Size) (room : ℕ) (turns : List Turn) (children : Children) → 0 < room → AllStayWithin size (room - 1) children
      → depth_of_entries (replies side turns children) ≤ room
  replies_low side size room [] children h k = omega arith
  replies_low side size room (t ∷ ts) no_more h k = omega arith
  replies_low side size room (t ∷ ts) (more tree children) h k = omega (arith, h, low side size (room - 1) tree k.0, replies_low side size room ts children h k.1)

-- ---- order

-- where the pick and the replies are in order, the one that is taken is
ordered_either : (b : Bool) (size : Size) (first : Strategy) (all : Entries) → IsInOrder size first → AreInOrder size 0 all → IsInOrder size (pick_or_reply b first all)
ordered_either true size first all h k = h
ordered_either false size first all h k = k

mutual
  -- the strategy of a partial tree is in order
  pub in_order : (side : Side) (f : Frame) (s : State) (room : ℕ) (tree : PartialTree) → IsPartialTree f s tree → StaysWithin f.size room tree → IsInOrder f.size (strategy_for side tree)
  in_order side f s room fresh p h = tt
  in_order side f s room (won winner) p h = tt
  in_order side f s room (closed winner strategy) p h = h.1
  in_order side f s room (expanded mover turns children) p h =
      let up = subst (RisesFrom f.size 0) (sym p.2) (legal_turns_rise_from_0 f s) in
      ordered_either (is_same_side side mover) f.size (pick_at side (first_settled_index side children) turns children) (replies side turns children)
      (pick_in_order side f s (room - 1) 0 (first_settled_index side children) turns children up p.3 h.1)
      (replies_in_order side f s (room - 1) 0 turns children up p.3 h.1)

  -- so is the pick at an index
  pick_in_order : (side : Side) (f : Frame) (s : State) (room from i : ℕ) (turns : List Turn) (children : Children) → RisesFrom f.size from turns
      → ArePartialTrees f s turns children → AllStayWithin f.size room children → IsInOrder f.size (pick_at side i turns children)
  pick_in_order side f s room from i [] children up p h = tt
  pick_in_order side f s room from i (t ∷ ts) no_more up p h = tt
  pick_in_order side f s room from zero (t ∷ ts) (more tree children) up p h = (up.1, in_order side f (after f s t) room tree p.0 h.0)
  pick_in_order side f s room from (suc i) (t ∷ ts) (more tree children) up p h =
      pick_in_order side f s room (turn_number_on_size f.size t + 1) i ts children up.2 p.1 h.1

  -- and so are the replies, from the number on from which the turns rise
  replies_in_order : (side : Side) (f : Frame) (s : State) (room from : ℕ) (turns : List Turn) (children : Children) → RisesFrom f.size from turns
      → ArePartialTrees f s turns children → AllStayWithin f.size room children → AreInOrder f.size from (replies side turns children)
  replies_in_order side f s room from [] children up p h = tt
  replies_in_order side f s room from (t ∷ ts) no_more up p h = tt
  replies_in_order side f s room from (t ∷ ts) (more tree children) up p h =
      (up.0, up.1, in_order side f (after f s t) room tree p.0 h.0, replies_in_order side f s room (turn_number_on_size f.size t + 1) ts children up.2 p.1 h.1)

-- the strategy of a settled tree makes a proof
pub makes_proof : (side : Side) (f : Frame) (s : State) (tree : PartialTree) (strategy : Strategy) → strategy ≡ strategy_for side tree → number side tree ≡ 0
    → IsPartialTree f s tree → StaysWithin f.size 512 tree → IsWinningTree side f s strategy
makes_proof side f s tree strategy e z p h =
    subst (IsWinningTree side f s) (sym e) (record { wins = wins side f s tree p z; shallow = low side f.size 512 tree h; in_order = in_order side f s 512 tree p h })
