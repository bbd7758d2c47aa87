-- One thing is found on an outline at a state, up to the order of what it rests on.
use Rattle.std.proofs.Common.{◌≡◌, ◌↔◌, zero, suc, ◌⊎◌, ℕ, Bool, true, false, inl, inr, Some, None, List, [], ◌∷◌, ◌++◌, ◌∙◌, refl, sym, subst, Contains, Option, get_or}
use Rattle.tt_board.specs.Position.{Position}
use Rattle.tt_game.specs.Game.{State, after}
use Rattle.tt_game.specs.declared.frame.Frame.{Frame}
use Rattle.tt_game.specs.declared.frame.Side.{Side}
use Rattle.tt_game.specs.declared.turns.Turn.{Turn}
use Rattle.tt_parts.specs.declared.position_footprint.PositionFootprint.{PositionFootprint}
use Rattle.tt_parts.specs.declared.outline_replay.ReplayResult.{ReplayResult}
use Rattle.tt_parts.specs.declared.outline_replay.ReplayResult.TheVariants.{Won, Lost, Unfit}
use Rattle.tt_parts.specs.Outlines.{Outline, Branches, ended, picked, replied, part, no_branch, branch}
use Rattle.tt_parts.specs.SharedParts.{HasPosition, FootprintFits, RestsOnPositionAlone, RestsOnRepeats, RestsBeforePick, RestsBeforeOpposingTurn, RestsOnBoth, CombinesTo, IsResultBeforeTurn}
use Rattle.tt_parts.specs.SharedParts.{NamedFootprints, kept_footprint, wins_if_fit, with_named_footprint, with_unreached_names, with_unreached_branch_names}
use Rattle.tt_parts.specs.SharedParts.{IsResultOfDone, IsResultOfPart, IsResultOfReply, IsOutlineAnswer, IsReplayOfOutline, IsReplayOfBranches}
use Rattle.tt_parts.specs.inside.OutlineReplaying.{FindsPick, FindsReply, FindsTogether, FindsBranch}
use Rattle.tt_parts.proofs.OutlineReplayLemmas.{iff_chain, some_none}

-- ---- what is the same

record SameBasis (x y : PositionFootprint) : Type 0 where
  board : x.board ≡ y.board
  to_move : x.to_move ≡ y.to_move
  passes : x.passes ≡ y.passes
  needs : (b : Position) → Contains x.needs b ↔ Contains y.needs b
  avoids : (b : Position) → Contains x.avoids b ↔ Contains y.avoids b

data SameFound : ReplayResult → ReplayResult → Type 0 where
  both_won : (x y : PositionFootprint) → SameBasis x y → SameFound (Won x) (Won y)
  both_lost : SameFound Lost Lost
  both_unfit : SameFound Unfit Unfit

data SameName : Option PositionFootprint → Option PositionFootprint → Type 0 where
  kept : (x y : PositionFootprint) → SameBasis x y → SameName (Some x) (Some y)
  not_kept : SameName None None

data SameNames : NamedFootprints → NamedFootprints → Type 0 where
  no_names : SameNames [] []
  more_names : (n m : Option PositionFootprint) (ns ms : NamedFootprints) → SameName n m → SameNames ns ms → SameNames (n ∷ ns) (m ∷ ms)

turned : {A B : Type 0} → (A ↔ B) → B ↔ A
turned h = (h.1, h.0)

either : {A B C D : Type 0} → (A ↔ B) → (C ↔ D) → (A ⊎ C) ↔ (B ⊎ D)
either {A = A} {B = B} {C = C} {D = D} h k = (to, back)
  where
    to : A ⊎ C → B ⊎ D
    to (inl a) = inl (h.0 a)
    to (inr c) = inr (k.0 c)

    back : B ⊎ D → A ⊎ C
    back (inl b) = inl (h.1 b)
    back (inr d) = inr (k.1 d)

same_list : (bs cs : List Position) → bs ≡ cs → (b : Position) → Contains bs b ↔ Contains cs b
same_list bs cs e b = (λ m. subst (λ xs. Contains xs b) e m, λ m. subst (λ xs. Contains xs b) (sym e) m)

module _ (f : Frame) (s : State) where
  -- two that stand at one state
  at_one : (x y : PositionFootprint) → HasPosition f s x → HasPosition f s y → ((b : Position) → Contains x.needs b ↔ Contains y.needs b)
      → ((b : Position) → Contains x.avoids b ↔ Contains y.avoids b) → SameBasis x y
  at_one x y p q n a = record {
    board = p.present ∙ sym q.present;
    to_move = p.to_move ∙ sym q.to_move;
    passes = p.passes ∙ sym q.passes;
    needs = n;
    avoids = a;
  }

  same_alone : (x y : PositionFootprint) → RestsOnPositionAlone f s x → RestsOnPositionAlone f s y → SameBasis x y
  same_alone x y h k =
      at_one x y h.position k.position (same_list x.needs y.needs (h.needs ∙ sym k.needs)) (same_list x.avoids y.avoids (h.avoids ∙ sym k.avoids))

  same_repeats : (x y : PositionFootprint) → RestsOnRepeats f s x → RestsOnRepeats f s y → SameBasis x y
  same_repeats x y h k =
      at_one x y h.position k.position (λ b. iff_chain (h.needs b) (turned (k.needs b))) (same_list x.avoids y.avoids (h.avoids ∙ sym k.avoids))

  same_before_pick : (t : Turn) (x y v w : PositionFootprint) → SameBasis x y → RestsBeforePick f s t x v → RestsBeforePick f s t y w → SameBasis v w
  same_before_pick t x y v w e h k =
      at_one v w h.position k.position (λ b. iff_chain (h.needs b) (iff_chain (λ m. ((e.needs b).0 m.0, m.1), λ m. ((e.needs b).1 m.0, m.1)) (turned (k.needs b))))
      (λ b. iff_chain (h.avoids b) (iff_chain (either (e.avoids b) (λ m. m, λ m. m)) (turned (k.avoids b))))

  same_before_reply : (t : Turn) (x y v w : PositionFootprint) → SameBasis x y → RestsBeforeOpposingTurn f s t x v → RestsBeforeOpposingTurn f s t y w → SameBasis v w
  same_before_reply t x y v w e h k =
      at_one v w h.position k.position (λ b. iff_chain (h.needs b) (iff_chain (λ m. ((e.needs b).0 m.0, m.1), λ m. ((e.needs b).1 m.0, m.1)) (turned (k.needs b))))
      (λ b. iff_chain (same_list v.avoids x.avoids h.avoids b) (iff_chain (e.avoids b) (same_list y.avoids w.avoids (sym k.avoids) b)))

  same_meets : (x y : PositionFootprint) → SameBasis x y → FootprintFits f x s → FootprintFits f y s
  same_meets x y e m = record {
    position = record {
      present = sym e.board ∙ m.position.present;
      to_move = sym e.to_move ∙ m.position.to_move;
      passes = sym e.passes ∙ m.position.passes;
    };
    needs = λ b n. m.needs b ((e.needs b).1 n);
    avoids = λ b a. m.avoids b ((e.avoids b).1 a);
  }

same_both : (x y z v w u : PositionFootprint) → SameBasis x v → SameBasis y w → RestsOnBoth x y z → RestsOnBoth v w u → SameBasis z u
same_both x y z v w u e g h k = record {
  board = h.board ∙ e.board ∙ sym k.board;
  to_move = h.to_move ∙ e.to_move ∙ sym k.to_move;
  passes = h.passes ∙ e.passes ∙ sym k.passes;
  needs = λ b. iff_chain (h.needs b) (iff_chain (either (e.needs b) (g.needs b)) (turned (k.needs b)));
  avoids = λ b. iff_chain (h.avoids b) (iff_chain (either (e.avoids b) (g.avoids b)) (turned (k.avoids b)));
}

turned_basis : (x y : PositionFootprint) → SameBasis x y → SameBasis y x
turned_basis x y e = record {
  board = sym e.board;
  to_move = sym e.to_move;
  passes = sym e.passes;
  needs = λ b. turned (e.needs b);
  avoids = λ b. turned (e.avoids b);
}

-- ---- findings

found_as : (a b r q : ReplayResult) → r ≡ a → q ≡ b → SameFound a b → SameFound r q
found_as a b r q e d h = subst (λ x. SameFound x q) (sym e) (subst (SameFound a) (sym d) h)

both_same : (a b r a' b' r' : ReplayResult) → SameFound a a' → SameFound b b' → CombinesTo a b r → CombinesTo a' b' r' → SameFound r r'
both_same a b r a' b' r' both_unfit k e d = found_as Unfit Unfit r r' e d both_unfit
both_same a b r a' b' r' both_lost both_unfit e d = found_as Unfit Unfit r r' e d both_unfit
both_same a b r a' b' r' both_lost both_lost e d = found_as Lost Lost r r' e d both_lost
both_same a b r a' b' r' both_lost (both_won y w k) e d = found_as Lost Lost r r' e d both_lost
both_same a b r a' b' r' (both_won x v h) both_unfit e d = found_as Unfit Unfit r r' e d both_unfit
both_same a b r a' b' r' (both_won x v h) both_lost e d = found_as Lost Lost r r' e d both_lost
both_same a b r a' b' r' (both_won x v h) (both_won y w k) e d =
    found_as (Won e.0) (Won d.0) r r' e.1.0 d.1.0 (both_won e.0 d.0 (same_both x y e.0 v w d.0 h k e.1.1 d.1.1))

before_same : (Rests : PositionFootprint → PositionFootprint → Type 0) (q p r r' : ReplayResult) → ((x y v w : PositionFootprint) → SameBasis x y → Rests x v → Rests y w → SameBasis v w)
    → SameFound q p → IsResultBeforeTurn Rests q r → IsResultBeforeTurn Rests p r' → SameFound r r'
before_same Rests q p r r' one (both_won x y h) e d = found_as (Won e.0) (Won d.0) r r' e.1.0 d.1.0 (both_won e.0 d.0 (one x y e.0 d.0 h e.1.1 d.1.1))
before_same Rests q p r r' one both_lost e d = found_as Lost Lost r r' e d both_lost
before_same Rests q p r r' one both_unfit e d = found_as Unfit Unfit r r' e d both_unfit

kept_same : (r q : ReplayResult) → SameFound r q → SameName (kept_footprint r) (kept_footprint q)
kept_same r q (both_won x y h) = kept x y h
kept_same r q both_lost = not_kept
kept_same r q both_unfit = not_kept

answer_same : (r q : ReplayResult) → SameFound r q → wins_if_fit r ≡ wins_if_fit q
answer_same r q (both_won x y h) = refl
answer_same r q both_lost = refl
answer_same r q both_unfit = refl

some_is : (x y : PositionFootprint) → Some x ≡ Some y → x ≡ y
some_is x y e = cc

module _ (f : Frame) (s : State) where
  name_same : (n m : Option PositionFootprint) (r q : ReplayResult) → SameName n m → IsResultOfPart f n s r → IsResultOfPart f m s q → SameFound r q
  name_same n m (Won u) (Won v) (kept x y h) a b =
      both_won u v (subst (λ z. SameBasis u z) (some_is y v b.0) (subst (λ z. SameBasis z y) (some_is x u a.0) h))
  name_same n m (Won u) Unfit (kept x y h) a b = absurd (b y refl (same_meets f s x y h (subst (λ z. FootprintFits f z s) (sym (some_is x u a.0)) a.1)))
  name_same n m Unfit (Won v) (kept x y h) a b =
      absurd (a x refl (same_meets f s y x (turned_basis x y h) (subst (λ z. FootprintFits f z s) (sym (some_is y v b.0)) b.1)))
  name_same n m Unfit Unfit h a b = both_unfit
  name_same n m (Won u) q not_kept a b = absurd (some_none u a.0)
  name_same n m Unfit (Won v) not_kept a b = absurd (some_none v b.0)
  name_same n m Lost q h a b = absurd a
  name_same n m r Lost h a b = absurd b

  reply_same : (bs : Branches) (p p' r q : ReplayResult) → SameFound p p' → IsResultOfReply f s bs p r → IsResultOfReply f s bs p' q → SameFound r q
  reply_same bs p p' r q both_lost a b = found_as Lost Lost r q a b both_lost
  reply_same bs p p' r q both_unfit a b = found_as Unfit Unfit r q a b both_unfit
  reply_same bs p p' (Won u) (Won v) (both_won x y h) a b = both_won u v (subst (λ z. SameBasis u z) b.0 (subst (λ z. SameBasis z y) a.0 h))
  reply_same bs p p' (Won u) Lost (both_won x y h) a b = absurd (b a.1)
  reply_same bs p p' Lost (Won v) (both_won x y h) a b = absurd (a b.1)
  reply_same bs p p' Lost Lost (both_won x y h) a b = both_lost
  reply_same bs p p' Unfit q (both_won x y h) a b = absurd a
  reply_same bs p p' r Unfit (both_won x y h) a b = absurd b

  end_same : (side : Side) (r q : ReplayResult) → IsResultOfDone side f s r → IsResultOfDone side f s q → SameFound r q
  end_same side (Won x) (Won y) a b = both_won x y (same_alone f s x y a.1 b.1)
  end_same side (Won x) Lost a b = absurd (b a.0)
  end_same side Lost (Won y) a b = absurd (a b.0)
  end_same side Lost Lost a b = both_lost
  end_same side Unfit q a b = absurd a
  end_same side (Won x) Unfit a b = absurd b
  end_same side Lost Unfit a b = absurd b

  alone_same : (r q : ReplayResult) → (x : PositionFootprint) × ((r ≡ Won x) × RestsOnPositionAlone f s x) → (y : PositionFootprint) × ((q ≡ Won y) × RestsOnPositionAlone f s y) → SameFound r q
  alone_same r q a b = found_as (Won a.0) (Won b.0) r q a.1.0 b.1.0 (both_won a.0 b.0 (same_alone f s a.0 b.0 a.1.1 b.1.1))

-- ---- names

one_more : (ns ms : NamedFootprints) (n m : Option PositionFootprint) → SameNames ns ms → SameName n m → SameNames (ns ++ n ∷ []) (ms ++ m ∷ [])
one_more ns ms n m no_names e = more_names n m [] [] e no_names
one_more ns ms n m (more_names k l ks ls d h) e = more_names k l (ks ++ n ∷ []) (ls ++ m ∷ []) d (one_more ks ls n m h e)

with_same : (b : Bool) (ns ms : NamedFootprints) (n m : Option PositionFootprint) → SameNames ns ms → SameName n m → SameNames (with_named_footprint b n ns) (with_named_footprint b m ms)
with_same true ns ms n m h e = one_more ns ms n m h e
with_same false ns ms n m h e = h

named_same : (ns ms : NamedFootprints) (k : ℕ) → SameNames ns ms → SameName (get_or ns k None) (get_or ms k None)
named_same ns ms k no_names = not_kept
named_same ns ms zero (more_names n m ks ls e h) = e
named_same ns ms (suc k) (more_names n m ks ls e h) = named_same ks ls k h

mutual
  unreached_same : (o : Outline) (ns ms : NamedFootprints) → SameNames ns ms → SameNames (with_unreached_names ns o) (with_unreached_names ms o)
  unreached_same ended ns ms h = h
  unreached_same (picked n t o) ns ms h = with_same n (with_unreached_names ns o) (with_unreached_names ms o) None None (unreached_same o ns ms h) not_kept
  unreached_same (replied n bs) ns ms h = with_same n (with_unreached_branch_names ns bs) (with_unreached_branch_names ms bs) None None (unreached_all_same bs ns ms h) not_kept
  unreached_same (part k) ns ms h = h

  unreached_all_same : (bs : Branches) (ns ms : NamedFootprints) → SameNames ns ms → SameNames (with_unreached_branch_names ns bs) (with_unreached_branch_names ms bs)
  unreached_all_same no_branch ns ms h = h
  unreached_all_same (branch t o bs) ns ms h = unreached_all_same bs (with_unreached_names ns o) (with_unreached_names ms o) (unreached_same o ns ms h)

names_as : (ns ms ls ks : NamedFootprints) → ls ≡ ns → ks ≡ ms → SameNames ns ms → SameNames ls ks
names_as ns ms ls ks e d h = subst (λ x. SameNames x ks) (sym e) (subst (SameNames ns) (sym d) h)

-- ---- the whole

module _ (side : Side) (f : Frame) where
  abbrev Same : (ReplayResult → NamedFootprints → Type 0) → (ReplayResult → NamedFootprints → Type 0) → Type 0
  Same F G = (r q : ReplayResult) (ls ks : NamedFootprints) → F r ls → G q ks → SameFound r q × SameNames ls ks

  pick_same : (t : Turn) (o : Outline) (s : State) (ns ms : NamedFootprints) → SameNames ns ms → Same (IsReplayOfOutline side f ns o (after f s t)) (IsReplayOfOutline side f ms o (after f s t))
      → Same (FindsPick side f ns t o s) (FindsPick side f ms t o s)
  pick_same t o s ns ms h g r q ls ks (inl a) (inl b) =
      let k = g a.2.0 b.2.0 ls ks a.2.1.0 b.2.1.0 in
      (before_same (RestsBeforePick f s t) a.2.0 b.2.0 r q (same_before_pick f s t) k.0 a.2.1.1 b.2.1.1, k.1)
  pick_same t o s ns ms h g r q ls ks (inl a) (inr b) = absurd (b.0 a.0 a.1)
  pick_same t o s ns ms h g r q ls ks (inr a) (inl b) = absurd (a.0 b.0 b.1)
  pick_same t o s ns ms h g r q ls ks (inr a) (inr b) =
      (found_as Lost Lost r q a.1 b.1 both_lost, names_as (with_unreached_names ns o) (with_unreached_names ms o) ls ks a.2 b.2 (unreached_same o ns ms h))

  branch_same : (t : Turn) (o : Outline) (s : State) (ns ms : NamedFootprints) → SameNames ns ms → Same (IsReplayOfOutline side f ns o (after f s t)) (IsReplayOfOutline side f ms o (after f s t))
      → Same (FindsBranch side f ns t o s) (FindsBranch side f ms t o s)
  branch_same t o s ns ms h g r q ls ks (inl a) (inl b) =
      let k = g a.1.0 b.1.0 ls ks a.1.1.0 b.1.1.0 in
      (before_same (RestsBeforeOpposingTurn f s t) a.1.0 b.1.0 r q (same_before_reply f s t) k.0 a.1.1.1 b.1.1.1, k.1)
  branch_same t o s ns ms h g r q ls ks (inl a) (inr b) = absurd (b.0 a.0)
  branch_same t o s ns ms h g r q ls ks (inr a) (inl b) = absurd (a.0 b.0)
  branch_same t o s ns ms h g r q ls ks (inr a) (inr b) =
      (alone_same f s r q a.1 b.1, names_as (with_unreached_names ns o) (with_unreached_names ms o) ls ks a.2 b.2 (unreached_same o ns ms h))

  together_same : (bs : Branches) (s : State) (ns ms : NamedFootprints) → Same (IsReplayOfBranches side f ns bs s) (IsReplayOfBranches side f ms bs s)
      → Same (FindsTogether side f ns bs s) (FindsTogether side f ms bs s)
  together_same bs s ns ms g r q ls ks a b =
      let k = g a.1.1.0 b.1.1.0 ls ks a.1.1.1.0 b.1.1.1.0 in
      (both_same (Won a.0) a.1.1.0 r (Won b.0) b.1.1.0 q (both_won a.0 b.0 (same_repeats f s a.0 b.0 a.1.0 b.1.0)) k.0 a.1.1.1.1 b.1.1.1.1, k.1)

  reply_found_same : (bs : Branches) (s : State) (ns ms : NamedFootprints) → SameNames ns ms → Same (IsReplayOfBranches side f ns bs s) (IsReplayOfBranches side f ms bs s)
      → Same (FindsReply side f ns bs s) (FindsReply side f ms bs s)
  reply_found_same bs s ns ms h g r q ls ks (inl a) (inl b) =
      let k = together_same bs s ns ms g a.2.0 b.2.0 ls ks a.2.1.0 b.2.1.0 in (reply_same f s bs a.2.0 b.2.0 r q k.0 a.2.1.1 b.2.1.1, k.1)
  reply_found_same bs s ns ms h g r q ls ks (inl a) (inr b) = absurd (b.0 a.0 a.1)
  reply_found_same bs s ns ms h g r q ls ks (inr a) (inl b) = absurd (a.0 b.0 b.1)
  reply_found_same bs s ns ms h g r q ls ks (inr a) (inr b) =
      (found_as Lost Lost r q a.1 b.1 both_lost, names_as (with_unreached_branch_names ns bs) (with_unreached_branch_names ms bs) ls ks a.2 b.2 (unreached_all_same bs ns ms h))

  named : (n : Bool) (r q : ReplayResult) (ls ks ls' ks' : NamedFootprints) → SameFound r q × SameNames ls ks → ls' ≡ with_named_footprint n (kept_footprint r) ls
      → ks' ≡ with_named_footprint n (kept_footprint q) ks → SameFound r q × SameNames ls' ks'
  named n r q ls ks ls' ks' h e d =
      let same = with_same n ls ks (kept_footprint r) (kept_footprint q) h.1 (kept_same r q h.0) in
      (h.0, names_as (with_named_footprint n (kept_footprint r) ls) (with_named_footprint n (kept_footprint q) ks) ls' ks' e d same)

  mutual
    outline_same : (o : Outline) (s : State) (ns ms : NamedFootprints) → SameNames ns ms → Same (IsReplayOfOutline side f ns o s) (IsReplayOfOutline side f ms o s)
    outline_same ended s ns ms h r q ls ks a b = (end_same f s side r q a.0 b.0, names_as ns ms ls ks a.1 b.1 h)
    outline_same (part k) s ns ms h r q ls ks a b =
        (name_same f s (get_or ns k None) (get_or ms k None) r q (named_same ns ms k h) a.0 b.0, names_as ns ms ls ks a.1 b.1 h)
    outline_same (picked n t o) s ns ms h r q ls ks a b =
        named n r q a.0 b.0 ls ks
        (pick_same t o s ns ms h (λ r' q' ls' ks' a' b'. outline_same o (after f s t) ns ms h r' q' ls' ks' a' b') r q a.0 b.0 a.1.1 b.1.1) a.1.0 b.1.0
    outline_same (replied n bs) s ns ms h r q ls ks a b =
        named n r q a.0 b.0 ls ks
        (reply_found_same bs s ns ms h (λ r' q' ls' ks' a' b'. branches_same bs s ns ms h r' q' ls' ks' a' b') r q a.0 b.0 a.1.1 b.1.1) a.1.0 b.1.0

    branches_same : (bs : Branches) (s : State) (ns ms : NamedFootprints) → SameNames ns ms → Same (IsReplayOfBranches side f ns bs s) (IsReplayOfBranches side f ms bs s)
    branches_same no_branch s ns ms h r q ls ks a b = (alone_same f s r q a.0 b.0, names_as ns ms ls ks a.1 b.1 h)
    branches_same (branch t o bs) s ns ms h r q ls ks a b =
        let here =
        branch_same t o s ns ms h (λ r' q' ls' ks' a' b'. outline_same o (after f s t) ns ms h r' q' ls' ks' a' b') a.0 b.0 a.1.1.0 b.1.1.0 a.1.1.1.0 b.1.1.1.0 in
        let rest = branches_same bs s a.1.1.0 b.1.1.0 here.1 a.1.0 b.1.0 ls ks a.1.1.1.1 b.1.1.1.1 in
        (both_same a.0 a.1.0 r b.0 b.1.0 q here.0 rest.0 a.1.1.1.2 b.1.1.1.2, rest.1)

  pub one_answer : (o : Outline) (s : State) (a b : Option Bool) → IsOutlineAnswer side f o s a → IsOutlineAnswer side f o s b → a ≡ b
  one_answer o s a b h k =
      h.1.1.1 ∙ answer_same h.0 k.0 (outline_same o s [] [] no_names h.0 k.0 h.1.0 k.1.0 h.1.1.0 k.1.1.0).0 ∙ sym k.1.1.1

-- what wins has no part that doesn't fit
pub winning_fits : (side : Side) (f : Frame) (o : Outline) (s : State) → IsOutlineAnswer side f o s (Some true) → IsOutlineAnswer side f o s None → ⊥
winning_fits side f o s h k = some_is_none true (one_answer side f o s (Some true) None h k)
  where
    some_is_none : (b : Bool) → Some b ≡ None → ⊥
    some_is_none b e = cc
