-- What the parts of an outline's replay find makes up what the whole finds; and what that says of the outline's tree.
use Rattle.std.proofs.Common.{◌≡◌, ◌≤◌, ◌<◌, ◌↔◌, zero, suc, ◌⊎◌, ℕ, inl, inr, arith, Some, None, List, [], ◌∷◌, ◌++◌, ◌∙◌, refl, sym, ap, subst, Contains, Option, get_or, length, take, drop}
use Rattle.std.proofs.lemmas.List.Elements.{Contains-append_left, Contains-append_right, Contains-append_cases}
use Rattle.tt_board.specs.Position.{Position, Colouring}
use Rattle.tt_game.specs.Game.{State, IsLegal, after, history, colouring_after_play, winner_of}
use Rattle.tt_game.specs.declared.frame.Frame.{Frame}
use Rattle.tt_game.specs.declared.frame.Side.{Side}
use Rattle.tt_game.specs.declared.turns.Turn.{Turn}
use Rattle.tt_game.specs.declared.turns.Turn.TheVariants.{Play, Pass}
use Rattle.tt_game.specs.laws.Members.{IsIn, in_of_contains, contains_of_in}
use Rattle.tt_parts.specs.declared.position_footprint.PositionFootprint.{PositionFootprint}
use Rattle.tt_parts.specs.declared.outline_replay.ReplayResult.{ReplayResult}
use Rattle.tt_parts.specs.declared.outline_replay.ReplayResult.TheVariants.{Won, Lost, Unfit}
use Rattle.tt_proof.specs.Strategy.{reply, none}
use Rattle.tt_parts.specs.Outlines.{Outline, Branches, no_branch, branch}
use Rattle.tt_proof.specs.Footprints.{IsRepeatedByPlay}
use Rattle.tt_proof.specs.declared.footprints.Footprint.{Footprint}
use Rattle.tt_proof.specs.KeptFootprints.{IsFootprint, board_of_colouring}
use Rattle.tt_proof.specs.laws.PlayedBoards.{IsPassedUp, IsPlayed}
use Rattle.tt_parts.specs.SharedParts.{HasPosition, FootprintFits, RestsOnPositionAlone, RestsOnRepeats, MakesBoard, RestsOnBoth, CombinesTo}
use Rattle.tt_parts.specs.SharedParts.{NamedFootprints}
use Rattle.tt_parts.specs.SharedParts.{IsReplayOfBranches}
use Rattle.tt_parts.specs.inside.OutlineReplaying.{FindsTogether, FindsBranch}
use Rattle.tt_proof.proofs.FitsLemmas.{Carried, splits_none}
use Rattle.tt_proof.proofs.FootprintLemmas.{board_is, none_held}

-- ---- boards that a turn makes

pub iff_chain : {A B C : Type 0} → (A ↔ B) → (B ↔ C) → A ↔ C
iff_chain h k = (λ a. k.0 (h.0 a), λ c. h.1 (k.1 c))

pub or_second : {A B C D : Type 0} → (A ↔ (B ⊎ C)) → (C ↔ D) → A ↔ (B ⊎ D)
or_second {A = A} {B = B} {C = C} {D = D} h k = (λ a. to (h.0 a), λ w. h.1 (back w))
  where
    to : B ⊎ C → B ⊎ D
    to (inl b) = inl b
    to (inr c) = inr (k.0 c)

    back : B ⊎ D → B ⊎ C
    back (inl b) = inl b
    back (inr d) = inr (k.1 d)

-- states of one position, whose histories begin here
footprints_carry_over_if_unmet : (s s' : State) → s'.present ≡ s.present → s'.to_move ≡ s.to_move → s'.passes ≡ s.passes → Carried (history s) (history s') [] s s'
footprints_carry_over_if_unmet s s' p m n = record { present = p; to_move = m; passes = n; before = splits_none (history s); now = splits_none (history s') }

-- the only member of a list of one
pub only : (c d : Colouring) → Contains (c ∷ []) d → d ≡ c
only c d m = pass (in_of_contains (c ∷ []) d m)
  where
    pass : IsIn (c ∷ []) d → d ≡ c
    pass (inl e) = sym e
    pass (inr w) = absurd w

pub legal_nobody : (f : Frame) (s : State) (t : Turn) → IsLegal f s t → winner_of f s ≡ None
legal_nobody f s (Play p) l = l.0
legal_nobody f s Pass l = l

module _ (f : Frame) (s : State) (t : Turn) (board : Position) (is : board ≡ board_of_colouring f (after f s t).present) where
  pub made_board : (b : Position) → IsPlayed t board b ↔ MakesBoard f s t b
  made_board b = pass t is
    where
      pass : (v : Turn) → board ≡ board_of_colouring f (after f s v).present → IsPlayed v board b ↔ MakesBoard f s v b
      pass Pass e = (λ w. absurd w, λ w. w.1)
      pass (Play p) e = (
        λ w. (ap (λ (z : Position). z.size) (w ∙ e), sym (ap (λ (z : Position). z.points) (w ∙ e))),
        λ w. board_is b f.size (colouring_after_play f s p) w.0 (sym w.1) ∙ sym e,
      )

  pub passed_up : (bs : List Position) (b : Position) → IsPassedUp t board bs b ↔ (Contains bs b × (MakesBoard f s t b → ⊥))
  passed_up bs b = pass t is
    where
      pass : (v : Turn) → board ≡ board_of_colouring f (after f s v).present → IsPassedUp v board bs b ↔ (Contains bs b × (MakesBoard f s v b → ⊥))
      pass Pass e = (λ w. (w, λ h. h.1), λ w. w.0)
      pass (Play p) e = (
        λ w. (w.0, λ h. w.1 (board_is b f.size (colouring_after_play f s p) h.0 (sym h.1) ∙ sym e)),
        λ w. (w.0, λ h. w.1 (ap (λ (z : Position). z.size) (h ∙ e), sym (ap (λ (z : Position). z.points) (h ∙ e)))),
      )

-- ---- a basis and a state

pub has_position : (f : Frame) (s : State) (x : PositionFootprint) → x.board.size ≡ f.size → x.board.points ≡ s.present → x.to_move ≡ s.to_move → x.passes ≡ s.passes
    → HasPosition f s x
has_position f s x size points to_move passes =
    record { present = board_is x.board f.size s.present size points; to_move = to_move; passes = passes }

-- a list that has nothing in it
all_none : (bs : List Position) → ((b : Position) → Contains bs b → ⊥) → bs ≡ []
all_none [] h = refl
all_none (b ∷ bs) h = absurd (h b (contains_of_in (b ∷ bs) b (inl refl)))

-- the basis of a reply whose plays were tried
pub rests_on_repeats : (f : Frame) (s : State) (foot : Footprint) (x : PositionFootprint) → IsFootprint f s (reply none) foot → HasPosition f s x → x.needs ≡ foot.needs
    → x.avoids ≡ foot.avoids → RestsOnRepeats f s x
rests_on_repeats f s foot x h at n a = record {
  position = at;
  needs = λ b. (
    λ m. let k = subst (λ bs. Contains bs b) n m in
        let size = h.needs_sized b k in
        (size, first b.points ((h.needed b.points).0 (subst (λ w. Contains foot.needs w) (board_is b f.size b.points size refl) k))),
    λ r. subst (λ bs. Contains bs b) (sym n)
        (subst (λ w. Contains foot.needs w) (sym (board_is b f.size b.points r.0 refl)) ((h.needed b.points).1 (inl r.1))),
  );
  avoids = a ∙ all_none foot.avoids (λ b m. (h.avoided b.points).0 (subst (λ w. Contains foot.avoids w) (board_is b f.size b.points (h.avoids_sized b m) refl) m));
}
  where
    first : (c : Colouring) → IsRepeatedByPlay f (history s) [] s c ⊎ ⊥ → IsRepeatedByPlay f (history s) [] s c
    first c (inl r) = r
    first c (inr w) = absurd w

-- a basis that needs and avoids nothing is met where it stands
pub met_empty : (f : Frame) (s : State) (x : PositionFootprint) → RestsOnPositionAlone f s x → FootprintFits f x s
met_empty f s x h = record {
  position = h.position;
  needs = λ b m. absurd (none_held x.needs b h.needs m);
  avoids = λ b m. absurd (none_held x.avoids b h.avoids m);
}

-- two states that meet a basis have one position
module _ (f : Frame) (x : PositionFootprint) (s s' : State) (m : FootprintFits f x s) (m' : FootprintFits f x s') where
  pub met_carried : Carried (history s) (history s') [] s s'
  met_carried =
      footprints_carry_over_if_unmet s s' (ap (λ (b : Position). b.points) (sym m'.position.present ∙ m.position.present)) (sym m'.position.to_move ∙ m.position.to_move)
      (sym m'.position.passes ∙ m.position.passes)

-- ---- two trees together

pub both_found : (a b : ReplayResult) → (r : ReplayResult) × CombinesTo a b r
both_found Unfit b = (Unfit, refl)
both_found Lost Unfit = (Unfit, refl)
both_found Lost Lost = (Lost, refl)
both_found Lost (Won y) = (Lost, refl)
both_found (Won x) Unfit = (Unfit, refl)
both_found (Won x) Lost = (Lost, refl)
both_found (Won x) (Won y) = (Won all, (all, (refl, rests)))
  where
    all : PositionFootprint
    all = record { board = x.board; to_move = x.to_move; passes = x.passes; needs = x.needs ++ y.needs; avoids = x.avoids ++ y.avoids }

    either : (bs ds : List Position) (b : Position) → Contains bs b ⊎ Contains ds b → Contains (bs ++ ds) b
    either bs ds b (inl m) = Contains-append_left bs ds b m
    either bs ds b (inr m) = Contains-append_right bs ds b m

    rests : RestsOnBoth x y all
    rests = record {
      board = refl;
      to_move = refl;
      passes = refl;
      needs = λ b. (Contains-append_cases x.needs y.needs b, either x.needs y.needs b);
      avoids = λ b. (Contains-append_cases x.avoids y.avoids b, either x.avoids y.avoids b);
    }

-- with one that rests on the position alone it is as without
pub both_alone : (r : ReplayResult) (e : PositionFootprint) → e.needs ≡ [] → e.avoids ≡ [] → CombinesTo r (Won e) r
both_alone Unfit e n a = refl
both_alone Lost e n a = refl
both_alone (Won x) e n a = (
  x,
  (
    refl,
    record {
      board = refl;
      to_move = refl;
      passes = refl;
      needs = λ b. (λ m. inl m, first x.needs e.needs b n);
      avoids = λ b. (λ m. inl m, first x.avoids e.avoids b a);
    },
  ),
)
  where
    first : (bs ds : List Position) (b : Position) → ds ≡ [] → Contains bs b ⊎ Contains ds b → Contains bs b
    first bs ds b h (inl m) = m
    first bs ds b h (inr m) = absurd (none_held ds b h m)

regroup : {A B C P Q : Type 0} → (P ↔ (A ⊎ B)) → (Q ↔ (P ⊎ C)) → Q ↔ (A ⊎ (B ⊎ C))
regroup {A = A} {B = B} {C = C} {P = P} h k = (λ q. to (k.0 q), λ w. k.1 (back w))
  where
    split : {X Y Z : Type 0} → X ⊎ Y → X ⊎ (Y ⊎ Z)
    split (inl x) = inl x
    split (inr y) = inr (inl y)

    to : P ⊎ C → A ⊎ (B ⊎ C)
    to (inl p) = split (h.0 p)
    to (inr c) = inr (inr c)

    back : A ⊎ (B ⊎ C) → P ⊎ C
    back (inl a) = inl (h.1 (inl a))
    back (inr (inl b)) = inl (h.1 (inr b))
    back (inr (inr c)) = inr c

under : {A B C P : Type 0} → (P ↔ (B ⊎ C)) → {Q : Type 0} → (Q ↔ (A ⊎ (B ⊎ C))) → Q ↔ (A ⊎ P)
under {A = A} {B = B} {C = C} {P = P} h k = (λ q. to (k.0 q), λ w. k.1 (back w))
  where
    to : A ⊎ (B ⊎ C) → A ⊎ P
    to (inl a) = inl a
    to (inr w) = inr (h.1 w)

    back : A ⊎ P → A ⊎ (B ⊎ C)
    back (inl a) = inl a
    back (inr p) = inr (h.0 p)

rests_regrouped : (x y z v w j : PositionFootprint) → RestsOnBoth x y z → RestsOnBoth z v w → RestsOnBoth y v j → RestsOnBoth x j w
rests_regrouped x y z v w j h k g = record {
  board = k.board ∙ h.board;
  to_move = k.to_move ∙ h.to_move;
  passes = k.passes ∙ h.passes;
  needs = λ b. under (g.needs b) (regroup (h.needs b) (k.needs b));
  avoids = λ b. under (g.avoids b) (regroup (h.avoids b) (k.avoids b));
}

-- the order of three makes no difference
pub both_regrouped : (a b c p r : ReplayResult) → CombinesTo a b c → CombinesTo c p r → (z : ReplayResult) × (CombinesTo b p z × CombinesTo a z r)
both_regrouped a b c p r h k = pass a b c p h k
  where
    with_some : (a' b' p' : ReplayResult) → ((z : ReplayResult) → CombinesTo b' p' z → CombinesTo a' z r) → (z : ReplayResult) × (CombinesTo b' p' z × CombinesTo a' z r)
    with_some a' b' p' g = let z = both_found b' p' in (z.0, (z.1, g z.0 z.1))

    pass : (a' b' c' p' : ReplayResult) → CombinesTo a' b' c' → CombinesTo c' p' r → (z : ReplayResult) × (CombinesTo b' p' z × CombinesTo a' z r)
    pass Unfit b' c' p' e i = with_some Unfit b' p' (λ z m. subst (λ x. CombinesTo x p' r) e i)
    pass Lost Unfit c' p' e i = (Unfit, (refl, subst (λ x. CombinesTo x p' r) e i))
    pass Lost Lost c' Unfit e i = (Unfit, (refl, subst (λ x. CombinesTo x Unfit r) e i))
    pass Lost Lost c' Lost e i = (Lost, (refl, subst (λ x. CombinesTo x Lost r) e i))
    pass Lost Lost c' (Won v) e i = (Lost, (refl, subst (λ x. CombinesTo x (Won v) r) e i))
    pass Lost (Won y) c' Unfit e i = (Unfit, (refl, subst (λ x. CombinesTo x Unfit r) e i))
    pass Lost (Won y) c' Lost e i = (Lost, (refl, subst (λ x. CombinesTo x Lost r) e i))
    pass Lost (Won y) c' (Won v) e i = with_some Lost (Won y) (Won v) (λ z m. subst (λ x. CombinesTo Lost x r) (sym m.1.0) (subst (λ x. CombinesTo x (Won v) r) e i))
    pass (Won x) Unfit c' p' e i = (Unfit, (refl, subst (λ z. CombinesTo z p' r) e i))
    pass (Won x) Lost c' Unfit e i = (Unfit, (refl, subst (λ z. CombinesTo z Unfit r) e i))
    pass (Won x) Lost c' Lost e i = (Lost, (refl, subst (λ z. CombinesTo z Lost r) e i))
    pass (Won x) Lost c' (Won v) e i = (Lost, (refl, subst (λ z. CombinesTo z (Won v) r) e i))
    pass (Won x) (Won y) c' Unfit e i = (Unfit, (refl, subst (λ z. CombinesTo z Unfit r) e.1.0 i))
    pass (Won x) (Won y) c' Lost e i = (Lost, (refl, subst (λ z. CombinesTo z Lost r) e.1.0 i))
    pass (Won x) (Won y) c' (Won v) e i =
        let w = subst (λ z. CombinesTo z (Won v) r) e.1.0 i in
        with_some (Won x) (Won y) (Won v)
        (λ z m. subst (λ q. CombinesTo (Won x) q r) (sym m.1.0) (w.0, (w.1.0, rests_regrouped x y e.0 v w.0 m.0 e.1.1 w.1.1 m.1.1)))

-- ---- the walk over all branches

module _ (side : Side) (f : Frame) (s : State) (ns : NamedFootprints) (bs : Branches) where
  -- so far all branches but those that are left were replayed
  abbrev pub Replayed : Branches → NamedFootprints → ReplayResult → Type 0
  Replayed left ls found = (p r : ReplayResult) (ms : NamedFootprints) → IsReplayOfBranches side f ls left s p ms → CombinesTo found p r → FindsTogether side f ns bs s r ms

  pub replayed_start : (x : PositionFootprint) → RestsOnRepeats f s x → Replayed bs ns (Won x)
  replayed_start x h p r ms k e = (x, (h, (p, (k, e))))

  pub replayed_more : (left : Branches) (t : Turn) (o : Outline) (ls ls' : NamedFootprints) (a b c : ReplayResult) → Replayed (branch t o left) ls a
      → FindsBranch side f ls t o s b ls' → CombinesTo a b c → Replayed left ls' c
  replayed_more left t o ls ls' a b c h g e p r ms k i =
      let z = both_regrouped a b c p r e i in h z.0 r ms (b, (p, (ls', (g, k, z.1.0)))) z.1.1

  pub replayed_end : (ls : NamedFootprints) (found : ReplayResult) → Replayed no_branch ls found → FindsTogether side f ns bs s found ls
  replayed_end ls found h = h (Won alone) found ls ((alone, (refl, rests)), refl) (both_alone found alone refl refl)
    where
      alone : PositionFootprint
      alone = record { board = board_of_colouring f s.present; to_move = s.to_move; passes = s.passes; needs = []; avoids = [] }

      rests : RestsOnPositionAlone f s alone
      rests = record { position = record { present = refl; to_move = refl; passes = refl }; needs = refl; avoids = refl }

-- ---- lists

pub drop_none : {X : Type 0} (xs : List X) → drop 0 xs ≡ xs
drop_none [] = refl
drop_none (x ∷ xs) = refl

pub any_other : (ns : NamedFootprints) (k : ℕ) (d h : Option PositionFootprint) → k < length ns → get_or ns k d ≡ get_or ns k h
any_other [] k d h lt = absurd (omega (arith, lt))
any_other (n ∷ ns) zero d h lt = refl
any_other (n ∷ ns) (suc k) d h lt = any_other ns k d h (omega (arith, lt))

pub some_none : (x : PositionFootprint) → None ≡ Some x → ⊥
some_none x e = cc

pub none_past : (ns : NamedFootprints) (k : ℕ) → length ns ≤ k → get_or ns k None ≡ None
none_past [] k le = refl
none_past (n ∷ ns) zero le = absurd (omega (arith, le))
none_past (n ∷ ns) (suc k) le = none_past ns k (omega (arith, le))

none_taken : (ts : List Turn) (t : Turn) → IsIn (take 0 ts) t → ⊥
none_taken [] t m = m
none_taken (y ∷ ts) t m = m

-- what holds of the first n turns, and of the next one
pub taken_more : (P : Turn → Type 0) (ts : List Turn) (n : ℕ) (x : Turn) → n < length ts → x ≡ get_or ts n x → ((t : Turn) → IsIn (take n ts) t → P t) → P x
    → (t : Turn) → IsIn (take (suc n) ts) t → P t
taken_more P [] n x lt is h here t m = absurd (omega (arith, lt))
taken_more P (y ∷ ts) zero x lt is h here t (inl e) = subst P (is ∙ e) here
taken_more P (y ∷ ts) zero x lt is h here t (inr m) = absurd (none_taken ts t m)
taken_more P (y ∷ ts) (suc n) x lt is h here t (inl e) = h t (inl e)
taken_more P (y ∷ ts) (suc n) x lt is h here t (inr m) = taken_more P ts n x (omega (arith, lt)) is (λ u k. h u (inr k)) here t m
