-- What a strategy needs, avoids and meets behind another history: one path and two histories, as where it is shown to win there.
use Rattle.std.proofs.Common.{◌≡◌, ℕ, ◌⊎◌, ◌↔◌, inl, inr, List, [], ◌∷◌, ◌++◌, ◌∙◌, None, refl, sym, ap, subst, Contains}
use Rattle.std.proofs.lemmas.List.Elements.{Contains-append_left}
use Rattle.tt_board.specs.Position.{Colouring}
use Rattle.tt_board.specs.Decided.{Decision}
use Rattle.tt_board.specs.Reach.{entry_at}
use Rattle.tt_game.specs.Game.{State, IsLegal, after, winner_of, history, colouring_after_play}
use Rattle.tt_game.specs.Superko.{decide_same_colouring}
use Rattle.tt_game.specs.declared.frame.Side.{Side}
use Rattle.tt_game.specs.declared.frame.Frame.{Frame}
use Rattle.tt_game.specs.declared.turns.Turn.{Turn}
use Rattle.tt_game.specs.declared.turns.Turn.TheVariants.{Play, Pass}
use Rattle.tt_proof.specs.Strategy.{Strategy, Entries, done, pick, reply, none, entry, IsInOrder, AreInOrder}
use Rattle.tt_proof.specs.EndRules.{EndRule}
use Rattle.tt_proof.specs.Wins.{WinsUnder}
use Rattle.tt_proof.specs.inside.Replaying.{LegalWin, HasEntry}
use Rattle.tt_proof.specs.Footprints.{IsNeeded, IsNeededBehind, IsAvoided, IsAvoidedBehind, IsMet, IsMetBehind, IsRepeatedByPlay, Fits, path_after_turn, MakesColouring}
use Rattle.tt_game.specs.laws.Members.{IsIn, in_of_contains, contains_of_in}
use Rattle.tt_proof.proofs.FitsLemmas.{splits_none, Carried, same_made, carried_after, legal_now, legal_before}
use Rattle.tt_proof.proofs.WinsLemmas.{reply_answers, reply_wins}

either : {A B C D : Type 0} → (A → C) → (B → D) → A ⊎ B → C ⊎ D
either f g (inl a) = inl (f a)
either f g (inr b) = inr (g b)

-- a colouring is in a list, or it isn't
is_in : (xs : List Colouring) (c : Colouring) → Decision (IsIn xs c)
is_in [] c = inr (λ m. m)
is_in (x ∷ xs) c = elim (decide_same_colouring x c) [
  | inl e ↦ inl (inl e)
  | inr n ↦ elim (is_in xs c) [ inl m ↦ inl (inr m) | inr k ↦ inr (none_of n k) ]
]
  where
    none_of : (x ≡ c → ⊥) → (IsIn xs c → ⊥) → IsIn (x ∷ xs) c → ⊥
    none_of n k (inl e) = n e
    none_of n k (inr m) = k m

module _ (rule : EndRule) (side : Side) (f : Frame) (h k : List Colouring) where
  -- both paths grow by the same colouring
  same_longer : (path : List Colouring) (a b : State) (t : Turn) → Carried h k path a b → path_after_turn f b t path ≡ path_after_turn f a t path
  same_longer path a b Pass r = refl
  same_longer path a b (Play p) r = ap (λ c. path ++ c ∷ []) (same_made side f h k path a b p r)

  makes_now : (path : List Colouring) (a b : State) (t : Turn) (c : Colouring) → Carried h k path a b → MakesColouring f a t c → MakesColouring f b t c
  makes_now path a b Pass c r m = m
  makes_now path a b (Play p) c r m = same_made side f h k path a b p r ∙ m

  makes_before : (path : List Colouring) (a b : State) (t : Turn) (c : Colouring) → Carried h k path a b → MakesColouring f b t c → MakesColouring f a t c
  makes_before path a b Pass c r m = m
  makes_before path a b (Play p) c r m = sym (same_made side f h k path a b p r) ∙ m

  -- a colouring of the new history that was repeated is repeated there, too
  repeated_now : (path : List Colouring) (a b : State) (c : Colouring) → Carried h k path a b → IsRepeatedByPlay f h path a c → Contains k c → IsRepeatedByPlay f k path b c
  repeated_now path a b c r w m = (
    (w.0.0, w.0.1, ap (λ x. entry_at x w.0.0) r.present ∙ w.0.2, w.0.3, same_made side f h k path a b w.0.0 r ∙ w.0.4),
    m,
    w.2,
  )

  -- one that is repeated there was repeated before, where no legal play made it
  repeated_before : (path : List Colouring) (a b : State) (c : Colouring) → Carried h k path a b → winner_of f a ≡ None →
      ((t : Turn) → IsLegal f a t → MakesColouring f a t c → ⊥) → IsRepeatedByPlay f k path b c → IsRepeatedByPlay f h path a c
  repeated_before path a b c r unwon unmet w = elim (is_in (history a) c) [
    | inl m ↦ held (r.before.cases c (contains_of_in (history a) c m))
    | inr n ↦ absurd (unmet (Play w.0.0) (unwon, w.0.1, free, w.0.3, λ m. n (in_of_contains (history a) c (subst (λ x. Contains (history a) x) makes m))) makes)
  ]
    where
      free : entry_at a.present w.0.0 ≡ None
      free = sym (ap (λ x. entry_at x w.0.0) r.present) ∙ w.0.2

      makes : colouring_after_play f a w.0.0 ≡ c
      makes = sym (same_made side f h k path a b w.0.0 r) ∙ w.0.4

      held : Contains h c ⊎ Contains path c → IsRepeatedByPlay f h path a c
      held (inl m) = ((w.0.0, w.0.1, free, w.0.3, makes), m, w.2)
      held (inr m) = absurd (w.2 m)

  -- what a legal turn with an entry makes is met
  met_there : (es : Entries) (a : State) (t : Turn) (c : Colouring) → HasEntry es t → IsLegal f a t → MakesColouring f a t c → IsMetBehind f es a c
  met_there none a t c e l m = e
  met_there (entry t' u es) a t c (inl e) l m =
      inl (subst (λ x. IsLegal f a x) (sym e) l, inl (subst (λ x. MakesColouring f a x c) (sym e) m))
  met_there (entry t' u es) a t c (inr e) l m = inr (met_there es a t c e l m)

  -- the strategy wins, the new history has what it needs, and nothing that it avoids or meets
  record Stands (u : Strategy) (path : List Colouring) (a : State) : Type 0 where
    wins : WinsUnder rule side f u a
    order : IsInOrder f.size u
    needs : (c : Colouring) → IsNeeded f h u path a c → Contains k c
    avoids : (c : Colouring) → IsAvoided f u a c → Contains k c → ⊥
    met : (c : Colouring) → IsMet f u a c → Contains k c → ⊥

  -- so it is with entries
  record AllStand (es : Entries) (path : List Colouring) (a : State) : Type 0 where
    wins : LegalWin rule side f a es
    least : ℕ
    order : AreInOrder f.size least es
    needs : (c : Colouring) → IsNeededBehind f h es path a c → Contains k c
    avoids : (c : Colouring) → IsAvoidedBehind f es a c → Contains k c → ⊥
    met : (c : Colouring) → IsMetBehind f es a c → Contains k c → ⊥

  picked_stands : (t : Turn) (u : Strategy) (path : List Colouring) (a : State) → Stands (pick t u) path a → Stands u (path_after_turn f a t path) (after f a t)
  picked_stands t u path a g = record {
    wins = g.wins.3;
    order = g.order.1;
    needs = λ c m. g.needs c (g.wins.2, m);
    avoids = λ c m. g.avoids c (g.wins.2, inr m);
    met = λ c m. g.met c (g.wins.2, m);
  }

  entries_stand : (es : Entries) (path : List Colouring) (a : State) → Stands (reply es) path a → AllStand es path a
  entries_stand es path a g = record {
    wins = (reply_wins rule side f a es g.order (reply_answers rule side f a es g.wins)).1 g.wins;
    least = 0;
    order = g.order;
    needs = λ c m. g.needs c (inr m);
    avoids = g.avoids;
    met = g.met;
  }

  first_stands : (t : Turn) (u : Strategy) (es : Entries) (path : List Colouring) (a : State) → AllStand (entry t u es) path a → IsLegal f a t →
      Stands u (path_after_turn f a t path) (after f a t)
  first_stands t u es path a g l = record {
    wins = g.wins.0 l;
    order = g.order.2;
    needs = λ c m. g.needs c (inl (l, m));
    avoids = λ c m. g.avoids c (inl (l, m));
    met = λ c m. g.met c (inl (l, inr m));
  }

  others_stand : (t : Turn) (u : Strategy) (es : Entries) (path : List Colouring) (a : State) → AllStand (entry t u es) path a → AllStand es path a
  others_stand t u es path a g = record {
    wins = g.wins.1;
    least = _;
    order = g.order.3;
    needs = λ c m. g.needs c (inr m);
    avoids = λ c m. g.avoids c (inr m);
    met = λ c m. g.met c (inr m);
  }

  mutual
    same : (u : Strategy) (path : List Colouring) (a b : State) (c : Colouring) → Carried h k path a b → Stands u path a →
        (IsNeeded f h u path a c ↔ IsNeeded f k u path b c) × (IsAvoided f u a c ↔ IsAvoided f u b c) × (IsMet f u a c ↔ IsMet f u b c)
    same done path a b c r g = ((λ m. m, λ m. m), (λ m. m, λ m. m), (λ m. m, λ m. m))
    same (pick t u) path a b c r g =
        let now = legal_now side f h k path a b t r g.wins.2 (λ x m. g.avoids x (g.wins.2, inl m)) in
        let w = same u (path_after_turn f a t path) (after f a t) (after f b t) c (carried_after side f h k path a b t r) (picked_stands t u path a g) in
        let e = same_longer path a b t r in (
          (
            λ m. (now, subst (λ p. IsNeeded f k u p (after f b t) c) (sym e) (w.0.0 m.1)),
            λ m. (g.wins.2, w.0.1 (subst (λ p. IsNeeded f k u p (after f b t) c) e m.1)),
          ),
          (
            λ m. (now, either (makes_now path a b t c r) w.1.0 m.1),
            λ m. (g.wins.2, either (makes_before path a b t c r) w.1.1 m.1),
          ),
          (λ m. (now, w.2.0 m.1), λ m. (g.wins.2, w.2.1 m.1)),
        )
    same (reply es) path a b c r g =
        let meets : (t : Turn) (x : Colouring) → IsLegal f a t → MakesColouring f a t x → IsMetBehind f es a x =
        λ t x l m. met_there es a t x ((reply_answers rule side f a es g.wins).1 t l) l m in
        let w = same_behind es path a b c r (λ t l. legal_now side f h k path a b t r l (λ x m. g.met x (meets t x l m)))
        (λ t l. legal_before side f h k path a b t r l (λ x m. g.needs x (inl m))) (entries_stand es path a g) in (
          (
            either (λ m. repeated_now path a b c r m (g.needs c (inl m))) w.0.0,
            either (λ m. repeated_before path a b c r g.wins.0 (λ t l x. g.met c (meets t c l x) m.1) m) w.0.1,
          ),
          w.1,
          w.2,
        )

    same_behind : (es : Entries) (path : List Colouring) (a b : State) (c : Colouring) → Carried h k path a b →
        ((t : Turn) → IsLegal f a t → IsLegal f b t) → ((t : Turn) → IsLegal f b t → IsLegal f a t) → AllStand es path a →
        (IsNeededBehind f h es path a c ↔ IsNeededBehind f k es path b c) × (IsAvoidedBehind f es a c ↔ IsAvoidedBehind f es b c)
        × (IsMetBehind f es a c ↔ IsMetBehind f es b c)
    same_behind none path a b c r forth back g = ((λ m. m, λ m. m), (λ m. m, λ m. m), (λ m. m, λ m. m))
    same_behind (entry t u es) path a b c r forth back g =
        let w = same_behind es path a b c r forth back (others_stand t u es path a g) in
        let e = same_longer path a b t r in
        let first : IsLegal f a t → (IsNeeded f h u (path_after_turn f a t path) (after f a t) c ↔ IsNeeded f k u (path_after_turn f a t path) (after f b t) c)
        × (IsAvoided f u (after f a t) c ↔ IsAvoided f u (after f b t) c) × (IsMet f u (after f a t) c ↔ IsMet f u (after f b t) c) =
        λ l. same u (path_after_turn f a t path) (after f a t) (after f b t) c (carried_after side f h k path a b t r) (first_stands t u es path a g l) in (
          (
            either (λ m. (forth t m.0, subst (λ p. IsNeeded f k u p (after f b t) c) (sym e) ((first m.0).0.0 m.1))) w.0.0,
            either (λ m. let l = back t m.0 in (l, (first l).0.1 (subst (λ p. IsNeeded f k u p (after f b t) c) e m.1))) w.0.1,
          ),
          (
            either (λ m. (forth t m.0, (first m.0).1.0 m.1)) w.1.0,
            either (λ m. let l = back t m.0 in (l, (first l).1.1 m.1)) w.1.1,
          ),
          (
            either (λ m. (forth t m.0, either (makes_now path a b t c r) (first m.0).2.0 m.1)) w.2.0,
            either (λ m. let l = back t m.0 in (l, either (makes_before path a b t c r) (first l).2.1 m.1)) w.2.1,
          ),
        )

-- a history stays in the history after a turn
later : (f : Frame) (a : State) (t : Turn) (c : Colouring) → Contains (history a) c → Contains (history (after f a t)) c
later f a Pass c m = m
later f a (Play p) c m = Contains-append_left (history a) (colouring_after_play f a p ∷ []) c m

-- a legal turn makes no colouring of the history
new_made : (f : Frame) (a : State) (t : Turn) (c : Colouring) → IsLegal f a t → MakesColouring f a t c → Contains (history a) c → ⊥
new_made f a Pass c l m k = m
new_made f a (Play p) c l m k = l.4 (subst (λ x. Contains (history a) x) (sym m) k)

module _ (f : Frame) (c : Colouring) where
  mutual
    -- what a strategy meets isn't in the history of its state
    met_new : (u : Strategy) (a : State) → IsMet f u a c → Contains (history a) c → ⊥
    met_new done a m k = m
    met_new (pick t u) a m k = met_new u (after f a t) m.1 (later f a t c k)
    met_new (reply es) a m k = met_new_behind es a m k

    met_new_behind : (es : Entries) (a : State) → IsMetBehind f es a c → Contains (history a) c → ⊥
    met_new_behind none a m k = m
    met_new_behind (entry t u es) a (inl (l, inl m)) k = new_made f a t c l m k
    met_new_behind (entry t u es) a (inl (l, inr m)) k = met_new u (after f a t) m (later f a t c k)
    met_new_behind (entry t u es) a (inr m) k = met_new_behind es a m k

-- what a strategy meets is in no history that has only those of it that its own has
pub footprint_carried : (rule : EndRule) (side : Side) (f : Frame) (u : Strategy) (s s' : State) → WinsUnder rule side f u s → IsInOrder f.size u → Fits f u s s' →
    ((c : Colouring) → IsMet f u s c → Contains (history s') c → Contains (history s) c) →
    (c : Colouring)
    → (IsNeeded f (history s) u [] s c ↔ IsNeeded f (history s') u [] s' c) × (IsAvoided f u s c ↔ IsAvoided f u s' c) × (IsMet f u s c ↔ IsMet f u s' c)
footprint_carried rule side f u s s' w o fits old c =
    same rule side f (history s) (history s') u [] s s' c
    (record {
      present = fits.present;
      to_move = fits.to_move;
      passes = fits.passes;
      before = splits_none (history s);
      now = splits_none (history s');
    })
    (record { wins = w; order = o; needs = fits.needs; avoids = fits.avoids; met = λ d m k. met_new f d u s m (old d m k) })
