-- A play of the attacker leaves stones that are unconditionally alive so, with the same stones and the same eyes.
use Rattle.std.proofs.Common.{◌≡◌, ◌≢◌, ℕ, ◌<◌, ◌⊎◌, length, Option, Some, None, Bool, true, false, IsTrue, inl, inr, refl, sym, ap, subst, ◌∙◌, set, arith}
use Rattle.std.specs.FinSet as set_of
use Rattle.std.proofs.lemmas.Bool.{cases_eq, cases_lt, cases_Bool, false≢true}
use Rattle.std.proofs.lemmas.Option.{none-some}
use Rattle.std.proofs.lemmas.List.{length-set, get_or-set_same, get_or-set_other, get_or_past}
use Rattle.std.proofs.lemmas.List.Elements.{All-weaker}
use Rattle.tt_sgf.specs.declared.size.Size.{Size}
use Rattle.tt_sgf.specs.Sizes.{point_count}
use Rattle.tt_board.specs.declared.Colour.{Colour}
use Rattle.tt_board.specs.declared.Colour.TheVariants.{Black, White}
use Rattle.tt_board.specs.Position.{Colouring}
use Rattle.tt_board.specs.Reach.{entry_at, Reaches}
use Rattle.tt_board.specs.ReachLaws.{reaches_all}
use Rattle.tt_board.specs.Decided.{Decision, reaches, reaches_is_exact, decide_both, decide_some_below, decide_same_entry}
use Rattle.tt_board.specs.Play.{other, clear, play_of}
use Rattle.tt_board.specs.laws.ClearLaws.{cleared_gone, cleared_kept_other, cleared_kept_alive, cleared_either, entry_at_clear, other_differs, not_other}
use Rattle.tt_game.specs.declared.frame.Frame.{Frame}
use Rattle.tt_life.specs.Life.{Points, StoneTouches, IsEye, HasLibertyOutside, AreUnconditionallyAlive, LifeIsKept}

-- ---- colours

-- the opponent's opponent
pub other_twice : (k : Colour) → other (other k) ≡ k
other_twice Black = refl
other_twice White = refl

-- a stone that isn't of one colour is of the other
pub of_other : (k : Colour) (x : Option Colour) → x ≢ None → x ≢ Some k → x ≡ Some (other k)
of_other k x some apart = not_other (other k) x some (λ e. apart (e ∙ ap Some (other_twice k)))

-- a test is decided
pub decide_true : (b : Bool) → Decision (IsTrue b)
decide_true true = inl refl
decide_true false = inr false≢true

-- ---- what clearing does to a point of the board
module _ (s : Size) (c : Colouring) (k : Colour) (p : ℕ) (in_p : p < point_count s) where
  -- it's empty afterwards, or as it was
  empty_or_kept : (entry_at (clear s c k) p ≡ None) ⊎ (entry_at (clear s c k) p ≡ entry_at c p)
  empty_or_kept = elim (cleared_either s c k p) [ inl now ↦ inl (entry_at_clear s c k p in_p ∙ now) | inr same ↦ inr (entry_at_clear s c k p in_p ∙ same) ]

  -- what reaches empty stays
  kept_reaching : Reaches s c p None → entry_at (clear s c k) p ≡ entry_at c p
  kept_reaching r = entry_at_clear s c k p in_p ∙ cleared_kept_alive s c k p ((reaches_is_exact s c p None in_p).1 r)

  -- so does what isn't of the colour
  kept_other : entry_at c p ≢ Some k → entry_at (clear s c k) p ≡ entry_at c p
  kept_other apart = entry_at_clear s c k p in_p ∙ cleared_kept_other s c k p apart

  -- a stone of the colour that doesn't reach empty goes
  gone : entry_at c p ≡ Some k → (Reaches s c p None → ⊥) → entry_at (clear s c k) p ≡ None
  gone stone none = elim (cases_Bool (reaches s c p None)) [
    | inl alive ↦ absurd (none ((reaches_is_exact s c p None in_p).0 alive))
    | inr dead ↦ entry_at_clear s c k p in_p ∙ cleared_gone s c k p stone dead
  ]

  -- an empty point stays empty
  still_empty : entry_at c p ≡ None → entry_at (clear s c k) p ≡ None
  still_empty e = elim empty_or_kept [ inl now ↦ now | inr same ↦ same ∙ e ]

  -- no stone comes
  none_comes : (j : Colour) → entry_at c p ≢ Some j → entry_at (clear s c k) p ≢ Some j
  none_comes j apart = elim empty_or_kept [ inl now ↦ λ h. none-some j (sym now ∙ h) | inr same ↦ λ h. apart (sym same ∙ h) ]

-- the coloured point isn't of another colour
coloured : (c : Colouring) (p : ℕ) (k j : Colour) → Some k ≢ Some j → entry_at (set c p (Some k)) p ≢ Some j
coloured c p k j apart = elim (cases_lt p (length c)) [
  | inl in' ↦ λ h. apart (sym (get_or-set_same c p (Some k) None in') ∙ h)
  | inr past ↦ λ h. none-some j (sym (get_or_past (set c p (Some k)) p None (omega (arith, past, length-set c p (Some k)))) ∙ h)
]

-- where the stones of a set stand, one that touches an empty point reaches empty
touch_reaches : (s : Size) (c : Colouring) (k : Colour) (stones : Points) → ((x : ℕ) → IsTrue (stones x) → entry_at c x ≡ Some k)
    → (p q : ℕ) → IsTrue (stones p) → StoneTouches s stones p q → entry_at c q ≡ None → Reaches s c p None
touch_reaches s c k stones stand p q in_p t e = record {
  path = t.path;
  adjacent = t.adjacent;
  alike = All-weaker (λ x. IsTrue (stones x)) (λ x. entry_at c x ≡ entry_at c p) (λ x h. stand x h ∙ sym (stand p in_p)) t.path t.within;
  other = λ none. none-some k (sym none ∙ stand p in_p);
  found = q;
  beside = t.beside;
  has_entry = e;
}

-- ---- the attacker plays on p
module _ (f : Frame) (c : Colouring) (stones : Points) (is : AreUnconditionallyAlive f c stones) (p : ℕ) (free : entry_at c p ≡ None)
    (in_region : IsTrue (set_of.contains f.region p)) where
  -- the point is coloured, the defender's colour is cleared, and then the attacker's
  abbrev put : Colouring
  put = set c p (Some (other f.defender))

  abbrev once : Colouring
  once = clear f.size put f.defender

  abbrev twice : Colouring
  twice = clear f.size once (other f.defender)

  put_kept : (q : ℕ) → q ≢ p → entry_at put q ≡ entry_at c q
  put_kept q apart = get_or-set_other c p q (Some (other f.defender)) None apart

  -- the stones stand
  put_stands : (x : ℕ) → IsTrue (stones x) → entry_at put x ≡ Some f.defender
  put_stands x h = put_kept x (λ same. none-some f.defender (sym free ∙ sym (ap (entry_at c) same) ∙ is.defenders x h)) ∙ is.defenders x h

  -- the liberty outside the region is still empty
  outside_put : (q : ℕ) → (IsTrue (set_of.contains f.region q) → ⊥) → entry_at c q ≡ None → entry_at put q ≡ None
  outside_put q out e = put_kept q (λ same. out (subst (λ y. IsTrue (set_of.contains f.region y)) (sym same) in_region)) ∙ e

  -- each of the stones reaches empty: p is in one of the two eyes at the most
  reach_empty : (x : ℕ) → IsTrue (stones x) → Reaches f.size put x None
  reach_empty x h = elim (is.alive x h) [
    | inl out ↦ touch_reaches f.size put f.defender stones put_stands x out.0 h out.1 (outside_put out.0 out.3 out.2)
    | inr two ↦
        let a = two.2.0.has_empty in
        let b = two.3.0.has_empty in
        elim (cases_eq a.0 p) [
          | inl here ↦ touch_reaches f.size put f.defender stones put_stands x b.0 h (two.3.1 b.0 b.1)
              (put_kept b.0 (λ there. two.4 a.0 a.1 (subst (λ y. IsTrue (two.1 y)) (there ∙ sym here) b.1)) ∙ b.2)
          | inr apart ↦ touch_reaches f.size put f.defender stones put_stands x a.0 h (two.2.1 a.0 a.1) (put_kept a.0 apart ∙ a.2)
        ]
  ]

  once_stands : (x : ℕ) → IsTrue (stones x) → entry_at once x ≡ Some f.defender
  once_stands x h = kept_reaching f.size put f.defender x (is.on_board x h) (reach_empty x h) ∙ put_stands x h

  twice_stands : (x : ℕ) → IsTrue (stones x) → entry_at twice x ≡ Some f.defender
  twice_stands x h = kept_other f.size once (other f.defender) x (is.on_board x h) (λ e. other_differs f.defender (sym (once_stands x h) ∙ e)) ∙ once_stands x h

  -- a point that is empty once the defender's colour is cleared is empty in the end
  twice_empty : (q : ℕ) → q < point_count f.size → entry_at once q ≡ None → entry_at twice q ≡ None
  twice_empty q in_q e = still_empty f.size once (other f.defender) q in_q e

  outside : (x : ℕ) → HasLibertyOutside f c stones x → HasLibertyOutside f twice stones x
  outside x out =
      let in_q = out.1.beside.0 in
      (out.0, out.1, twice_empty out.0 in_q (still_empty f.size put f.defender out.0 in_q (outside_put out.0 out.3 out.2)), out.3)

  -- an eye stays one
  module _ (eye : Points) (was : IsEye f.size c f.defender stones eye) where
    put_own : (q : ℕ) → IsTrue (eye q) → entry_at put q ≢ Some f.defender
    put_own q h = elim (cases_eq q p) [
      | inl same ↦ λ e. coloured c p (other f.defender) f.defender (λ d. other_differs f.defender (sym d)) (sym (ap (entry_at put) same) ∙ e)
      | inr apart ↦ λ e. was.without_own q h (sym (put_kept q apart) ∙ e)
    ]

    once_own : (q : ℕ) → IsTrue (eye q) → entry_at once q ≢ Some f.defender
    once_own q h = none_comes f.size put f.defender q (was.on_board q h) f.defender (put_own q h)

    -- a full eye doesn't reach empty: its stones are the attacker's, and stay between the defender's
    full_is_dead : ((q : ℕ) → IsTrue (eye q) → entry_at once q ≢ None) → (x : ℕ) → IsTrue (eye x) → Reaches f.size once x None → ⊥
    full_is_dead full x in_x r =
        reaches_all f.size once None (λ y. IsTrue (eye y) → ⊥)
        (λ y q _ _ near e in_y. elim (was.walled y q in_y near) [ inl in_q ↦ full q in_q e | inr stone ↦ none-some f.defender (sym e ∙ once_stands q stone) ])
        (λ y q _ _ near same out in_y. elim (was.walled y q in_y near) [ inl in_q ↦ out in_q | inr stone ↦ once_own y in_y (sym same ∙ once_stands q stone) ])
        x r.path (was.on_board x in_x) r.adjacent r.alike r.other r.found r.beside r.has_entry in_x

    -- so it is emptied
    twice_has_empty : (q : ℕ) × IsTrue (eye q) × (entry_at twice q ≡ None)
    twice_has_empty =
        elim (decide_some_below (λ q. IsTrue (eye q) × (entry_at once q ≡ None))
        (λ q. decide_both (decide_true (eye q)) (decide_same_entry (entry_at once q) None)) (point_count f.size)) [
          | inl h ↦ (h.0, h.2.0, twice_empty h.0 h.1 h.2.1)
          | inr none ↦
              let full : (q : ℕ) → IsTrue (eye q) → entry_at once q ≢ None = λ q h e. none (q, was.on_board q h, (h, e)) in
              let q = was.has_empty.0 in
              let in_q = was.has_empty.1 in
              (q, in_q, gone f.size once (other f.defender) q (was.on_board q in_q) (of_other f.defender (entry_at once q) (full q in_q) (once_own q in_q)) (full_is_dead full q in_q))
        ]

    eye_kept : IsEye f.size twice f.defender stones eye
    eye_kept = record {
      on_board = was.on_board;
      without_own = λ q h. none_comes f.size once (other f.defender) q (was.on_board q h) f.defender (once_own q h);
      has_empty = twice_has_empty;
      walled = was.walled;
    }

  alive_kept : AreUnconditionallyAlive f twice stones
  alive_kept = record {
    on_board = is.on_board;
    defenders = twice_stands;
    have_targets = is.have_targets;
    alive = λ x h. elim (is.alive x h) [
      | inl out ↦ inl (outside x out)
      | inr two ↦ inr (two.0, two.1, (eye_kept two.0 two.2.0, two.2.1), (eye_kept two.1 two.3.0, two.3.1), two.4)
    ];
  }

-- the attacker's play leaves them alive
pub kept : LifeIsKept
unfolding play_of
kept f c stones p is free in_region =
    subst (λ k. AreUnconditionallyAlive f (clear f.size (clear f.size (set c p (Some (other f.defender))) k) (other f.defender)) stones) (sym (other_twice f.defender))
    (alive_kept f c stones is p free in_region)
