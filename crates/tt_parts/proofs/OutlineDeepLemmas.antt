-- What an outline is whose text begins so: read as a whole, or as one that goes deeper. Bytes aren't both.
use Rattle.std.proofs.Common.{◌≡◌, ◌≤◌, ◌<◌, ◌+◌, ℕ, zero, suc, Bool, true, false, max, ◌⊎◌, inl, inr, arith, List, [], ◌∷◌, ◌++◌, ◌∙◌, refl, sym, ap, subst, append_assoc, length, get_or, decimal}
use Rattle.tt_sgf.specs.declared.size.Size.{Size}
use Rattle.tt_game.specs.declared.turns.Turn.{Turn}
use Rattle.tt_proof.specs.Strategy.{Strategy, done, depth, depth_of_entries, IsTurnOnBoardOfSize, turn_number_on_size}
use Rattle.tt_proof.specs.CertificateText.{pick_symbol, replies_symbol, turn_text}
use Rattle.tt_parts.specs.Outlines.{Outline, Branches, ended, picked, replied, part, no_branch, branch, unfolded, unfolded_entries, named_trees_after}
use Rattle.tt_parts.specs.Outlines.{naming_text, part_symbol, outline_text, branches_text, RefersBack, BranchesReferBack, IsOutlineInOrder, AreBranchesInOrder, OutlineGoesDeep, BranchesGoDeep}
use Rattle.tt_parts.specs.inside.OutlineReading.{HasNoDigitInFront, EndsBefore, OutlineAt, BranchesAt, OutlineDeepAt, BranchesDeepAt}
use Rattle.tt_proof.proofs.TextLemmas.{heads, tails, same_turn, turn_not_end}
use Rattle.tt_parts.proofs.NameLemmas.{same_number}
use Rattle.tt_parts.proofs.OutlineLawLemmas.{ends_before, no_digit_behind, same_outline}

module _ (size : Size) where
  -- an outline behind `*` is the part of a name that has ended
  pub record NameAt (us : List Strategy) (d : ℕ) (r y : List ℕ) : Type 0 where
    pub name : ℕ
    pub back : name < length us
    pub small : name < 1000000000
    pub none : HasNoDigitInFront y
    pub text : r ≡ decimal name ++ y
    pub deep : depth (get_or us name done) ≡ d

  pub name_at : (us : List Strategy) (o : Outline) (d : ℕ) (r y : List ℕ) → OutlineAt size us o d (part_symbol ∷ r) y → NameAt us d r y
  name_at us ended d r y at = absurd (omega (arith, heads at.text))
  name_at us (picked true t o) d r y at = absurd (omega (arith, heads at.text))
  name_at us (picked false t o) d r y at = absurd (omega (arith, heads at.text))
  name_at us (replied true bs) d r y at = absurd (omega (arith, heads at.text))
  name_at us (replied false bs) d r y at = absurd (omega (arith, heads at.text))
  name_at us (part k) d r y at =
      record { name = k; back = at.closed.0; small = at.closed.1; none = at.ends; text = tails at.text; deep = at.deep }

  pub record PickAt (us : List Strategy) (d : ℕ) (r y : List ℕ) : Type 0 where
    pub turn : Turn
    pub outline : Outline
    pub on : IsTurnOnBoardOfSize size turn
    pub text : r ≡ turn_text size turn ++ (outline_text size outline ++ y)
    pub deep : depth (unfolded us outline) + 1 ≡ d
    pub closed : RefersBack us outline
    pub orderly : IsOutlineInOrder size outline
    pub ends : EndsBefore outline y

  pub pick_at : (n : Bool) (us : List Strategy) (o : Outline) (d : ℕ) (r y : List ℕ) → OutlineAt size us o d (naming_text n ++ (pick_symbol ∷ r)) y → PickAt us d r y
  pick_at true us ended d r y at = absurd (omega (arith, heads at.text))
  pick_at true us (picked true t o) d r y at = record {
    turn = t;
    outline = o;
    on = at.orderly.0;
    text = tails (tails at.text);
    deep = at.deep;
    closed = at.closed;
    orderly = at.orderly.1;
    ends = at.ends;
  }
  pick_at true us (picked false t o) d r y at = absurd (omega (arith, heads at.text))
  pick_at true us (replied true bs) d r y at = absurd (omega (arith, heads (tails at.text)))
  pick_at true us (replied false bs) d r y at = absurd (omega (arith, heads at.text))
  pick_at true us (part k) d r y at = absurd (omega (arith, heads at.text))
  pick_at false us ended d r y at = absurd (omega (arith, heads at.text))
  pick_at false us (picked true t o) d r y at = absurd (omega (arith, heads at.text))
  pick_at false us (picked false t o) d r y at = record {
    turn = t;
    outline = o;
    on = at.orderly.0;
    text = tails at.text;
    deep = at.deep;
    closed = at.closed;
    orderly = at.orderly.1;
    ends = at.ends;
  }
  pick_at false us (replied true bs) d r y at = absurd (omega (arith, heads at.text))
  pick_at false us (replied false bs) d r y at = absurd (omega (arith, heads at.text))
  pick_at false us (part k) d r y at = absurd (omega (arith, heads at.text))

  pub reply_at : (n : Bool) (us : List Strategy) (o : Outline) (d : ℕ) (r y : List ℕ) → OutlineAt size us o d (naming_text n ++ (replies_symbol ∷ r)) y
      → (bs : Branches) × BranchesAt size us 0 bs d r y
  reply_at true us ended d r y at = absurd (omega (arith, heads at.text))
  reply_at true us (picked true t o) d r y at = absurd (omega (arith, heads (tails at.text)))
  reply_at true us (picked false t o) d r y at = absurd (omega (arith, heads at.text))
  reply_at true us (replied true bs) d r y at = (bs, record { closed = at.closed; orderly = at.orderly; deep = at.deep; text = tails (tails at.text) })
  reply_at true us (replied false bs) d r y at = absurd (omega (arith, heads at.text))
  reply_at true us (part k) d r y at = absurd (omega (arith, heads at.text))
  reply_at false us ended d r y at = absurd (omega (arith, heads at.text))
  reply_at false us (picked true t o) d r y at = absurd (omega (arith, heads at.text))
  reply_at false us (picked false t o) d r y at = absurd (omega (arith, heads at.text))
  reply_at false us (replied true bs) d r y at = absurd (omega (arith, heads at.text))
  reply_at false us (replied false bs) d r y at = (bs, record { closed = at.closed; orderly = at.orderly; deep = at.deep; text = tails at.text })
  reply_at false us (part k) d r y at = absurd (omega (arith, heads at.text))

  -- branches that are read where a turn stands: an outline behind that turn, and branches
  pub record BranchBehind (us : List Strategy) (least d : ℕ) (t : Turn) (mid y : List ℕ) : Type 0 where
    pub outline : Outline
    pub branches : Branches
    pub rises : least ≤ turn_number_on_size size t
    pub inside : OutlineAt size us outline (depth (unfolded us outline)) mid (branches_text size branches ++ y)
    pub closed : BranchesReferBack (named_trees_after us outline) branches
    pub orderly : AreBranchesInOrder size (turn_number_on_size size t + 1) branches
    pub deep : d ≡ max (depth (unfolded us outline) + 1) (depth_of_entries (unfolded_entries (named_trees_after us outline) branches))

  pub branch_behind : (us : List Strategy) (least d : ℕ) (t : Turn) (now mid y : List ℕ) (bs : Branches) → now ≡ turn_text size t ++ mid
      → BranchesAt size us least bs d now y → BranchBehind us least d t mid y
  branch_behind us least d t now mid y no_branch e at = absurd (turn_not_end size size.columns_in.0 t (heads (sym e ∙ at.text)))
  branch_behind us least d t now mid y (branch v o bs) e at =
      let g = sym e ∙ at.text in
      let t_is = same_turn size size.columns_in.0 t v (heads g) (heads (tails g)) in
      record {
        outline = o;
        branches = bs;
        rises = subst (λ x. least ≤ turn_number_on_size size x) (sym t_is) at.orderly.0;
        inside = record {
          closed = at.closed.0;
          orderly = at.orderly.2;
          deep = refl;
          text = tails (tails g) ∙ append_assoc (outline_text size o) (branches_text size bs) y;
          ends = ends_before o (branches_text size bs ++ y) (no_digit_behind size size.columns_in.0 bs y);
        };
        closed = at.closed.1;
        orderly = subst (λ x. AreBranchesInOrder size (turn_number_on_size size x + 1) bs) (sym t_is) at.orderly.3;
        deep = sym at.deep;
      }

  -- ---- one that goes deeper

  -- a turn stands in front of branches that go deeper
  pub deep_no_digit : (us : List Strategy) (left : ℕ) (cs : Branches) (r : List ℕ) → BranchesGoDeep size us left cs r → HasNoDigitInFront r
  deep_no_digit us left no_branch r g = absurd g
  deep_no_digit us zero (branch t o cs) r g = subst HasNoDigitInFront (sym g.1) (no_digit_behind size size.columns_in.0 (branch t ended no_branch) [])
  deep_no_digit us (suc left) (branch t o cs) r (inl g) =
      subst HasNoDigitInFront (sym g.1.0) (no_digit_behind size size.columns_in.0 (branch t ended no_branch) [])
  deep_no_digit us (suc left) (branch t o cs) r (inr g) =
      subst HasNoDigitInFront (sym g.1.0) (no_digit_behind size size.columns_in.0 (branch t ended no_branch) [])

  mutual
    -- no outline that isn't deeper has been read whole where one goes deeper
    pub apart : (p o : Outline) (us : List Strategy) (left d : ℕ) (y z : List ℕ) → RefersBack us p → OutlineAt size us o d y z → d ≤ left
        → OutlineGoesDeep size us left p y → ⊥
    apart ended o us left d y z c at low g = g
    apart (picked n t p) o us zero d y z c at low g =
        let w = pick_at n us o d (turn_text size t ++ g.0) z (subst (λ r. OutlineAt size us o d r z) g.1 at) in
        let deep = w.deep in
        omega (arith, low, deep)
    apart (picked n t p) o us (suc left) d y z c at low g =
        let w = pick_at n us o d (turn_text size t ++ g.0) z (subst (λ r. OutlineAt size us o d r z) g.1.0 at) in
        let deep = w.deep in
        apart p w.outline us left (depth (unfolded us w.outline)) g.0 z c
        (record { closed = w.closed; orderly = w.orderly; deep = refl; text = tails (tails w.text); ends = w.ends }) (omega (arith, low, deep)) g.1.1
    apart (replied n cs) o us left d y z c at low g =
        let w = reply_at n us o d g.0 z (subst (λ r. OutlineAt size us o d r z) g.1.0 at) in
        apart_all cs w.0 us left 0 d g.0 z c w.1 low g.1.1
    apart (part k) o us left d y z c at low g =
        let w = name_at us o d (decimal k ++ g.0) z (subst (λ r. OutlineAt size us o d r z) g.1.0 at) in
        let small = c.1 in
        let same = (same_number k w.name g.0 z (omega (arith, small)) (let s = w.small in omega (arith, s)) g.1.1 w.none w.text).0 in
        let found = ap (λ m. depth (get_or us m done)) same in
        let deep = w.deep in
        let past = g.1.2 in
        omega (arith, low, found, deep, past)

    pub apart_all : (cs bs : Branches) (us : List Strategy) (left least d : ℕ) (y z : List ℕ) → BranchesReferBack us cs → BranchesAt size us least bs d y z → d ≤ left
        → BranchesGoDeep size us left cs y → ⊥
    apart_all no_branch bs us left least d y z c at low g = g
    apart_all (branch t p cs) bs us zero least d y z c at low g =
        let w = branch_behind us least d t y g.0 z bs g.1 at in let deep = w.deep in omega (arith, low, deep)
    apart_all (branch t p cs) bs us (suc left) least d y z c at low (inl g) =
        let w = branch_behind us least d t y g.0 z bs g.1.0 at in
        let deep = w.deep in
        apart p w.outline us left (depth (unfolded us w.outline)) g.0 (branches_text size w.branches ++ z) c.0 w.inside (omega (arith, low, deep)) g.1.1
    apart_all (branch t p cs) bs us (suc left) least d y z c at low (inr g) =
        let w = branch_behind us least d t y (outline_text size p ++ g.0) z bs g.1.0 at in
        let same = same_outline size size.columns_in.0 p w.outline us us g.0 (branches_text size w.branches ++ z) c.0 w.inside.closed
        (ends_before p g.0 (deep_no_digit (named_trees_after us p) (suc left) cs g.0 g.1.1)) w.inside.ends w.inside.text in
        let deep = w.deep in
        apart_all cs w.branches (named_trees_after us p) (suc left) (turn_number_on_size size t + 1)
        (depth_of_entries (unfolded_entries (named_trees_after us w.outline) w.branches)) g.0 z c.1 (record {
          closed = subst (λ q. BranchesReferBack (named_trees_after us q) w.branches) (sym same.0) w.closed;
          orderly = w.orderly;
          deep = ap (λ q. depth_of_entries (unfolded_entries (named_trees_after us q) w.branches)) same.0;
          text = same.1;
        }) (omega (arith, low, deep)) g.1.1

  -- a name that goes deeper
  pub record DeepName (us : List Strategy) (r : List ℕ) : Type 0 where
    pub name : ℕ
    pub behind : List ℕ
    pub back : name < length us
    pub small : name < 1000000000
    pub none : HasNoDigitInFront behind
    pub text : r ≡ decimal name ++ behind

  pub deep_name : (us : List Strategy) (left : ℕ) (p : Outline) (r : List ℕ) → RefersBack us p → OutlineGoesDeep size us left p (part_symbol ∷ r) → DeepName us r
  deep_name us left ended r c g = absurd g
  deep_name us zero (picked true t p) r c g = absurd (omega (arith, heads g.1))
  deep_name us zero (picked false t p) r c g = absurd (omega (arith, heads g.1))
  deep_name us (suc left) (picked true t p) r c g = absurd (omega (arith, heads g.1.0))
  deep_name us (suc left) (picked false t p) r c g = absurd (omega (arith, heads g.1.0))
  deep_name us left (replied true cs) r c g = absurd (omega (arith, heads g.1.0))
  deep_name us left (replied false cs) r c g = absurd (omega (arith, heads g.1.0))
  deep_name us left (part k) r c g = record { name = k; behind = g.0; back = c.0; small = c.1; none = g.1.1; text = tails g.1.0 }

  -- a pick that goes deeper
  pub record DeepPick (us : List Strategy) (left : ℕ) (r : List ℕ) : Type 0 where
    pub turn : Turn
    pub behind : List ℕ
    pub on : IsTurnOnBoardOfSize size turn
    pub text : r ≡ turn_text size turn ++ behind
    pub inside : (m : ℕ) → left ≡ suc m → OutlineDeepAt size us m behind

  less : (m n : ℕ) → suc m ≡ suc n → m ≡ n
  less m n e = omega (arith, e)

  no_more : (m : ℕ) → zero ≡ suc m → ⊥
  no_more m e = omega (arith, e)

  deep_inside : (us : List Strategy) (left : ℕ) (t : Turn) (p : Outline) (r y : List ℕ) → IsTurnOnBoardOfSize size t × IsOutlineInOrder size p → RefersBack us p
      → r ≡ turn_text size t ++ y → OutlineGoesDeep size us left p y → DeepPick us (suc left) r
  deep_inside us left t p r y q c e g = record {
    turn = t;
    behind = y;
    on = q.0;
    text = e;
    inside = λ m h. subst (λ k. OutlineDeepAt size us k y) (less left m h) (record { outline = p; closed = c; orderly = q.1; deep = g });
  }

  deep_there : (us : List Strategy) (t : Turn) (r y : List ℕ) → IsTurnOnBoardOfSize size t → r ≡ turn_text size t ++ y → DeepPick us zero r
  deep_there us t r y on e = record { turn = t; behind = y; on = on; text = e; inside = λ m h. absurd (no_more m h) }

  pub deep_pick : (n : Bool) (us : List Strategy) (left : ℕ) (p : Outline) (r : List ℕ) → IsOutlineInOrder size p → RefersBack us p
      → OutlineGoesDeep size us left p (naming_text n ++ (pick_symbol ∷ r)) → DeepPick us left r
  deep_pick n us left ended r q c g = absurd g
  deep_pick true us zero (picked true t p) r q c g = deep_there us t r g.0 q.0 (tails (tails g.1))
  deep_pick true us zero (picked false t p) r q c g = absurd (omega (arith, heads g.1))
  deep_pick true us (suc left) (picked true t p) r q c g = deep_inside us left t p r g.0 q c (tails (tails g.1.0)) g.1.1
  deep_pick true us (suc left) (picked false t p) r q c g = absurd (omega (arith, heads g.1.0))
  deep_pick false us zero (picked true t p) r q c g = absurd (omega (arith, heads g.1))
  deep_pick false us zero (picked false t p) r q c g = deep_there us t r g.0 q.0 (tails g.1)
  deep_pick false us (suc left) (picked true t p) r q c g = absurd (omega (arith, heads g.1.0))
  deep_pick false us (suc left) (picked false t p) r q c g = deep_inside us left t p r g.0 q c (tails g.1.0) g.1.1
  deep_pick true us left (replied true cs) r q c g = absurd (omega (arith, heads (tails g.1.0)))
  deep_pick true us left (replied false cs) r q c g = absurd (omega (arith, heads g.1.0))
  deep_pick false us left (replied true cs) r q c g = absurd (omega (arith, heads g.1.0))
  deep_pick false us left (replied false cs) r q c g = absurd (omega (arith, heads g.1.0))
  deep_pick true us left (part k) r q c g = absurd (omega (arith, heads g.1.0))
  deep_pick false us left (part k) r q c g = absurd (omega (arith, heads g.1.0))

  -- a reply that goes deeper
  pub deep_reply : (n : Bool) (us : List Strategy) (left : ℕ) (p : Outline) (r : List ℕ) → IsOutlineInOrder size p → RefersBack us p
      → OutlineGoesDeep size us left p (naming_text n ++ (replies_symbol ∷ r)) → BranchesDeepAt size us left 0 r
  deep_reply n us left ended r q c g = absurd g
  deep_reply true us zero (picked true t p) r q c g = absurd (omega (arith, heads (tails g.1)))
  deep_reply true us zero (picked false t p) r q c g = absurd (omega (arith, heads g.1))
  deep_reply true us (suc left) (picked true t p) r q c g = absurd (omega (arith, heads (tails g.1.0)))
  deep_reply true us (suc left) (picked false t p) r q c g = absurd (omega (arith, heads g.1.0))
  deep_reply false us zero (picked true t p) r q c g = absurd (omega (arith, heads g.1))
  deep_reply false us zero (picked false t p) r q c g = absurd (omega (arith, heads g.1))
  deep_reply false us (suc left) (picked true t p) r q c g = absurd (omega (arith, heads g.1.0))
  deep_reply false us (suc left) (picked false t p) r q c g = absurd (omega (arith, heads g.1.0))
  deep_reply true us left (replied true cs) r q c g =
      record { branches = cs; closed = c; orderly = q; deep = subst (BranchesGoDeep size us left cs) (sym (tails (tails g.1.0))) g.1.1 }
  deep_reply true us left (replied false cs) r q c g = absurd (omega (arith, heads g.1.0))
  deep_reply false us left (replied true cs) r q c g = absurd (omega (arith, heads g.1.0))
  deep_reply false us left (replied false cs) r q c g =
      record { branches = cs; closed = c; orderly = q; deep = subst (BranchesGoDeep size us left cs) (sym (tails g.1.0)) g.1.1 }
  deep_reply true us left (part k) r q c g = absurd (omega (arith, heads g.1.0))
  deep_reply false us left (part k) r q c g = absurd (omega (arith, heads g.1.0))

  -- branches that go deeper where a turn stands: inside the first, or behind it
  pub record DeepBehind (us : List Strategy) (left least : ℕ) (t : Turn) (mid : List ℕ) : Type 0 where
    pub rises : least ≤ turn_number_on_size size t
    pub more : (m : ℕ) → left ≡ suc m → OutlineDeepAt size us m mid
        ⊎ ((p : Outline) × ((y : List ℕ) × (OutlineAt size us p (depth (unfolded us p)) mid y × BranchesDeepAt size (named_trees_after us p) left (turn_number_on_size size t + 1) y)))

  pub deep_behind : (us : List Strategy) (left least : ℕ) (t : Turn) (now mid : List ℕ) → now ≡ turn_text size t ++ mid → BranchesDeepAt size us left least now
      → DeepBehind us left least t mid
  deep_behind us left least t now mid e k = pass left k.branches k.closed k.orderly k.deep
    where
      turn_is : (v : Turn) (y : List ℕ) → now ≡ turn_text size v ++ y → (t ≡ v) × (mid ≡ y)
      turn_is v y g = let h = sym e ∙ g in (same_turn size size.columns_in.0 t v (heads h) (heads (tails h)), tails (tails h))

      pass : (l : ℕ) (cs : Branches) → BranchesReferBack us cs → AreBranchesInOrder size least cs → BranchesGoDeep size us l cs now → DeepBehind us l least t mid
      pass l no_branch c q g = absurd g
      pass zero (branch v p cs) c q g =
          record { rises = subst (λ x. least ≤ turn_number_on_size size x) (sym (turn_is v g.0 g.1).0) q.0; more = λ m h. absurd (no_more m h) }
      pass (suc l) (branch v p cs) c q (inl g) =
          let same = turn_is v g.0 g.1.0 in record {
            rises = subst (λ x. least ≤ turn_number_on_size size x) (sym same.0) q.0;
            more = λ m h. inl (subst (λ j. OutlineDeepAt size us j mid) (less l m h)
                (record { outline = p; closed = c.0; orderly = q.2; deep = subst (OutlineGoesDeep size us l p) (sym same.1) g.1.1 }));
          }
      pass (suc l) (branch v p cs) c q (inr g) =
          let same = turn_is v (outline_text size p ++ g.0) g.1.0 in record {
            rises = subst (λ x. least ≤ turn_number_on_size size x) (sym same.0) q.0;
            more = λ m h. inr (
              p,
              (
                g.0,
                (
                  record {
                    closed = c.0;
                    orderly = q.2;
                    deep = refl;
                    text = same.1;
                    ends = ends_before p g.0 (deep_no_digit (named_trees_after us p) (suc l) cs g.0 g.1.1);
                  },
                  record {
                    branches = cs;
                    closed = c.1;
                    orderly = subst (λ x. AreBranchesInOrder size (turn_number_on_size size x + 1) cs) (sym same.0) q.3;
                    deep = g.1.1;
                  },
                ),
              ),
            );
          }
