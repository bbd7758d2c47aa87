-- What the reader of certificates with shared parts knows at each byte.
use Rattle.std.proofs.Common.{◌≡◌, ◌≤◌, ◌<◌, ◌+◌, ℕ, zero, suc, ◌⊎◌, inl, inr, Bool, true, false, max, arith, List, [], ◌∷◌, ◌++◌, ◌∙◌, refl, sym, ap, subst}
use Rattle.std.proofs.Common.{append_assoc, length, get_or, map, decimal}
use Rattle.std.proofs.lemmas.List.{map-append, append-nil}
use Rattle.tt_sgf.specs.Bytes.{semicolon}
use Rattle.tt_sgf.specs.declared.size.Size.{Size}
use Rattle.tt_game.specs.declared.frame.Side.{Side}
use Rattle.tt_game.specs.declared.turns.Turn.{Turn}
use Rattle.tt_parts.specs.declared.outlines.Outline as form
use Rattle.tt_proof.specs.declared.tree.TheConstants.{MOST_DEPTH}
use Rattle.tt_proof.specs.Strategy.{Strategy, done, depth, depth_of_entries, IsTurnOnBoardOfSize, turn_number_on_size}
use Rattle.tt_proof.specs.CertificateText.{won_symbol, pick_symbol, replies_symbol, turn_text, side_prefix}
use Rattle.tt_parts.specs.Outlines.{Outline, Branches, ended, picked, replied, part, no_branch, branch, with_named_tree, unfolded_entries, unfolded}
use Rattle.tt_parts.specs.Outlines.{named_trees_after, named_trees_after_branches, outline_of, branches_of_reply, naming_text, part_symbol, outline_text}
use Rattle.tt_parts.specs.Outlines.{branches_text, BranchesGoDeep, IsSharedCertificate, AreBranchesInOrder, BranchesReferBack}
use Rattle.tt_parts.specs.inside.OutlineReading.{HasNoDigitInFront, with_depth, OutlineAt, BranchesAt, OutlineDeepAt, BranchesDeepAt, ReadsOutline, ReadsBranches}
use Rattle.tt_parts.proofs.OutlineLawLemmas.{same_outline}
use Rattle.tt_parts.proofs.OutlineDeepLemmas.{BranchBehind, branch_behind, deep_behind, apart}

-- a name more is a depth more
names_more : (n : Bool) (u : Strategy) (us : List Strategy) → map depth (with_named_tree n u us) ≡ with_depth n (depth u) (map depth us)
names_more true u us = map-append depth us (u ∷ [])
names_more false u us = refl

-- the tree that a name stands for has the depth at its index
pub there : (us : List Strategy) (k d : ℕ) → k < length (map depth us) → d ≡ get_or (map depth us) k d → (k < length us) × (depth (get_or us k done) ≡ d)
there [] k d lt e = absurd (omega (arith, lt))
there (u ∷ us) zero d lt e = (omega arith, sym e)
there (u ∷ us) (suc k) d lt e = let r = there us k d (omega (arith, lt)) e in (omega (arith, r.0), r.1)

module _ (size : Size) where
  pub reads_done : (left : ℕ) (ds r y : List ℕ) → r ≡ won_symbol ∷ y → ReadsOutline size left ds ds ended 0 r y
  reads_done left ds r y e =
      record { shallow = omega arith; at = λ us h. record { closed = tt; orderly = tt; deep = refl; text = e; ends = tt }; names = λ us h. h }

  pub reads_part : (left : ℕ) (ds : List ℕ) (k d : ℕ) (r y : List ℕ) → d ≤ left → k < length ds → k < 1000000000 → d ≡ get_or ds k d → HasNoDigitInFront y → r ≡ decimal k ++ y
      → ReadsOutline size left ds ds (part k) d (part_symbol ∷ r) y
  reads_part left ds k d r y low lt small e none text = record {
    shallow = low;
    at = λ us h. let w = there us k d (subst (λ xs. k < length xs) (sym h) lt) (subst (λ xs. d ≡ get_or xs k d) (sym h) e) in
        record { closed = (w.0, small); orderly = tt; deep = w.1; text = ap (λ w. part_symbol ∷ w) text; ends = none };
    names = λ us h. h;
  }

  pub reads_pick : (left e : ℕ) (old mid new : List ℕ) (n : Bool) (t : Turn) (o : Outline) (d : ℕ) (r after y : List ℕ) → left ≡ suc e
      → IsTurnOnBoardOfSize size t → r ≡ turn_text size t ++ after → ReadsOutline size e old mid o d after y → new ≡ with_depth n (d + 1) mid
      → ReadsOutline size left old new (picked n t o) (d + 1) (naming_text n ++ (pick_symbol ∷ r)) y
  reads_pick left e old mid new n t o d r after y room on at h more = record {
    shallow = let low = h.shallow in omega (arith, low, room);
    at = λ us g. let w = h.at us g in
        record {
          closed = w.closed;
          orderly = (on, w.orderly);
          deep = ap (λ x. x + 1) w.deep;
          text =
              ap (λ w. naming_text n ++ (pick_symbol ∷ w)) (at ∙ ap (λ w. turn_text size t ++ w) w.text)
              ∙ sym (append_assoc (naming_text n) (pick_symbol ∷ (turn_text size t ++ outline_text size o)) y);
          ends = w.ends;
        };
    names = λ us g.
        names_more n _ (named_trees_after us o)
        ∙ ap (λ x. with_depth n (x + 1) (map depth (named_trees_after us o))) (h.at us g).deep
        ∙ ap (with_depth n (d + 1)) (h.names us g) ∙ sym more;
  }

  pub reads_reply : (left : ℕ) (old mid new : List ℕ) (n : Bool) (bs : Branches) (d : ℕ) (r y : List ℕ) → ReadsBranches size left old mid 0 bs d r y
      → new ≡ with_depth n d mid → ReadsOutline size left old new (replied n bs) d (naming_text n ++ (replies_symbol ∷ r)) y
  reads_reply left old mid new n bs d r y h more = record {
    shallow = h.shallow;
    at = λ us g. let w = h.at us g in
        record {
          closed = w.closed;
          orderly = w.orderly;
          deep = w.deep;
          text =
              ap (λ w. naming_text n ++ (replies_symbol ∷ w)) w.text
              ∙ sym (append_assoc (naming_text n) (replies_symbol ∷ branches_text size bs) y);
          ends = tt;
        };
    names = λ us g.
        names_more n _ (named_trees_after_branches us bs)
        ∙ ap (λ x. with_depth n x (map depth (named_trees_after_branches us bs))) (h.at us g).deep
        ∙ ap (with_depth n d) (h.names us g) ∙ sym more;
  }

  -- ---- branches

  -- the list, and then bs
  abbrev pub before : List (Turn × form.Outline) → Branches → Branches
  before [] bs = bs
  before (b ∷ list) bs = branch b.0 (outline_of b.1) (before list bs)

  before_none : (list : List (Turn × form.Outline)) → before list no_branch ≡ branches_of_reply list
  before_none [] = refl
  before_none (b ∷ list) = ap (λ r. branch b.0 (outline_of b.1) r) (before_none list)

  before_push : (list : List (Turn × form.Outline)) (b : Turn × form.Outline) (bs : Branches)
      → before (list ++ b ∷ []) bs ≡ before list (branch b.0 (outline_of b.1) bs)
  before_push [] b bs = refl
  before_push (x ∷ list) b bs = ap (λ r. branch x.0 (outline_of x.1) r) (before_push list b bs)

  -- the list was read, with this depth; what is read from `now` on stands behind it, and whatever is read
  -- from the start on goes on so
  pub record Walked (us : List Strategy) (least : ℕ) (bytes now : List ℕ) (list : List (Turn × form.Outline)) (most : ℕ) (ds : List ℕ) : Type 0 where
    pub names : List Strategy
    pub deep : map depth names ≡ ds
    pub rest : (bs : Branches) (d : ℕ) (y : List ℕ) → BranchesAt size names least bs d now y → BranchesAt size us 0 (before list bs) (max most d) bytes y
    pub behind : (bs : Branches) → named_trees_after_branches us (before list bs) ≡ named_trees_after_branches names bs
    pub only : (bs : Branches) (d : ℕ) (y : List ℕ) → BranchesAt size us 0 bs d bytes y
        → (bs' : Branches) × ((d' : ℕ) × ((d' ≤ d) × BranchesAt size names least bs' d' now y))
    pub closes : (bs : Branches) → BranchesReferBack names bs → BranchesReferBack us (before list bs)
    pub orders : (bs : Branches) → AreBranchesInOrder size least bs → AreBranchesInOrder size 0 (before list bs)
    pub stays : (left : ℕ) → most ≤ left → BranchesDeepAt size us left 0 bytes → BranchesDeepAt size names left least now
    pub runs : (left : ℕ) (bs : Branches) → BranchesGoDeep size names left bs now → BranchesGoDeep size us left (before list bs) bytes

  pub walked_start : (us : List Strategy) (bytes : List ℕ) (ds : List ℕ) → map depth us ≡ ds → Walked us 0 bytes bytes [] 0 ds
  walked_start us bytes ds e = record {
    names = us;
    deep = e;
    rest = λ bs d y h. subst (λ m. BranchesAt size us 0 bs m bytes y) (let e : d ≡ max 0 d = omega arith in e) h;
    behind = λ bs. refl;
    only = λ bs d y h. (bs, (d, (omega arith, h)));
    closes = λ bs h. h;
    orders = λ bs h. h;
    stays = λ left low k. k;
    runs = λ left bs h. h;
  }

  -- one more branch is read
  pub walked_more : (us : List Strategy) (least number left e : ℕ) (bytes now mid after : List ℕ) (list list' : List (Turn × form.Outline)) (t : Turn)
      (o : form.Outline) (most most' d : ℕ) (old new : List ℕ) → Walked us least bytes now list most old → least ≤ number → number ≡ turn_number_on_size size t
      → IsTurnOnBoardOfSize size t → now ≡ turn_text size t ++ mid → ReadsOutline size e old new (outline_of o) d mid after
      → list' ≡ list ++ (t, o) ∷ [] → most' ≡ max most (d + 1) → Walked us (number + 1) bytes after list' most' new
  walked_more us least number left e bytes now mid after list list' t o most most' d old new w rises is on at h listed deeper = record {
    names = named_trees_after w.names (outline_of o);
    deep = h.names w.names w.deep;
    rest = λ bs m y g. rw (listed, before_push list (t, o) bs, deeper)
        (subst (λ k. BranchesAt size us 0 (before list (branch t (outline_of o) bs)) k bytes y)
        (let e : max most (max (d + 1) m) ≡ max (max most (d + 1)) m = omega arith in e)
        (w.rest (branch t (outline_of o) bs) (max (d + 1) m) y (one bs m y g)));
    behind = λ bs. ap (λ l. named_trees_after_branches us (before l bs)) listed ∙ ap (named_trees_after_branches us) (before_push list (t, o) bs) ∙ w.behind (branch t (outline_of o) bs);
    only = λ bs m y g. let r = w.only bs m y g in
        goes_on r.1.0 m y r.1.1.0 (branch_behind size w.names least r.1.0 t now mid y r.0 at r.1.1.1);
    closes = λ bs g. rw (listed, before_push list (t, o) bs) (w.closes (branch t (outline_of o) bs) ((h.at w.names w.deep).closed, g));
    orders = λ bs g. rw (listed, before_push list (t, o) bs)
        (w.orders (branch t (outline_of o) bs)
        (omega (arith, rises, is), on, (h.at w.names w.deep).orderly, subst (λ x. AreBranchesInOrder size (x + 1) bs) is g));
    stays = λ left low k. behind_this left low (w.stays left (omega (arith, low, deeper)) k);
    runs = λ left bs g. rw (listed, before_push list (t, o) bs) (w.runs left (branch t (outline_of o) bs) (run left bs g));
  }
    where
      -- what is read behind this branch
      goes_on : (k m : ℕ) (y : List ℕ) → k ≤ m → BranchBehind size w.names least k t mid y
          → (bs' : Branches) × ((d' : ℕ) × ((d' ≤ m) × BranchesAt size (named_trees_after w.names (outline_of o)) (number + 1) bs' d' after y))
      goes_on k m y low g =
          let here = h.at w.names w.deep in
          let same = same_outline size size.columns_in.0 (outline_of o) g.outline w.names w.names after (branches_text size g.branches ++ y)
          here.closed g.inside.closed here.ends g.inside.ends (sym here.text ∙ g.inside.text) in
          let deep = g.deep in
          let eq = ap (λ p. depth_of_entries (unfolded_entries (named_trees_after w.names p) g.branches)) same.0 in (
            g.branches,
            (
              depth_of_entries (unfolded_entries (named_trees_after w.names (outline_of o)) g.branches),
              (
                omega (arith, low, deep, eq),
                record {
                  closed = subst (λ p. BranchesReferBack (named_trees_after w.names p) g.branches) (sym same.0) g.closed;
                  orderly = subst (λ x. AreBranchesInOrder size (x + 1) g.branches) (sym is) g.orderly;
                  deep = refl;
                  text = same.1;
                },
              ),
            ),
          )

      -- what goes deeper does so behind this branch
      behind_this : (left : ℕ) → most' ≤ left → BranchesDeepAt size w.names left least now
          → BranchesDeepAt size (named_trees_after w.names (outline_of o)) left (number + 1) after
      behind_this zero low k = absurd (omega (arith, low, deeper))
      behind_this (suc m) low k = pass ((deep_behind size w.names (suc m) least t now mid at k).more m refl)
        where
          here : OutlineAt size w.names (outline_of o) d mid after
          here = h.at w.names w.deep

          pass : OutlineDeepAt size w.names m mid
              ⊎ ((p : Outline) × ((y : List ℕ) × (OutlineAt size w.names p (depth (unfolded w.names p)) mid y
              × BranchesDeepAt size (named_trees_after w.names p) (suc m) (turn_number_on_size size t + 1) y)))
              → BranchesDeepAt size (named_trees_after w.names (outline_of o)) (suc m) (number + 1) after
          pass (inl g) = absurd (apart size g.outline (outline_of o) w.names m d mid after g.closed here (omega (arith, low, deeper)) g.deep)
          pass (inr g) =
              let same = same_outline size size.columns_in.0 (outline_of o) g.0 w.names w.names after g.1.0 here.closed g.1.1.0.closed here.ends g.1.1.0.ends
              (sym here.text ∙ g.1.1.0.text) in
              subst (λ n. BranchesDeepAt size (named_trees_after w.names (outline_of o)) (suc m) n after) (ap (λ x. x + 1) (sym is))
              (subst (λ y. BranchesDeepAt size (named_trees_after w.names (outline_of o)) (suc m) (turn_number_on_size size t + 1) y) (sym same.1)
              (subst (λ p. BranchesDeepAt size (named_trees_after w.names p) (suc m) (turn_number_on_size size t + 1) g.1.0) (sym same.0) g.1.1.1))

      run : (left : ℕ) (bs : Branches) → BranchesGoDeep size (named_trees_after w.names (outline_of o)) left bs after → BranchesGoDeep size w.names left (branch t (outline_of o) bs) now
      run zero bs g = (mid, at)
      run (suc m) bs g = inr (after, (at ∙ ap (λ r. turn_text size t ++ r) (h.at w.names w.deep).text, g))

      one : (bs : Branches) (m : ℕ) (y : List ℕ) → BranchesAt size (named_trees_after w.names (outline_of o)) (number + 1) bs m after y
          → BranchesAt size w.names least (branch t (outline_of o) bs) (max (d + 1) m) now y
      one bs m y g = let k = h.at w.names w.deep in record {
        closed = (k.closed, g.closed);
        orderly = (omega (arith, rises, is), on, k.orderly, subst (λ x. AreBranchesInOrder size (x + 1) bs) is g.orderly);
        deep =
            ap (λ x. max (x + 1) (depth_of_entries (unfolded_entries (named_trees_after w.names (outline_of o)) bs))) k.deep
            ∙ ap (λ x. max (d + 1) x) g.deep;
        text =
            at ∙ ap (λ r. turn_text size t ++ r) (k.text ∙ ap (λ r. outline_text size (outline_of o) ++ r) g.text
            ∙ sym (append_assoc (outline_text size (outline_of o)) (branches_text size bs) y));
      }

  -- the end was read
  pub walked_end : (left least most : ℕ) (old new bytes now y : List ℕ) (list : List (Turn × form.Outline)) → most ≤ left
      → ((us : List Strategy) → map depth us ≡ old → Walked us least bytes now list most new) → now ≡ semicolon ∷ y
      → ReadsBranches size left old new 0 (branches_of_reply list) most bytes y
  walked_end left least most old new bytes now y list low w e = record {
    shallow = low;
    at = λ us h. let k = w us h in
        subst (λ bs. BranchesAt size us 0 bs most bytes y) (before_none list)
        (subst (λ m. BranchesAt size us 0 (before list no_branch) m bytes y) (let e : max most 0 ≡ most = omega arith in e)
        (k.rest no_branch 0 y (record { closed = tt; orderly = tt; deep = refl; text = e })));
    names = λ us h. let k = w us h in
        ap (λ bs. map depth (named_trees_after_branches us bs)) (sym (before_none list)) ∙ ap (map depth) (k.behind no_branch) ∙ k.deep;
  }

-- where nothing follows the outline, the bytes are its certificate
pub shared_read : (size : Size) (bytes rest : List ℕ) (s : Side) (old : List ℕ) (left : ℕ) (new : List ℕ) (o : Outline) (d : ℕ) (y : List ℕ)
    → bytes ≡ side_prefix s ++ rest → left ≤ MOST_DEPTH → old ≡ [] → ReadsOutline size left old new o d rest y → y ≡ [] → IsSharedCertificate size bytes s o
shared_read size bytes rest s old left new o d y at room none h e = let k = h.at [] (sym none) in record {
  closed = k.closed;
  orderly = k.orderly;
  shallow = let low = h.shallow in let deep = k.deep in omega (arith, low, deep, room);
  text = at ∙ ap (λ w. side_prefix s ++ w) (k.text ∙ ap (λ w. outline_text size o ++ w) e ∙ append-nil (outline_text size o));
}

-- and its tree is no deeper than was allowed
pub low_read : (size : Size) (old : List ℕ) (left : ℕ) (new : List ℕ) (o : Outline) (d : ℕ) (rest y : List ℕ) → old ≡ [] → ReadsOutline size left old new o d rest y
    → depth (unfolded [] o) ≤ left
low_read size old left new o d rest y none h = let low = h.shallow in let deep = (h.at [] (sym none)).deep in omega (arith, low, deep)
