-- Certificates with shared parts have one reading, and those without are such.
use Rattle.std.proofs.Common.{◌≡◌, ◌≤◌, ◌+◌, ℕ, true, false, arith, inl, inr, None, List, [], ◌++◌, ◌∷◌, ◌∙◌, refl, sym, ap, subst, append_assoc}
use Rattle.std.proofs.lemmas.List.{append-nil}
use Rattle.tt_sgf.specs.declared.size.Size.{Size}
use Rattle.tt_game.specs.declared.turns.Turn.TheVariants.{Play, Pass}
use Rattle.tt_proof.specs.declared.tree.TheConstants.{MOST_DEPTH}
use Rattle.tt_proof.specs.Strategy.{Strategy, Entries, done, pick, reply, none, entry, depth, turn_number_on_size, IsInOrder, AreInOrder}
use Rattle.tt_proof.specs.CertificateText.{pick_symbol, replies_symbol, turn_text, tree_text, entries_text, side_prefix}
use Rattle.tt_parts.specs.Outlines.{Outline, Branches, ended, picked, replied, part, no_branch, branch, unfolded}
use Rattle.tt_parts.specs.Outlines.{unfolded_entries, named_trees_after, named_trees_after_branches, RefersBack, BranchesReferBack, IsOutlineInOrder, AreBranchesInOrder, outline_text, branches_text}
use Rattle.tt_parts.specs.inside.OutlineReading.{HasNoDigitInFront, EndsBefore}
use Rattle.tt_parts.specs.OutlineLaws.{OneOutlinePerCertificate, PlainIsSharedCertificate}
use Rattle.tt_game.specs.Game.{State, after}
use Rattle.tt_game.specs.declared.frame.Frame.{Frame}
use Rattle.tt_game.specs.declared.frame.Side.{Side}
use Rattle.tt_game.specs.declared.turns.Turn.{Turn}
use Rattle.tt_parts.specs.declared.position_footprint.PositionFootprint.{PositionFootprint}
use Rattle.tt_parts.specs.declared.outline_replay.ReplayResult.{ReplayResult}
use Rattle.tt_parts.specs.declared.outline_replay.ReplayResult.TheVariants.{Won, Lost, Unfit}
use Rattle.tt_parts.specs.SharedParts.{NamedFootprints, RestsBeforePick, RestsBeforeOpposingTurn, CombinesTo, IsResultBeforeTurn, IsResultOfDone, IsResultOfReply}
use Rattle.tt_parts.specs.SharedParts.{IsReplayOfOutline, IsReplayOfBranches, IsOutlineAnswer, wins_if_fit}
use Rattle.tt_parts.specs.inside.OutlineReplaying.{FindsPick, FindsReply, FindsBranch}
use Rattle.tt_proof.proofs.TextLemmas.{heads, tails, same_turn, turn_not_end}
use Rattle.tt_proof.proofs.CertificateLemmas.{side_apart}
use Rattle.tt_parts.proofs.NameLemmas.{same_number}

-- ---- one reading

-- where no digit follows, none follows a name at the end
pub ends_before : (o : Outline) (y : List ℕ) → HasNoDigitInFront y → EndsBefore o y
ends_before ended y n = tt
ends_before (picked b t o) y n = ends_before o y n
ends_before (replied b bs) y n = tt
ends_before (part k) y n = n

module _ (size : Size) (some : 1 ≤ size.columns) where
  -- neither a branch nor the end of a reply begins with a digit
  pub no_digit_behind : (bs : Branches) (y : List ℕ) → HasNoDigitInFront (branches_text size bs ++ y)
  no_digit_behind no_branch y = λ d. omega (arith, d.1)
  no_digit_behind (branch (Play p) o bs) y = λ d. omega (arith, d.1)
  no_digit_behind (branch Pass o bs) y = λ d. omega (arith, d.0)

  mutual
    -- a text tells the outline that it begins with, and what follows
    pub same_outline : (o p : Outline) (us vs : List Strategy) (y z : List ℕ) → RefersBack us o → RefersBack vs p → EndsBefore o y → EndsBefore p z
        → outline_text size o ++ y ≡ outline_text size p ++ z → (o ≡ p) × (y ≡ z)
    same_outline ended ended us vs y z c d ny nz e = (refl, tails e)
    same_outline ended (picked true s p) us vs y z c d ny nz e = absurd (omega (arith, heads e))
    same_outline ended (picked false s p) us vs y z c d ny nz e = absurd (omega (arith, heads e))
    same_outline ended (replied true cs) us vs y z c d ny nz e = absurd (omega (arith, heads e))
    same_outline ended (replied false cs) us vs y z c d ny nz e = absurd (omega (arith, heads e))
    same_outline ended (part m) us vs y z c d ny nz e = absurd (omega (arith, heads e))
    same_outline (picked true t o) ended us vs y z c d ny nz e = absurd (omega (arith, heads e))
    same_outline (picked true t o) (picked true s p) us vs y z c d ny nz e =
        let t_is = same_turn size some t s (heads (tails (tails e))) (heads (tails (tails (tails e)))) in
        let r = same_outline o p us vs y z c d ny nz (tails (tails (tails (tails e)))) in
        (ap (λ x. picked true x o) t_is ∙ ap (λ x. picked true s x) r.0, r.1)
    same_outline (picked true t o) (picked false s p) us vs y z c d ny nz e = absurd (omega (arith, heads e))
    same_outline (picked true t o) (replied true cs) us vs y z c d ny nz e = absurd (omega (arith, heads (tails e)))
    same_outline (picked true t o) (replied false cs) us vs y z c d ny nz e = absurd (omega (arith, heads e))
    same_outline (picked true t o) (part m) us vs y z c d ny nz e = absurd (omega (arith, heads e))
    same_outline (picked false t o) ended us vs y z c d ny nz e = absurd (omega (arith, heads e))
    same_outline (picked false t o) (picked true s p) us vs y z c d ny nz e = absurd (omega (arith, heads e))
    same_outline (picked false t o) (picked false s p) us vs y z c d ny nz e =
        let t_is = same_turn size some t s (heads (tails e)) (heads (tails (tails e))) in
        let r = same_outline o p us vs y z c d ny nz (tails (tails (tails e))) in
        (ap (λ x. picked false x o) t_is ∙ ap (λ x. picked false s x) r.0, r.1)
    same_outline (picked false t o) (replied true cs) us vs y z c d ny nz e = absurd (omega (arith, heads e))
    same_outline (picked false t o) (replied false cs) us vs y z c d ny nz e = absurd (omega (arith, heads e))
    same_outline (picked false t o) (part m) us vs y z c d ny nz e = absurd (omega (arith, heads e))
    same_outline (replied true bs) ended us vs y z c d ny nz e = absurd (omega (arith, heads e))
    same_outline (replied true bs) (picked true s p) us vs y z c d ny nz e = absurd (omega (arith, heads (tails e)))
    same_outline (replied true bs) (picked false s p) us vs y z c d ny nz e = absurd (omega (arith, heads e))
    same_outline (replied true bs) (replied true cs) us vs y z c d ny nz e =
        let r = same_branches bs cs us vs y z c d (tails (tails e)) in (ap (replied true) r.0, r.1)
    same_outline (replied true bs) (replied false cs) us vs y z c d ny nz e = absurd (omega (arith, heads e))
    same_outline (replied true bs) (part m) us vs y z c d ny nz e = absurd (omega (arith, heads e))
    same_outline (replied false bs) ended us vs y z c d ny nz e = absurd (omega (arith, heads e))
    same_outline (replied false bs) (picked true s p) us vs y z c d ny nz e = absurd (omega (arith, heads e))
    same_outline (replied false bs) (picked false s p) us vs y z c d ny nz e = absurd (omega (arith, heads e))
    same_outline (replied false bs) (replied true cs) us vs y z c d ny nz e = absurd (omega (arith, heads e))
    same_outline (replied false bs) (replied false cs) us vs y z c d ny nz e =
        let r = same_branches bs cs us vs y z c d (tails e) in (ap (replied false) r.0, r.1)
    same_outline (replied false bs) (part m) us vs y z c d ny nz e = absurd (omega (arith, heads e))
    same_outline (part k) ended us vs y z c d ny nz e = absurd (omega (arith, heads e))
    same_outline (part k) (picked true s p) us vs y z c d ny nz e = absurd (omega (arith, heads e))
    same_outline (part k) (picked false s p) us vs y z c d ny nz e = absurd (omega (arith, heads e))
    same_outline (part k) (replied true cs) us vs y z c d ny nz e = absurd (omega (arith, heads e))
    same_outline (part k) (replied false cs) us vs y z c d ny nz e = absurd (omega (arith, heads e))
    same_outline (part k) (part m) us vs y z c d ny nz e =
        let r = same_number k m y z (omega (arith, c.1)) (omega (arith, d.1)) ny nz (tails e) in (ap part r.0, r.1)

    -- so it does with branches
    same_branches : (bs cs : Branches) (us vs : List Strategy) (y z : List ℕ) → BranchesReferBack us bs → BranchesReferBack vs cs
        → branches_text size bs ++ y ≡ branches_text size cs ++ z → (bs ≡ cs) × (y ≡ z)
    same_branches no_branch no_branch us vs y z c d e = (refl, tails e)
    same_branches no_branch (branch s p cs) us vs y z c d e = absurd (turn_not_end size some s (sym (heads e)))
    same_branches (branch t o bs) no_branch us vs y z c d e = absurd (turn_not_end size some t (heads e))
    same_branches (branch t o bs) (branch s p cs) us vs y z c d e =
        let t_is = same_turn size some t s (heads e) (heads (tails e)) in
        let r = same_outline o p us vs (branches_text size bs ++ y) (branches_text size cs ++ z) c.0 d.0 (ends_before o _ (no_digit_behind bs y)) (ends_before p _ (no_digit_behind cs z))
        (sym (append_assoc (outline_text size o) (branches_text size bs) y) ∙ tails (tails e) ∙ append_assoc (outline_text size p) (branches_text size cs) z) in
        let q = same_branches bs cs (named_trees_after us o) (named_trees_after vs p) y z c.1 d.1 r.1 in
        (ap (λ x. branch x o bs) t_is ∙ ap (λ x. branch s x bs) r.0 ∙ ap (λ x. branch s p x) q.0, q.1)

pub one_shared : OneOutlinePerCertificate
one_shared size bytes s t o p a b =
    let some = size.columns_in.0 in
    let both = side_apart size some s t (outline_text size o) (outline_text size p) (sym a.text ∙ b.text) in
    let one = same_outline size some o p [] [] [] [] a.closed b.closed (ends_before o [] tt) (ends_before p [] tt)
    (append-nil (outline_text size o) ∙ both.1 ∙ sym (append-nil (outline_text size p))) in
    (both.0, one.0)

-- ---- a strategy as an outline without names

abbrev mutual
  plain : Strategy → Outline
  plain done = ended
  plain (pick t u) = picked false t (plain u)
  plain (reply es) = replied false (plain_all es)

  plain_all : Entries → Branches
  plain_all none = no_branch
  plain_all (entry t u es) = branch t (plain u) (plain_all es)

record IsPlain (size : Size) (us : List Strategy) (u : Strategy) (o : Outline) : Type 0 where
  tree : unfolded us o ≡ u
  names : named_trees_after us o ≡ us
  text : outline_text size o ≡ tree_text size u
  closed : RefersBack us o

record ArePlain (size : Size) (us : List Strategy) (es : Entries) (bs : Branches) : Type 0 where
  trees : unfolded_entries us bs ≡ es
  names : named_trees_after_branches us bs ≡ us
  text : branches_text size bs ≡ entries_text size es
  closed : BranchesReferBack us bs

mutual
  plain_is : (size : Size) (us : List Strategy) (u : Strategy) → IsPlain size us u (plain u)
  plain_is size us done = record { tree = refl; names = refl; text = refl; closed = tt }
  plain_is size us (pick t u) =
      let h = plain_is size us u in
      record { tree = ap (pick t) h.tree; names = h.names; text = ap (λ w. pick_symbol ∷ (turn_text size t ++ w)) h.text; closed = h.closed }
  plain_is size us (reply es) =
      let h = plain_all_is size us es in
      record { tree = ap reply h.trees; names = h.names; text = ap (λ w. replies_symbol ∷ w) h.text; closed = h.closed }

  plain_all_is : (size : Size) (us : List Strategy) (es : Entries) → ArePlain size us es (plain_all es)
  plain_all_is size us none = record { trees = refl; names = refl; text = refl; closed = tt }
  plain_all_is size us (entry t u es) =
      let h = plain_is size us u in
      let g = plain_all_is size us es in
      record {
        trees =
            ap (λ x. entry t x (unfolded_entries (named_trees_after us (plain u)) (plain_all es))) h.tree
            ∙ ap (λ vs. entry t u (unfolded_entries vs (plain_all es))) h.names ∙ ap (λ x. entry t u x) g.trees;
        names = ap (λ vs. named_trees_after_branches vs (plain_all es)) h.names ∙ g.names;
        text = ap (λ w. turn_text size t ++ (w ++ branches_text size (plain_all es))) h.text ∙ ap (λ w. turn_text size t ++ (tree_text size u ++ w)) g.text;
        closed = (h.closed, subst (λ vs. BranchesReferBack vs (plain_all es)) (sym h.names) g.closed);
      }

mutual
  plain_orderly : (size : Size) (u : Strategy) → IsInOrder size u → IsOutlineInOrder size (plain u)
  plain_orderly size done h = tt
  plain_orderly size (pick t u) h = (h.0, plain_orderly size u h.1)
  plain_orderly size (reply es) h = plain_all_orderly size 0 es h

  plain_all_orderly : (size : Size) (least : ℕ) (es : Entries) → AreInOrder size least es → AreBranchesInOrder size least (plain_all es)
  plain_all_orderly size least none h = tt
  plain_all_orderly size least (entry t u es) h = (h.0, h.1, plain_orderly size u h.2, plain_all_orderly size (turn_number_on_size size t + 1) es h.3)

-- ---- and none of its parts doesn't fit

abbrev IsFit : ReplayResult → Type 0
IsFit (Won x) = Unit {0}
IsFit Lost = Unit {0}
IsFit Unfit = ⊥

both_fit : (a b r : ReplayResult) → IsFit a → IsFit b → CombinesTo a b r → IsFit r
both_fit Unfit b r h k e = absurd h
both_fit Lost Unfit r h k e = absurd k
both_fit Lost Lost r h k e = subst IsFit (sym e) tt
both_fit Lost (Won y) r h k e = subst IsFit (sym e) tt
both_fit (Won x) Unfit r h k e = absurd k
both_fit (Won x) Lost r h k e = subst IsFit (sym e) tt
both_fit (Won x) (Won y) r h k e = subst IsFit (sym e.1.0) tt

before_fit : (Rests : PositionFootprint → PositionFootprint → Type 0) (q r : ReplayResult) → IsFit q → IsResultBeforeTurn Rests q r → IsFit r
before_fit Rests (Won x) r h e = subst IsFit (sym e.1.0) tt
before_fit Rests Lost r h e = subst IsFit (sym e) tt
before_fit Rests Unfit r h e = absurd h

module _ (side : Side) (f : Frame) where
  end_fit : (s : State) (r : ReplayResult) → IsResultOfDone side f s r → IsFit r
  end_fit s (Won x) e = tt
  end_fit s Lost e = tt
  end_fit s Unfit e = e

  reply_fit : (s : State) (bs : Branches) (q r : ReplayResult) → IsFit q → IsResultOfReply f s bs q r → IsFit r
  reply_fit s bs (Won x) (Won y) h e = tt
  reply_fit s bs (Won x) Lost h e = tt
  reply_fit s bs (Won x) Unfit h e = e
  reply_fit s bs Lost r h e = subst IsFit (sym e) tt
  reply_fit s bs Unfit r h e = absurd h

  pick_fit : (ns : NamedFootprints) (t : Turn) (o : Outline) (s : State) (r : ReplayResult) (ms : NamedFootprints)
      → ((q : ReplayResult) → IsReplayOfOutline side f ns o (after f s t) q ms → IsFit q) → FindsPick side f ns t o s r ms → IsFit r
  pick_fit ns t o s r ms h (inl w) = before_fit (RestsBeforePick f s t) w.2.0 r (h w.2.0 w.2.1.0) w.2.1.1
  pick_fit ns t o s r ms h (inr w) = subst IsFit (sym w.1) tt

  branch_fit : (ns : NamedFootprints) (t : Turn) (o : Outline) (s : State) (r : ReplayResult) (ms : NamedFootprints)
      → ((q : ReplayResult) → IsReplayOfOutline side f ns o (after f s t) q ms → IsFit q) → FindsBranch side f ns t o s r ms → IsFit r
  branch_fit ns t o s r ms h (inl w) = before_fit (RestsBeforeOpposingTurn f s t) w.1.0 r (h w.1.0 w.1.1.0) w.1.1.1
  branch_fit ns t o s r ms h (inr w) = subst IsFit (sym w.1.1.0) tt

  all_fit : (ns : NamedFootprints) (bs : Branches) (s : State) (r : ReplayResult) (ms : NamedFootprints) → ((q : ReplayResult) → IsReplayOfBranches side f ns bs s q ms → IsFit q)
      → FindsReply side f ns bs s r ms → IsFit r
  all_fit ns bs s r ms h (inl w) =
      let e = w.2.1.0 in reply_fit s bs w.2.0 r (both_fit (Won e.0) e.1.1.0 w.2.0 tt (h e.1.1.0 e.1.1.1.0) e.1.1.1.1) w.2.1.1
  all_fit ns bs s r ms h (inr w) = subst IsFit (sym w.1) tt

  mutual
    plain_fit : (u : Strategy) (ns : NamedFootprints) (s : State) (r : ReplayResult) (ms : NamedFootprints) → IsReplayOfOutline side f ns (plain u) s r ms → IsFit r
    plain_fit done ns s r ms e = end_fit s r e.0
    plain_fit (pick t u) ns s r ms e = pick_fit ns t (plain u) s r e.0 (λ q g. plain_fit u ns (after f s t) q e.0 g) e.1.1
    plain_fit (reply es) ns s r ms e = all_fit ns (plain_all es) s r e.0 (λ q g. plain_all_fit es ns s q e.0 g) e.1.1

    plain_all_fit : (es : Entries) (ns : NamedFootprints) (s : State) (r : ReplayResult) (ms : NamedFootprints) → IsReplayOfBranches side f ns (plain_all es) s r ms → IsFit r
    plain_all_fit none ns s r ms e = subst IsFit (sym e.0.1.0) tt
    plain_all_fit (entry t u es) ns s r ms e =
        both_fit e.0 e.1.0 r (branch_fit ns t (plain u) s e.0 e.1.1.0 (λ q g. plain_fit u ns (after f s t) q e.1.1.0 g) e.1.1.1.0)
        (plain_all_fit es e.1.1.0 s e.1.0 ms e.1.1.1.1) e.1.1.1.2

  fit_says : (o : Outline) (s : State) → ((r : ReplayResult) (ms : NamedFootprints) → IsReplayOfOutline side f [] o s r ms → IsFit r) → IsOutlineAnswer side f o s None → ⊥
  fit_says o s h e = pass e.0 (h e.0 e.1.0 e.1.1.0) e.1.1.1
    where
      pass : (r : ReplayResult) → IsFit r → None ≡ wins_if_fit r → ⊥
      pass (Won x) k d = cc
      pass Lost k d = cc
      pass Unfit k d = k

pub certificates_shared : PlainIsSharedCertificate
certificates_shared size bytes s u c =
    let h = plain_is size [] u in (
      plain u,
      (
        record {
          closed = h.closed;
          orderly = plain_orderly size u c.in_order;
          shallow = subst (λ x. depth x ≤ MOST_DEPTH) (sym h.tree) c.shallow;
          text = c.text ∙ ap (λ w. side_prefix s ++ w) (sym h.text);
        },
        h.tree,
        λ side f at. fit_says side f (plain u) at (λ r ms. plain_fit side f u [] at r ms),
      ),
    )
