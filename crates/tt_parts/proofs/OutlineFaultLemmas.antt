-- When the reader of certificates with shared parts refuses.
use Rattle.std.proofs.Common.{◌≡◌, ◌≤◌, ◌<◌, ◌+◌, ℕ, zero, suc, ◌⊎◌, inl, inr, Bool, true, false, arith, List, [], ◌∷◌, ◌++◌, ◌∙◌, refl, sym, ap, subst, length, get_or, map, decimal}
use Rattle.std.proofs.lemmas.List.{append-nil, length-map}
use Rattle.tt_sgf.specs.Bytes.{semicolon}
use Rattle.tt_sgf.specs.declared.size.Size.{Size}
use Rattle.tt_game.specs.declared.frame.Side.{Side}
use Rattle.tt_game.specs.declared.frame.Side.TheVariants.{Attacker, Defender}
use Rattle.tt_game.specs.declared.turns.Turn.{Turn}
use Rattle.tt_parts.specs.declared.outlines.Outline as form
use Rattle.tt_proof.specs.declared.certificate_read.CertFault.{CertFault}
use Rattle.tt_proof.specs.declared.certificate_read.CertFault.TheVariants.{Syntax, TooDeep, NoMemory}
use Rattle.tt_proof.specs.Strategy.{Strategy, done, depth, IsTurnOnBoardOfSize, turn_number_on_size}
use Rattle.tt_proof.specs.CertificateText.{won_symbol, pick_symbol, replies_symbol, turn_text, side_prefix}
use Rattle.tt_parts.specs.SharedCertFaults.{IsSharedCertFault}
use Rattle.tt_parts.specs.Outlines.{Outline, Branches, ended, picked, replied, part, no_branch, branch, unfolded}
use Rattle.tt_parts.specs.Outlines.{naming_symbol, naming_text, part_symbol, named_trees_after, outline_text, branches_text, RefersBack, IsOutlineInOrder}
use Rattle.tt_parts.specs.Outlines.{AreBranchesInOrder, OutlineGoesDeep, BranchesGoDeep, IsSharedCertTooDeep}
use Rattle.tt_parts.specs.inside.OutlineReading.{HasNoDigitInFront, OutlineAt, BranchesAt, ReadsOutline, OutlineDeepAt, BranchesDeepAt, OutlineFaultAt, BranchesFaultAt}
use Rattle.tt_proof.proofs.TextLemmas.{heads, tails}
use Rattle.tt_proof.proofs.CertificateLemmas.{side_apart}
use Rattle.tt_parts.proofs.NameLemmas.{same_number}
use Rattle.tt_parts.proofs.OutlineLawLemmas.{ends_before, same_outline}
use Rattle.tt_parts.proofs.OutlineDeepLemmas.{NameAt, PickAt, name_at, pick_at, reply_at, branch_behind, deep_name, deep_pick, deep_reply, deep_behind, apart}
use Rattle.tt_parts.proofs.OutlineReadLemmas.{there, Walked, before}
use Rattle.tt_proof.proofs.ReadLemmas.{NoTurn}

module _ (size : Size) where
  -- ---- the first byte

  -- where no symbol stands, there is no outline
  pub no_outline : (left : ℕ) (old r : List ℕ) → ((b : ℕ) (w : List ℕ) → r ≡ b ∷ w →
      (b ≡ won_symbol → ⊥) × (b ≡ part_symbol → ⊥) × (b ≡ naming_symbol → ⊥) × (b ≡ pick_symbol → ⊥) × (b ≡ replies_symbol → ⊥))
      → OutlineFaultAt size left old r Syntax
  no_outline left old r h = (λ us g o d y at. no o y at.text, λ us g k. none us left k.outline k.deep)
    where
      none : (us : List Strategy) (m : ℕ) (p : Outline) → OutlineGoesDeep size us m p r → ⊥
      none us m ended g = g
      none us zero (picked true t o) g = (h _ _ g.1).2 refl
      none us zero (picked false t o) g = (h _ _ g.1).3 refl
      none us (suc m) (picked true t o) g = (h _ _ g.1.0).2 refl
      none us (suc m) (picked false t o) g = (h _ _ g.1.0).3 refl
      none us m (replied true bs) g = (h _ _ g.1.0).2 refl
      none us m (replied false bs) g = (h _ _ g.1.0).4 refl
      none us m (part k) g = (h _ _ g.1.0).1 refl

      no : (o : Outline) (y : List ℕ) → r ≡ outline_text size o ++ y → ⊥
      no ended y e = (h _ _ e).0 refl
      no (picked true t o) y e = (h _ _ e).2 refl
      no (picked false t o) y e = (h _ _ e).3 refl
      no (replied true bs) y e = (h _ _ e).2 refl
      no (replied false bs) y e = (h _ _ e).4 refl
      no (part k) y e = (h _ _ e).1 refl

  -- nor behind a `=` where neither `!` nor `?` does
  pub no_named : (left : ℕ) (old r : List ℕ) → ((b : ℕ) (w : List ℕ) → r ≡ b ∷ w → (b ≡ pick_symbol → ⊥) × (b ≡ replies_symbol → ⊥))
      → OutlineFaultAt size left old (naming_symbol ∷ r) Syntax
  no_named left old r h = (λ us g o d y at. no o y at.text, λ us g k. none us left k.outline k.deep)
    where
      none : (us : List Strategy) (m : ℕ) (p : Outline) → OutlineGoesDeep size us m p (naming_symbol ∷ r) → ⊥
      none us m ended g = g
      none us zero (picked true t o) g = (h _ _ (tails g.1)).0 refl
      none us zero (picked false t o) g = omega (arith, heads g.1)
      none us (suc m) (picked true t o) g = (h _ _ (tails g.1.0)).0 refl
      none us (suc m) (picked false t o) g = omega (arith, heads g.1.0)
      none us m (replied true bs) g = (h _ _ (tails g.1.0)).1 refl
      none us m (replied false bs) g = omega (arith, heads g.1.0)
      none us m (part k) g = omega (arith, heads g.1.0)

      no : (o : Outline) (y : List ℕ) → naming_symbol ∷ r ≡ outline_text size o ++ y → ⊥
      no ended y e = omega (arith, heads e)
      no (picked true t o) y e = (h _ _ (tails e)).0 refl
      no (picked false t o) y e = omega (arith, heads e)
      no (replied true bs) y e = (h _ _ (tails e)).1 refl
      no (replied false bs) y e = omega (arith, heads e)
      no (part k) y e = omega (arith, heads e)

  -- ---- a part

  pub no_name : (left : ℕ) (old r : List ℕ) → ((k : ℕ) (y : List ℕ) → k < 1000000000 → HasNoDigitInFront y → r ≡ decimal k ++ y → ⊥)
      → OutlineFaultAt size left old (part_symbol ∷ r) Syntax
  no_name left old r h = (
    λ us g o d y at. let w = name_at size us o d r y at in h w.name y w.small w.none w.text,
    λ us g k. let w = deep_name size us left k.outline r k.closed k.deep in h w.name w.behind w.small w.none w.text,
  )

  module _ (left : ℕ) (old r rest : List ℕ) (n : ℕ) (small : n < 1000000000) (none : HasNoDigitInFront rest) (text : r ≡ decimal n ++ rest) where
    same_name : (us : List Strategy) (d : ℕ) (y : List ℕ) (w : NameAt size us d r y) → n ≡ w.name
    same_name us d y w =
        (same_number n w.name rest y (omega (arith, small)) (let s = w.small in omega (arith, s)) none w.none (sym text ∙ w.text)).0

    -- a name that no tree has
    pub name_ahead : length old ≤ n → OutlineFaultAt size left old (part_symbol ∷ r) Syntax
    name_ahead ahead = (
      λ us g o d y at.
          let w = name_at size us o d r y at in
          let same = same_name us d y w in
          let back = w.back in
          omega (arith, same, back, ahead, ap length g, length-map us depth),
      λ us g k.
          let w = deep_name size us left k.outline r k.closed k.deep in
          let same = (same_number n w.name rest w.behind (omega (arith, small)) (let s = w.small in omega (arith, s)) none w.none (sym text ∙ w.text)).0 in
          let back = w.back in
          omega (arith, same, back, ahead, ap length g, length-map us depth),
    )

    -- the name of a tree that is too deep
    pub name_deep : (e : ℕ) → n < length old → e ≡ get_or old n e → left < e → OutlineFaultAt size left old (part_symbol ∷ r) TooDeep
    name_deep e lt is deep = (only, begins)
      where
        named : (us : List Strategy) → map depth us ≡ old → (n < length us) × (depth (get_or us n done) ≡ e)
        named us g = there us n e (subst (λ xs. n < length xs) (sym g) lt) (subst (λ xs. e ≡ get_or xs n e) (sym g) is)

        only : (us : List Strategy) → map depth us ≡ old → (o : Outline) (d : ℕ) (y : List ℕ) → OutlineAt size us o d (part_symbol ∷ r) y → left < d
        only us g o d y at =
            let w = name_at size us o d r y at in
            let same = same_name us d y w in
            let h = named us g in
            let found = ap (λ k. depth (get_or us k done)) same in
            let is_d = w.deep in
            omega (arith, deep, h.1, found, is_d)

        begins : (us : List Strategy) → map depth us ≡ old → OutlineDeepAt size us left (part_symbol ∷ r)
        begins us g = let h = named us g in record {
          outline = part n;
          closed = (h.0, small);
          orderly = tt;
          deep = (rest, (ap (λ w. part_symbol ∷ w) text, none, omega (arith, deep, h.1)));
        }

  -- ---- a pick

  pub no_turn : (n : Bool) (left : ℕ) (old r : List ℕ) → NoTurn size r → OutlineFaultAt size left old (naming_text n ++ (pick_symbol ∷ r)) Syntax
  no_turn n left old r h = (
    λ us g o d y at. let w = pick_at size n us o d r y at in h w.turn (outline_text size w.outline ++ y) w.on w.text,
    λ us g k. let w = deep_pick size n us left k.outline r k.orderly k.closed k.deep in h w.turn w.behind w.on w.text,
  )

  pub no_room : (n : Bool) (old : List ℕ) (t : Turn) (r after : List ℕ) → IsTurnOnBoardOfSize size t → r ≡ turn_text size t ++ after
      → OutlineFaultAt size 0 old (naming_text n ++ (pick_symbol ∷ r)) TooDeep
  no_room n old t r after on e = (
    λ us g o d y at. let w = pick_at size n us o d r y at in let deep = w.deep in omega (arith, deep),
    λ us g. record { outline = picked n t ended; closed = tt; orderly = (on, tt); deep = (after, ap (λ w. naming_text n ++ (pick_symbol ∷ w)) e) },
  )

  pub pick_fault : (n : Bool) (left : ℕ) (old : List ℕ) (t : Turn) (r after : List ℕ) (f : CertFault) → IsTurnOnBoardOfSize size t → r ≡ turn_text size t ++ after
      → OutlineFaultAt size left old after f → OutlineFaultAt size (suc left) old (naming_text n ++ (pick_symbol ∷ r)) f
  pick_fault n left old t r after f on e h = by f h
    where
      inside : (us : List Strategy) (d : ℕ) (y : List ℕ) (w : PickAt size us d r y) → OutlineAt size us w.outline (depth (unfolded us w.outline)) after y
      inside us d y w =
          record { closed = w.closed; orderly = w.orderly; deep = refl; text = tails (tails (sym e ∙ w.text)); ends = w.ends }

      by : (f : CertFault) → OutlineFaultAt size left old after f → OutlineFaultAt size (suc left) old (naming_text n ++ (pick_symbol ∷ r)) f
      by Syntax h = (
        λ us g o d y at. let w = pick_at size n us o d r y at in h.0 us g w.outline (depth (unfolded us w.outline)) y (inside us d y w),
        λ us g k.
            let w = deep_pick size n us (suc left) k.outline r k.orderly k.closed k.deep in
            h.1 us g (subst (OutlineDeepAt size us left) (tails (tails (sym w.text ∙ e))) (w.inside left refl)),
      )
      by TooDeep h = (
        λ us g o d y at.
            let w = pick_at size n us o d r y at in
            let low = h.0 us g w.outline (depth (unfolded us w.outline)) y (inside us d y w) in
            let deep = w.deep in
            omega (arith, low, deep),
        λ us g. let w = h.1 us g in record {
          outline = picked n t w.outline;
          closed = w.closed;
          orderly = (on, w.orderly);
          deep = (after, (ap (λ w. naming_text n ++ (pick_symbol ∷ w)) e, w.deep));
        },
      )
      by NoMemory h = tt

  -- ---- a reply

  pub reply_fault : (n : Bool) (left : ℕ) (old r : List ℕ) (f : CertFault) → BranchesFaultAt size left old 0 r f
      → OutlineFaultAt size left old (naming_text n ++ (replies_symbol ∷ r)) f
  reply_fault n left old r Syntax h = (
    λ us g o d y at. let w = reply_at size n us o d r y at in h.0 us g w.0 d y w.1,
    λ us g k. h.1 us g (deep_reply size n us left k.outline r k.orderly k.closed k.deep),
  )
  reply_fault n left old r TooDeep h = (
    λ us g o d y at. let w = reply_at size n us o d r y at in h.0 us g w.0 d y w.1,
    λ us g. let w = h.1 us g in record { outline = replied n w.branches; closed = w.closed; orderly = w.orderly; deep = (r, (refl, w.deep)) },
  )
  reply_fault n left old r NoMemory h = tt

  -- ---- branches

  -- where neither `;` nor a turn stands, there are none
  pub no_branches : (left : ℕ) (old : List ℕ) (least : ℕ) (now : List ℕ) → ((y : List ℕ) → now ≡ semicolon ∷ y → ⊥) → NoTurn size now
      → BranchesFaultAt size left old least now Syntax
  no_branches left old least now end turn = (λ us g bs d y at. no us bs d y at, λ us g k. none us left k.branches k.orderly k.deep)
    where
      none : (us : List Strategy) (m : ℕ) (cs : Branches) → AreBranchesInOrder size least cs → BranchesGoDeep size us m cs now → ⊥
      none us m no_branch q g = g
      none us zero (branch t o cs) q g = turn t g.0 q.1 g.1
      none us (suc m) (branch t o cs) q (inl g) = turn t g.0 q.1 g.1.0
      none us (suc m) (branch t o cs) q (inr g) = turn t (outline_text size o ++ g.0) q.1 g.1.0

      no : (us : List Strategy) (bs : Branches) (d : ℕ) (y : List ℕ) → BranchesAt size us least bs d now y → ⊥
      no us no_branch d y at = end y at.text
      no us (branch t o bs) d y at = turn t ((outline_text size o ++ branches_text size bs) ++ y) at.orderly.1 at.text

  module _ (old : List ℕ) (least : ℕ) (now mid : List ℕ) (t : Turn) (e : now ≡ turn_text size t ++ mid) where
    pub not_rising : (left : ℕ) → turn_number_on_size size t < least → BranchesFaultAt size left old least now Syntax
    not_rising left falls = (
      λ us g bs d y at. let w = branch_behind size us least d t now mid y bs e at in let rises = w.rises in omega (arith, rises, falls),
      λ us g k. let w = deep_behind size us left least t now mid e k in let rises = w.rises in omega (arith, rises, falls),
    )

    pub no_room_below : IsTurnOnBoardOfSize size t → least ≤ turn_number_on_size size t → BranchesFaultAt size 0 old least now TooDeep
    no_room_below on rises = (
      λ us g bs d y at. let w = branch_behind size us least d t now mid y bs e at in let deep = w.deep in omega (arith, deep),
      λ us g. record { branches = branch t ended no_branch; closed = (tt, tt); orderly = (rises, on, tt, tt); deep = (mid, e) },
    )

    pub branch_fault : (left : ℕ) (f : CertFault) → IsTurnOnBoardOfSize size t → least ≤ turn_number_on_size size t → OutlineFaultAt size left old mid f
        → BranchesFaultAt size (suc left) old least now f
    branch_fault left Syntax on rises h = (
      λ us g bs d y at.
          let w = branch_behind size us least d t now mid y bs e at in
          h.0 us g w.outline (depth (unfolded us w.outline)) (branches_text size w.branches ++ y) w.inside,
      λ us g k. pass us g ((deep_behind size us (suc left) least t now mid e k).more left refl),
    )
      where
        pass : (us : List Strategy) → map depth us ≡ old → OutlineDeepAt size us left mid
            ⊎ ((p : Outline) × ((y : List ℕ) × (OutlineAt size us p (depth (unfolded us p)) mid y
            × BranchesDeepAt size (named_trees_after us p) (suc left) (turn_number_on_size size t + 1) y))) → ⊥
        pass us g (inl w) = h.1 us g w
        pass us g (inr w) = h.0 us g w.0 (depth (unfolded us w.0)) w.1.0 w.1.1.0
    branch_fault left TooDeep on rises h = (
      λ us g bs d y at.
          let w = branch_behind size us least d t now mid y bs e at in
          let low = h.0 us g w.outline (depth (unfolded us w.outline)) (branches_text size w.branches ++ y) w.inside in
          let deep = w.deep in
          omega (arith, low, deep),
      λ us g. let w = h.1 us g in record {
        branches = branch t w.outline no_branch;
        closed = (w.closed, tt);
        orderly = (rises, on, w.orderly, tt);
        deep = inl (mid, (e, w.deep));
      },
    )
    branch_fault left NoMemory on rises h = tt

  -- a fault at the byte that was reached is one at the start
  pub walked_fault : (left least most : ℕ) (old new bytes now : List ℕ) (list : List (Turn × form.Outline)) (f : CertFault)
      → ((us : List Strategy) → map depth us ≡ old → Walked size us least bytes now list most new)
      → most ≤ left → BranchesFaultAt size left new least now f → BranchesFaultAt size left old 0 bytes f
  walked_fault left least most old new bytes now list Syntax ws low h = (
    λ us g bs d y at.
        let w = ws us g in
        let r = w.only bs d y at in
        h.0 w.names w.deep r.0 r.1.0 y r.1.1.1,
    λ us g k. let w = ws us g in h.1 w.names w.deep (w.stays left low k),
  )
  walked_fault left least most old new bytes now list TooDeep ws room h = (
    λ us g bs d y at.
        let w = ws us g in
        let r = w.only bs d y at in
        let low = h.0 w.names w.deep r.0 r.1.0 y r.1.1.1 in
        omega (arith, low, r.1.1.0),
    λ us g.
        let w = ws us g in
        let k = h.1 w.names w.deep in
        record {
          branches = before size list k.branches;
          closed = w.closes k.branches k.closed;
          orderly = w.orders k.branches k.orderly;
          deep = w.runs left k.branches k.deep;
        },
  )
  walked_fault left least most old new bytes now list NoMemory ws low h = tt

  -- ---- the whole

  module _ (bytes rest : List ℕ) (s : Side) (most_depth : ℕ) (text : bytes ≡ side_prefix s ++ rest) where
    rest_is : (side : Side) (o : Outline) → bytes ≡ side_prefix side ++ outline_text size o → rest ≡ outline_text size o ++ []
    rest_is side o e =
        (side_apart size size.columns_in.0 s side rest (outline_text size o) (sym text ∙ e)).1 ∙ sym (append-nil (outline_text size o))

    deep_rest : (w : IsSharedCertTooDeep size most_depth bytes) → OutlineGoesDeep size [] most_depth w.outline rest
    deep_rest w =
        subst (OutlineGoesDeep size [] most_depth w.outline) (sym (side_apart size size.columns_in.0 s w.side rest w.behind (sym text ∙ w.text)).1) w.deep

    whole_at : (side : Side) (o : Outline) → RefersBack [] o → IsOutlineInOrder size o → bytes ≡ side_prefix side ++ outline_text size o
        → OutlineAt size [] o (depth (unfolded [] o)) rest []
    whole_at side o c q e =
        record { closed = c; orderly = q; deep = refl; text = rest_is side o e; ends = ends_before o [] tt }

    -- a fault of the rest is one of the bytes
    pub shared_fault : (old : List ℕ) (f : CertFault) → old ≡ [] → OutlineFaultAt size most_depth old rest f → IsSharedCertFault size most_depth bytes f
    shared_fault old Syntax none h = (
      λ side o c q e. h.0 [] (sym none) o (depth (unfolded [] o)) [] (whole_at side o c q e),
      λ w. h.1 [] (sym none) (record { outline = w.outline; closed = w.closed; orderly = w.orderly; deep = deep_rest w }),
    )
    shared_fault old TooDeep none h = let k = h.1 [] (sym none) in (
      record { side = s; outline = k.outline; behind = rest; closed = k.closed; orderly = k.orderly; deep = k.deep; text = text },
      λ side o c q e. h.0 [] (sym none) o (depth (unfolded [] o)) [] (whole_at side o c q e),
    )
    shared_fault old NoMemory none h = tt

    -- where something follows an outline, the bytes are no certificate
    pub shared_more : (old new : List ℕ) (o : Outline) (d : ℕ) (y : List ℕ) → old ≡ [] → ReadsOutline size most_depth old new o d rest y
        → (y ≡ [] → ⊥) → IsSharedCertFault size most_depth bytes Syntax
    shared_more old new o d y none h n = (
      λ side p c q e.
          let k = h.at [] (sym none) in
          n (same_outline size size.columns_in.0 o p [] [] y [] k.closed c k.ends (ends_before p [] tt) (sym k.text ∙ rest_is side p e)).1,
      λ w. apart size w.outline o [] most_depth d rest y w.closed (h.at [] (sym none)) h.shallow (deep_rest w),
    )

  -- bytes that begin with the words of no side are no certificate
  pub no_side : (bytes : List ℕ) (most_depth : ℕ) → ((y : List ℕ) → bytes ≡ side_prefix Attacker ++ y → ⊥)
      → ((y : List ℕ) → bytes ≡ side_prefix Defender ++ y → ⊥) → IsSharedCertFault size most_depth bytes Syntax
  no_side bytes most_depth a d = (λ side o c q e. no side (outline_text size o) e, λ w. no w.side w.behind w.text)
    where
      no : (side : Side) (y : List ℕ) → bytes ≡ side_prefix side ++ y → ⊥
      no Attacker y e = a y e
      no Defender y e = d y e
