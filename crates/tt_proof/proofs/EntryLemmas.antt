-- How far the entries of a reply were read.
use Rattle.std.proofs.Common.{◌≡◌, ◌≤◌, ◌<◌, ◌+◌, ℕ, zero, suc, ◌⊎◌, inl, inr, arith, List, [], ◌∷◌, ◌++◌, ◌∙◌, refl, sym, ap, subst, append_assoc}
use Rattle.tt_sgf.specs.Bytes.{semicolon}
use Rattle.tt_sgf.specs.declared.size.Size.{Size}
use Rattle.tt_game.specs.declared.turns.Turn.{Turn}
use Rattle.tt_proof.specs.declared.tree.Tree.{Tree}
use Rattle.tt_proof.specs.declared.certificate_read.CertFault.{CertFault}
use Rattle.tt_proof.specs.declared.certificate_read.CertFault.TheVariants.{Syntax, TooDeep, NoMemory}
use Rattle.tt_proof.specs.Strategy.{Strategy, Entries, done, none, entry, depth, depth_of_entries, IsTurnOnBoardOfSize, IsInOrder, AreInOrder, turn_number_on_size, strategy_of, entries_of_reply}
use Rattle.tt_proof.specs.CertificateText.{turn_text, tree_text, entries_text, IsEntriesTextDownTo}
use Rattle.tt_proof.specs.inside.CertificateReading.{TreeAt, EntriesAt, EntriesDeepAt, FaultAt, EntriesFaultAt}
use Rattle.tt_proof.proofs.TextLemmas.{heads, tails, same_turn, turn_not_end, same_tree, not_deep}
use Rattle.tt_proof.proofs.ReadLemmas.{NoTurn, deep_tree}
use Rattle.tt_proof.proofs.StrategyLemmas.{before, before_none, before_push}

-- The reading of `now` decides that of `start`, of which the list was read.
pub record Walked (size : Size) (d : ℕ) (start : List ℕ) (least : ℕ) (now : List ℕ) (list : List (Turn × Tree)) : Type 0 where
  pub read : (es : Entries) (y : List ℕ) → EntriesAt size d least es now y → EntriesAt size d 0 (before list es) start y
  pub only : (es : Entries) (y : List ℕ) → EntriesAt size d 0 es start y → (es' : Entries) × EntriesAt size d least es' now y
  pub deep : EntriesDeepAt size d least now → EntriesDeepAt size d 0 start
  pub deep_only : EntriesDeepAt size d 0 start → EntriesDeepAt size d least now

-- a fault at the byte that was reached is one at the start
pub walked_fault : (size : Size) (d least : ℕ) (start now : List ℕ) (list : List (Turn × Tree)) (f : CertFault) →
    Walked size d start least now list → EntriesFaultAt size d least now f → EntriesFaultAt size d 0 start f
walked_fault size d least start now list Syntax w h =
    (λ es y at. let r = w.only es y at in h.0 r.0 y r.1, λ at. h.1 (w.deep_only at))
walked_fault size d least start now list TooDeep w h = w.deep h
walked_fault size d least start now list NoMemory w h = tt

-- where `;` stands at the byte that was reached, the entries are those of the list
pub walked_end : (size : Size) (d least : ℕ) (start now rest : List ℕ) (list : List (Turn × Tree)) → Walked size d start least now list →
    now ≡ semicolon ∷ rest → EntriesAt size d 0 (entries_of_reply list) start rest
walked_end size d least start now rest list w e =
    subst (λ es. EntriesAt size d 0 es start rest) (before_none list)
    (w.read none rest (record { in_order = tt; shallow = omega arith; text = e }))

module _ (size : Size) (some : 1 ≤ size.columns) where
  -- ---- one entry: its turn is t, its tree u, and `after` follows
  module _ (e least : ℕ) (now mid after : List ℕ) (t : Turn) (u : Strategy) (on : IsTurnOnBoardOfSize size t)
      (rises : least ≤ turn_number_on_size size t) (at : now ≡ turn_text size t ++ mid) (tree : TreeAt size e u mid after) where
    -- entries behind this one are entries with this one in front
    step_read : (es : Entries) (y : List ℕ) → EntriesAt size (suc e) (turn_number_on_size size t + 1) es after y →
        EntriesAt size (suc e) least (entry t u es) now y
    step_read es y h = record {
      in_order = (rises, on, tree.in_order, h.in_order);
      shallow = omega (arith, tree.shallow, h.shallow);
      text =
          at ∙ ap (λ w. turn_text size t ++ w) (tree.text ∙ ap (λ w. tree_text size u ++ w) h.text)
          ∙ ap (λ w. turn_text size t ++ w) (sym (append_assoc (tree_text size u) (entries_text size es) y));
    }

    -- and where entries are read here, some are read behind this one
    step_only : (es : Entries) (y : List ℕ) → EntriesAt size (suc e) least es now y →
        (es' : Entries) × EntriesAt size (suc e) (turn_number_on_size size t + 1) es' after y
    step_only none y h = absurd (turn_not_end size some t (heads (sym at ∙ h.text)))
    step_only (entry v w es) y h =
        let g = sym at ∙ h.text in
        let t_is = same_turn size some t v (heads g) (heads (tails g)) in
        let r = same_tree size some u w after (entries_text size es ++ y)
        (sym tree.text ∙ tails (tails g) ∙ append_assoc (tree_text size w) (entries_text size es) y) in
        let low = h.shallow in (
          es,
          record {
            in_order = subst (λ x. AreInOrder size (turn_number_on_size size x + 1) es) (sym t_is) h.in_order.3;
            shallow = omega (arith, low);
            text = r.1;
          },
        )

    -- a turn that is too deep behind this entry is too deep here
    step_deep : EntriesDeepAt size (suc e) (turn_number_on_size size t + 1) after → EntriesDeepAt size (suc e) least now
    step_deep h = record {
      entries = entry t u h.entries;
      beginning = turn_text size t ++ (tree_text size u ++ h.beginning);
      follows = h.follows;
      in_order = (rises, on, tree.in_order, h.in_order);
      ends = inr (h.beginning, (refl, h.ends));
      text =
          at ∙ ap (λ w. turn_text size t ++ w) (tree.text ∙ ap (λ w. tree_text size u ++ w) h.text)
          ∙ ap (λ w. turn_text size t ++ w) (sym (append_assoc (tree_text size u) h.beginning h.follows));
    }

    -- and a turn that is too deep here is so behind this entry
    step_deep_only : EntriesDeepAt size (suc e) least now → EntriesDeepAt size (suc e) (turn_number_on_size size t + 1) after
    step_deep_only h = go h.entries h.beginning h.follows h.in_order h.ends h.text
      where
        -- so with each list of entries
        go : (es : Entries) (x y : List ℕ) → AreInOrder size least es → IsEntriesTextDownTo size es (suc e) x → now ≡ x ++ y →
            EntriesDeepAt size (suc e) (turn_number_on_size size t + 1) after
        go none x y i h g = absurd h
        go (entry v w es) x y i (inl h) g =
            let g' = tails (tails (sym at ∙ g ∙ ap (λ z. z ++ y) h.1.0)) in
            absurd (not_deep size some u w e h.0 after y tree.shallow (sym tree.text ∙ g') h.1.1)
        go (entry v w es) x y i (inr h) g =
            let g' = sym at ∙ g ∙ ap (λ z. z ++ y) h.1.0 in
            let t_is = same_turn size some t v (heads g') (heads (tails g')) in
            let r = same_tree size some u w after (h.0 ++ y) (sym tree.text ∙ tails (tails g') ∙ append_assoc (tree_text size w) h.0 y) in
            record {
              entries = es;
              beginning = h.0;
              follows = y;
              in_order = subst (λ x. AreInOrder size (turn_number_on_size size x + 1) es) (sym t_is) i.3;
              ends = h.1.1;
              text = r.1;
            }

  -- where one more entry was read, the reading behind it decides that of the start
  pub walked_more : (e least : ℕ) (start now mid after : List ℕ) (list : List (Turn × Tree)) (t : Turn) (tree : Tree) →
      Walked size (suc e) start least now list → IsTurnOnBoardOfSize size t → least ≤ turn_number_on_size size t →
      now ≡ turn_text size t ++ mid → TreeAt size e (strategy_of tree) mid after →
      Walked size (suc e) start (turn_number_on_size size t + 1) after (list ++ (t, tree) ∷ [])
  walked_more e least start now mid after list t tree w on rises at h =
      let u = strategy_of tree in
      record {
        read = λ es y k. subst (λ es. EntriesAt size (suc e) 0 es start y) (sym (before_push list (t, tree) es))
            (w.read (entry t u es) y (step_read e least now mid after t u on rises at h es y k));
        only = λ es y k. let r = w.only es y k in step_only e least now mid after t u on rises at h r.0 y r.1;
        deep = λ k. w.deep (step_deep e least now mid after t u on rises at h k);
        deep_only = λ k. step_deep_only e least now mid after t u on rises at h (w.deep_only k);
      }

  -- ---- faults at an entry

  -- where neither `;` nor a turn stands, there are no entries
  pub no_entry : (d least : ℕ) (now : List ℕ) → ((y : List ℕ) → now ≡ semicolon ∷ y → ⊥) → NoTurn size now → EntriesFaultAt size d least now Syntax
  no_entry d least now end turn =
      (λ es y h. no es y h.in_order h.text, λ h. deep h.entries d h.beginning h.follows h.in_order h.ends h.text)
    where
      -- no entries are read
      no : (es : Entries) (y : List ℕ) → AreInOrder size least es → now ≡ entries_text size es ++ y → ⊥
      no none y i g = end y g
      no (entry t u es) y i g = turn t ((tree_text size u ++ entries_text size es) ++ y) i.1 g

      -- nor is a turn too deep
      deep : (es : Entries) (k : ℕ) (x y : List ℕ) → AreInOrder size least es → IsEntriesTextDownTo size es k x → now ≡ x ++ y → ⊥
      deep none k x y i h g = h
      deep (entry t u es) zero x y i (inl h) g = turn t y i.1 (g ∙ ap (λ z. z ++ y) h)
      deep (entry t u es) zero x y i (inr h) g = turn t ((tree_text size u ++ h.0) ++ y) i.1 (g ∙ ap (λ z. z ++ y) h.1.0)
      deep (entry t u es) (suc k) x y i (inl h) g = turn t (h.0 ++ y) i.1 (g ∙ ap (λ z. z ++ y) h.1.0)
      deep (entry t u es) (suc k) x y i (inr h) g = turn t ((tree_text size u ++ h.0) ++ y) i.1 (g ∙ ap (λ z. z ++ y) h.1.0)

  -- where a turn stands whose number is below the least, there are no entries
  pub not_rising : (d least : ℕ) (now mid : List ℕ) (t : Turn) → now ≡ turn_text size t ++ mid → turn_number_on_size size t < least →
      EntriesFaultAt size d least now Syntax
  not_rising d least now mid t at falls =
      (λ es y h. no es y h.in_order h.text, λ h. deep h.entries d h.beginning h.follows h.in_order h.ends h.text)
    where
      -- no turn whose number is not below the least stands there
      clash : (v : Turn) (y : List ℕ) → least ≤ turn_number_on_size size v → now ≡ turn_text size v ++ y → ⊥
      clash v y low g =
          let g' = sym at ∙ g in
          let same = ap (turn_number_on_size size) (same_turn size some t v (heads g') (heads (tails g'))) in
          omega (arith, low, same, falls)

      -- no entries are read
      no : (es : Entries) (y : List ℕ) → AreInOrder size least es → now ≡ entries_text size es ++ y → ⊥
      no none y i g = turn_not_end size some t (heads (sym at ∙ g))
      no (entry v u es) y i g = clash v ((tree_text size u ++ entries_text size es) ++ y) i.0 g

      -- nor is a turn too deep
      deep : (es : Entries) (k : ℕ) (x y : List ℕ) → AreInOrder size least es → IsEntriesTextDownTo size es k x → now ≡ x ++ y → ⊥
      deep none k x y i h g = h
      deep (entry v u es) zero x y i (inl h) g = clash v y i.0 (g ∙ ap (λ z. z ++ y) h)
      deep (entry v u es) zero x y i (inr h) g = clash v ((tree_text size u ++ h.0) ++ y) i.0 (g ∙ ap (λ z. z ++ y) h.1.0)
      deep (entry v u es) (suc k) x y i (inl h) g = clash v (h.0 ++ y) i.0 (g ∙ ap (λ z. z ++ y) h.1.0)
      deep (entry v u es) (suc k) x y i (inr h) g = clash v ((tree_text size u ++ h.0) ++ y) i.0 (g ∙ ap (λ z. z ++ y) h.1.0)

  -- where no turn has room, a turn in order is too deep
  pub entry_deep : (least : ℕ) (now mid : List ℕ) (t : Turn) → IsTurnOnBoardOfSize size t → least ≤ turn_number_on_size size t →
      now ≡ turn_text size t ++ mid → EntriesDeepAt size 0 least now
  entry_deep least now mid t on rises at = record {
    entries = entry t done none;
    beginning = turn_text size t;
    follows = mid;
    in_order = (rises, on, tt, tt);
    ends = inl refl;
    text = at;
  }

  -- a fault of the tree behind a turn in order is one of the entries
  pub entry_fault : (e least : ℕ) (now mid : List ℕ) (t : Turn) (f : CertFault) → IsTurnOnBoardOfSize size t → least ≤ turn_number_on_size size t →
      now ≡ turn_text size t ++ mid → FaultAt size e mid f → EntriesFaultAt size (suc e) least now f
  entry_fault e least now mid t NoMemory on rises at h = tt
  entry_fault e least now mid t TooDeep on rises at h = record {
    entries = entry t h.tree none;
    beginning = turn_text size t ++ h.beginning;
    follows = h.follows;
    in_order = (rises, on, h.in_order, tt);
    ends = inl (h.beginning, (refl, h.ends));
    text = at ∙ ap (λ w. turn_text size t ++ w) h.text;
  }
  entry_fault e least now mid t Syntax on rises at h =
      (λ es y k. no es y k.in_order k.shallow k.text, λ k. deep k.entries k.beginning k.follows k.in_order k.ends k.text)
    where
      -- no entries are read
      no : (es : Entries) (y : List ℕ) → AreInOrder size least es → depth_of_entries es ≤ suc e → now ≡ entries_text size es ++ y → ⊥
      no none y i low g = turn_not_end size some t (heads (sym at ∙ g))
      no (entry v u es) y i low g =
          h.0 u (entries_text size es ++ y) (record {
            in_order = i.2;
            shallow = omega (arith, low);
            text = tails (tails (sym at ∙ g)) ∙ append_assoc (tree_text size u) (entries_text size es) y;
          })

      -- the tree of the entry is read, or is too deep
      either : (u : Strategy) (y : List ℕ) → IsInOrder size u → mid ≡ tree_text size u ++ y → (depth u ≤ e) ⊎ (e < depth u) → ⊥
      either u y i g (inl low) = h.0 u y (record { in_order = i; shallow = low; text = g })
      either u y i g (inr high) =
          let r = deep_tree size u e high in
          h.1 (record {
            tree = u;
            beginning = r.0;
            follows = r.1.0 ++ y;
            in_order = i;
            ends = r.1.1.0;
            text = g ∙ ap (λ w. w ++ y) r.1.1.1 ∙ append_assoc r.0 r.1.0 y;
          })

      -- one number is at most another one, or above it
      compare_le : (m n : ℕ) → (m ≤ n) ⊎ (n < m)
      compare_le zero n = inl (omega arith)
      compare_le (suc m) zero = inr (omega arith)
      compare_le (suc m) (suc n) = up (compare_le m n)
        where
          -- and so with one more on both sides
          up : (m ≤ n) ⊎ (n < m) → (suc m ≤ suc n) ⊎ (suc n < suc m)
          up (inl x) = inl (omega (arith, x))
          up (inr x) = inr (omega (arith, x))

      -- nor is a turn too deep
      deep : (es : Entries) (x y : List ℕ) → AreInOrder size least es → IsEntriesTextDownTo size es (suc e) x → now ≡ x ++ y → ⊥
      deep none x y i k g = k
      deep (entry v u es) x y i (inl k) g =
          h.1 (record {
            tree = u;
            beginning = k.0;
            follows = y;
            in_order = i.2;
            ends = k.1.1;
            text = tails (tails (sym at ∙ g ∙ ap (λ z. z ++ y) k.1.0));
          })
      deep (entry v u es) x y i (inr k) g =
          either u (k.0 ++ y) i.2 (tails (tails (sym at ∙ g ∙ ap (λ z. z ++ y) k.1.0)) ∙ append_assoc (tree_text size u) k.0 y)
          (compare_le (depth u) e)
