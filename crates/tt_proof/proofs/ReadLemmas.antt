-- What the reader knows at each byte.
use Rattle.std.proofs.Common.{◌≡◌, ◌≤◌, ◌<◌, ◌+◌, ℕ, zero, suc, max, ◌⊎◌, inl, inr, arith, List, ◌∷◌, ◌++◌, ◌∙◌, refl, sym, ap, append_assoc}
use Rattle.tt_sgf.specs.declared.size.Size.{Size}
use Rattle.tt_game.specs.declared.turns.Turn.{Turn}
use Rattle.tt_proof.specs.declared.certificate_read.CertFault.{CertFault}
use Rattle.tt_proof.specs.declared.certificate_read.CertFault.TheVariants.{Syntax, TooDeep, NoMemory}
use Rattle.tt_proof.specs.Strategy.{Strategy, Entries, done, pick, reply, none, entry, depth, depth_of_entries, IsTurnOnBoardOfSize, IsInOrder}
use Rattle.tt_proof.specs.CertificateText.{won_symbol, pick_symbol, replies_symbol, turn_text, tree_text, entries_text, IsTreeTextDownTo, IsEntriesTextDownTo}
use Rattle.tt_proof.specs.inside.CertificateReading.{TreeAt, DeepAt, EntriesAt, EntriesDeepAt, FaultAt, EntriesFaultAt}
use Rattle.tt_proof.proofs.TextLemmas.{heads, tails}

module _ (size : Size) where
  -- no turn of the board stands there
  abbrev pub NoTurn : List ℕ → Type 0
  NoTurn r = (t : Turn) (y : List ℕ) → IsTurnOnBoardOfSize size t → r ≡ turn_text size t ++ y → ⊥

  -- a strategy that is deeper than e has a turn with e turns above it
  mutual
    pub deep_tree : (u : Strategy) (e : ℕ) → e < depth u → (x : List ℕ) × ((y : List ℕ) × (IsTreeTextDownTo size u e x × (tree_text size u ≡ x ++ y)))
    deep_tree done e lt = absurd (omega (arith, lt))
    deep_tree (pick t u) zero lt = (pick_symbol ∷ turn_text size t, (tree_text size u, (refl, refl)))
    deep_tree (pick t u) (suc e) lt =
        let r = deep_tree u e (omega (arith, lt)) in
        (pick_symbol ∷ (turn_text size t ++ r.0), (r.1.0, ((r.0, (refl, r.1.1.0)), ap (λ w. pick_symbol ∷ (turn_text size t ++ w)) r.1.1.1)))
    deep_tree (reply es) e lt = let r = deep_entries es e lt in (replies_symbol ∷ r.0, (r.1.0, ((r.0, (refl, r.1.1.0)), ap (λ w. replies_symbol ∷ w) r.1.1.1)))

    -- so have entries that are deeper than e
    deep_entries : (es : Entries) (e : ℕ) → e < depth_of_entries es →
        (x : List ℕ) × ((y : List ℕ) × (IsEntriesTextDownTo size es e x × (entries_text size es ≡ x ++ y)))
    deep_entries none e lt = absurd (omega (arith, lt))
    deep_entries (entry t u es) zero lt = (turn_text size t, (tree_text size u ++ entries_text size es, (inl refl, refl)))
    deep_entries (entry t u es) (suc e) lt = pass (cases e (depth u) (depth_of_entries es) lt) (deep_tree u e) (deep_entries es (suc e))
      where
        -- what is below the greater of two numbers is below one of them
        cases : (a b c : ℕ) → suc a < max (b + 1) c → (a < b) ⊎ (suc a < c)
        cases a b c h = decide (compare_lt a b)
          where
            -- one number is below another one, or at least as great
            compare_lt : (m n : ℕ) → (m < n) ⊎ (n ≤ m)
            compare_lt zero zero = inr (omega arith)
            compare_lt zero (suc n) = inl (omega arith)
            compare_lt (suc m) zero = inr (omega arith)
            compare_lt (suc m) (suc n) = up (compare_lt m n)
              where
                -- and so with one more on both sides
                up : (m < n) ⊎ (n ≤ m) → (suc m < suc n) ⊎ (suc n ≤ suc m)
                up (inl x) = inl (omega (arith, x))
                up (inr x) = inr (omega (arith, x))

            -- the first number is above, or the second one is
            decide : (a < b) ⊎ (b ≤ a) → (a < b) ⊎ (suc a < c)
            decide (inl x) = inl x
            decide (inr x) = inr (omega (arith, x, h))

        -- the turn lies in the first entry's tree, or behind it
        pass : (e < depth u) ⊎ (suc e < depth_of_entries es) →
            (e < depth u → (x : List ℕ) × ((y : List ℕ) × (IsTreeTextDownTo size u e x × (tree_text size u ≡ x ++ y)))) →
            (suc e < depth_of_entries es → (x : List ℕ) × ((y : List ℕ) × (IsEntriesTextDownTo size es (suc e) x × (entries_text size es ≡ x ++ y)))) →
            (x : List ℕ) × ((y : List ℕ) × (IsEntriesTextDownTo size (entry t u es) (suc e) x × (entries_text size (entry t u es) ≡ x ++ y)))
        pass (inl lt) f g =
            let r = f lt in (
              turn_text size t ++ r.0,
              (
                r.1.0 ++ entries_text size es,
                (
                  inl (r.0, (refl, r.1.1.0)),
                  ap (λ w. turn_text size t ++ (w ++ entries_text size es)) r.1.1.1
                      ∙ ap (λ w. turn_text size t ++ w) (append_assoc r.0 r.1.0 (entries_text size es)),
                ),
              ),
            )
        pass (inr lt) f g =
            let r = g lt in (
              turn_text size t ++ (tree_text size u ++ r.0),
              (
                r.1.0,
                (
                  inr (r.0, (refl, r.1.1.0)),
                  ap (λ w. turn_text size t ++ (tree_text size u ++ w)) r.1.1.1
                      ∙ ap (λ w. turn_text size t ++ w) (sym (append_assoc (tree_text size u) r.0 r.1.0)),
                ),
              ),
            )

  -- ---- the first byte

  -- where none of `.`, `!` and `?` stands, there is no tree
  pub not_tree : (r : List ℕ) → ((b : ℕ) (y : List ℕ) → r ≡ b ∷ y → (b ≡ won_symbol) ⊎ ((b ≡ pick_symbol) ⊎ (b ≡ replies_symbol)) → ⊥)
      → (d : ℕ) → FaultAt size d r Syntax
  not_tree r h d = (λ u y at. no u y at.text, λ at. deep at.tree d at.beginning at.follows at.text at.ends)
    where
      -- no tree is read
      no : (u : Strategy) (y : List ℕ) → r ≡ tree_text size u ++ y → ⊥
      no done y e = h _ _ e (inl refl)
      no (pick t u) y e = h _ _ e (inr (inl refl))
      no (reply es) y e = h _ _ e (inr (inr refl))

      -- nor is a turn too deep
      deep : (u : Strategy) (k : ℕ) (x y : List ℕ) → r ≡ x ++ y → IsTreeTextDownTo size u k x → ⊥
      deep done k x y e w = w
      deep (pick t u) zero x y e w = h _ _ (e ∙ ap (λ z. z ++ y) w) (inr (inl refl))
      deep (pick t u) (suc k) x y e w = h _ _ (e ∙ ap (λ z. z ++ y) w.1.0) (inr (inl refl))
      deep (reply es) k x y e w = h _ _ (e ∙ ap (λ z. z ++ y) w.1.0) (inr (inr refl))

  -- ---- a pick

  -- where no turn stands behind `!`, there is no tree
  pub pick_no_turn : (d : ℕ) (r : List ℕ) → NoTurn r → FaultAt size d (pick_symbol ∷ r) Syntax
  pick_no_turn d r h = (λ u y at. no u y at.in_order at.text, λ at. deep at.tree d at.beginning at.follows at.in_order at.text at.ends)
    where
      -- no tree is read
      no : (u : Strategy) (y : List ℕ) → IsInOrder size u → pick_symbol ∷ r ≡ tree_text size u ++ y → ⊥
      no done y o e = omega (arith, heads e)
      no (pick t u) y o e = h t (tree_text size u ++ y) o.0 (tails e)
      no (reply es) y o e = omega (arith, heads e)

      -- nor is a turn too deep
      deep : (u : Strategy) (k : ℕ) (x y : List ℕ) → IsInOrder size u → pick_symbol ∷ r ≡ x ++ y → IsTreeTextDownTo size u k x → ⊥
      deep done k x y o e w = w
      deep (pick t u) zero x y o e w = h t y o.0 (tails (e ∙ ap (λ z. z ++ y) w))
      deep (pick t u) (suc k) x y o e w = h t (w.0 ++ y) o.0 (tails (e ∙ ap (λ z. z ++ y) w.1.0))
      deep (reply es) k x y o e w = omega (arith, heads (e ∙ ap (λ z. z ++ y) w.1.0))

  -- where no turn has room, a turn behind `!` is too deep
  pub pick_deep : (t : Turn) (r y : List ℕ) → IsTurnOnBoardOfSize size t → r ≡ turn_text size t ++ y → DeepAt size 0 (pick_symbol ∷ r)
  pick_deep t r y o e = record {
    tree = pick t done;
    beginning = pick_symbol ∷ turn_text size t;
    follows = y;
    in_order = (o, tt);
    ends = refl;
    text = ap (λ w. pick_symbol ∷ w) e;
  }

  -- a turn and a tree behind `!` are a pick, a turn deeper
  pub pick_read : (e : ℕ) (t : Turn) (u : Strategy) (r after y : List ℕ) → IsTurnOnBoardOfSize size t → r ≡ turn_text size t ++ after →
      TreeAt size e u after y → TreeAt size (suc e) (pick t u) (pick_symbol ∷ r) y
  pick_read e t u r after y o at h =
      record { in_order = (o, h.in_order); shallow = omega (arith, h.shallow); text = ap (λ w. pick_symbol ∷ w) (at ∙ ap (λ w. turn_text size t ++ w) h.text) }

  -- a fault of the tree behind the turn is one of the pick
  pub pick_fault : (e : ℕ) (t : Turn) (r after : List ℕ) (f : CertFault) → IsTurnOnBoardOfSize size t → r ≡ turn_text size t ++ after →
      FaultAt size e after f → FaultAt size (suc e) (pick_symbol ∷ r) f
  pick_fault e t r after NoMemory o at h = tt
  pick_fault e t r after TooDeep o at h = record {
    tree = pick t h.tree;
    beginning = pick_symbol ∷ (turn_text size t ++ h.beginning);
    follows = h.follows;
    in_order = (o, h.in_order);
    ends = (h.beginning, (refl, h.ends));
    text = ap (λ w. pick_symbol ∷ w) (at ∙ ap (λ w. turn_text size t ++ w) h.text);
  }
  pick_fault e t r after Syntax o at h =
      (λ u y w. no u y w.in_order w.shallow w.text, λ w. deep w.tree w.beginning w.follows w.in_order w.text w.ends)
    where
      -- no tree is read
      no : (u : Strategy) (y : List ℕ) → IsInOrder size u → depth u ≤ suc e → pick_symbol ∷ r ≡ tree_text size u ++ y → ⊥
      no done y i low g = omega (arith, heads g)
      no (pick v u) y i low g =
          h.0 u y (record { in_order = i.1; shallow = omega (arith, low); text = tails (tails (sym at ∙ tails g)) })
      no (reply es) y i low g = omega (arith, heads g)

      -- nor is a turn too deep
      deep : (u : Strategy) (x y : List ℕ) → IsInOrder size u → pick_symbol ∷ r ≡ x ++ y → IsTreeTextDownTo size u (suc e) x → ⊥
      deep done x y i g w = w
      deep (pick v u) x y i g w =
          h.1 (record {
            tree = u;
            beginning = w.0;
            follows = y;
            in_order = i.1;
            ends = w.1.1;
            text = tails (tails (sym at ∙ tails (g ∙ ap (λ z. z ++ y) w.1.0)));
          })
      deep (reply es) x y i g w = omega (arith, heads (g ∙ ap (λ z. z ++ y) w.1.0))

  -- ---- a reply

  -- entries behind `?` are a reply
  pub reply_read : (d : ℕ) (es : Entries) (r y : List ℕ) → EntriesAt size d 0 es r y → TreeAt size d (reply es) (replies_symbol ∷ r) y
  reply_read d es r y h = record { in_order = h.in_order; shallow = h.shallow; text = ap (λ w. replies_symbol ∷ w) h.text }

  -- a fault of the entries is one of the reply
  pub reply_fault : (d : ℕ) (r : List ℕ) (f : CertFault) → EntriesFaultAt size d 0 r f → FaultAt size d (replies_symbol ∷ r) f
  reply_fault d r NoMemory h = tt
  reply_fault d r TooDeep h = record {
    tree = reply h.entries;
    beginning = replies_symbol ∷ h.beginning;
    follows = h.follows;
    in_order = h.in_order;
    ends = (h.beginning, (refl, h.ends));
    text = ap (λ w. replies_symbol ∷ w) h.text;
  }
  reply_fault d r Syntax h =
      (λ u y w. no u y w.in_order w.shallow w.text, λ w. deep w.tree d w.beginning w.follows w.in_order w.text w.ends (λ x. x))
    where
      -- no tree is read
      no : (u : Strategy) (y : List ℕ) → IsInOrder size u → depth u ≤ d → replies_symbol ∷ r ≡ tree_text size u ++ y → ⊥
      no done y i low g = omega (arith, heads g)
      no (pick v u) y i low g = omega (arith, heads g)
      no (reply es) y i low g = h.0 es y (record { in_order = i; shallow = low; text = tails g })

      -- nor is a turn too deep
      deep : (u : Strategy) (k : ℕ) (x y : List ℕ) → IsInOrder size u → replies_symbol ∷ r ≡ x ++ y → IsTreeTextDownTo size u k x →
          (EntriesDeepAt size k 0 r → EntriesDeepAt size d 0 r) → ⊥
      deep done k x y i g w to = w
      deep (pick v u) zero x y i g w to = omega (arith, heads (g ∙ ap (λ z. z ++ y) w))
      deep (pick v u) (suc k) x y i g w to = omega (arith, heads (g ∙ ap (λ z. z ++ y) w.1.0))
      deep (reply es) k x y i g w to =
          h.1 (to (record {
            entries = es;
            beginning = w.0;
            follows = y;
            in_order = i;
            ends = w.1.1;
            text = tails (g ∙ ap (λ z. z ++ y) w.1.0);
          }))
