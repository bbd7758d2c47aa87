-- Certificates have one reading.
use Rattle.std.proofs.Common.{◌≡◌, ◌≤◌, ◌*◌, ◌/◌, ℕ, zero, suc, inl, inr, arith, List, [], ◌∷◌, ◌++◌, ◌∙◌, refl, sym, ap, append_assoc}
use Rattle.tt_sgf.specs.Bytes.{semicolon}
use Rattle.tt_sgf.specs.declared.size.Size.{Size}
use Rattle.tt_game.specs.declared.turns.Turn.{Turn}
use Rattle.tt_game.specs.declared.turns.Turn.TheVariants.{Play, Pass}
use Rattle.tt_proof.specs.Strategy.{Strategy, Entries, done, pick, reply, none, entry, depth, depth_of_entries}
use Rattle.tt_proof.specs.CertificateText.{column_byte, row_byte, tree_text, entries_text, IsTreeTextDownTo, IsEntriesTextDownTo}

pub heads : {a b : ℕ} {xs ys : List ℕ} → a ∷ xs ≡ b ∷ ys → a ≡ b
heads e = cc

pub tails : {a b : ℕ} {xs ys : List ℕ} → a ∷ xs ≡ b ∷ ys → xs ≡ ys
tails e = cc

module _ (size : Size) (some : 1 ≤ size.columns) where
  -- the two bytes of a turn tell it
  pub same_turn : (t v : Turn) → column_byte size t ≡ column_byte size v → row_byte size t ≡ row_byte size v → t ≡ v
  same_turn (Play p) (Play q) a b =
      let rows : p / size.columns ≡ q / size.columns = omega (arith, b) in
      let base = ap (λ n. size.columns * n) rows in
      let same : p ≡ q = omega (arith, a, base) in
      ap Play same
  same_turn (Play p) Pass a b = absurd (omega (arith, a))
  same_turn Pass (Play q) a b = absurd (omega (arith, a))
  same_turn Pass Pass a b = refl

  -- no turn's text begins with `;`
  pub turn_not_end : (t : Turn) → column_byte size t ≡ semicolon → ⊥
  turn_not_end (Play p) e = omega (arith, e)
  turn_not_end Pass e = omega (arith, e)

  mutual
    -- a text tells the tree that it begins with, and what follows
    pub same_tree : (u v : Strategy) (y z : List ℕ) → tree_text size u ++ y ≡ tree_text size v ++ z → (u ≡ v) × (y ≡ z)
    same_tree done done y z e = (refl, tails e)
    same_tree done (pick t v) y z e = absurd (omega (arith, heads e))
    same_tree done (reply vs) y z e = absurd (omega (arith, heads e))
    same_tree (pick t u) done y z e = absurd (omega (arith, heads e))
    same_tree (pick t u) (pick s v) y z e =
        let t_is = same_turn t s (heads (tails e)) (heads (tails (tails e))) in
        let r = same_tree u v y z (tails (tails (tails e))) in
        (ap (λ x. pick x u) t_is ∙ ap (λ x. pick s x) r.0, r.1)
    same_tree (pick t u) (reply vs) y z e = absurd (omega (arith, heads e))
    same_tree (reply us) done y z e = absurd (omega (arith, heads e))
    same_tree (reply us) (pick t v) y z e = absurd (omega (arith, heads e))
    same_tree (reply us) (reply vs) y z e = let r = same_entries us vs y z (tails e) in (ap reply r.0, r.1)

    -- so it does with entries
    pub same_entries : (us vs : Entries) (y z : List ℕ) → entries_text size us ++ y ≡ entries_text size vs ++ z → (us ≡ vs) × (y ≡ z)
    same_entries none none y z e = (refl, tails e)
    same_entries none (entry t v vs) y z e = absurd (turn_not_end t (sym (heads e)))
    same_entries (entry t u us) none y z e = absurd (turn_not_end t (heads e))
    same_entries (entry t u us) (entry s v vs) y z e =
        let t_is = same_turn t s (heads e) (heads (tails e)) in
        let r = same_tree u v (entries_text size us ++ y) (entries_text size vs ++ z)
        (sym (append_assoc (tree_text size u) (entries_text size us) y) ∙ tails (tails e) ∙ append_assoc (tree_text size v) (entries_text size vs) z) in
        let q = same_entries us vs y z r.1 in
        (ap (λ x. entry x u us) t_is ∙ ap (λ x. entry s x us) r.0 ∙ ap (λ x. entry s v x) q.0, q.1)

  -- what begins with `;` has no beginning that ends with a turn of entries
  end_not_turn : (us : Entries) (d : ℕ) (x y z : List ℕ) → (semicolon ∷ []) ++ y ≡ x ++ z → IsEntriesTextDownTo size us d x → ⊥
  end_not_turn none d x y z e h = h
  end_not_turn (entry t u us) zero x y z e (inl h) = turn_not_end t (sym (heads (e ∙ ap (λ w. w ++ z) h)))
  end_not_turn (entry t u us) zero x y z e (inr h) = turn_not_end t (sym (heads (e ∙ ap (λ w. w ++ z) h.1.0)))
  end_not_turn (entry t u us) (suc d) x y z e (inl h) = turn_not_end t (sym (heads (e ∙ ap (λ w. w ++ z) h.1.0)))
  end_not_turn (entry t u us) (suc d) x y z e (inr h) = turn_not_end t (sym (heads (e ∙ ap (λ w. w ++ z) h.1.0)))

  mutual
    -- a text with no turn below d turns has no beginning that ends with one
    pub not_deep : (v u : Strategy) (d : ℕ) (x y z : List ℕ) → depth v ≤ d → tree_text size v ++ y ≡ x ++ z → IsTreeTextDownTo size u d x → ⊥
    not_deep v done d x y z low e h = absurd h
    not_deep done (pick t u) zero x y z low e h = absurd (omega (arith, heads (e ∙ ap (λ w. w ++ z) h)))
    not_deep done (pick t u) (suc d) x y z low e h = absurd (omega (arith, heads (e ∙ ap (λ w. w ++ z) h.1.0)))
    not_deep done (reply us) d x y z low e h = absurd (omega (arith, heads (e ∙ ap (λ w. w ++ z) h.1.0)))
    not_deep (pick s v) (pick t u) zero x y z low e h = absurd (omega (arith, low))
    not_deep (pick s v) (pick t u) (suc d) x y z low e h =
        not_deep v u d h.0 y z (omega (arith, low)) (tails (tails (tails (e ∙ ap (λ w. w ++ z) h.1.0)))) h.1.1
    not_deep (pick s v) (reply us) d x y z low e h = absurd (omega (arith, heads (e ∙ ap (λ w. w ++ z) h.1.0)))
    not_deep (reply vs) (pick t u) zero x y z low e h = absurd (omega (arith, heads (e ∙ ap (λ w. w ++ z) h)))
    not_deep (reply vs) (pick t u) (suc d) x y z low e h = absurd (omega (arith, heads (e ∙ ap (λ w. w ++ z) h.1.0)))
    not_deep (reply vs) (reply us) d x y z low e h = not_deep_behind vs us d h.0 y z low (tails (e ∙ ap (λ w. w ++ z) h.1.0)) h.1.1

    -- nor has a text of entries
    pub not_deep_behind : (vs us : Entries) (d : ℕ) (x y z : List ℕ) → depth_of_entries vs ≤ d → entries_text size vs ++ y ≡ x ++ z →
        IsEntriesTextDownTo size us d x → ⊥
    not_deep_behind none us d x y z low e h = absurd (end_not_turn us d x y z e h)
    not_deep_behind (entry s v vs) none d x y z low e h = absurd h
    not_deep_behind (entry s v vs) (entry t u us) zero x y z low e h = absurd (omega (arith, low))
    not_deep_behind (entry s v vs) (entry t u us) (suc d) x y z low e (inl h) =
        not_deep v u d h.0 (entries_text size vs ++ y) z (omega (arith, low))
        (sym (append_assoc (tree_text size v) (entries_text size vs) y) ∙ tails (tails (e ∙ ap (λ w. w ++ z) h.1.0))) h.1.1
    not_deep_behind (entry s v vs) (entry t u us) (suc d) x y z low e (inr h) =
        let r = same_tree v u (entries_text size vs ++ y) (h.0 ++ z)
        (sym (append_assoc (tree_text size v) (entries_text size vs) y) ∙ tails (tails (e ∙ ap (λ w. w ++ z) h.1.0))
        ∙ append_assoc (tree_text size u) h.0 z) in
        not_deep_behind vs us (suc d) h.0 y z (omega (arith, low)) r.1 h.1.1
