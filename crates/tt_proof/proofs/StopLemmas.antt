-- Where the reading of a certificate stops.
use Rattle.std.proofs.Common.{◌≡◌, ◌≢◌, ◌≤◌, ◌<◌, ◌+◌, ◌-◌, ◌*◌, ◌%◌, ℕ, suc, max, arith, List, [], ◌∷◌, ◌++◌, length, take, drop, get_or, ◌⊎◌, inl, inr, ◌∙◌, refl, sym, ap, subst, append_assoc}
use Rattle.std.proofs.lemmas.Bool.{cases_lt}
use Rattle.std.proofs.lemmas.List.{append-nil, length-append, length-take-le, get_or-take, take_all, take_more, take-append-drop}
use Rattle.std.proofs.Math.ListN.{get_or-append}
use Rattle.std.proofs.lemmas.Grind.{common_steps}
use Rattle.std.proofs.Math.Seq.{take-append_seam, take-append-add, get_or-append_seam}
use Rattle.tt_sgf.specs.Bytes.{lower_a, semicolon, space}
use Rattle.tt_sgf.specs.Sizes.{point_count}
use Rattle.tt_sgf.specs.declared.size.Size.{Size}
use Rattle.tt_game.specs.Sides.{verdict_word}
use Rattle.tt_game.specs.declared.frame.Side.{Side}
use Rattle.tt_game.specs.declared.frame.Side.TheVariants.{Attacker, Defender}
use Rattle.tt_game.specs.declared.turns.Turn.{Turn}
use Rattle.tt_game.specs.declared.turns.Turn.TheVariants.{Play, Pass}
use Rattle.tt_proof.specs.declared.tree.TheConstants.{MOST_DEPTH}
use Rattle.tt_proof.specs.Strategy.{Strategy, Entries, done, pick, reply, none, entry, depth, depth_of_entries, IsInOrder, AreInOrder, IsTurnOnBoardOfSize, turn_number_on_size}
use Rattle.tt_proof.specs.CertificateText.{won_symbol, pick_symbol, replies_symbol, side_prefix, dash, turn_text, row_byte, tree_text, entries_text, IsCertificate}
use Rattle.tt_proof.specs.CertificateStops.{BeginsSomeCertificate, CertificateStopsAt}
use Rattle.tt_proof.specs.inside.CertificateWalking.{BeginsByText, StopsBefore, IsTurnFrom, IsTextOfTurnFrom, IsFirstByteOfTurnFrom, IsTextOfTree, IsTextOfEntries, HaveInCommon}
use Rattle.tt_proof.proofs.TextLemmas.{heads, tails, same_turn, turn_not_end, same_tree}
use Rattle.tt_proof.proofs.CertificateLemmas.{side_apart}

-- ---- texts of any kind

-- at the front nothing has been read: some text is of the kind, and none begins with the first byte
pub stops_here : (IsText : List ℕ → Type 0) (r some : List ℕ) → IsText some
    → ((b : ℕ) (bs more x z : List ℕ) → r ≡ b ∷ bs → IsText x → b ∷ more ≡ x ++ z → ⊥) → StopsBefore IsText r r
stops_here IsText r some is never = record { front = []; parts = refl; begins = (some, is); stops = never }

-- a first byte that bytes have in common with others that differ from them further on
first_of : (front y : List ℕ) (b : ℕ) (bs more : List ℕ) → y ≡ b ∷ bs
    → (c : ℕ) × (cs : List ℕ) × (w : List ℕ) × (front ++ y ≡ c ∷ cs) × (front ++ (b ∷ more) ≡ c ∷ w)
first_of [] y b bs more e = (b, bs, more, e, refl)
first_of (c ∷ f) y b bs more e = (c, f ++ y, f ++ (b ∷ more), refl, refl)

-- Behind p stands a part. Each part can be completed, and what goes on from p on begins with one. Then where a part stops, the whole does.
pub behind : (IsPart IsText : List ℕ → Type 0) (p r y : List ℕ)
    → ((x : List ℕ) → IsPart x → (z : List ℕ) × IsText (p ++ (x ++ z)))
    → ((c : ℕ) (cs w x z : List ℕ) → r ≡ c ∷ cs → IsText x → p ++ (c ∷ w) ≡ x ++ z → (x' : List ℕ) × (z' : List ℕ) × IsPart x' × (c ∷ w ≡ x' ++ z'))
    → StopsBefore IsPart r y → StopsBefore IsText (p ++ r) y
behind IsPart IsText p r y into out s =
    let i = into (s.front ++ s.begins.0) s.begins.1 in
    let whole : p ++ ((s.front ++ s.begins.0) ++ i.0) ≡ (p ++ s.front) ++ (s.begins.0 ++ i.0) = simp append_assoc in
    record {
      front = p ++ s.front;
      parts = ap (λ w. p ++ w) s.parts ∙ sym (append_assoc p s.front y);
      begins = (s.begins.0 ++ i.0, subst IsText whole i.1);
      stops =
          λ b bs more x z e is at.
          let h = first_of s.front y b bs more e in
          let o = out h.0 h.1 h.2 x z (s.parts ∙ h.3) is (ap (λ w. p ++ w) (sym h.4) ∙ sym (append_assoc p s.front (b ∷ more)) ∙ at) in
          s.stops b bs more o.0 o.1 e o.2 (h.4 ∙ o.3);
    }

module _ (size : Size) where
  -- ---- turns

  -- a turn's number is at most that of a pass
  pub turn_number_bound : (t : Turn) → IsTurnOnBoardOfSize size t → turn_number_on_size size t ≤ point_count size
  turn_number_bound (Play p) on = omega (arith, on)
  turn_number_bound Pass on = omega arith

  module _ (least : ℕ) (within : least ≤ point_count size) where
    -- a pass can be next
    pass_from : IsTurnFrom size least Pass
    pass_from = record { on_board = tt; rises = within }

    -- where no turn begins with the first byte
    pub turn_first : (r : List ℕ) → ((b : ℕ) (bs : List ℕ) → r ≡ b ∷ bs → IsFirstByteOfTurnFrom size least b → ⊥) → StopsBefore (IsTextOfTurnFrom size least) r r
    turn_first r never =
        stops_here (IsTextOfTurnFrom size least) r (turn_text size Pass) (Pass, pass_from, refl)
        (λ b bs more x z e is at. never b bs e (is.0, is.1, heads (at ∙ ap (λ w. w ++ z) is.2)))

    -- where one does, but none goes on with the second one
    pub turn_second : (b : ℕ) (r : List ℕ) → IsFirstByteOfTurnFrom size least b
        → ((t : Turn) (y : List ℕ) → IsTurnFrom size least t → b ∷ r ≡ turn_text size t ++ y → ⊥) → StopsBefore (IsTextOfTurnFrom size least) (b ∷ r) r
    turn_second b r first never = record {
      front = b ∷ [];
      parts = refl;
      begins = (row_byte size first.0 ∷ [], (first.0, first.1, ap (λ c. c ∷ (row_byte size first.0 ∷ [])) first.2));
      stops =
          λ c bs more x z e is at.
          let g : b ∷ (c ∷ more) ≡ turn_text size is.0 ++ z = at ∙ ap (λ w. w ++ z) is.2 in
          never is.0 bs is.1 (ap (λ w. b ∷ w) e ∙ second c bs more is.0 z g);
    }
      where
        -- the bytes of a turn, whatever follows
        second : (c : ℕ) (bs more : List ℕ) (t : Turn) (z : List ℕ) → b ∷ (c ∷ more) ≡ turn_text size t ++ z → b ∷ (c ∷ bs) ≡ turn_text size t ++ bs
        second c bs more t z g = let i = heads g in let j = heads (tails g) in cc

  -- the turn that stands there is below the least
  pub turn_low : (least : ℕ) (v : Turn) (z : List ℕ) → turn_number_on_size size v < least
      → (t : Turn) (y : List ℕ) → IsTurnFrom size least t → turn_text size t ++ y ≡ turn_text size v ++ z → ⊥
  turn_low least v z low t y from g =
      let same = ap (turn_number_on_size size) (same_turn size size.columns_in.0 t v (heads g) (heads (tails g))) in omega (arith, low, from.rises, same)

  -- the last play in a column is the greatest that begins with its letter
  row_bound : (columns rows p : ℕ) → 1 ≤ columns → p < columns * rows → p ≤ (rows - 1) * columns + p % columns
  row_bound columns rows p some lt = grind (arith, common_steps)

  last_row : (columns rows c : ℕ) → 1 ≤ rows → c < columns → (rows - 1) * columns + c < columns * rows
  last_row columns rows c some lt = grind (arith, common_steps)

  column_of : (columns row c n : ℕ) → c < columns → n ≡ row * columns + c → n % columns ≡ c
  column_of columns row c n lt e = grind (arith, common_steps)

  last_column : (columns rows c : ℕ) → c < columns → ((rows - 1) * columns + c) % columns ≡ c
  last_column columns rows c lt = column_of columns (rows - 1) c _ lt refl

  module _ (byte column : ℕ) (in_board : column < size.columns) (letter : byte ≡ lower_a + column) (least : ℕ) where
    -- where it is not below the least, a turn begins with the letter
    pub letter_begins : least ≤ (size.rows - 1) * size.columns + column → IsFirstByteOfTurnFrom size least byte
    letter_begins high = (
      Play ((size.rows - 1) * size.columns + column),
      record { on_board = last_row size.columns size.rows column size.rows_in.0 in_board; rises = high },
      letter ∙ ap (λ n. lower_a + n) (sym (last_column size.columns size.rows column in_board)),
    )

    -- and else none does
    pub letter_is_high : IsFirstByteOfTurnFrom size least byte → least ≤ (size.rows - 1) * size.columns + column
    letter_is_high (Play p, from, e) =
        let bound = row_bound size.columns size.rows p size.columns_in.0 from.on_board in
        let same : p % size.columns ≡ column = omega (arith, letter, e) in
        omega (arith, from.rises, rw same at bound)
    letter_is_high (Pass, from, e) = absurd (omega (arith, letter, e))

  -- a byte that is no dash and no letter of a column begins none
  pub no_letter : (byte least : ℕ) → (byte ≡ dash → ⊥) → ((n : ℕ) → n < size.columns → byte ≡ lower_a + n → ⊥) → IsFirstByteOfTurnFrom size least byte → ⊥
  no_letter byte least never nowhere (Play p, from, e) = nowhere (p % size.columns) (omega (arith, size.columns_in.0)) e
  no_letter byte least never nowhere (Pass, from, e) = never e

  -- ---- trees

  -- where none of `.`, `!` and `?` stands, and no `!` where no turn may come
  pub tree_first : (d : ℕ) (r : List ℕ)
      → ((b : ℕ) (bs : List ℕ) → r ≡ b ∷ bs → (b ≢ won_symbol) × (b ≢ replies_symbol) × (b ≡ pick_symbol → d ≡ 0)) → StopsBefore (IsTextOfTree size d) r r
  tree_first d r never =
      stops_here (IsTextOfTree size d) r (won_symbol ∷ []) (done, tt, omega arith, refl)
      (λ b bs more x z e is at. none_begins is.0 b more z (never b bs e) is.2 (at ∙ ap (λ w. w ++ z) is.3))
    where
      none_begins : (u : Strategy) (b : ℕ) (more z : List ℕ) → (b ≢ won_symbol) × (b ≢ replies_symbol) × (b ≡ pick_symbol → d ≡ 0) → depth u ≤ d
          → b ∷ more ≡ tree_text size u ++ z → ⊥
      none_begins done b more z never low at = never.0 (heads at)
      none_begins (pick t u) b more z never low at = let e = never.2 (heads at) in omega (arith, e, low)
      none_begins (reply es) b more z never low at = never.1 (heads at)

  -- `.` is a tree
  pub won_read : (d : ℕ) (r y : List ℕ) → r ≡ won_symbol ∷ y → BeginsByText (IsTextOfTree size d) r y
  won_read d r y e = (won_symbol ∷ [], (done, tt, omega arith, refl), e)

  module _ (e : ℕ) where
    -- where the turn behind `!` stops
    pub pick_turn_stops : (r y : List ℕ) → StopsBefore (IsTextOfTurnFrom size 0) r y → StopsBefore (IsTextOfTree size (suc e)) (pick_symbol ∷ r) y
    pick_turn_stops r y =
        behind (IsTextOfTurnFrom size 0) (IsTextOfTree size (suc e)) (pick_symbol ∷ []) r y
        (λ x is. (won_symbol ∷ [], (pick is.0 done, (is.1.on_board, tt), omega arith, ap (λ w. pick_symbol ∷ (w ++ (won_symbol ∷ []))) is.2)))
        (λ c cs w x z _ is at. turn_of is.0 (c ∷ w) z is.1 (at ∙ ap (λ v. v ++ z) is.3))
      where
        turn_of : (u : Strategy) (w z : List ℕ) → IsInOrder size u → pick_symbol ∷ w ≡ tree_text size u ++ z
            → (x : List ℕ) × (z' : List ℕ) × IsTextOfTurnFrom size 0 x × (w ≡ x ++ z')
        turn_of done w z o at = absurd (omega (arith, heads at))
        turn_of (pick t u) w z o at = (turn_text size t, tree_text size u ++ z, (t, record { on_board = o.0; rises = omega arith }, refl), tails at)
        turn_of (reply es) w z o at = absurd (omega (arith, heads at))

    module _ (t : Turn) (on : IsTurnOnBoardOfSize size t) (r after y : List ℕ) (text : r ≡ turn_text size t ++ after) where
      -- where the tree behind `!` and a turn stops
      pub pick_tree_stops : StopsBefore (IsTextOfTree size e) after y → StopsBefore (IsTextOfTree size (suc e)) (pick_symbol ∷ r) y
      pick_tree_stops s =
          subst (λ w. StopsBefore (IsTextOfTree size (suc e)) (pick_symbol ∷ w) y) (sym text)
          (behind (IsTextOfTree size e) (IsTextOfTree size (suc e)) (pick_symbol ∷ turn_text size t) after y
          (λ x is. ([], (pick t is.0, (on, is.1), omega (arith, is.2), ap (λ w. pick_symbol ∷ (turn_text size t ++ w)) (append-nil x ∙ is.3))))
          (λ c cs w x z _ is at. tree_of is.0 (c ∷ w) z is.1 is.2 (at ∙ ap (λ v. v ++ z) is.3)) s)
        where
          tree_of : (u : Strategy) (w z : List ℕ) → IsInOrder size u → depth u ≤ suc e → pick_symbol ∷ (turn_text size t ++ w) ≡ tree_text size u ++ z
              → (x : List ℕ) × (z' : List ℕ) × IsTextOfTree size e x × (w ≡ x ++ z')
          tree_of done w z o low at = absurd (omega (arith, heads at))
          tree_of (pick v u) w z o low at = (tree_text size u, z, (u, o.1, omega (arith, low), refl), tails (tails (tails at)))
          tree_of (reply es) w z o low at = absurd (omega (arith, heads at))

      -- a turn and a tree behind `!` are a tree
      pub pick_tree_read : BeginsByText (IsTextOfTree size e) after y → BeginsByText (IsTextOfTree size (suc e)) (pick_symbol ∷ r) y
      pick_tree_read (x, (u, o, low, is), at) = (
        pick_symbol ∷ (turn_text size t ++ x),
        (pick t u, (on, o), omega (arith, low), ap (λ w. pick_symbol ∷ (turn_text size t ++ w)) is),
        ap (λ w. pick_symbol ∷ w) (text ∙ ap (λ w. turn_text size t ++ w) at),
      )

-- ---- replies

-- The walk came from `?` in front of bytes to `now`, where turns are due whose numbers are at least so great: what is found there is found of the reply.
pub record SkippedTo (size : Size) (d : ℕ) (bytes : List ℕ) (least : ℕ) (now : List ℕ) : Type 0 where
  pub stops : (y : List ℕ) → StopsBefore (IsTextOfEntries size d least) now y → StopsBefore (IsTextOfTree size d) (replies_symbol ∷ bytes) y
  pub ends : (y : List ℕ) → BeginsByText (IsTextOfEntries size d least) now y → BeginsByText (IsTextOfTree size d) (replies_symbol ∷ bytes) y

module _ (size : Size) (d : ℕ) where
  -- right behind `?`
  pub reply_begins : (bytes : List ℕ) → SkippedTo size d bytes 0 bytes
  reply_begins bytes = record {
    stops =
        λ y. behind (IsTextOfEntries size d 0) (IsTextOfTree size d) (replies_symbol ∷ []) bytes y
        (λ x is. ([], (reply is.0, is.1, is.2, ap (λ w. replies_symbol ∷ w) (append-nil x ∙ is.3))))
        (λ c cs w x z _ is at. entries_of is.0 (c ∷ w) z is.1 is.2 (at ∙ ap (λ v. v ++ z) is.3));
    ends = λ y h. (replies_symbol ∷ h.0, (reply h.1.0, h.1.1, h.1.2, ap (λ w. replies_symbol ∷ w) h.1.3), ap (λ w. replies_symbol ∷ w) h.2);
  }
    where
      entries_of : (u : Strategy) (w z : List ℕ) → IsInOrder size u → depth u ≤ d → replies_symbol ∷ w ≡ tree_text size u ++ z
          → (x : List ℕ) × (z' : List ℕ) × IsTextOfEntries size d 0 x × (w ≡ x ++ z')
      entries_of done w z o low at = absurd (omega (arith, heads at))
      entries_of (pick t u) w z o low at = absurd (omega (arith, heads at))
      entries_of (reply es) w z o low at = (entries_text size es, z, (es, o, low, refl), tails at)

  -- `;` ends the reply
  pub reply_ends : (bytes : List ℕ) (least : ℕ) (now y : List ℕ) → SkippedTo size d bytes least now → now ≡ semicolon ∷ y → BeginsByText (IsTextOfTree size d) (replies_symbol ∷ bytes) y
  reply_ends bytes least now y h e = h.ends y (semicolon ∷ [], (none, tt, omega arith, refl), e)

  -- where no turn may come, and no `;` does
  pub reply_full : (bytes : List ℕ) (least : ℕ) (now : List ℕ) → SkippedTo size d bytes least now → ((y : List ℕ) → now ≡ semicolon ∷ y → ⊥)
      → (0 < d → point_count size < least) → StopsBefore (IsTextOfTree size d) (replies_symbol ∷ bytes) now
  reply_full bytes least now h never full =
      h.stops now (stops_here (IsTextOfEntries size d least) now (semicolon ∷ []) (none, tt, omega arith, refl)
      (λ b bs more x z e is at. none_begins is.0 b bs more z e is.1 is.2 (at ∙ ap (λ w. w ++ z) is.3)))
    where
      none_begins : (es : Entries) (b : ℕ) (bs more z : List ℕ) → now ≡ b ∷ bs → AreInOrder size least es → depth_of_entries es ≤ d
          → b ∷ more ≡ entries_text size es ++ z → ⊥
      none_begins none b bs more z e o low at = never bs (e ∙ ap (λ c. c ∷ bs) (heads at))
      none_begins (entry t u es) b bs more z e o low at =
          let some = full (omega (arith, low)) in let bound = turn_number_bound size t o.1 in omega (arith, some, bound, o.0)

module _ (size : Size) (some : 1 ≤ size.columns) (e : ℕ) (bytes : List ℕ) (least : ℕ) (now : List ℕ) (h : SkippedTo size (suc e) bytes least now) where
  -- where the next turn stops
  pub entry_turn_stops : (y : List ℕ) → ((w : List ℕ) → now ≡ semicolon ∷ w → ⊥) → StopsBefore (IsTextOfTurnFrom size least) now y
      → StopsBefore (IsTextOfTree size (suc e)) (replies_symbol ∷ bytes) y
  entry_turn_stops y never s =
      h.stops y (behind (IsTextOfTurnFrom size least) (IsTextOfEntries size (suc e) least) [] now y
      (λ x is. (won_symbol ∷ semicolon ∷ [], (entry is.0 done none, (is.1.rises, is.1.on_board, tt, tt), omega arith, ap (λ w. w ++ (won_symbol ∷ semicolon ∷ [])) is.2)))
      (λ c cs w x z r is at. turn_of is.0 c cs w z r is.1 (at ∙ ap (λ v. v ++ z) is.3)) s)
    where
      turn_of : (es : Entries) (c : ℕ) (cs w z : List ℕ) → now ≡ c ∷ cs → AreInOrder size least es → c ∷ w ≡ entries_text size es ++ z
          → (x : List ℕ) × (z' : List ℕ) × IsTextOfTurnFrom size least x × (c ∷ w ≡ x ++ z')
      turn_of none c cs w z r o at = absurd (never cs (r ∙ ap (λ b. b ∷ cs) (heads at)))
      turn_of (entry t u es) c cs w z r o at =
          (turn_text size t, (tree_text size u ++ entries_text size es) ++ z, (t, record { on_board = o.1; rises = o.0 }, refl), at)

  module _ (t : Turn) (from : IsTurnFrom size least t) (mid : List ℕ) (text : now ≡ turn_text size t ++ mid) where
    -- where the tree behind a turn stops
    pub entry_tree_stops : (y : List ℕ) → StopsBefore (IsTextOfTree size e) mid y → StopsBefore (IsTextOfTree size (suc e)) (replies_symbol ∷ bytes) y
    entry_tree_stops y s =
        h.stops y (subst (λ w. StopsBefore (IsTextOfEntries size (suc e) least) w y) (sym text)
        (behind (IsTextOfTree size e) (IsTextOfEntries size (suc e) least) (turn_text size t) mid y
        (λ x is. (semicolon ∷ [], (entry t is.0 none, (from.rises, from.on_board, is.1, tt), omega (arith, is.2), ap (λ w. turn_text size t ++ (w ++ (semicolon ∷ []))) is.3)))
        (λ c cs w x z _ is at. tree_of is.0 (c ∷ w) z is.1 is.2 (at ∙ ap (λ v. v ++ z) is.3)) s))
      where
        tree_of : (es : Entries) (w z : List ℕ) → AreInOrder size least es → depth_of_entries es ≤ suc e → turn_text size t ++ w ≡ entries_text size es ++ z
            → (x : List ℕ) × (z' : List ℕ) × IsTextOfTree size e x × (w ≡ x ++ z')
        tree_of none w z o low at = absurd (turn_not_end size some t (heads at))
        tree_of (entry s u es) w z o low at =
            (tree_text size u, entries_text size es ++ z, (u, o.2, omega (arith, low), refl), tails (tails at) ∙ append_assoc (tree_text size u) (entries_text size es) z)

    -- behind an entry
    pub entry_skipped : (after : List ℕ) → BeginsByText (IsTextOfTree size e) mid after → SkippedTo size (suc e) bytes (turn_number_on_size size t + 1) after
    entry_skipped after (x, (u, o, low, is), at) = record {
      stops =
          λ y s. h.stops y (subst (λ w. StopsBefore (IsTextOfEntries size (suc e) least) w y) (sym whole)
          (behind (IsTextOfEntries size (suc e) (turn_number_on_size size t + 1)) (IsTextOfEntries size (suc e) least) (turn_text size t ++ tree_text size u) after y
          (λ x is. (
            [],
            (
              entry t u is.0,
              (from.rises, from.on_board, o, is.1),
              omega (arith, low, is.2),
              append_assoc (turn_text size t) (tree_text size u) (x ++ []) ∙ ap (λ w. turn_text size t ++ (tree_text size u ++ w)) (append-nil x ∙ is.3),
            ),
          ))
          (λ c cs w x z _ is at. entries_of is.0 (c ∷ w) z is.1 is.2 (at ∙ ap (λ v. v ++ z) is.3)) s));
      ends =
          λ y b. h.ends y (
            turn_text size t ++ (tree_text size u ++ b.0),
            (entry t u b.1.0, (from.rises, from.on_board, o, b.1.1), omega (arith, low, b.1.2), ap (λ w. turn_text size t ++ (tree_text size u ++ w)) b.1.3),
            whole ∙ ap (λ w. (turn_text size t ++ tree_text size u) ++ w) b.2 ∙ simp append_assoc,
          );
    }
      where
        whole : now ≡ (turn_text size t ++ tree_text size u) ++ after
        whole = text ∙ ap (λ w. turn_text size t ++ w) (at ∙ ap (λ w. w ++ after) is)

        entries_of : (es : Entries) (w z : List ℕ) → AreInOrder size least es → depth_of_entries es ≤ suc e
            → (turn_text size t ++ tree_text size u) ++ w ≡ entries_text size es ++ z
            → (x : List ℕ) × (z' : List ℕ) × IsTextOfEntries size (suc e) (turn_number_on_size size t + 1) x × (w ≡ x ++ z')
        entries_of none w z i deep g = absurd (turn_not_end size some t (heads g))
        entries_of (entry s v es) w z i deep g =
            let t_is = same_turn size some t s (heads g) (heads (tails g)) in
            let r = same_tree size some u v w (entries_text size es ++ z) (tails (tails g) ∙ append_assoc (tree_text size v) (entries_text size es) z) in
            let rising : AreInOrder size (turn_number_on_size size t + 1) es = subst (λ q. AreInOrder size (turn_number_on_size size q + 1) es) (sym t_is) i.3 in
            (entries_text size es, z, (es, rising, omega (arith, deep), refl), r.1)

-- ---- certificates

-- the text of some certificate
abbrev IsTextOfCertificate : Size → List ℕ → Type 0
IsTextOfCertificate size x = (side : Side) × (u : Strategy) × IsCertificate size x side u

module _ (size : Size) (bytes front y : List ℕ) (parts : bytes ≡ front ++ y) where
  -- so many bytes stand in front
  front_length : length bytes - length y ≡ length front
  front_length = omega (arith, ap length parts, length-append front y)

  front_is : take (length bytes - length y) bytes ≡ front
  front_is = ap (λ n. take n bytes) front_length ∙ ap (take (length front)) parts ∙ take-append_seam front y

  -- with one byte more
  front_and_next : (b : ℕ) (bs : List ℕ) → y ≡ b ∷ bs → take (length bytes - length y + 1) bytes ≡ front ++ (b ∷ [])
  front_and_next b bs e =
      ap (λ n. take (n + 1) bytes) front_length ∙ ap (take (length front + 1)) (parts ∙ ap (λ w. front ++ w) e) ∙ take-append-add front (b ∷ bs) 1

  -- what the index has to be
  pub stops_at : BeginsSomeCertificate size front → ((b : ℕ) (bs more : List ℕ) → y ≡ b ∷ bs → IsTextOfCertificate size (front ++ (b ∷ more)) → ⊥)
      → CertificateStopsAt size bytes (length bytes - length y)
  stops_at before never = record {
    within = omega arith;
    before = subst (BeginsSomeCertificate size) (sym front_is) before;
    stops = λ lt h. next y refl lt h;
  }
    where
      next : (w : List ℕ) → y ≡ w → length bytes - length y < length bytes → BeginsSomeCertificate size (take (length bytes - length y + 1) bytes) → ⊥
      next [] e lt h = let empty = ap length e in omega (arith, lt, empty)
      next (b ∷ bs) e lt h =
          never b bs h.0 e (h.1, h.2, subst (λ w. IsCertificate size w h.1 h.2) (ap (λ w. w ++ h.0) (front_and_next b bs e) ∙ append_assoc front (b ∷ []) h.0) h.3)

module _ (size : Size) (bytes rest : List ℕ) (s : Side) (at : bytes ≡ side_prefix s ++ rest) (y : List ℕ) where
  some : 1 ≤ size.columns
  some = size.columns_in.0

  -- where the tree stops
  pub certificate_tree_stops : StopsBefore (IsTextOfTree size MOST_DEPTH) rest y → CertificateStopsAt size bytes (length bytes - length y)
  certificate_tree_stops h =
      let w : StopsBefore (IsTextOfCertificate size) (side_prefix s ++ rest) y = behind (IsTextOfTree size MOST_DEPTH) (IsTextOfCertificate size) (side_prefix s) rest y
      (λ x is. (
        [],
        (s, is.0, record { in_order = is.1; shallow = is.2; text = ap (λ w. side_prefix s ++ w) (append-nil x ∙ is.3) }),
      ))
      (λ c cs w x z _ is g. (
        tree_text size is.1,
        z,
        (is.1, is.2.in_order, is.2.shallow, refl),
        (side_apart size some s is.0 (c ∷ w) (tree_text size is.1 ++ z)
            (g ∙ ap (λ v. v ++ z) is.2.text ∙ append_assoc (side_prefix is.0) (tree_text size is.1) z)).1,
      )) h in
      stops_at size bytes w.front y (at ∙ w.parts) (w.begins.0, w.begins.1.0, w.begins.1.1, w.begins.1.2)
      (λ b bs more e is. w.stops b bs more (w.front ++ (b ∷ more)) [] e is (sym (append-nil (w.front ++ (b ∷ more)))))

  -- where a tree stands, no certificate has a byte behind it
  pub certificate_tree_read : BeginsByText (IsTextOfTree size MOST_DEPTH) rest y → CertificateStopsAt size bytes (length bytes - length y)
  certificate_tree_read (x, (u, o, low, is), g) =
      let text : bytes ≡ (side_prefix s ++ tree_text size u) ++ y = at ∙ ap (λ w. side_prefix s ++ w) (g ∙ ap (λ w. w ++ y) is) ∙ sym (append_assoc (side_prefix s) (tree_text size u) y) in
      stops_at size bytes (side_prefix s ++ tree_text size u) y text
      ([], s, u, record { in_order = o; shallow = low; text = append-nil (side_prefix s ++ tree_text size u) })
      (λ b bs more e c.
      let both = side_apart size some s c.0 (tree_text size u ++ (b ∷ more)) (tree_text size c.1)
      (sym (append_assoc (side_prefix s) (tree_text size u) (b ∷ more)) ∙ c.2.text) in
      let one = same_tree size some u c.1 (b ∷ more) [] (both.1 ∙ sym (append-nil (tree_text size c.1))) in
      let behind_it = one.1 in absurd cc)

-- ---- the words of the sides

module _ (bytes : List ℕ) (s : Side) (n : ℕ) (h : HaveInCommon bytes (verdict_word s) n) where
  -- what bytes have in common with a side's word begins a certificate
  pub word_begins : (size : Size) → BeginsSomeCertificate size (take n bytes)
  word_begins size =
      let rest = space ∷ won_symbol ∷ [] in
      let whole : take n bytes ++ (drop n (verdict_word s) ++ rest) ≡ (verdict_word s ++ (space ∷ [])) ++ (won_symbol ∷ []) =
      ap (λ w. w ++ (drop n (verdict_word s) ++ rest)) h.same ∙ sym (append_assoc (take n (verdict_word s)) (drop n (verdict_word s)) rest)
      ∙ ap (λ w. w ++ rest) (take-append-drop n (verdict_word s)) ∙ sym (append_assoc (verdict_word s) (space ∷ []) (won_symbol ∷ [])) in
      (drop n (verdict_word s) ++ rest, s, done, record { in_order = tt; shallow = omega arith; text = whole })

  -- where the word and a blank don't stand in front, none begins with more
  pub word_ends : ((y : List ℕ) → bytes ≡ side_prefix s ++ y → ⊥) → (m : ℕ) → n ≤ m → m < length bytes → (more y : List ℕ)
      → take (m + 1) bytes ++ more ≡ side_prefix s ++ y → ⊥
  word_ends never m le lt more y at = elim (cases_lt n (length (verdict_word s))) [
    | inl inside ↦ h.other few inside (here ∙ get_or-append (verdict_word s) (space ∷ y) 0 n inside)
    | inr all ↦ never (drop (n + 1) bytes) (whole (omega (arith, all, h.short)))
  ]
    where
      few : n < length bytes
      few = omega (arith, le, lt)

      text : take (m + 1) bytes ++ more ≡ verdict_word s ++ (space ∷ y)
      text = at ∙ append_assoc (verdict_word s) (space ∷ []) y

      -- the byte behind what is common
      here : get_or bytes n 0 ≡ get_or (verdict_word s ++ (space ∷ y)) n 0
      here =
          sym (get_or-take (m + 1) bytes n 0 (omega (arith, le)))
          ∙ sym (get_or-append (take (m + 1) bytes) more 0 n (omega (arith, length-take-le (m + 1) bytes (omega (arith, lt)), le)))
          ∙ ap (λ w. get_or w n 0) text

      -- where the whole word is common, it is a blank
      whole : n ≡ length (verdict_word s) → bytes ≡ side_prefix s ++ drop (n + 1) bytes
      whole e =
          let blank : get_or bytes n 0 ≡ space = here ∙ ap (λ k. get_or (verdict_word s ++ (space ∷ y)) k 0) e ∙ get_or-append_seam (verdict_word s) space y 0 in
          let word : take n bytes ≡ verdict_word s = h.same ∙ take_all n (verdict_word s) (omega (arith, e)) in
          sym (take-append-drop (n + 1) bytes)
          ∙ ap (λ w. w ++ drop (n + 1) bytes) (take_more bytes n 0 few ∙ ap (λ w. w ++ (get_or bytes n 0 ∷ [])) word ∙ ap (λ b. verdict_word s ++ (b ∷ [])) blank)

-- where so many bytes begin a certificate, and none has a side's word there with one more
words_stop : (size : Size) (bytes : List ℕ) (m : ℕ) → m ≤ length bytes → BeginsSomeCertificate size (take m bytes)
    → ((s : Side) → m < length bytes → (more y : List ℕ) → take (m + 1) bytes ++ more ≡ side_prefix s ++ y → ⊥) → CertificateStopsAt size bytes m
words_stop size bytes m le before never =
    record { within = le; before = before; stops = λ lt h. never h.1 lt h.0 (tree_text size h.2) (h.3.text) }

-- where no side's word and a blank stand in front, they stop behind what they have in common with one of the words
pub sides_stop : (size : Size) (bytes : List ℕ) (a d : ℕ) → HaveInCommon bytes (verdict_word Attacker) a → HaveInCommon bytes (verdict_word Defender) d
    → ((s : Side) (y : List ℕ) → bytes ≡ side_prefix s ++ y → ⊥) → CertificateStopsAt size bytes (max a d)
sides_stop size bytes a d h k never = later (cases_lt a d)
  where
    ends : (m : ℕ) → a ≤ m → d ≤ m → (s : Side) → m < length bytes → (more y : List ℕ) → take (m + 1) bytes ++ more ≡ side_prefix s ++ y → ⊥
    ends m x y Attacker = word_ends bytes Attacker a h (never Attacker) m x
    ends m x y Defender = word_ends bytes Defender d k (never Defender) m y

    later : (a < d) ⊎ (d ≤ a) → CertificateStopsAt size bytes (max a d)
    later (inl lt) =
        let is : d ≡ max a d = omega (arith, lt) in
        subst (CertificateStopsAt size bytes) is (words_stop size bytes d k.within (word_begins bytes Defender d k size) (ends d (omega (arith, lt)) (omega arith)))
    later (inr le) =
        let is : a ≡ max a d = omega (arith, le) in
        subst (CertificateStopsAt size bytes) is (words_stop size bytes a h.within (word_begins bytes Attacker a h size) (ends a (omega arith) (omega (arith, le))))
