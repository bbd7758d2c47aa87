-- Names of chains and life when a stone comes, and when a chain goes.
use Rattle.std.proofs.Common.{◌≡◌, ◌≢◌, ℕ, ◌/◌, ◌<◌, ◌≤◌, ◌⊎◌, List, Option, Some, None, set, map, replicate, length, inl, inr, sym, ap, subst, ◌∙◌}
use Rattle.std.proofs.lemmas.Bool.{cases_eq, cases_lt}
use Rattle.std.proofs.lemmas.List.{get_or-set_same, get_or-set_other, get_or_past, get_or-replicate, length-replicate}
use Rattle.tt_board.specs.declared.Colour.{Colour}
use Rattle.tt_sgf.specs.declared.size.Size.{Size}
use Rattle.tt_sgf.specs.Sizes.{point_count}
use Rattle.tt_board.specs.Position.{Colouring}
use Rattle.tt_board.specs.Reach.{entry_at, Reaches}
use Rattle.tt_board.specs.ReachLaws.{reaches_beside, reaches_on, reaches_all}
use Rattle.tt_board.specs.Decided.{decide_same_entry}
use Rattle.tt_board.specs.Setup.{AllHaveLiberties}
use Rattle.tt_board.specs.declared.counted.chain_counts.ChainCounts.{ChainCounts}
use Rattle.tt_board.specs.inside.Chains.{AreLinked, name_at, root_of, colour_number, IsNamed, stone_count, renamed, AreCounted, AreNames, AreNamesBut, OtherChainsCounted, IsChainBoard}
use Rattle.tt_board.proofs.LinkLemmas.{linked_self, linked_kept, named_bare, stone_named, one_name}
use Rattle.tt_board.proofs.NameLemmas.{at_p, off_p}
use Rattle.tt_board.proofs.JoinLemmas.{name_renamed, renamed_is, renamed_not, stones_others}

-- ---- life

-- with fewer stones each stone still reaches empty
pub alive_fewer : (s : Size) (c d : Colouring) → AllHaveLiberties s c → ((q : ℕ) → (entry_at d q ≡ entry_at c q) ⊎ (entry_at d q ≡ None)) → AllHaveLiberties s d
alive_fewer s c d alive fewer x in_x stone =
    let same : entry_at d x ≡ entry_at c x = elim (fewer x) [ inl e ↦ e | inr bare ↦ absurd (stone bare) ] in
    let r = alive x in_x (λ bare. stone (same ∙ bare)) in
    reaches_all s c None (λ y. entry_at d y ≢ None → Reaches s d y None)
    (λ y q in_y not_e near has there. reaches_beside s d None y q there near (elim (fewer q) [ inl e ↦ e ∙ has | inr bare ↦ bare ]))
    (λ y q in_y not_e near alike later there. elim (decide_same_entry (entry_at d q) None) [
      | inl bare ↦ reaches_beside s d None y q there near bare
      | inr some ↦
          let kept = λ (z : ℕ) (h : entry_at d z ≢ None). (let e : entry_at d z ≡ entry_at c z = elim (fewer z) [ inl e' ↦ e' | inr bare ↦ absurd (h bare) ] in e) in
          reaches_on s d None y q near (kept q some ∙ alike ∙ sym (kept y there)) (later some)
    ])
    x r.path in_x r.adjacent r.alike r.other r.found r.beside r.has_entry stone

-- ---- a stone comes

module _ (s : Size) (c : Colouring) (ns : List ℕ) (k : Colour) (p e : ℕ) (in_p : p < point_count s) (fits : p < length c) (wide : p < length ns) (free : entry_at c p ≡ None)
    (names : AreNames s c ns) (rooted : (q : ℕ) → name_at ns q ≢ 0 → name_at ns (root_of (name_at ns q)) ≡ name_at ns q)
    (living : e ≢ 0) (root_e : root_of e ≡ p) (coded : e / 512 ≡ colour_number k) where
  -- the point has no name yet, and no stone the new one
  pub bare_p : name_at ns p ≡ 0
  bare_p = named_bare _ _ (names.named p) free

  -- no stone has the new name: its root would stand on p
  unused : (q : ℕ) → name_at ns q ≢ e
  unused q is = living (sym is ∙ sym (rooted q (λ z. living (sym is ∙ z))) ∙ ap (λ x. name_at ns (root_of x)) is ∙ ap (name_at ns) root_e ∙ bare_p)

  -- the names name the chains, but that the stone isn't joined yet
  pub but_placed : AreNamesBut s (set c p (Some k)) (set ns p e) p
  but_placed = record {
    named = λ q. elim (cases_eq q p) [
      | inl same ↦ subst (λ x. IsNamed (entry_at (set c p (Some k)) x) (name_at (set ns p e) x)) (sym same)
          (subst (λ x. IsNamed x (name_at (set ns p e) p)) (sym (get_or-set_same c p (Some k) None fits)) (ap (λ x. x / 512) (at_p s ns p e in_p wide) ∙ coded))
      | inr apart ↦ subst (λ x. IsNamed x (name_at (set ns p e) q)) (sym (off q apart)) (subst (IsNamed (entry_at c q)) (sym (off_p s ns p e in_p wide q apart)) (names.named q))
    ];
    one_chain = λ x y in_x in_y some same. elim (cases_eq x p) [
      | inl xp ↦ elim (cases_eq y p) [
        | inl yp ↦ subst (AreLinked s (set c p (Some k)) x) (xp ∙ sym yp) (linked_self s (set c p (Some k)) x)
        | inr ay ↦ absurd (unused y (sym (off_p s ns p e in_p wide y ay) ∙ sym same ∙ now x xp))
      ]
      | inr ax ↦ elim (cases_eq y p) [
        | inl yp ↦ absurd (unused x (sym (off_p s ns p e in_p wide x ax) ∙ same ∙ now y yp))
        | inr ay ↦
            let was : name_at ns x ≢ 0 = λ z. some (off_p s ns p e in_p wide x ax ∙ z) in
            let one = sym (off_p s ns p e in_p wide x ax) ∙ same ∙ off_p s ns p e in_p wide y ay in
            linked_kept s c (set c p (Some k)) (λ z. entry_at c z ≢ None) (λ z w in_z stone near alike bare. stone (sym alike ∙ bare))
            (λ z in_z stone. off z (λ same'. stone (ap (entry_at c) same' ∙ free))) x y in_x (stone_named _ _ (names.named x) was)
            ((names.linked x y in_x in_y (stone_named _ _ (names.named x) was) (stone_named _ _ (names.named y) (λ z. was (one ∙ z)))).0 one)
      ]
    ];
    one_name = λ x y in_x near ax ay stone alike.
        off_p s ns p e in_p wide x ax
        ∙ one_name s c ns names x y in_x near (λ bare. stone (off x ax ∙ bare)) (sym (off y ay) ∙ alike ∙ off x ax)
        ∙ sym (off_p s ns p e in_p wide y ay);
  }
    where
      off : (q : ℕ) → q ≢ p → entry_at (set c p (Some k)) q ≡ entry_at c q
      off q apart = get_or-set_other c p q (Some k) None apart

      now : (q : ℕ) → q ≡ p → name_at (set ns p e) q ≡ e
      now q same = ap (name_at (set ns p e)) same ∙ at_p s ns p e in_p wide

-- ---- a chain goes

module _ (s : Size) (c d : Colouring) (ns : List ℕ) (e : ℕ) (living : e ≢ 0) (names : AreNames s c ns)
    (gone : (q : ℕ) → name_at ns q ≡ e → entry_at d q ≡ None) (kept : (q : ℕ) → name_at ns q ≢ e → entry_at d q ≡ entry_at c q) where
  -- where a stone is left its name was another
  other_name : (q : ℕ) → entry_at d q ≢ None → name_at ns q ≢ e
  other_name q stone is = stone (gone q is)

  -- the names of the other chains name them still
  pub names_taken : AreNames s d (map (renamed e 0) ns)
  names_taken = record {
    named = λ q. elim (cases_eq (name_at ns q) e) [
      | inl is ↦ subst (λ x. IsNamed x (name_at (map (renamed e 0) ns) q)) (sym (gone q is)) (name_renamed e 0 ns q living ∙ renamed_is e 0 _ is)
      | inr other ↦ subst (λ x. IsNamed x (name_at (map (renamed e 0) ns) q)) (sym (kept q other)) (subst (IsNamed (entry_at c q)) (sym (now q other)) (names.named q))
    ];
    linked = λ x y in_x in_y stone also.
        let ox = other_name x stone in let oy = other_name y also in
        let cx : entry_at c x ≢ None = λ bare. stone (kept x ox ∙ bare) in
        let cy : entry_at c y ≢ None = λ bare. also (kept y oy ∙ bare) in (
          λ same. linked_kept s c d (λ z. (entry_at c z ≢ None) × (name_at ns z ≢ e))
              (λ z w in_z h near alike. ((λ bare. h.0 (sym alike ∙ bare)), (λ is. h.1 (one_name s c ns names z w in_z near h.0 alike ∙ is))))
              (λ z in_z h. kept z h.1) x y in_x (cx, ox)
              ((names.linked x y in_x in_y cx cy).0 (sym (now x ox) ∙ same ∙ now y oy)),
          λ l. now x ox ∙ (names.linked x y in_x in_y cx cy).1
              (linked_kept s d c (λ z. entry_at d z ≢ None) (λ z w in_z h near alike bare. h (sym alike ∙ bare))
              (λ z in_z h. sym (kept z (other_name z h))) x y in_x stone l) ∙ sym (now y oy),
        );
  }
    where
      now : (q : ℕ) → name_at ns q ≢ e → name_at (map (renamed e 0) ns) q ≡ name_at ns q
      now q other = name_renamed e 0 ns q living ∙ renamed_not e 0 _ other

  -- fewer stones
  pub taken_fewer : (q : ℕ) → (entry_at d q ≡ entry_at c q) ⊎ (entry_at d q ≡ None)
  taken_fewer q = elim (cases_eq (name_at ns q) e) [ inl is ↦ inr (gone q is) | inr other ↦ inl (kept q other) ]

-- the counts of the other chains are true still
pub counted_taken : (s : Size) (b after : ChainCounts) (e : ℕ) → e ≢ 0 → AreCounted s b → after.names ≡ map (renamed e 0) b.names → after.stones ≡ b.stones
    → OtherChainsCounted s after.names after.liberties e → AreCounted s after
counted_taken s b after e living counted names stones others = record {
  ends = rw names (λ q past. name_renamed e 0 b.names q living ∙ renamed_not e 0 _ (λ is. living (sym is ∙ counted.ends q past)) ∙ counted.ends q past);
  rooted = rw names (λ q some. let w = was q some in
      subst (λ m. name_at (map (renamed e 0) b.names) (root_of m) ≡ m) (sym w.0)
      (let root = counted.rooted q w.1 in name_renamed e 0 b.names (root_of (name_at b.names q)) living ∙ renamed_not e 0 _ (λ is. w.2 (sym root ∙ is)) ∙ root));
  stones_true = rw (names, stones) (λ q some. let w = was q some in
      subst (λ m. name_at b.stones (root_of m) ≡ stone_count (map (renamed e 0) b.names) m) (sym w.0) (counted.stones_true q w.1 ∙ sym (stones_others e 0 (name_at b.names q) b.names w.2 w.1)));
  liberties_true = λ q some. others q some (λ is. let same = ap (λ xs. name_at xs q) names in let w = was q (λ z. some (same ∙ z)) in w.2 (sym w.0 ∙ sym same ∙ is));
}
  where
    was : (q : ℕ) → name_at (map (renamed e 0) b.names) q ≢ 0 → (name_at (map (renamed e 0) b.names) q ≡ name_at b.names q) × (name_at b.names q ≢ 0) × (name_at b.names q ≢ e)
    was q some = elim (cases_eq (name_at b.names q) e) [
      | inl is ↦ absurd (some (name_renamed e 0 b.names q living ∙ renamed_is e 0 _ is))
      | inr other ↦ let same = name_renamed e 0 b.names q living ∙ renamed_not e 0 _ other in (same, (λ z. some (same ∙ z)), other)
    ]

-- ---- no stone

-- zeros name the chains of an empty board
pub none_placed : (s : Size) → IsChainBoard (record {
  size = s;
  points = replicate (point_count s) None;
  counts = record { names = replicate 361 0; stones = replicate 361 0; liberties = replicate 361 0 };
  end = 0;
})
none_placed s = record {
  fits = length-replicate {A = Option Colour} (point_count s) None;
  named = record {
    named = λ q. subst (λ x. IsNamed x (name_at (replicate 361 0) q)) (sym (bare q)) (zero q);
    linked = λ x y in_x in_y stone also. absurd (stone (bare x));
  };
  counted = record {
    ends = λ q past. zero q;
    rooted = λ q some. absurd (some (zero q));
    stones_true = λ q some. absurd (some (zero q));
    liberties_true = λ q some. absurd (some (zero q));
  };
  alive = λ x in_x stone. absurd (stone (bare x));
  rest = λ q _. bare q;
}
  where
    bare : (q : ℕ) → entry_at (replicate (point_count s) None) q ≡ None
    bare q = elim (cases_lt q (point_count s)) [
      | inl below ↦ get_or-replicate {A = Option Colour} (point_count s) q None None below
      | inr past ↦ get_or_past (replicate (point_count s) None) q None (subst (λ n. n ≤ q) (sym (length-replicate {A = Option Colour} (point_count s) None)) past)
    ]

    zero : (q : ℕ) → name_at (replicate 361 0) q ≡ 0
    zero q = elim (cases_lt q 361) [
      | inl below ↦ get_or-replicate {A = ℕ} 361 q 0 0 below
      | inr past ↦ get_or_past (replicate 361 0) q 0 (subst (λ n. n ≤ q) (sym (length-replicate {A = ℕ} 361 0)) past)
    ]
