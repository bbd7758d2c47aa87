-- The walk from byte to byte, against the grammar.
use Rattle.std.proofs.Common.{◌≡◌, ◌≢◌, ℕ, zero, suc, ◌+◌, ◌<◌, ◌≤◌, ◌⊎◌, inl, inr, Bool, true, false, ◌&&◌, ◌||◌, cond, eqb}
use Rattle.std.proofs.Common.{List, [], ◌∷◌, ◌++◌, length, get_or, take, refl, sym, ap, subst, ◌∙◌, append_assoc, arith}
use Rattle.std.specs.List.{filter, list_any}
use Rattle.std.proofs.lemmas.Bool.{eqb-true}
use Rattle.std.proofs.lemmas.List.{take_all, take_more}
use Rattle.tt_sgf.specs.Bytes.{backslash, close_tree, close_value, open_tree, open_value, semicolon, upper_A}
use Rattle.tt_sgf.specs.declared.nodes.Node.{Node as NodeRecord}
use Rattle.tt_sgf.specs.declared.nodes.Property.{Property}
use Rattle.tt_sgf.specs.declared.stops.Place.{Place}
use Rattle.tt_sgf.specs.declared.stops.Place.TheVariants.{Outside, Opened, Node, Name, Named, Value, Trees as Behind, Done, Stuck}
use Rattle.tt_sgf.specs.Grammar.{is_blank, is_letter_or_digit, is_upper, is_digit, is_lower, is_kept_in_name, AreBlanks, IsRawValue, AreLettersOrDigits}
use Rattle.tt_sgf.specs.Grammar.{AreValues, AreProperties, AreNodes, GameTree, Trees, game, no_tree, more_trees, Spells, AreTrees, FirstTreeEndsAt}
use Rattle.tt_sgf.specs.inside.Places.{closed, at_bracket, in_node, at_value, step, run}
use Rattle.tt_sgf.specs.Stops.{BeginsSomeTree, StopsAt}
use Rattle.tt_sgf.proofs.FirstTreeLemmas.{or_false}
use Rattle.tt_sgf.proofs.ListLemmas.{blank_is_no_word, four}

-- ---- classes of bytes

-- a letter or a digit is not white space
word_is_no_blank : (b : ℕ) → is_letter_or_digit b ≡ true → is_blank b ≡ false
unfolding is_blank is_letter_or_digit is_upper is_digit is_lower
word_is_no_blank b e = grind arith

-- ---- the walk, part by part

run-append : (p : Place) (xs ys : List ℕ) → run p (xs ++ ys) ≡ run (run p xs) ys
run-append p [] ys = refl
run-append p (x ∷ xs) ys = run-append (step p x) xs ys

-- over white space, where one such byte stays
stays : (p : Place) (xs : List ℕ) → ((b : ℕ) → is_blank b ≡ true → step p b ≡ p) → AreBlanks xs → run p xs ≡ p
stays p [] h a = refl
stays p (x ∷ xs) h a = ap (λ (q : Place). run q xs) (h x a.0) ∙ stays p xs h a.1

over_blanks : (p : Place) (xs ys : List ℕ) → ((b : ℕ) → is_blank b ≡ true → step p b ≡ p) → AreBlanks xs → run p (xs ++ ys) ≡ run p ys
over_blanks p xs ys h a = run-append p xs ys ∙ ap (λ (q : Place). run q ys) (stays p xs h a)

-- behind the whole tree, and where none can be
done_stays : (xs : List ℕ) → run Done xs ≡ Done
done_stays [] = refl
done_stays (x ∷ xs) = done_stays xs

stuck_stays : (xs : List ℕ) → run Stuck xs ≡ Stuck
stuck_stays [] = refl
stuck_stays (x ∷ xs) = stuck_stays xs

-- ---- the grammar gives the walk

module _ (d : ℕ) where
  -- the inside of a value
  raw_runs : (e : Bool) (v : List ℕ) → IsRawValue e v → run (Value d e) v ≡ Value d false
  raw_runs e [] h = ap (λ (x : Bool). Value d x) h
  raw_runs true (b ∷ bs) h = raw_runs false bs h
  raw_runs false (b ∷ bs) h = ap (λ (x : Bool). run (cond x (Node d true) (Value d (eqb b backslash))) bs) h.0 ∙ raw_runs (eqb b backslash) bs h.1

  -- letters and digits
  letter_steps : (u : Bool) (b : ℕ) → is_letter_or_digit b ≡ true → step (Name d u) b ≡ Name d (u || is_upper b)
  letter_steps u b h = rw h refl

  word_runs : (u : Bool) (w : List ℕ) → AreLettersOrDigits w → (u || list_any is_upper w) ≡ true → run (Name d u) w ≡ Name d true
  word_runs true [] h k = refl
  word_runs false [] h k = absurd cc
  word_runs true (b ∷ bs) h k = ap (λ (q : Place). run q bs) (letter_steps true b h.0) ∙ word_runs true bs h.1 refl
  word_runs false (b ∷ bs) h k = ap (λ (q : Place). run q bs) (letter_steps false b h.0) ∙ word_runs (is_upper b) bs h.1 k

  -- an identifier, in a node
  ident_steps : (v : Bool) (b : ℕ) → is_letter_or_digit b ≡ true → step (Node d v) b ≡ Name d (is_upper b)
  ident_steps v b h = rw (word_is_no_blank b h, h) refl

  ident_runs : (v : Bool) (w : List ℕ) → AreLettersOrDigits w → list_any is_upper w ≡ true → run (Node d v) w ≡ Name d true
  ident_runs v [] h k = absurd cc
  ident_runs v (b ∷ bs) h k = ap (λ (q : Place). run q bs) (ident_steps v b h.0) ∙ word_runs (is_upper b) bs h.1 k

  -- white space stays in a node, behind an identifier and behind an opening bracket
  node_blank : (v : Bool) (b : ℕ) → is_blank b ≡ true → step (Node d v) b ≡ Node d v
  node_blank v b h = rw h refl

  named_blank : (b : ℕ) → is_blank b ≡ true → step (Named d) b ≡ Named d
  named_blank b h = rw h refl

  opened_blank : (b : ℕ) → is_blank b ≡ true → step (Opened d) b ≡ Opened d
  opened_blank b h = rw h refl

  behind_blank : (b : ℕ) → is_blank b ≡ true → step (Behind d) b ≡ Behind d
  behind_blank b h = rw h refl

  name_blank : (b : ℕ) → is_blank b ≡ true → step (Name d true) b ≡ Named d
  name_blank b h = rw (blank_is_no_word b h, h) refl

  -- the bracket of the first value
  named_opens : (w r : List ℕ) → AreBlanks w → run (Named d) (w ++ (open_value ∷ r)) ≡ run (Value d false) r
  unfolding is_blank
  named_opens w r a = over_blanks (Named d) w (open_value ∷ r) named_blank a

  value_opens : (w r : List ℕ) → AreBlanks w → run (Name d true) (w ++ (open_value ∷ r)) ≡ run (Value d false) r
  unfolding is_blank is_letter_or_digit is_upper is_digit is_lower
  value_opens [] r a = refl
  value_opens (b ∷ bs) r a = ap (λ (q : Place). run q (bs ++ (open_value ∷ r))) (name_blank b a.0) ∙ named_opens bs r a.1

  -- values
  value_runs : (v r : List ℕ) → IsRawValue false v → run (Value d false) (v ++ (close_value ∷ r)) ≡ run (Node d true) r
  value_runs v r h = run-append (Value d false) v (close_value ∷ r) ∙ ap (λ (q : Place). run q (close_value ∷ r)) (raw_runs false v h)

  value_opens_again : (r : List ℕ) → run (Node d true) (open_value ∷ r) ≡ run (Value d false) r
  unfolding is_blank is_letter_or_digit is_upper is_digit is_lower
  value_opens_again r = refl

  more_values_run : (vs : List (List ℕ)) (text : List ℕ) → AreValues text vs → run (Node d true) text ≡ Node d true
  more_values_run [] text h = ap (run (Node d true)) h
  more_values_run (v ∷ vs) text h =
      ap (run (Node d true)) h.5 ∙ over_blanks (Node d true) h.0 (open_value ∷ (v ++ (close_value ∷ h.1))) (node_blank true) h.2
      ∙ value_opens_again (v ++ (close_value ∷ h.1)) ∙ value_runs v h.1 h.3 ∙ more_values_run vs h.1 h.4

  values_run : (vs : List (List ℕ)) (text : List ℕ) → vs ≢ [] → AreValues text vs → run (Name d true) text ≡ Node d true
  values_run [] text ne h = absurd (ne refl)
  values_run (v ∷ vs) text ne h =
      ap (run (Name d true)) h.5 ∙ value_opens h.0 (v ++ (close_value ∷ h.1)) h.2 ∙ value_runs v h.1 h.3 ∙ more_values_run vs h.1 h.4

  -- properties
  properties_run : (v : Bool) (ps : List Property) (text : List ℕ) → AreProperties text ps → (w : Bool) × (run (Node d v) text ≡ Node d w)
  properties_run v [] text h = (v, ap (run (Node d v)) h)
  properties_run v (p ∷ ps) text h =
      let i = properties_run true ps h.3 h.8 in (
        i.0,
        ap (run (Node d v)) h.9 ∙ over_blanks (Node d v) h.0 (h.1 ++ (h.2 ++ h.3)) (node_blank v) h.4
            ∙ run-append (Node d v) h.1 (h.2 ++ h.3) ∙ ap (λ (q : Place). run q (h.2 ++ h.3)) (ident_runs v h.1 h.5.0 h.5.1)
            ∙ run-append (Name d true) h.2 h.3 ∙ ap (λ (q : Place). run q h.3) (values_run p.values h.2 h.6 h.7) ∙ i.1,
      )

  -- nodes
  node_runs : (p : Place) → ((b : ℕ) → is_blank b ≡ true → step p b ≡ p) → step p semicolon ≡ Node d false → (n : NodeRecord) (w props more : List ℕ)
      → AreBlanks w → AreProperties props n.props → (v : Bool) × (run p (w ++ (semicolon ∷ (props ++ more))) ≡ run (Node d v) more)
  node_runs p stay s n w props more a h =
      let i = properties_run false n.props props h in (
        i.0,
        over_blanks p w (semicolon ∷ (props ++ more)) stay a ∙ ap (λ (q : Place). run q (props ++ more)) s
            ∙ run-append (Node d false) props more ∙ ap (λ (q : Place). run q more) i.1,
      )

  node_ends : (v : Bool) → step (Node d v) semicolon ≡ Node d false
  unfolding is_blank is_letter_or_digit is_upper is_digit is_lower
  node_ends v = refl

  opened_ends : step (Opened d) semicolon ≡ Node d false
  unfolding is_blank
  opened_ends = refl

  nodes_run : (v : Bool) (ns : List NodeRecord) (text : List ℕ) → AreNodes text ns → (w : Bool) × (run (Node d v) text ≡ Node d w)
  nodes_run v [] text h = (v, ap (run (Node d v)) h)
  nodes_run v (n ∷ ns) text h =
      let f = node_runs (Node d v) (node_blank v) (node_ends v) n h.0 h.1 h.2 h.3 h.4 in
      let i = nodes_run f.0 ns h.2 h.5 in
      (i.0, ap (run (Node d v)) h.6 ∙ f.1 ∙ i.1)

  first_nodes_run : (ns : List NodeRecord) (text : List ℕ) → ns ≢ [] → AreNodes text ns → (w : Bool) × (run (Opened d) text ≡ Node d w)
  first_nodes_run [] text ne h = absurd (ne refl)
  first_nodes_run (n ∷ ns) text ne h =
      let f = node_runs (Opened d) opened_blank opened_ends n h.0 h.1 h.2 h.3 h.4 in
      let i = nodes_run f.0 ns h.2 h.5 in
      (i.0, ap (run (Opened d)) h.6 ∙ f.1 ∙ i.1)

  -- in a tree, behind its nodes or sub-trees
  abbrev Among : Place → Type 0
  Among p = ((v : Bool) × (p ≡ Node d v)) ⊎ (p ≡ Behind d)

  node_opens : (v : Bool) → step (Node d v) open_tree ≡ Opened (suc d)
  unfolding is_blank is_letter_or_digit is_upper is_digit is_lower
  node_opens true = refl
  node_opens false = refl

  node_closes : (v : Bool) → step (Node d v) close_tree ≡ closed d
  unfolding is_blank is_letter_or_digit is_upper is_digit is_lower
  node_closes true = refl
  node_closes false = refl

  behind_opens : step (Behind d) open_tree ≡ Opened (suc d)
  unfolding is_blank
  behind_opens = refl

  behind_closes : step (Behind d) close_tree ≡ closed d
  unfolding is_blank
  behind_closes = refl

  bracket_runs : (c : ℕ) (q : Place) → ((v : Bool) → step (Node d v) c ≡ q) → step (Behind d) c ≡ q
      → (p : Place) (w r : List ℕ) → Among p → AreBlanks w → run p (w ++ (c ∷ r)) ≡ run q r
  bracket_runs c q f g p w r (inl z) a =
      ap (λ (x : Place). run x (w ++ (c ∷ r))) z.1 ∙ over_blanks (Node d z.0) w (c ∷ r) (node_blank z.0) a ∙ ap (λ (x : Place). run x r) (f z.0)
  bracket_runs c q f g p w r (inr z) a =
      ap (λ (x : Place). run x (w ++ (c ∷ r))) z ∙ over_blanks (Behind d) w (c ∷ r) behind_blank a ∙ ap (λ (x : Place). run x r) g

-- trees
mutual
  tree_runs : (d : ℕ) (t : GameTree) (text : List ℕ) → Spells text t → (inner : List ℕ) × (text ≡ open_tree ∷ inner) × (run (Opened d) inner ≡ closed d)
  tree_runs d (game ns ts) text h =
      let n = first_nodes_run d ns h.0 h.3 h.4 in
      let a = trees_run d (Node d n.0) ts h.1 (inl (n.0, refl)) h.5 in
      let end = h.2 ++ (close_tree ∷ []) in (
        h.0 ++ (h.1 ++ end),
        h.7,
        run-append (Opened d) h.0 (h.1 ++ end) ∙ ap (λ (q : Place). run q (h.1 ++ end)) n.1
            ∙ run-append (Node d n.0) h.1 end ∙ bracket_runs d close_tree (closed d) (node_closes d) (behind_closes d) (run (Node d n.0) h.1) h.2 [] a h.6,
      )

  trees_run : (d : ℕ) (p : Place) (ts : Trees) (text : List ℕ) → Among d p → AreTrees text ts → Among d (run p text)
  trees_run d p no_tree text a h = subst (λ (x : List ℕ). Among d (run p x)) (sym h) a
  trees_run d p (more_trees t ts) text a h =
      let i = tree_runs (suc d) t h.1 h.4 in
      let is : run p text ≡ run (Behind d) h.2 = ap (run p) (h.6 ∙ ap (λ (x : List ℕ). h.0 ++ (x ++ h.2)) i.1)
      ∙ bracket_runs d open_tree (Opened (suc d)) (node_opens d) (behind_opens d) p h.0 (i.0 ++ h.2) a h.3
      ∙ run-append (Opened (suc d)) i.0 h.2 ∙ ap (λ (q : Place). run q h.2) i.2 in
      subst (Among d) (sym is) (trees_run d (Behind d) ts h.2 (inr refl) h.5)

-- bytes without a `(`
outside_stays : (xs : List ℕ) → list_any (λ b. eqb b open_tree) xs ≡ false → run Outside xs ≡ Outside
outside_stays [] h = refl
outside_stays (x ∷ xs) h =
    let k = or_false (eqb x open_tree) _ h in
    ap (λ (b : Bool). run (cond b (Opened 0) Outside) xs) k.0 ∙ outside_stays xs k.1

-- the walk over bytes that have a tree comes behind it
whole_runs : (bytes : List ℕ) (n : ℕ) (t : GameTree) → FirstTreeEndsAt bytes n t → run Outside bytes ≡ Done
whole_runs bytes n t s =
    let i = tree_runs 0 t s.text s.spells in
    ap (run Outside) (s.parts ∙ ap (λ (x : List ℕ). s.skipped ++ (x ++ s.rest)) i.1) ∙ run-append Outside s.skipped (open_tree ∷ (i.0 ++ s.rest))
    ∙ ap (λ (q : Place). run q (open_tree ∷ (i.0 ++ s.rest))) (outside_stays s.skipped s.no_open)
    ∙ run-append (Opened 0) i.0 s.rest ∙ ap (λ (q : Place). run q s.rest) i.2 ∙ done_stays s.rest

-- ---- the walk gives the grammar: what may follow a place, so that a tree is there

-- what closes so many open trees
abbrev Tail : ℕ → List ℕ → Type 0
Tail zero r = Unit {0}
Tail (suc d) r = (ts : Trees) × (text : List ℕ) × (w : List ℕ) × (more : List ℕ) × AreTrees text ts × AreBlanks w × Tail d more × (r ≡ text ++ (w ++ (close_tree ∷ more)))

-- more properties and nodes, and what closes the trees
abbrev NodeTail : ℕ → List ℕ → Type 0
NodeTail d r = (ps : List Property) × (props : List ℕ) × (ns : List NodeRecord) × (text : List ℕ) × (more : List ℕ) × AreProperties props ps × AreNodes text ns × Tail (suc d) more
    × (r ≡ props ++ (text ++ more))

-- more values before
abbrev ValueTail : ℕ → List ℕ → Type 0
ValueTail d r = (vs : List (List ℕ)) × (text : List ℕ) × (more : List ℕ) × AreValues text vs × NodeTail d more × (r ≡ text ++ more)

-- the rest of a value, and more
abbrev RawTail : ℕ → Bool → List ℕ → Type 0
RawTail d e r = (raw : List ℕ) × (more : List ℕ) × IsRawValue e raw × ValueTail d more × (r ≡ raw ++ (close_value ∷ more))

-- the first value
abbrev NamedTail : ℕ → List ℕ → Type 0
NamedTail d r = (w : List ℕ) × (more : List ℕ) × AreBlanks w × RawTail d false more × (r ≡ w ++ (open_value ∷ more))

abbrev Follows : Place → List ℕ → Type 0
Follows Outside r = (count : ℕ) × (t : GameTree) × FirstTreeEndsAt r count t
Follows (Opened d) r = (ns : List NodeRecord) × (text : List ℕ) × (more : List ℕ) × (ns ≢ []) × AreNodes text ns × Tail (suc d) more × (r ≡ text ++ more)
Follows (Node d true) r = ValueTail d r
Follows (Node d false) r = NodeTail d r
Follows (Name d u) r = (word : List ℕ) × (more : List ℕ) × AreLettersOrDigits word × ((u || list_any is_upper word) ≡ true) × NamedTail d more × (r ≡ word ++ more)
Follows (Named d) r = NamedTail d r
Follows (Value d e) r = RawTail d e r
Follows (Behind d) r = Tail (suc d) r
Follows Done r = Unit {0}
Follows Stuck r = ⊥

-- where a choice is made, what follows it follows one of the two
either : {A : Type 0} (r : List ℕ) (t : Bool) (x y : Place) → (t ≡ true → Follows x r → A) → (t ≡ false → Follows y r → A) → Follows (cond t x y) r → A
either r true x y f g h = f refl h
either r false x y f g h = g refl h

module _ (d b : ℕ) (r : List ℕ) (e : is_blank b ≡ true) where
  -- white space may stand in front
  blank_tail_of : (ts : Trees) (text w more : List ℕ) → AreTrees text ts → AreBlanks w → Tail d more → r ≡ text ++ (w ++ (close_tree ∷ more)) → Tail (suc d) (b ∷ r)
  blank_tail_of no_tree text w more a bl t is =
      (no_tree, [], b ∷ w, more, refl, (e, bl), t, ap (λ (x : List ℕ). b ∷ x) (is ∙ ap (λ (x : List ℕ). x ++ (w ++ (close_tree ∷ more))) a))
  blank_tail_of (more_trees u us) text w more a bl t is =
      (more_trees u us, b ∷ text, w, more, (b ∷ a.0, a.1, a.2, (e, a.3), a.4, a.5, ap (λ (x : List ℕ). b ∷ x) a.6), bl, t, ap (λ (x : List ℕ). b ∷ x) is)

  blank_tail : Tail (suc d) r → Tail (suc d) (b ∷ r)
  blank_tail h = blank_tail_of h.0 h.1 h.2 h.3 h.4 h.5 h.6 h.7

  blank_nodes : (n : NodeRecord) (ns : List NodeRecord) (text : List ℕ) → AreNodes text (n ∷ ns) → AreNodes (b ∷ text) (n ∷ ns)
  blank_nodes n ns text a = (b ∷ a.0, a.1, a.2, (e, a.3), a.4, a.5, ap (λ (x : List ℕ). b ∷ x) a.6)

  blank_opened_of : (ns : List NodeRecord) (text more : List ℕ) → ns ≢ [] → AreNodes text ns → Tail (suc d) more → r ≡ text ++ more → Follows (Opened d) (b ∷ r)
  blank_opened_of [] text more ne a t is = absurd (ne refl)
  blank_opened_of (n ∷ ns) text more ne a t is = (n ∷ ns, b ∷ text, more, ne, blank_nodes n ns text a, t, ap (λ (x : List ℕ). b ∷ x) is)

  blank_node_of : (ps : List Property) (props : List ℕ) (ns : List NodeRecord) (text more : List ℕ) → AreProperties props ps → AreNodes text ns → Tail (suc d) more
      → ((r ≡ more) → Tail (suc d) (b ∷ r)) → r ≡ props ++ (text ++ more) → NodeTail d (b ∷ r)
  blank_node_of [] props [] text more p a t bt is =
      ([], [], [], [], b ∷ r, refl, refl, bt (is ∙ ap (λ (x : List ℕ). x ++ (text ++ more)) p ∙ ap (λ (x : List ℕ). x ++ more) a), refl)
  blank_node_of [] props (n ∷ ns) text more p a t bt is =
      ([], [], n ∷ ns, b ∷ text, more, refl, blank_nodes n ns text a, t, ap (λ (x : List ℕ). b ∷ x) (is ∙ ap (λ (x : List ℕ). x ++ (text ++ more)) p))
  blank_node_of (q ∷ ps) props ns text more p a t bt is =
      (q ∷ ps, b ∷ props, ns, text, more, (b ∷ p.0, p.1, p.2, p.3, (e, p.4), p.5, p.6, p.7, p.8, ap (λ (x : List ℕ). b ∷ x) p.9), a, t, ap (λ (x : List ℕ). b ∷ x) is)

  blank_node : NodeTail d r → NodeTail d (b ∷ r)
  blank_node h = blank_node_of h.0 h.1 h.2 h.3 h.4 h.5 h.6 h.7 (λ same. blank_tail (subst (Tail (suc d)) (sym same) h.7)) h.8

  blank_values_of : (vs : List (List ℕ)) (text more : List ℕ) → AreValues text vs → NodeTail d more → (r ≡ more → NodeTail d (b ∷ r)) → r ≡ text ++ more → ValueTail d (b ∷ r)
  blank_values_of [] text more a t bn is = ([], [], b ∷ r, refl, bn (is ∙ ap (λ (x : List ℕ). x ++ more) a), refl)
  blank_values_of (v ∷ vs) text more a t bn is = (v ∷ vs, b ∷ text, more, (b ∷ a.0, a.1, (e, a.2), a.3, a.4, ap (λ (x : List ℕ). b ∷ x) a.5), t, ap (λ (x : List ℕ). b ∷ x) is)

  blank_values : ValueTail d r → ValueTail d (b ∷ r)
  blank_values h = blank_values_of h.0 h.1 h.2 h.3 h.4 (λ same. blank_node (subst (NodeTail d) (sym same) h.4)) h.5

  blank_follows : (v : Bool) → Follows (Node d v) r → Follows (Node d v) (b ∷ r)
  blank_follows true h = blank_values h
  blank_follows false h = blank_node h

-- in a node no value has to follow
no_value : (d : ℕ) (v : Bool) (r : List ℕ) → NodeTail d r → Follows (Node d v) r
no_value d true r h = ([], [], r, refl, h, refl)
no_value d false r h = h

-- nor has a property or a node
no_node : (d : ℕ) (v : Bool) (r : List ℕ) → Tail (suc d) r → Follows (Node d v) r
no_node d v r h = no_value d v r ([], [], [], [], r, refl, refl, h, refl)

three : (xs ys zs r : List ℕ) → xs ++ (ys ++ (zs ++ r)) ≡ (xs ++ (ys ++ zs)) ++ r
three xs ys zs r = simp append_assoc

module _ (d : ℕ) (r : List ℕ) where
  -- brackets of trees
  open_tail : Follows (Opened (suc d)) r → Tail (suc d) (open_tree ∷ r)
  open_tail h =
      let t = h.5 in
      let u = t.6 in
      let tree = open_tree ∷ (h.1 ++ (t.1 ++ (t.2 ++ (close_tree ∷ [])))) in (
        more_trees (game h.0 t.0) u.0,
        tree ++ u.1,
        u.2,
        u.3,
        ([], tree, u.1, tt, (h.1, t.1, t.2, h.3, h.4, t.4, t.5, refl), u.4, refl),
        u.5,
        u.6,
        ap (λ (x : List ℕ). open_tree ∷ x) (h.6 ∙ ap (λ (x : List ℕ). h.1 ++ x) (t.7 ∙ ap (λ (x : List ℕ). t.1 ++ (t.2 ++ (close_tree ∷ x))) u.7) ∙ simp append_assoc),
      )

  closed_tail : (n : ℕ) → Follows (closed n) r → Tail n r
  closed_tail zero h = tt
  closed_tail (suc n) h = h

  close_tail : Follows (closed d) r → Tail (suc d) (close_tree ∷ r)
  close_tail h = (no_tree, [], [], r, refl, tt, closed_tail d h, refl)

  bracket_tail : (b : ℕ) → Follows (at_bracket d b) r → Tail (suc d) (b ∷ r)
  bracket_tail b =
      either r (eqb b open_tree) (Opened (suc d)) (cond (eqb b close_tree) (closed d) Stuck) (λ e h. subst (λ (x : ℕ). Tail (suc d) (x ∷ r)) (sym (eqb-true b open_tree e)) (open_tail h))
      (λ _. either r (eqb b close_tree) (closed d) Stuck (λ e h. subst (λ (x : ℕ). Tail (suc d) (x ∷ r)) (sym (eqb-true b close_tree e)) (close_tail h)) (λ _ h. absurd h))

  -- the first letter of an identifier
  name_tail : (b : ℕ) → is_letter_or_digit b ≡ true → Follows (Name d (is_upper b)) r → NodeTail d (b ∷ r)
  name_tail b e h =
      let n = h.4 in
      let raw = n.3 in
      let vs = raw.3 in
      let rest = vs.4 in
      let word = b ∷ h.0 in
      let values = n.0 ++ (open_value ∷ (raw.0 ++ (close_value ∷ vs.1))) in
      let p : Property = record { ident = filter is_kept_in_name word; values = raw.0 ∷ vs.0 } in (
        p ∷ rest.0,
        word ++ (values ++ rest.1),
        rest.2,
        rest.3,
        rest.4,
        ([], word, values, rest.1, tt, ((e, h.2), h.3, refl), (λ x. absurd cc), (n.0, vs.1, n.2, raw.2, vs.3, refl), rest.5, refl),
        rest.6,
        rest.7,
        ap (λ (x : List ℕ). b ∷ x) (h.5 ∙ ap (λ (x : List ℕ). h.0 ++ x) (n.4 ∙ ap (λ (x : List ℕ). n.0 ++ (open_value ∷ x)) (raw.4
            ∙ ap (λ (x : List ℕ). raw.0 ++ (close_value ∷ x)) (vs.5 ∙ ap (λ (x : List ℕ). vs.1 ++ x) rest.8)) ∙ four n.0 raw.0 vs.1 (rest.1 ++ (rest.3 ++ rest.4)))
            ∙ three h.0 values rest.1 (rest.3 ++ rest.4)),
      )

  -- the semicolon of a node
  node_tail : NodeTail d r → NodeTail d (semicolon ∷ r)
  node_tail h =
      let n : NodeRecord = record { props = h.0 } in (
        [],
        [],
        n ∷ h.2,
        semicolon ∷ (h.1 ++ h.3),
        h.4,
        refl,
        ([], h.1, h.3, tt, h.5, h.6, refl),
        h.7,
        ap (λ (x : List ℕ). semicolon ∷ x) (h.8 ∙ simp append_assoc),
      )

  opened_tail : NodeTail d r → Follows (Opened d) (semicolon ∷ r)
  opened_tail h =
      let n : NodeRecord = record { props = h.0 } in
      (n ∷ h.2, semicolon ∷ (h.1 ++ h.3), h.4, (λ x. absurd cc), ([], h.1, h.3, tt, h.5, h.6, refl), h.7, ap (λ (x : List ℕ). semicolon ∷ x) (h.8 ∙ simp append_assoc))

  -- the bracket of a value
  value_tail : RawTail d false r → ValueTail d (open_value ∷ r)
  value_tail h =
      let v = h.3 in (
        h.0 ∷ v.0,
        open_value ∷ (h.0 ++ (close_value ∷ v.1)),
        v.2,
        ([], v.1, tt, h.2, v.3, refl),
        v.4,
        ap (λ (x : List ℕ). open_value ∷ x) (h.4 ∙ ap (λ (x : List ℕ). h.0 ++ (close_value ∷ x)) v.5 ∙ simp append_assoc),
      )

  value_follows : (v : Bool) (b : ℕ) → (v && eqb b open_value) ≡ true → RawTail d false r → Follows (Node d v) (b ∷ r)
  value_follows true b e h = subst (λ (x : ℕ). ValueTail d (x ∷ r)) (sym (eqb-true b open_value e)) (value_tail h)
  value_follows false b e h = absurd cc

  node_follows : (v : Bool) (b : ℕ) → Follows (in_node d v b) r → Follows (Node d v) (b ∷ r)
  node_follows v b =
      either r (is_letter_or_digit b) (Name d (is_upper b)) (cond (eqb b semicolon) (Node d false) (cond (v && eqb b open_value) (Value d false) (at_bracket d b)))
      (λ e h. no_value d v (b ∷ r) (name_tail b e h))
      (λ _. either r (eqb b semicolon) (Node d false) (cond (v && eqb b open_value) (Value d false) (at_bracket d b))
      (λ e h. no_value d v (b ∷ r) (subst (λ (x : ℕ). NodeTail d (x ∷ r)) (sym (eqb-true b semicolon e)) (node_tail h)))
      (λ _. either r (v && eqb b open_value) (Value d false) (at_bracket d b) (λ e. value_follows v b e) (λ _ h. no_node d v (b ∷ r) (bracket_tail b h))))

  -- between an identifier and its first value
  named_tail : (b : ℕ) → Follows (at_value d b) r → NamedTail d (b ∷ r)
  named_tail b =
      either r (is_blank b) (Named d) (cond (eqb b open_value) (Value d false) Stuck) (λ e h. (b ∷ h.0, h.1, (e, h.2), h.3, ap (λ (x : List ℕ). b ∷ x) h.4))
      (λ _. either r (eqb b open_value) (Value d false) Stuck (λ e h. ([], r, tt, h, ap (λ (x : ℕ). x ∷ r) (eqb-true b open_value e))) (λ _ h. absurd h))

  -- in an identifier
  letter_follows : (u : Bool) (b : ℕ) → is_letter_or_digit b ≡ true → Follows (Name d (u || is_upper b)) r → Follows (Name d u) (b ∷ r)
  letter_follows true b e h = (b ∷ h.0, h.1, (e, h.2), refl, h.4, ap (λ (x : List ℕ). b ∷ x) h.5)
  letter_follows false b e h = (b ∷ h.0, h.1, (e, h.2), h.3, h.4, ap (λ (x : List ℕ). b ∷ x) h.5)

  name_ends : (u : Bool) (b : ℕ) → Follows (cond u (at_value d b) Stuck) r → Follows (Name d u) (b ∷ r)
  name_ends true b h = ([], b ∷ r, tt, refl, named_tail b h, refl)
  name_ends false b h = absurd h

  -- in a value
  raw_follows : (e : Bool) (b : ℕ) → Follows (step (Value d e) b) r → RawTail d e (b ∷ r)
  raw_follows true b h = (b ∷ h.0, h.1, h.2, h.3, ap (λ (x : List ℕ). b ∷ x) h.4)
  raw_follows false b h =
      either r (eqb b close_value) (Node d true) (Value d (eqb b backslash)) (λ e h. ([], r, refl, h, ap (λ (x : ℕ). x ∷ r) (eqb-true b close_value e)))
      (λ e h. (b ∷ h.0, h.1, (e, h.2), h.3, ap (λ (x : List ℕ). b ∷ x) h.4)) h

-- a byte outside of a tree
outside_follows : (b : ℕ) (r : List ℕ) → eqb b open_tree ≡ false → Follows Outside r → Follows Outside (b ∷ r)
outside_follows b r e h =
    let s = h.2 in (
      suc h.0,
      h.1,
      record {
        skipped = b ∷ s.skipped;
        text = s.text;
        rest = s.rest;
        no_open = ap (λ (x : Bool). x || list_any (λ c. eqb c open_tree) s.skipped) e ∙ s.no_open;
        spells = s.spells;
        parts = ap (λ (x : List ℕ). b ∷ x) s.parts;
        count_is = omega (arith, s.count_is);
      },
    )

-- the bracket of the first tree
tree_follows : (r : List ℕ) → Follows (Opened 0) r → Follows Outside (open_tree ∷ r)
tree_follows r h =
    let t = h.5 in
    let text = open_tree ∷ (h.1 ++ (t.1 ++ (t.2 ++ (close_tree ∷ [])))) in (
      length text,
      game h.0 t.0,
      record {
        skipped = [];
        text = text;
        rest = t.3;
        no_open = refl;
        spells = (h.1, t.1, t.2, h.3, h.4, t.4, t.5, refl);
        parts = ap (λ (x : List ℕ). open_tree ∷ x) (h.6 ∙ ap (λ (x : List ℕ). h.1 ++ x) t.7 ∙ simp append_assoc);
        count_is = omega arith;
      },
    )

-- what follows behind a byte follows the byte in front of it
follows : (p : Place) (b : ℕ) (r : List ℕ) → Follows (step p b) r → Follows p (b ∷ r)
follows Outside b r h =
    either r (eqb b open_tree) (Opened 0) Outside (λ e h. subst (λ (x : ℕ). Follows Outside (x ∷ r)) (sym (eqb-true b open_tree e)) (tree_follows r h)) (λ e. outside_follows b r e) h
follows (Opened d) b r h =
    either r (is_blank b) (Opened d) (cond (eqb b semicolon) (Node d false) Stuck) (λ e h. blank_opened_of d b r e h.0 h.1 h.2 h.3 h.4 h.5 h.6)
    (λ _. either r (eqb b semicolon) (Node d false) Stuck (λ e h. subst (λ (x : ℕ). Follows (Opened d) (x ∷ r)) (sym (eqb-true b semicolon e)) (opened_tail d r h)) (λ _ h. absurd h)) h
follows (Node d v) b r h = either r (is_blank b) (Node d v) (in_node d v b) (λ e. blank_follows d b r e v) (λ _. node_follows d r v b) h
follows (Name d u) b r h = either r (is_letter_or_digit b) (Name d (u || is_upper b)) (cond u (at_value d b) Stuck) (λ e. letter_follows d r u b e) (λ _. name_ends d r u b) h
follows (Named d) b r h = named_tail d r b h
follows (Value d e) b r h = raw_follows d r e b h
follows (Behind d) b r h = either r (is_blank b) (Behind d) (at_bracket d b) (λ e. blank_tail d b r e) (λ _. bracket_tail d r b) h
follows Done b r h = tt
follows Stuck b r h = absurd h

all_follows : (p : Place) (bytes r : List ℕ) → Follows (run p bytes) r → Follows p (bytes ++ r)
all_follows p [] r h = h
all_follows p (b ∷ bs) r h = follows p b (bs ++ r) (all_follows (step p b) bs r h)

-- something may follow each place but one
some_tail : (d : ℕ) → (r : List ℕ) × Tail d r
some_tail zero = ([], tt)
some_tail (suc d) = let i = some_tail d in (close_tree ∷ i.0, (no_tree, [], [], i.0, refl, tt, i.1, refl))

some_node : (d : ℕ) (v : Bool) → (r : List ℕ) × Follows (Node d v) r
some_node d v = let i = some_tail (suc d) in (i.0, no_node d v i.0 i.1)

some_value : (d : ℕ) (e : Bool) → (r : List ℕ) × RawTail d e r
some_value d false = let i = some_node d true in (close_value ∷ i.0, ([], i.0, refl, i.1, refl))
some_value d true = let i = some_node d true in (backslash ∷ (close_value ∷ i.0), (backslash ∷ [], i.0, refl, i.1, refl))

some_named : (d : ℕ) → (r : List ℕ) × NamedTail d r
some_named d = let i = some_value d false in (open_value ∷ i.0, ([], i.0, tt, i.1, refl))

some_follows : (p : Place) → p ≢ Stuck → (r : List ℕ) × Follows p r
unfolding is_letter_or_digit is_upper is_digit is_lower
some_follows Outside ne = let i = some_node 0 false in (open_tree ∷ (semicolon ∷ i.0), tree_follows (semicolon ∷ i.0) (opened_tail 0 i.0 i.1))
some_follows (Opened d) ne = let i = some_node d false in (semicolon ∷ i.0, opened_tail d i.0 i.1)
some_follows (Node d v) ne = some_node d v
some_follows (Name d true) ne = let i = some_named d in (i.0, ([], i.0, tt, refl, i.1, refl))
some_follows (Name d false) ne = let i = some_named d in (upper_A ∷ i.0, (upper_A ∷ [], i.0, (refl, tt), refl, i.1, refl))
some_follows (Named d) ne = some_named d
some_follows (Value d e) ne = some_value d e
some_follows (Behind d) ne = some_tail (suc d)
some_follows Done ne = ([], tt)
some_follows Stuck ne = absurd (ne refl)

-- ---- where the walk stops

-- bytes over which the walk goes begin some tree
pub goes_on : (bytes : List ℕ) → run Outside bytes ≢ Stuck → BeginsSomeTree bytes
goes_on bytes ne = let i = some_follows (run Outside bytes) ne in let a = all_follows Outside bytes i.0 i.1 in (i.0, a.0, a.1, a.2)

-- and bytes where it is stuck don't
pub stuck_begins_none : (bytes : List ℕ) → run Outside bytes ≡ Stuck → BeginsSomeTree bytes → ⊥
stuck_begins_none bytes e h =
    let done : run Outside (bytes ++ h.0) ≡ Done = whole_runs (bytes ++ h.0) h.1 h.2 h.3 in
    let stuck : run Outside (bytes ++ h.0) ≡ Stuck = run-append Outside bytes h.0 ∙ ap (λ (q : Place). run q h.0) e ∙ stuck_stays h.0 in
    let same : Done ≡ Stuck = sym done ∙ stuck in
    absurd cc

module _ (bytes : List ℕ) (i : ℕ) where
  -- behind the byte with this index
  pub one_more : (p : Place) → i < length bytes → run Outside (take i bytes) ≡ p → run Outside (take (i + 1) bytes) ≡ step p (get_or bytes i 0)
  one_more p lt h =
      ap (run Outside) (take_more bytes i 0 lt) ∙ run-append Outside (take i bytes) (get_or bytes i 0 ∷ []) ∙ ap (λ (q : Place). step q (get_or bytes i 0)) h

  pub stops_at : i < length bytes → run Outside (take i bytes) ≢ Stuck → run Outside (take (i + 1) bytes) ≡ Stuck → StopsAt bytes i
  stops_at lt ne e = record { within = omega (arith, lt); before = goes_on (take i bytes) ne; stops = λ _. stuck_begins_none (take (i + 1) bytes) e }

  pub stops_at_end : length bytes ≤ i → run Outside (take i bytes) ≢ Stuck → StopsAt bytes (length bytes)
  stops_at_end le ne = record {
    within = omega arith;
    before = rw (take_all (length bytes) bytes (omega arith)) (goes_on bytes (λ e. ne (ap (run Outside) (take_all i bytes le) ∙ e)));
    stops = λ lt. absurd (omega (arith, lt));
  }
