-- Trees as lists of events, against the nested grammar.
use Rattle.std.proofs.Common.{◌≡◌, ◌≢◌, ℕ, List, [], ◌∷◌, ◌++◌, refl, sym, ap, subst, ◌∙◌}
use Rattle.std.proofs.Common.{append_assoc, inl, inr}
use Rattle.std.proofs.lemmas.List.{append_cancel_right}
use Rattle.tt_sgf.specs.Bytes.{close_tree, open_tree, semicolon}
use Rattle.tt_sgf.specs.declared.nodes.Node.{Node}
use Rattle.tt_sgf.specs.declared.trees.Event.{Event}
use Rattle.tt_sgf.specs.declared.trees.Event.TheVariants.{Open, Close, Item}
use Rattle.tt_sgf.specs.Grammar.{AreBlanks, AreNodes, GameTree, Trees, game, no_tree, more_trees, Spells, AreTrees}
use Rattle.tt_sgf.specs.inside.Reading.{Begins}
use Rattle.tt_sgf.proofs.ListLemmas.{Ends}
use Rattle.tt_sgf.proofs.EventLemmas.{event_takes, event_behind_blanks, event_open, event_close, event_item, Ends_open, Ends_close, Ends_item, EventsAt, two_rows}

-- ---- the events of trees, before others

-- nodes as events, before others
abbrev pub items_then : List Node → List Event → List Event
items_then [] es = es
items_then (n ∷ ns) es = Item n ∷ items_then ns es

-- trees as events, before others: brackets around their nodes and sub-trees
abbrev mutual
  pub tree_then : GameTree → List Event → List Event
  tree_then (game ns ts) es = Open ∷ items_then ns (trees_then ts (Close ∷ es))

  pub trees_then : Trees → List Event → List Event
  trees_then no_tree es = es
  trees_then (more_trees t ts) es = tree_then t (trees_then ts es)

-- what follows the events of nodes may be put behind later on
items_then-append : (ns : List Node) (es fs : List Event) → items_then ns es ++ fs ≡ items_then ns (es ++ fs)
items_then-append [] es fs = refl
items_then-append (n ∷ ns) es fs = ap (λ (x : List Event). Item n ∷ x) (items_then-append ns es fs)

-- so may what follows the events of trees
mutual
  pub tree_then-append : (t : GameTree) (es fs : List Event) → tree_then t es ++ fs ≡ tree_then t (es ++ fs)
  tree_then-append (game ns ts) es fs =
      ap (λ (x : List Event). Open ∷ x) (items_then-append ns (trees_then ts (Close ∷ es)) fs ∙ ap (items_then ns) (trees_then-append ts (Close ∷ es) fs))

  trees_then-append : (ts : Trees) (es fs : List Event) → trees_then ts es ++ fs ≡ trees_then ts (es ++ fs)
  trees_then-append no_tree es fs = refl
  trees_then-append (more_trees t ts) es fs = tree_then-append t (trees_then ts es) fs ∙ ap (tree_then t) (trees_then-append ts es fs)

-- ---- the grammar gives the events

-- the events are read, and no value or property stands before them
abbrev pub Goes : List ℕ → List Event → List ℕ → Type 0
Goes bytes es q = EventsAt bytes es q × Ends bytes

-- a text of nodes has their events, before those of what follows
nodes_again : (ns : List Node) (text r : List ℕ) (es : List Event) (q : List ℕ) → AreNodes text ns → Goes r es q → Goes (text ++ r) (items_then ns es) q
nodes_again [] text r es q h g = rw h g
nodes_again (n ∷ ns) text r es q h g =
    let i = nodes_again ns h.2 r es q h.5 g in
    let is : text ++ r ≡ h.0 ++ (semicolon ∷ (h.1 ++ (h.2 ++ r))) = ap (λ (t : List ℕ). t ++ r) h.6 ∙ simp append_assoc in
    rw is ((h.2 ++ r, event_behind_blanks h.0 (semicolon ∷ (h.1 ++ (h.2 ++ r))) h.3 ∙ event_item n h.1 (h.2 ++ r) h.4 i.1, i.0), Ends_item h.0 (h.1 ++ (h.2 ++ r)) h.3)

-- behind white space
blank_then_close : (w r : List ℕ) (es : List Event) (q : List ℕ) → AreBlanks w → EventsAt r es q → Goes (w ++ (close_tree ∷ r)) (Close ∷ es) q
blank_then_close w r es q h g = ((r, event_behind_blanks w (close_tree ∷ r) h ∙ event_close r, g), Ends_close w r h)

-- so has the text of a tree, behind white space or none
mutual
  pub tree_again : (t : GameTree) (text r : List ℕ) (es : List Event) (q : List ℕ) → Spells text t → EventsAt r es q
      → (inner : List ℕ) × (text ++ r ≡ open_tree ∷ inner) × ((w : List ℕ) → AreBlanks w → EventsAt (w ++ (open_tree ∷ inner)) (tree_then t es) q)
  tree_again (game ns ts) text r es q h g =
      let close = blank_then_close h.2 r es q h.6 g in
      let trees = trees_again ts h.1 (h.2 ++ (close_tree ∷ r)) (Close ∷ es) q h.5 close in
      let nodes = nodes_again ns h.0 (h.1 ++ (h.2 ++ (close_tree ∷ r))) (trees_then ts (Close ∷ es)) q h.4 trees in
      let inner = h.0 ++ (h.1 ++ (h.2 ++ (close_tree ∷ r))) in
      (inner, (ap (λ (t : List ℕ). t ++ r) h.7 ∙ simp append_assoc), λ w b. (inner, event_behind_blanks w (open_tree ∷ inner) b ∙ event_open inner, nodes.0))

  -- and a text of trees
  trees_again : (ts : Trees) (text r : List ℕ) (es : List Event) (q : List ℕ) → AreTrees text ts → Goes r es q → Goes (text ++ r) (trees_then ts es) q
  trees_again no_tree text r es q h g = rw h g
  trees_again (more_trees t ts) text r es q h g =
      let others = trees_again ts h.2 r es q h.5 g in
      let one = tree_again t h.1 (h.2 ++ r) (trees_then ts es) q h.4 others.0 in
      let is : text ++ r ≡ h.0 ++ (open_tree ∷ one.0) = ap (λ (t : List ℕ). t ++ r) h.6 ∙ (simp append_assoc) ∙ ap (λ (t : List ℕ). h.0 ++ t) one.1 in
      rw is (one.2 h.0 h.3, Ends_open h.0 one.0 h.3)

-- a text of a tree has its events, and then what follows it
pub spelled : (t : GameTree) (text r : List ℕ) → Spells text t → EventsAt (text ++ r) (tree_then t []) r
spelled t text r h = let a = tree_again t text r [] r h refl in rw a.1 (a.2 [] tt)

-- ---- the events give the grammar

-- each tree has a node of its own
abbrev mutual
  pub IsWhole : GameTree → Type 0
  IsWhole (game ns ts) = (ns ≢ []) × AreWhole ts

  pub AreWhole : Trees → Type 0
  AreWhole no_tree = Unit {0}
  AreWhole (more_trees t ts) = IsWhole t × AreWhole ts

-- a text of the nodes is at the front, and behind it these events are read
pub record NodesBefore (bytes : List ℕ) (ns : List Node) (es : List Event) (q : List ℕ) : Type 0 where
  pub text : List ℕ
  pub rest : List ℕ
  pub are : AreNodes text ns
  pub parts : bytes ≡ text ++ rest
  pub goes : EventsAt rest es q

-- bytes with the events of nodes begin with a text of these
nodes_text : (ns : List Node) (bytes : List ℕ) (es : List Event) (q : List ℕ) → EventsAt bytes (items_then ns es) q → NodesBefore bytes ns es q
nodes_text [] bytes es q h = record { text = []; rest = bytes; are = refl; parts = refl; goes = h }
nodes_text (n ∷ ns) bytes es q h =
    let t = event_takes bytes (Item n) h.0 h.1 in
    let i = nodes_text ns h.0 es q h.2 in
    let p = t.3 in
    record {
      text = t.0 ++ (semicolon ∷ (p.0 ++ i.text));
      rest = i.rest;
      are = (t.0, p.0, i.text, t.2, p.1, i.are, refl);
      parts = t.4 ∙ ap (λ (x : List ℕ). t.0 ++ x) p.2 ∙ ap (λ (x : List ℕ). t.0 ++ (semicolon ∷ (p.0 ++ x))) i.parts ∙ (simp append_assoc);
      goes = i.goes;
    }

-- a text of the trees is at the front, and behind it these events are read
pub record TreesBefore (bytes : List ℕ) (ts : Trees) (es : List Event) (q : List ℕ) : Type 0 where
  pub text : List ℕ
  pub rest : List ℕ
  pub are : AreTrees text ts
  pub parts : bytes ≡ text ++ rest
  pub goes : EventsAt rest es q

-- what stands behind the bracket of a tree
pub record InsideBefore (bytes : List ℕ) (t : GameTree) (es : List Event) (q : List ℕ) : Type 0 where
  pub text : List ℕ
  pub rest : List ℕ
  pub spells : Spells text t
  pub parts : open_tree ∷ bytes ≡ text ++ rest
  pub goes : EventsAt rest es q

-- a text of nodes, one of trees and a bracket that closes are the inside of a tree
pub inside_text : (ns : List Node) (ts : Trees) (bytes : List ℕ) (es : List Event) (q : List ℕ) → ns ≢ [] → (n : NodesBefore bytes ns (trees_then ts (Close ∷ es)) q)
    → TreesBefore n.rest ts (Close ∷ es) q → InsideBefore bytes (game ns ts) es q
inside_text ns ts bytes es q ne n t =
    let c = event_takes t.rest Close t.goes.0 t.goes.1 in
    record {
      text = open_tree ∷ (n.text ++ (t.text ++ (c.0 ++ (close_tree ∷ []))));
      rest = t.goes.0;
      spells = (n.text, t.text, c.0, ne, n.are, t.are, c.2, refl);
      parts = ap (λ (x : List ℕ). open_tree ∷ x) (n.parts ∙ ap (λ (x : List ℕ). n.text ++ x) t.parts
          ∙ ap (λ (x : List ℕ). n.text ++ (t.text ++ x)) (c.4 ∙ ap (λ (x : List ℕ). c.0 ++ x) c.3) ∙ (simp append_assoc));
      goes = t.goes.2;
    }

-- bytes with the events of whole trees begin with a text of these
pub trees_text : (ts : Trees) (bytes : List ℕ) (es : List Event) (q : List ℕ) → AreWhole ts → EventsAt bytes (trees_then ts es) q → TreesBefore bytes ts es q
trees_text no_tree bytes es q whole h = record { text = []; rest = bytes; are = refl; parts = refl; goes = h }
trees_text (more_trees (game ns us) ts) bytes es q whole h =
    let o = event_takes bytes Open h.0 h.1 in
    let n = nodes_text ns h.0 (trees_then us (Close ∷ trees_then ts es)) q h.2 in
    let i = inside_text ns us h.0 (trees_then ts es) q whole.0.0 n (trees_text us n.rest (Close ∷ trees_then ts es) q whole.0.1 n.goes) in
    let t = trees_text ts i.rest es q whole.1 i.goes in
    record {
      text = o.0 ++ (i.text ++ t.text);
      rest = t.rest;
      are = (o.0, i.text, t.text, o.2, i.spells, t.are, refl);
      parts = o.4 ∙ ap (λ (x : List ℕ). o.0 ++ x) (o.3 ∙ i.parts ∙ ap (λ (x : List ℕ). i.text ++ x) t.parts) ∙ (simp append_assoc);
      goes = t.goes;
    }

-- the events of a tree, behind its first bracket
pub inside_begins : (ns : List Node) (ts : Trees) (bytes q : List ℕ) → ns ≢ [] → AreWhole ts → EventsAt bytes (items_then ns (trees_then ts (Close ∷ []))) q → Begins (open_tree ∷ bytes) (game ns ts) q
inside_begins ns ts bytes q ne whole h =
    let n = nodes_text ns bytes (trees_then ts (Close ∷ [])) q h in
    let i = inside_text ns ts bytes [] q ne n (trees_text ts n.rest (Close ∷ []) q whole n.goes) in
    record { text = i.text; spells = i.spells; parts = i.parts ∙ ap (λ (x : List ℕ). i.text ++ x) i.goes }

-- ---- one tree for each text

-- the same events of nodes and trees up to a closing bracket: the same nodes, and the same from there on
items-same : (ns ms : List Node) (ts us : Trees) (x y : List Event) → items_then ns (trees_then ts (Close ∷ x)) ≡ items_then ms (trees_then us (Close ∷ y)) → (ns ≡ ms)
    × (trees_then ts (Close ∷ x) ≡ trees_then us (Close ∷ y))
items-same [] [] ts us x y h = (refl, h)
items-same [] (m ∷ ms) no_tree us x y h = absurd cc
items-same [] (m ∷ ms) (more_trees (game ns vs) ts) us x y h = absurd cc
items-same (n ∷ ns) [] ts no_tree x y h = absurd cc
items-same (n ∷ ns) [] ts (more_trees (game ms vs) us) x y h = absurd cc
items-same (n ∷ ns) (m ∷ ms) ts us x y h =
    let tail : items_then ns (trees_then ts (Close ∷ x)) ≡ items_then ms (trees_then us (Close ∷ y)) = cc in
    let heads : Item n ≡ Item m = cc in
    let head : n ≡ m = cc in
    let i = items-same ns ms ts us x y tail in
    (ap (λ (k : Node). k ∷ ns) head ∙ ap (λ (ks : List Node). m ∷ ks) i.0, i.1)

-- the same events of trees up to a closing bracket: the same trees, and the same behind it
pub trees-same : (ts us : Trees) (x y : List Event) → trees_then ts (Close ∷ x) ≡ trees_then us (Close ∷ y) → (ts ≡ us) × (x ≡ y)
trees-same no_tree no_tree x y h = (refl, cc)
trees-same no_tree (more_trees (game ms vs) us) x y h = absurd cc
trees-same (more_trees (game ns ws) ts) no_tree x y h = absurd cc
trees-same (more_trees (game ns ws) ts) (more_trees (game ms vs) us) x y h =
    let tail : items_then ns (trees_then ws (Close ∷ trees_then ts (Close ∷ x))) ≡ items_then ms (trees_then vs (Close ∷ trees_then us (Close ∷ y))) = cc in
    let i = items-same ns ms ws vs (trees_then ts (Close ∷ x)) (trees_then us (Close ∷ y)) tail in
    let inner = trees-same ws vs (trees_then ts (Close ∷ x)) (trees_then us (Close ∷ y)) i.1 in
    let others = trees-same ts us x y inner.1 in
    let nodes = i.0 in
    let first = inner.0 in
    let second = others.0 in
    (cc, others.1)

-- the same events of a tree: the same tree, and the same behind it
pub tree-same : (s t : GameTree) (x y : List Event) → tree_then s x ≡ tree_then t y → (s ≡ t) × (x ≡ y)
tree-same (game ns ts) (game ms us) x y h =
    let tail : items_then ns (trees_then ts (Close ∷ x)) ≡ items_then ms (trees_then us (Close ∷ y)) = cc in
    let i = items-same ns ms ts us x y tail in
    let inner = trees-same ts us x y i.1 in
    let nodes = i.0 in
    let first = inner.0 in
    (cc, inner.1)

-- texts of trees at the front of the same bytes
pub tree_texts_are_prefix_free : (a b : List ℕ) (s t : GameTree) (x y : List ℕ) → Spells a s → Spells b t → a ++ x ≡ b ++ y → (a ≡ b) × (s ≡ t)
tree_texts_are_prefix_free a b s t x y h k e =
    let one = spelled s a x h in
    let other : EventsAt (a ++ x) (tree_then t []) y = rw e (spelled t b y k) in
    elim (two_rows (a ++ x) (tree_then s []) (tree_then t []) x y one other) [
      | inl z ↦
          let same = tree-same t s [] z.0 (z.1 ∙ tree_then-append s [] z.0) in
          let nothing : EventsAt x [] y = subst (λ (es : List Event). EventsAt x es y) (sym same.1) z.2 in
          (append_cancel_right a b y (ap (λ (r : List ℕ). a ++ r) (sym nothing) ∙ e), sym same.0)
      | inr z ↦
          let same = tree-same s t [] (z.0 ∷ z.1) (z.2 ∙ tree_then-append t [] (z.0 ∷ z.1)) in
          absurd (let n = same.1 in cc)
    ]
