-- The first bracket of the bytes, and the tree that begins there.
use Rattle.std.proofs.Common.{◌≡◌, ℕ, ◌+◌, ◌-◌, ◌<◌, ◌≤◌, ◌≢◌, Bool, true, false, ◌||◌, eqb, List, [], ◌∷◌, ◌++◌, length, get_or, take, drop, refl, sym, ap, subst, ◌∙◌, arith}
use Rattle.std.specs.List.{list_any}
use Rattle.std.proofs.lemmas.List.{length-append, length-take, drop_more, take-append-drop, take_rest}
use Rattle.std.specs.List.{AllByRecursion}
use Rattle.tt_sgf.specs.Bytes.{open_tree}
use Rattle.tt_sgf.specs.declared.nodes.Node.{Node}
use Rattle.tt_sgf.proofs.GrammarLemmas.{tree_texts_are_prefix_free}
use Rattle.tt_sgf.specs.declared.nodes.Property.{Property}
use Rattle.tt_sgf.specs.Grammar.{AreProperties, AreNodes, AreTrees, GameTree, Trees, game, no_tree, more_trees, Spells, main_line, first_main_line, FirstTreeEndsAt, IsMainLine}
use Rattle.tt_sgf.specs.inside.Reading.{Begins}

-- some byte is a `(`
abbrev pub has_open : List ℕ → Bool
has_open bytes = list_any (λ b. eqb b open_tree) bytes

-- the text of a tree begins with a `(`
starts : (t : GameTree) (text : List ℕ) → Spells text t → (inner : List ℕ) × (text ≡ open_tree ∷ inner)
starts (game ns ts) text h = (_, h.7)

-- bytes with a `(` behind others have a `(`
has_open-there : (xs r : List ℕ) → has_open (xs ++ (open_tree ∷ r)) ≡ true
has_open-there [] r = refl
has_open-there (x ∷ xs) r = elim (eqb x open_tree) as (λ b. (b || has_open (xs ++ (open_tree ∷ r))) ≡ true) [ true ↦ refl | false ↦ has_open-there xs r ]

-- an `or` is false only where both sides are
pub or_false : (a b : Bool) → (a || b) ≡ false → (a ≡ false) × (b ≡ false)
or_false true b h = absurd cc
or_false false b h = (refl, h)

-- bytes are split at their first `(` in one way alone
same_split : (xs ys r q : List ℕ) → has_open xs ≡ false → has_open ys ≡ false → xs ++ (open_tree ∷ r) ≡ ys ++ (open_tree ∷ q) → (xs ≡ ys) × (r ≡ q)
same_split [] [] r q h k e = (refl, cc)
same_split [] (y ∷ ys) r q h k e = let f : open_tree ≡ y = cc in absurd (let g = rw (← f) at k in cc)
same_split (x ∷ xs) [] r q h k e = let f : x ≡ open_tree = cc in absurd (let g = rw f at h in cc)
same_split (x ∷ xs) (y ∷ ys) r q h k e =
    let f : x ≡ y = cc in
    let g : xs ++ (open_tree ∷ r) ≡ ys ++ (open_tree ∷ q) = cc in
    let i = same_split xs ys r q (or_false (eqb x open_tree) _ h).1 (or_false (eqb y open_tree) _ k).1 g in
    (ap (λ (z : ℕ). z ∷ xs) f ∙ ap (λ (z : List ℕ). y ∷ z) i.0, i.1)

-- in bytes without a `(` no tree is spelled
pub no_tree_without : (bytes : List ℕ) → has_open bytes ≡ false → (t : GameTree) (count : ℕ) → FirstTreeEndsAt bytes count t → ⊥
no_tree_without bytes h t count s =
    let i = starts t s.text s.spells in
    let is : bytes ≡ s.skipped ++ (open_tree ∷ (i.0 ++ s.rest)) = s.parts ∙ ap (λ (x : List ℕ). s.skipped ++ (x ++ s.rest)) i.1 in
    absurd (let e = has_open-there s.skipped (i.0 ++ s.rest) in let f = ap has_open is in cc)

module _ (bytes : List ℕ) (i : ℕ) (lt : i < length bytes) (none : has_open (take i bytes) ≡ false) (there : get_or bytes i 0 ≡ open_tree) where
  -- the bytes are those before the bracket, the bracket, and those behind it
  bytes-are : bytes ≡ take i bytes ++ (open_tree ∷ drop (i + 1) bytes)
  bytes-are = sym (take-append-drop i bytes) ∙ ap (λ (x : List ℕ). take i bytes ++ x) (drop_more bytes i 0 lt ∙ ap (λ (b : ℕ). b ∷ drop (i + 1) bytes) there)

  -- where no tree begins at the first `(`, the bytes spell none
  pub no_tree_there : ((t : GameTree) (rest : List ℕ) → Begins (open_tree ∷ drop (i + 1) bytes) t rest → ⊥) → (t : GameTree) (count : ℕ) → FirstTreeEndsAt bytes count t → ⊥
  no_tree_there never t count s =
      let k = starts t s.text s.spells in
      let is : take i bytes ++ (open_tree ∷ drop (i + 1) bytes) ≡ s.skipped ++ (open_tree ∷ (k.0 ++ s.rest)) = sym bytes-are ∙ s.parts ∙ ap (λ (x : List ℕ). s.skipped ++ (x ++ s.rest)) k.1 in
      let same = same_split (take i bytes) s.skipped (drop (i + 1) bytes) (k.0 ++ s.rest) none s.no_open is in
      never t s.rest (record { text = s.text; spells = s.spells; parts = ap (λ (x : List ℕ). open_tree ∷ x) same.1 ∙ ap (λ (x : List ℕ). x ++ s.rest) (sym k.1) })

  -- the length is that of what is skipped, of the tree's text and of the rest
  begins_len : (t : GameTree) (rest : List ℕ) → (b : Begins (open_tree ∷ drop (i + 1) bytes) t rest) → length bytes ≡ i + (length b.text + length rest)
  begins_len t rest b =
      ap length bytes-are ∙ ap length (ap (λ (x : List ℕ). take i bytes ++ x) b.parts) ∙ omega (arith, length-append (take i bytes) (b.text ++ rest), length-append b.text rest, length-take i bytes)

  -- what is left behind a tree is no longer than the bytes
  pub rest_fits : (t : GameTree) (rest : List ℕ) → Begins (open_tree ∷ drop (i + 1) bytes) t rest → length rest ≤ length bytes
  rest_fits t rest b = let e = begins_len t rest b in omega arith

  -- a tree that begins at the first `(` is spelled up to where the rest begins
  pub tree_there : (t : GameTree) (rest : List ℕ) → Begins (open_tree ∷ drop (i + 1) bytes) t rest → FirstTreeEndsAt bytes (length bytes - length rest) t
  tree_there t rest b = record {
    skipped = take i bytes;
    text = b.text;
    rest = rest;
    no_open = none;
    spells = b.spells;
    parts = bytes-are ∙ ap (λ (x : List ℕ). take i bytes ++ x) b.parts;
    count_is = let e = begins_len t rest b in omega (arith, length-take i bytes);
  }

-- the bytes from one byte to the end are all that are left there: a tree begins in both or in none
pub begins_rest : (bytes : List ℕ) (i : ℕ) (t : GameTree) (rest : List ℕ) → Begins (open_tree ∷ take (length bytes - i) (drop i bytes)) t rest → Begins (open_tree ∷ drop i bytes) t rest
begins_rest bytes i t rest b = rw take_rest at b

pub never_rest : (bytes : List ℕ) (i : ℕ) → ((t : GameTree) (rest : List ℕ) → Begins (open_tree ∷ take (length bytes - i) (drop i bytes)) t rest → ⊥) → (t : GameTree) (rest : List ℕ)
    → Begins (open_tree ∷ drop i bytes) t rest → ⊥
never_rest bytes i h t rest b = h t rest (rw take_rest b)

-- ---- what a main line has

-- each property of the nodes has a value
abbrev HaveValues : List Node → Type 0
HaveValues ns = AllByRecursion (λ n. AllByRecursion (λ p. p.values ≢ []) n.props) ns

-- in a text of properties each has a value
properties_have : (ps : List Property) (text : List ℕ) → AreProperties text ps → AllByRecursion (λ p. p.values ≢ []) ps
properties_have [] text h = tt
properties_have (p ∷ ps) text h = (h.6, properties_have ps h.3 h.8)

-- so has each in a text of nodes, before others that have
nodes_have : (ns ms : List Node) (text : List ℕ) → AreNodes text ns → HaveValues ms → HaveValues (ns ++ ms)
nodes_have [] ms text h k = k
nodes_have (n ∷ ns) ms text h k = (properties_have n.props h.1 h.4, nodes_have ns ms h.2 h.5 k)

-- and each on the main line of the first tree in a text of trees
trees_have : (ts : Trees) (text : List ℕ) → AreTrees text ts → HaveValues (first_main_line ts)
trees_have no_tree text h = tt
trees_have (more_trees (game ns us) ts) text h = nodes_have ns (first_main_line us) h.4.0 h.4.4 (trees_have us h.4.1 h.4.5)

-- a list that begins with a list of some is not empty
not_none : (ns ms : List Node) → ns ≢ [] → ns ++ ms ≢ []
not_none [] ms h = absurd (h refl)
not_none (n ∷ ns) ms h = λ e. absurd cc

-- the main line of a tree that is spelled has a node, and its properties have values
main_is : (t : GameTree) (text : List ℕ) → Spells text t → IsMainLine (main_line t)
main_is (game ns ts) text h = record { some = not_none ns (first_main_line ts) h.3; values = nodes_have ns (first_main_line ts) h.0 h.4 (trees_have ts h.1 h.5) }

-- so has that of a tree at the front of the bytes
pub line_is : (bytes : List ℕ) (t : GameTree) (rest : List ℕ) (nodes : List Node) → Begins bytes t rest → nodes ≡ main_line t → IsMainLine nodes
line_is bytes t rest nodes b e = subst IsMainLine (sym e) (main_is t b.text b.spells)

-- the first bracket of the bytes begins one tree alone
pub grammar_is_unambiguous : (bytes : List ℕ) (n m : ℕ) (s t : GameTree) → FirstTreeEndsAt bytes n s → FirstTreeEndsAt bytes m t → (n ≡ m) × (s ≡ t)
grammar_is_unambiguous bytes n m s t h k =
    let i = starts s h.text h.spells in
    let j = starts t k.text k.spells in
    let is : h.skipped ++ (open_tree ∷ (i.0 ++ h.rest)) ≡ k.skipped ++ (open_tree ∷ (j.0 ++ k.rest)) =
    sym (ap (λ (x : List ℕ). h.skipped ++ (x ++ h.rest)) i.1) ∙ sym h.parts ∙ k.parts ∙ ap (λ (x : List ℕ). k.skipped ++ (x ++ k.rest)) j.1 in
    let same = same_split h.skipped k.skipped (i.0 ++ h.rest) (j.0 ++ k.rest) h.no_open k.no_open is in
    let texts : h.text ++ h.rest ≡ k.text ++ k.rest =
    ap (λ (x : List ℕ). x ++ h.rest) i.1 ∙ ap (λ (x : List ℕ). open_tree ∷ x) same.1 ∙ ap (λ (x : List ℕ). x ++ k.rest) (sym j.1) in
    let one = tree_texts_are_prefix_free h.text k.text s t h.rest k.rest h.spells k.spells texts in
    (h.count_is ∙ ap (λ (x : List ℕ). length x + length h.text) same.0 ∙ ap (λ (x : List ℕ). length k.skipped + length x) one.0 ∙ sym k.count_is, one.1)
