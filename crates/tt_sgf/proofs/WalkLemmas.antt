-- The walk over the events of a tree, with a count of open trees, and how far the reader has come.
use Rattle.std.proofs.Common.{◌≡◌, ◌≢◌, ℕ, zero, suc, ◌+◌, ◌-◌, ◌<◌, Bool, true, false, not, cond, List, [], ◌∷◌, ◌++◌, Some, None, refl, sym, ap, subst, ◌∙◌}
use Rattle.std.proofs.Common.{arith, inl, inr}
use Rattle.std.proofs.lemmas.Bool.{cases_Bool}
use Rattle.std.proofs.lemmas.Option.{some_pair_parts}
use Rattle.std.proofs.lemmas.List.{append-nil}
use Rattle.tt_sgf.specs.Bytes.{open_tree}
use Rattle.tt_sgf.specs.declared.nodes.Node.{Node}
use Rattle.tt_sgf.specs.declared.trees.Event.{Event}
use Rattle.tt_sgf.specs.declared.trees.Event.TheVariants.{Open, Close, Item}
use Rattle.tt_sgf.specs.declared.trees.ParserState.{ParserState}
use Rattle.tt_sgf.specs.declared.trees.ParserState.TheVariants.{Opened, Nodes, Trees as Behind}
use Rattle.tt_sgf.specs.Grammar.{GameTree, Trees, game, no_tree, more_trees, Spells, AreTrees, main_line, first_main_line}
use Rattle.tt_sgf.specs.inside.Reading.{Begins, event_at}
use Rattle.tt_sgf.proofs.EventLemmas.{event_open, EventsAt, EventsAt-push, two_rows}
use Rattle.tt_sgf.proofs.GrammarLemmas.{items_then, tree_then, trees_then, spelled, IsWhole, AreWhole, inside_begins}

-- ---- the walk with a count of open trees

-- at a byte within so many trees around the innermost open one, at the end, or nowhere
pub data State : Type 0 where
  within : ParserState → ℕ → State
  done : State
  stuck : State

-- where an event leads
abbrev pub step : State → Event → State
step done e = stuck
step stuck e = stuck
step (within Opened d) Open = stuck
step (within Nodes d) Open = within Opened (suc d)
step (within Behind d) Open = within Opened (suc d)
step (within Opened d) Close = stuck
step (within Nodes zero) Close = done
step (within Behind zero) Close = done
step (within Nodes (suc d)) Close = within Behind d
step (within Behind (suc d)) Close = within Behind d
step (within Opened d) (Item n) = within Nodes d
step (within Nodes d) (Item n) = within Nodes d
step (within Behind d) (Item n) = stuck

-- where events lead one after another
abbrev pub run : State → List Event → State
run s [] = s
run s (e ∷ es) = run (step s e) es

-- events lead on from where those before them led
pub run-append : (s : State) (es fs : List Event) → run s (es ++ fs) ≡ run (run s es) fs
run-append s [] fs = refl
run-append s (e ∷ es) fs = run-append (step s e) es fs

-- no event leads on from nowhere
pub run-stuck : (es : List Event) → run stuck es ≡ stuck
run-stuck [] = refl
run-stuck (e ∷ es) = run-stuck es

-- each whole tree is walked through
run-items : (ns : List Node) (d : ℕ) (es : List Event) → run (within Nodes d) (items_then ns es) ≡ run (within Nodes d) es
run-items [] d es = refl
run-items (n ∷ ns) d es = run-items ns d es

-- right behind a tree's bracket its nodes, one or more, lead among nodes
run-inside : (ns : List Node) (ts : Trees) (d : ℕ) (es : List Event) (s : State) → ns ≢ [] → run (within Nodes d) (trees_then ts (Close ∷ es)) ≡ s
    → run (within Opened d) (items_then ns (trees_then ts (Close ∷ es))) ≡ s
run-inside [] ts d es s ne h = absurd (ne refl)
run-inside (n ∷ ns) ts d es s ne h = run-items ns d (trees_then ts (Close ∷ es)) ∙ h

-- whole sub-trees lead behind themselves, from among nodes or from behind others
mutual
  run-nodes : (ts : Trees) (d : ℕ) (es : List Event) → AreWhole ts → run (within Nodes d) (trees_then ts (Close ∷ es)) ≡ run (step (within Behind d) Close) es
  run-nodes no_tree zero es whole = refl
  run-nodes no_tree (suc d) es whole = refl
  run-nodes (more_trees (game ns us) ts) d es whole =
      run-inside ns us (suc d) (trees_then ts (Close ∷ es)) _ whole.0.0 (run-nodes us (suc d) (trees_then ts (Close ∷ es)) whole.0.1) ∙ run-behind ts d es whole.1

  run-behind : (ts : Trees) (d : ℕ) (es : List Event) → AreWhole ts → run (within Behind d) (trees_then ts (Close ∷ es)) ≡ run (step (within Behind d) Close) es
  run-behind no_tree d es whole = refl
  run-behind (more_trees (game ns us) ts) d es whole =
      run-inside ns us (suc d) (trees_then ts (Close ∷ es)) _ whole.0.0 (run-nodes us (suc d) (trees_then ts (Close ∷ es)) whole.0.1) ∙ run-behind ts d es whole.1

-- a spelled tree is whole
mutual
  spelled_whole : (t : GameTree) (text : List ℕ) → Spells text t → IsWhole t
  spelled_whole (game ns ts) text h = (h.3, spelled_are_whole ts h.1 h.5)

  spelled_are_whole : (ts : Trees) (text : List ℕ) → AreTrees text ts → AreWhole ts
  spelled_are_whole no_tree text h = tt
  spelled_are_whole (more_trees t ts) text h = (spelled_whole t h.1 h.4, spelled_are_whole ts h.2 h.5)

-- the walk behind the first bracket of a whole tree is done at its end
pub run-tree : (ns : List Node) (ts : Trees) → ns ≢ [] → AreWhole ts → run (within Opened 0) (items_then ns (trees_then ts (Close ∷ []))) ≡ done
run-tree ns ts ne whole = run-inside ns ts 0 [] _ ne (run-nodes ts 0 [] whole)

-- ---- what a finished walk went over

-- what a tree still has of nodes: one or more right behind its bracket, any amid them, none behind sub-trees
abbrev pub Begun : ParserState → List Node → Type 0
Begun Opened ns = ns ≢ []
Begun Nodes ns = Unit {0}
Begun Behind ns = ns ≡ []

-- the ends of the innermost open tree and of those around it
abbrev pub Closes : ParserState → ℕ → List Event → Type 0
Closes p zero evs = (ns : List Node) × (ts : Trees) × Begun p ns × AreWhole ts × (evs ≡ items_then ns (trees_then ts (Close ∷ [])))
Closes p (suc d) evs = (ns : List Node) × (ts : Trees) × (es : List Event) × Begun p ns × AreWhole ts × (evs ≡ items_then ns (trees_then ts (Close ∷ es))) × Closes Behind d es

-- nowhere is never the end
not_done : (es : List Event) → run stuck es ≡ done → ⊥
not_done es h = let e = run-stuck es in cc

-- nothing follows the end
only_end : (es : List Event) → run done es ≡ done → es ≡ []
only_end [] h = refl
only_end (e ∷ es) h = absurd (not_done es h)

-- an event before the end of the innermost tree
closes_open : (p : ParserState) (d : ℕ) (es : List Event) → Begun p [] → Closes Opened (suc d) es → Closes p d (Open ∷ es)
closes_open p zero es b h =
    let o = h.6 in (
      [],
      more_trees (game h.0 h.1) o.1,
      b,
      ((h.3, h.4), o.3),
      ap (λ (x : List Event). Open ∷ x) (h.5 ∙ ap (λ (x : List Event). items_then h.0 (trees_then h.1 (Close ∷ x))) (o.4 ∙ ap (λ (ns : List Node). items_then ns (trees_then o.1 (Close ∷ []))) o.2)),
    )
closes_open p (suc d) es b h =
    let o = h.6 in (
      [],
      more_trees (game h.0 h.1) o.1,
      o.2,
      b,
      ((h.3, h.4), o.4),
      ap (λ (x : List Event). Open ∷ x) (h.5 ∙ ap (λ (x : List Event). items_then h.0 (trees_then h.1 (Close ∷ x)))
          (o.5 ∙ ap (λ (ns : List Node). items_then ns (trees_then o.1 (Close ∷ o.2))) o.3)),
      o.6,
    )

-- a node before the ends of all open trees is the first of their nodes
closes_item : (p : ParserState) (d : ℕ) (n : Node) (es : List Event) → ((ns : List Node) → Begun p (n ∷ ns)) → Closes Nodes d es → Closes p d (Item n ∷ es)
closes_item p zero n es b h = (n ∷ h.0, h.1, b h.0, h.3, ap (λ (x : List Event). Item n ∷ x) h.4)
closes_item p (suc d) n es b h = (n ∷ h.0, h.1, h.2, b h.0, h.4, ap (λ (x : List Event). Item n ∷ x) h.5, h.6)

-- what leads to the end is the ends of all trees that are open
pub closes : (p : ParserState) (d : ℕ) (es : List Event) → run (within p d) es ≡ done → Closes p d es
closes p d [] h = absurd cc
closes Opened d (Open ∷ es) h = absurd (not_done es h)
closes Nodes d (Open ∷ es) h = closes_open Nodes d es tt (closes Opened (suc d) es h)
closes Behind d (Open ∷ es) h = closes_open Behind d es refl (closes Opened (suc d) es h)
closes Opened d (Close ∷ es) h = absurd (not_done es h)
closes Nodes zero (Close ∷ es) h = ([], no_tree, tt, tt, ap (λ (x : List Event). Close ∷ x) (only_end es h))
closes Behind zero (Close ∷ es) h = ([], no_tree, refl, tt, ap (λ (x : List Event). Close ∷ x) (only_end es h))
closes Nodes (suc d) (Close ∷ es) h = ([], no_tree, es, tt, tt, refl, closes Behind d es h)
closes Behind (suc d) (Close ∷ es) h = ([], no_tree, es, refl, tt, refl, closes Behind d es h)
closes Opened d (Item n ∷ es) h = closes_item Opened d n es (λ ns e. absurd cc) (closes Nodes d es h)
closes Nodes d (Item n ∷ es) h = closes_item Nodes d n es (λ ns. tt) (closes Nodes d es h)
closes Behind d (Item n ∷ es) h = absurd (not_done es h)

-- ---- the main line

-- the nodes before the first bracket that closes
abbrev pub line : List Event → List Node
line [] = []
line (Open ∷ es) = line es
line (Close ∷ es) = []
line (Item n ∷ es) = n ∷ line es

-- some bracket closes
abbrev pub has_close : List Event → Bool
has_close [] = false
has_close (Open ∷ es) = has_close es
has_close (Close ∷ es) = true
has_close (Item n ∷ es) = has_close es

-- nodes come first on the line
line-items : (ns : List Node) (es : List Event) → line (items_then ns es) ≡ ns ++ line es
line-items [] es = refl
line-items (n ∷ ns) es = ap (λ (x : List Node). n ∷ x) (line-items ns es)

-- the line of trees and a bracket that closes is the main line of the first tree
pub line-trees : (ts : Trees) (es : List Event) → line (trees_then ts (Close ∷ es)) ≡ first_main_line ts
line-trees no_tree es = refl
line-trees (more_trees (game ns us) ts) es =
    line-items ns (trees_then us (Close ∷ trees_then ts (Close ∷ es))) ∙ ap (λ (x : List Node). ns ++ x) (line-trees us (trees_then ts (Close ∷ es)))

-- the line behind the bracket of a tree is its main line
pub line-inside : (ns : List Node) (ts : Trees) (es : List Event) → line (items_then ns (trees_then ts (Close ∷ es))) ≡ main_line (game ns ts)
line-inside ns ts es = line-items ns (trees_then ts (Close ∷ es)) ∙ ap (λ (x : List Node). ns ++ x) (line-trees ts es)

-- behind a bracket that closes nothing joins the line
line-closed : (es fs : List Event) → has_close es ≡ true → line (es ++ fs) ≡ line es
line-closed [] fs h = absurd cc
line-closed (Open ∷ es) fs h = line-closed es fs h
line-closed (Close ∷ es) fs h = refl
line-closed (Item n ∷ es) fs h = ap (λ (x : List Node). n ∷ x) (line-closed es fs h)

-- while none closes the line goes on
line-open : (es fs : List Event) → has_close es ≡ false → line (es ++ fs) ≡ line es ++ line fs
line-open [] fs h = refl
line-open (Open ∷ es) fs h = line-open es fs h
line-open (Close ∷ es) fs h = absurd cc
line-open (Item n ∷ es) fs h = ap (λ (x : List Node). n ∷ x) (line-open es fs h)

-- behind events without a bracket that closes, the others decide whether one does
has_close-append : (es : List Event) (fs : List Event) → has_close es ≡ false → has_close (es ++ fs) ≡ has_close fs
has_close-append [] fs h = refl
has_close-append (Open ∷ es) fs h = has_close-append es fs h
has_close-append (Close ∷ es) fs h = absurd cc
has_close-append (Item n ∷ es) fs h = has_close-append es fs h

-- a bracket that closed stays one among more events
has_close-stays : (es : List Event) (fs : List Event) → has_close es ≡ true → has_close (es ++ fs) ≡ true
has_close-stays [] fs h = absurd cc
has_close-stays (Open ∷ es) fs h = has_close-stays es fs h
has_close-stays (Close ∷ es) fs h = refl
has_close-stays (Item n ∷ es) fs h = has_close-stays es fs h

-- ---- how far the reader has come

-- an opening bracket leads one tree deeper, unless it stands right behind another
step_open : (p : ParserState) (d : ℕ) → p ≢ Opened → step (within p d) Open ≡ within Opened (d + 1)
step_open Opened d ne = absurd (ne refl)
step_open Nodes d ne = ap (within Opened) (omega arith)
step_open Behind d ne = ap (within Opened) (omega arith)

-- a closing one leads out of the innermost of several trees, unless it stands right behind an opening one
step_close : (p : ParserState) (d : ℕ) → p ≢ Opened → 0 < d → step (within p d) Close ≡ within Behind (d - 1)
step_close p zero ne lt = absurd (omega arith)
step_close Opened (suc d) ne lt = absurd (ne refl)
step_close Nodes (suc d) ne lt = ap (within Behind) (omega arith)
step_close Behind (suc d) ne lt = ap (within Behind) (omega arith)

-- a node leads among nodes, unless it stands behind sub-trees
step_item : (p : ParserState) (d : ℕ) (n : Node) → p ≢ Behind → step (within p d) (Item n) ≡ within Nodes d
step_item Opened d n ne = refl
step_item Nodes d n ne = refl
step_item Behind d n ne = absurd (ne refl)

-- the bracket that closes the only tree leads to the end
step_last : (p : ParserState) → p ≢ Opened → step (within p 0) Close ≡ done
step_last Opened ne = absurd (ne refl)
step_last Nodes ne = refl
step_last Behind ne = refl

-- events lead from the bytes to the rest and to the byte; the nodes are their line, over once one closed
pub record Far (bytes rest : List ℕ) (p : ParserState) (d : ℕ) (on_main : Bool) (nodes : List Node) : Type 0 where
  pub events : List Event
  pub goes : EventsAt bytes events rest
  pub at : run (within Opened 0) events ≡ within p d
  pub so_far : line events ≡ nodes
  pub closed : has_close events ≡ not on_main

module _ (bytes rest : List ℕ) (p : ParserState) (d : ℕ) (on_main : Bool) (nodes : List Node) (far : Far bytes rest p d on_main nodes) where
  -- one event more leads on from the byte
  step_to : (e : Event) (s : State) → step (within p d) e ≡ s → run (within Opened 0) (far.events ++ e ∷ []) ≡ s
  step_to e s h = run-append (within Opened 0) far.events (e ∷ []) ∙ ap (λ (x : State). step x e) far.at ∙ h

  -- an opening bracket: one tree deeper, and the nodes stay
  pub far_open : (after : List ℕ) → event_at rest ≡ Some (Open, after) → (p ≢ Opened) → Far bytes after Opened (d + 1) on_main nodes
  far_open after h ne = record {
    events = far.events ++ Open ∷ [];
    goes = EventsAt-push bytes far.events rest Open after far.goes h;
    at = step_to Open _ (step_open p d ne);
    so_far = elim (cases_Bool (has_close far.events)) [
      | inl c ↦ line-closed far.events (Open ∷ []) c ∙ far.so_far
      | inr c ↦ line-open far.events (Open ∷ []) c ∙ append-nil (line far.events) ∙ far.so_far
    ];
    closed = elim (cases_Bool (has_close far.events)) [
      | inl c ↦ has_close-stays far.events (Open ∷ []) c ∙ sym c ∙ far.closed
      | inr c ↦ has_close-append far.events (Open ∷ []) c ∙ sym c ∙ far.closed
    ];
  }

  -- a closing bracket that isn't the last: one tree less deep, and the main line is over
  pub far_close : (after : List ℕ) → event_at rest ≡ Some (Close, after) → (p ≢ Opened) → 0 < d → Far bytes after Behind (d - 1) false nodes
  far_close after h ne lt = record {
    events = far.events ++ Close ∷ [];
    goes = EventsAt-push bytes far.events rest Close after far.goes h;
    at = step_to Close _ (step_close p d ne lt);
    so_far = elim (cases_Bool (has_close far.events)) [
      | inl c ↦ line-closed far.events (Close ∷ []) c ∙ far.so_far
      | inr c ↦ line-open far.events (Close ∷ []) c ∙ append-nil (line far.events) ∙ far.so_far
    ];
    closed = elim (cases_Bool (has_close far.events)) [
      | inl c ↦ has_close-stays far.events (Close ∷ []) c
      | inr c ↦ has_close-append far.events (Close ∷ []) c
    ];
  }

  -- a node: it joins the others on the main line alone
  far_item : (n : Node) (after : List ℕ) → event_at rest ≡ Some (Item n, after) → (p ≢ Behind) → Far bytes after Nodes d on_main (cond on_main (nodes ++ n ∷ []) nodes)
  far_item n after h ne = record {
    events = far.events ++ Item n ∷ [];
    goes = EventsAt-push bytes far.events rest (Item n) after far.goes h;
    at = step_to (Item n) _ (step_item p d n ne);
    so_far = elim on_main as (λ m. has_close far.events ≡ not m → line (far.events ++ Item n ∷ []) ≡ cond m (nodes ++ n ∷ []) nodes) [
      | true ↦ λ c. line-open far.events (Item n ∷ []) c ∙ ap (λ (x : List Node). x ++ n ∷ []) far.so_far
      | false ↦ λ c. line-closed far.events (Item n ∷ []) c ∙ far.so_far
    ] far.closed;
    closed = elim (cases_Bool (has_close far.events)) [
      | inl c ↦ has_close-stays far.events (Item n ∷ []) c ∙ sym c ∙ far.closed
      | inr c ↦ has_close-append far.events (Item n ∷ []) c ∙ sym c ∙ far.closed
    ];
  }

  -- the same, for nodes known to be those
  far_item_is : (n : Node) (after : List ℕ) (b : Bool) (ms : List Node) → event_at rest ≡ Some (Item n, after) → (p ≢ Behind) → on_main ≡ b → cond b (nodes ++ n ∷ []) nodes ≡ ms
      → Far bytes after Nodes d on_main ms
  far_item_is n after b ms h ne m is = subst (λ (x : List Node). Far bytes after Nodes d on_main x) (ap (λ (x : Bool). cond x (nodes ++ n ∷ []) nodes) m ∙ is) (far_item n after h ne)

  -- a node on the main line joins the others
  pub far_kept : (n : Node) (after : List ℕ) (ms : List Node) → event_at rest ≡ Some (Item n, after) → (p ≢ Behind) → on_main ≡ true → ms ≡ nodes ++ n ∷ [] → Far bytes after Nodes d on_main ms
  far_kept n after ms h ne m is = far_item_is n after true ms h ne m (sym is)

  -- for a node off the main line the others stay
  pub far_aside : (n : Node) (after : List ℕ) → event_at rest ≡ Some (Item n, after) → (p ≢ Behind) → on_main ≡ false → Far bytes after Nodes d on_main nodes
  far_aside n after h ne m = far_item_is n after false nodes h ne m refl

  -- where no event leads on, none lead to the end
  no_way : (zs : List Event) (q : List ℕ) → ((e : Event) (after : List ℕ) → event_at rest ≡ Some (e, after) → step (within p d) e ≡ stuck) → EventsAt rest zs q → run (within p d) zs ≡ done → ⊥
  no_way [] q dead h k = absurd cc
  no_way (z ∷ zs) q dead h k = not_done zs (ap (λ (x : State). run x zs) (sym (dead z h.0 h.1)) ∙ k)

  -- the last bracket of the whole tree
  pub far_done : (after : List ℕ) → event_at rest ≡ Some (Close, after) → (p ≢ Opened) → d ≡ 0 → (t : GameTree) × Begins (open_tree ∷ bytes) t after × (nodes ≡ main_line t)
  far_done after h ne e =
      let events = far.events ++ Close ∷ [] in
      let finished : run (within Opened 0) events ≡ done = step_to Close done (ap (λ (k : ℕ). step (within p k) Close) e ∙ step_last p ne) in
      let c = closes Opened 0 events finished in
      let goes = EventsAt-push bytes far.events rest Close after far.goes h in
      let begins = inside_begins c.0 c.1 bytes after c.2 c.3 (subst (λ (x : List Event). EventsAt bytes x after) c.4 goes) in
      let nodes-are : line events ≡ nodes = elim (cases_Bool (has_close far.events)) [
        | inl k ↦ line-closed far.events (Close ∷ []) k ∙ far.so_far
        | inr k ↦ line-open far.events (Close ∷ []) k ∙ append-nil (line far.events) ∙ far.so_far
      ] in
      (game c.0 c.1, begins, sym nodes-are ∙ ap line c.4 ∙ line-inside c.0 c.1 [])

  -- a byte where no event leads on: no text of a tree is at the front
  pub far_dead : ((e : Event) (after : List ℕ) → event_at rest ≡ Some (e, after) → step (within p d) e ≡ stuck) → (t : GameTree) (q : List ℕ) → Begins (open_tree ∷ bytes) t q → ⊥
  far_dead dead (game ns ts) q b =
      let whole = spelled_whole (game ns ts) b.text b.spells in
      let all : EventsAt (open_tree ∷ bytes) (tree_then (game ns ts) []) q = rw b.parts (spelled (game ns ts) b.text q b.spells) in
      let first = some_pair_parts Open Open bytes all.0 (sym (event_open bytes) ∙ all.1) in
      let inside : EventsAt bytes (items_then ns (trees_then ts (Close ∷ []))) q = subst (λ (x : List ℕ). EventsAt x (items_then ns (trees_then ts (Close ∷ []))) q) (sym first.1) all.2 in
      let finished = run-tree ns ts whole.0 whole.1 in
      elim (two_rows bytes far.events (items_then ns (trees_then ts (Close ∷ []))) rest q far.goes inside) [
        | inl s ↦
            let k : run (within p d) s.0 ≡ done = ap (λ (x : State). run x s.0) (sym far.at) ∙ sym (run-append (within Opened 0) far.events s.0) ∙ ap (run (within Opened 0)) (sym s.1) ∙ finished in
            no_way s.0 q dead s.2 k
        | inr s ↦
            let k : within p d ≡ stuck = sym far.at ∙ ap (run (within Opened 0)) s.2 ∙ run-append (within Opened 0) (items_then ns (trees_then ts (Close ∷ []))) (s.0 ∷ s.1)
            ∙ ap (λ (x : State). run x (s.0 ∷ s.1)) finished ∙ run-stuck s.1 in
            absurd cc
      ]

  -- a byte where no event is read: no text of a tree is at the front
  pub far_none : event_at rest ≡ None → (t : GameTree) (q : List ℕ) → Begins (open_tree ∷ bytes) t q → ⊥
  far_none h = far_dead (λ e after k. absurd (let x = h in cc))

  -- a byte where the event read doesn't lead on: no text of a tree is at the front
  refused : (e : Event) (after : List ℕ) → event_at rest ≡ Some (e, after) → step (within p d) e ≡ stuck → (t : GameTree) (q : List ℕ) → Begins (open_tree ∷ bytes) t q → ⊥
  refused e after h s = far_dead (λ f other k. ap (step (within p d)) (sym (some_pair_parts e f after other (sym h ∙ k)).0) ∙ s)

  -- brackets right behind an opening one, and nodes behind sub-trees, don't lead on
  pub far_refused_open : (after : List ℕ) → event_at rest ≡ Some (Open, after) → p ≡ Opened → (t : GameTree) (q : List ℕ) → Begins (open_tree ∷ bytes) t q → ⊥
  far_refused_open after h e = refused Open after h (ap (λ (x : ParserState). step (within x d) Open) e)

  pub far_refused_close : (after : List ℕ) → event_at rest ≡ Some (Close, after) → p ≡ Opened → (t : GameTree) (q : List ℕ) → Begins (open_tree ∷ bytes) t q → ⊥
  far_refused_close after h e = refused Close after h (ap (λ (x : ParserState). step (within x d) Close) e)

  pub far_refused_item : (n : Node) (after : List ℕ) → event_at rest ≡ Some (Item n, after) → p ≡ Behind → (t : GameTree) (q : List ℕ) → Begins (open_tree ∷ bytes) t q → ⊥
  far_refused_item n after h e = refused (Item n) after h (ap (λ (x : ParserState). step (within x d) (Item n)) e)
