-- Events of a tree: what each takes of the bytes, and rows of them.
use Rattle.std.proofs.Common.{◌≡◌, ℕ, ◌<◌, Bool, true, false, cond, eqb, List, [], ◌∷◌, ◌++◌, length, Option, Some, None, refl, sym, ap, subst, ◌∙◌}
use Rattle.std.proofs.Common.{arith, ◌⊎◌, inl, inr}
use Rattle.std.proofs.lemmas.Bool.{eqb-true}
use Rattle.std.proofs.lemmas.Option.{some_pair_parts}
use Rattle.std.proofs.lemmas.List.{length-append}
use Rattle.tt_sgf.specs.Bytes.{close_tree, open_tree, semicolon}
use Rattle.tt_sgf.specs.declared.nodes.Node.{Node}
use Rattle.tt_sgf.specs.declared.trees.Event.{Event}
use Rattle.tt_sgf.specs.declared.trees.Event.TheVariants.{Open, Close, Item}
use Rattle.tt_sgf.specs.Grammar.{is_blank, is_letter_or_digit, is_upper, is_digit, is_lower, AreBlanks, AreProperties}
use Rattle.tt_sgf.specs.inside.Reading.{◌>>=◌, properties_at, event_of, event_at}
use Rattle.tt_sgf.specs.Values.{after_blanks}
use Rattle.tt_sgf.proofs.TokenLemmas.{bind_some, after_blanks-other, after_blanks-again, blanks_take}
use Rattle.tt_sgf.proofs.ListLemmas.{Ends, after_blanks_at, properties_take, properties_again}

-- ---- one event

-- the text of an event: white space, and what stands behind it up to the rest
abbrev pub EventText : Event → List ℕ → List ℕ → Type 0
EventText Open text rest = text ≡ open_tree ∷ rest
EventText Close text rest = text ≡ close_tree ∷ rest
EventText (Item n) text rest = (properties : List ℕ) × AreProperties properties n.props × (text ≡ semicolon ∷ (properties ++ rest))

-- a choice that gives something gives what its test chose
cond_cases : {A : Type 0} (b : Bool) (x y : Option A) (z : A) → cond b x y ≡ Some z → ((b ≡ true) × (x ≡ Some z)) ⊎ ((b ≡ false) × (y ≡ Some z))
cond_cases true x y z e = inl (refl, e)
cond_cases false x y z e = inr (refl, e)

EventText-moved : (e d : Event) (text r s : List ℕ) → d ≡ e → s ≡ r → EventText d text s → EventText e text r
EventText-moved e d text r s p q h = subst (λ (y : Event). EventText y text r) p (subst (λ (x : List ℕ). EventText d text x) q h)

-- an event that was read with nothing before it has its text there
event_of_takes : (bytes : List ℕ) (e : Event) (r : List ℕ) → event_of bytes ≡ Some (e, r) → EventText e bytes r
unfolding properties_at
event_of_takes [] e r h = absurd cc
event_of_takes (b ∷ bs) e r h =
    elim (cond_cases (eqb b open_tree) _ _ (e, r) h) [
      | inl p ↦ let same = some_pair_parts Open e bs r p.1 in EventText-moved e Open (b ∷ bs) r bs same.0 same.1 (ap (λ (x : ℕ). x ∷ bs) (eqb-true b open_tree p.0))
      | inr q ↦ elim (cond_cases (eqb b close_tree) _ _ (e, r) q.1) [
        | inl p ↦ let same = some_pair_parts Close e bs r p.1 in EventText-moved e Close (b ∷ bs) r bs same.0 same.1 (ap (λ (x : ℕ). x ∷ bs) (eqb-true b close_tree p.0))
        | inr s ↦ elim (cond_cases (eqb b semicolon) (properties_at bs >>= λ x. Some (Item (record { props = x.0 }), x.1)) None (e, r) s.1) [
          | inl p ↦
              let x = bind_some (properties_at bs) (λ x. Some (Item (record { props = x.0 }), x.1)) (e, r) p.1 in
              let t = properties_take _ bs x.0.0 x.0.1 x.1 in
              let same = some_pair_parts (Item (record { props = x.0.0 })) e x.0.1 r x.2 in
              EventText-moved e (Item (record { props = x.0.0 })) (b ∷ bs) r x.0.1 same.0 same.1 (t.text, t.are, rw (eqb-true b semicolon p.0) (ap (λ (y : List ℕ). semicolon ∷ y) t.parts))
          | inr u ↦ absurd (let n = u.1 in cc)
        ]
      ]
    ]

-- an event that was read has its text there, behind white space
pub event_takes : (bytes : List ℕ) (e : Event) (r : List ℕ) → event_at bytes ≡ Some (e, r) → (w : List ℕ) × (text : List ℕ) × AreBlanks w × EventText e text r × (bytes ≡ w ++ text)
unfolding event_at
event_takes bytes e r h = let w = blanks_take bytes in (w.0, after_blanks bytes, w.1, event_of_takes (after_blanks bytes) e r h, w.2)

-- the rest is shorter than the text of an event before it
EventText-len : (e : Event) (text r : List ℕ) → EventText e text r → length r < length text
EventText-len Open text r h = omega (arith, ap length h)
EventText-len Close text r h = omega (arith, ap length h)
EventText-len (Item n) text r h = omega (arith, ap length h.2, length-append h.0 r)

-- each event takes something
pub event_shrinks : (bytes : List ℕ) (e : Event) (r : List ℕ) → event_at bytes ≡ Some (e, r) → length r < length bytes
event_shrinks bytes e r h = let t = event_takes bytes e r h in omega (arith, EventText-len e t.1 r t.3, ap length t.4, length-append t.0 t.1)

-- white space before an event is skipped
pub event_behind_blanks : (w bytes : List ℕ) → AreBlanks w → event_at (w ++ bytes) ≡ event_at bytes
unfolding event_at
event_behind_blanks w bytes h = ap event_of (after_blanks-again w bytes h)

no_blank_40 : is_blank open_tree ≡ false
unfolding is_blank
no_blank_40 = refl

no_blank_41 : is_blank close_tree ≡ false
unfolding is_blank
no_blank_41 = refl

no_blank_59 : is_blank semicolon ≡ false
unfolding is_blank
no_blank_59 = refl

-- brackets are read as such, and a semicolon with properties as a node
pub event_open : (r : List ℕ) → event_at (open_tree ∷ r) ≡ Some (Open, r)
unfolding event_at
event_open r = ap event_of (after_blanks-other open_tree r no_blank_40)

pub event_close : (r : List ℕ) → event_at (close_tree ∷ r) ≡ Some (Close, r)
unfolding event_at
event_close r = ap event_of (after_blanks-other close_tree r no_blank_41)

pub event_item : (n : Node) (text r : List ℕ) → AreProperties text n.props → Ends r → event_at (semicolon ∷ (text ++ r)) ≡ Some (Item n, r)
unfolding event_at properties_at
event_item n text r h e = rw (after_blanks-other semicolon (text ++ r) no_blank_59, properties_again n.props text r h e) refl

-- no value and no property stands before an event
no_word_40 : (is_letter_or_digit open_tree ≡ false) × (is_letter_or_digit close_tree ≡ false) × (is_letter_or_digit semicolon ≡ false)
unfolding is_letter_or_digit is_upper is_digit is_lower
no_word_40 = (refl, refl, refl)

-- before a bracket or a semicolon no value and no property stands
pub Ends_open : (w r : List ℕ) → AreBlanks w → Ends (w ++ (open_tree ∷ r))
Ends_open w r h = let a = after_blanks_at w open_tree r h no_blank_40 in record { no_value = rw a refl; no_property = rw a (no_word_40.0) }

pub Ends_close : (w r : List ℕ) → AreBlanks w → Ends (w ++ (close_tree ∷ r))
Ends_close w r h = let a = after_blanks_at w close_tree r h no_blank_41 in record { no_value = rw a refl; no_property = rw a (no_word_40.1) }

pub Ends_item : (w r : List ℕ) → AreBlanks w → Ends (w ++ (semicolon ∷ r))
Ends_item w r h = let a = after_blanks_at w semicolon r h no_blank_59 in record { no_value = rw a refl; no_property = rw a (no_word_40.2) }

-- ---- a row of events

-- these events are read one after another, and then the rest is left
abbrev pub EventsAt : List ℕ → List Event → List ℕ → Type 0
EventsAt bytes [] rest = bytes ≡ rest
EventsAt bytes (e ∷ es) rest = (mid : List ℕ) × (event_at bytes ≡ Some (e, mid)) × EventsAt mid es rest

-- one event more is read behind the others
pub EventsAt-push : (bytes : List ℕ) (es : List Event) (rest : List ℕ) (e : Event) (after : List ℕ) → EventsAt bytes es rest → event_at rest ≡ Some (e, after) → EventsAt bytes (es ++ e ∷ []) after
EventsAt-push bytes [] rest e after h f = (after, ap event_at h ∙ f, refl)
EventsAt-push bytes (d ∷ es) rest e after h f = (h.0, h.1, EventsAt-push h.0 es rest e after h.2 f)

-- of two rows from one byte one begins the other
pub two_rows : (bytes : List ℕ) (xs ys : List Event) (r q : List ℕ) → EventsAt bytes xs r → EventsAt bytes ys q
    → ((zs : List Event) × (ys ≡ xs ++ zs) × EventsAt r zs q) ⊎ ((z : Event) × (zs : List Event) × (xs ≡ ys ++ (z ∷ zs)))
two_rows bytes [] ys r q h k = inl (ys, refl, subst (λ (x : List ℕ). EventsAt x ys q) h k)
two_rows bytes (x ∷ xs) [] r q h k = inr (x, xs, refl)
two_rows bytes (x ∷ xs) (y ∷ ys) r q h k =
    let same = some_pair_parts x y h.0 k.0 (sym h.1 ∙ k.1) in
    elim (two_rows h.0 xs ys r q h.2 (subst (λ (m : List ℕ). EventsAt m ys q) (sym same.1) k.2)) [
      | inl s ↦ inl (s.0, (ap (λ (e : Event). e ∷ ys) (sym same.0) ∙ ap (λ (es : List Event). x ∷ es) s.1), s.2)
      | inr s ↦ inr (s.0, s.1, (ap (λ (es : List Event). x ∷ es) s.2 ∙ ap (λ (e : Event). e ∷ (ys ++ (s.0 ∷ s.1))) same.0))
    ]
