-- Chains by their paths, and by the names of their stones.
use Rattle.std.proofs.Common.{◌≡◌, ◌≢◌, ℕ, ◌<◌, List, [], ◌∷◌, Option, Some, None, inl, inr, refl, sym, ap, subst, ◌∙◌, arith}
use Rattle.std.proofs.lemmas.Bool.{cases_eq}
use Rattle.std.proofs.lemmas.Option.{none-some}
use Rattle.tt_board.specs.declared.Colour.{Colour}
use Rattle.tt_board.specs.declared.Colour.TheVariants.{Black, White}
use Rattle.tt_sgf.specs.declared.size.Size.{Size}
use Rattle.tt_sgf.specs.Sizes.{point_count}
use Rattle.tt_board.specs.Near.{IsNeighbour}
use Rattle.tt_board.specs.Position.{Colouring}
use Rattle.tt_board.specs.Reach.{entry_at, Reaches}
use Rattle.tt_board.specs.ReachLaws.{reaches_on}
use Rattle.tt_board.specs.inside.Chains.{Leads, AreLinked, name_at, IsNamed, AreNames, AreNamesBut}
use Rattle.tt_board.specs.laws.NearLaws.{near_back}

module _ (s : Size) (c : Colouring) where
  -- a point is linked with itself, with what an adjacent point like it is, and with what linked points are
  pub linked_self : (p : ℕ) → AreLinked s c p p
  linked_self p = ([], refl)

  pub linked_on : (p r q : ℕ) → IsNeighbour s p r → entry_at c r ≡ entry_at c p → AreLinked s c r q → AreLinked s c p q
  linked_on p r q near same l = (r ∷ l.0, (near, same, l.1))

  joined : (p q r : ℕ) (path : List ℕ) → Leads s c p path q → AreLinked s c q r → AreLinked s c p r
  joined p q r [] h l = subst (λ x. AreLinked s c x r) (sym h) l
  joined p q r (x ∷ rest) h l = linked_on p x r h.0 h.1 (joined x q r rest h.2 l)

  pub linked_trans : (p q r : ℕ) → AreLinked s c p q → AreLinked s c q r → AreLinked s c p r
  linked_trans p q r l m = joined p q r l.0 l.1 m

  -- the path the other way
  turned : (p q : ℕ) (path : List ℕ) → p < point_count s → Leads s c p path q → AreLinked s c q p
  turned p q [] in_p h = subst (λ x. AreLinked s c x p) h (linked_self p)
  turned p q (x ∷ rest) in_p h =
      let back = turned x q rest h.0.0 h.2 in
      linked_trans q x p back (linked_on x p p (near_back s p x in_p h.0) (sym h.1) (linked_self p))

  -- a path leads back
  pub linked_sym : (p q : ℕ) → p < point_count s → AreLinked s c p q → AreLinked s c q p
  linked_sym p q in_p l = turned p q l.0 in_p l.1

  -- what spreads to adjacent points of one colour holds on the whole path
  pub spread : (S : ℕ → Type 0) → ((p q : ℕ) → p < point_count s → S p → IsNeighbour s p q → entry_at c q ≡ entry_at c p → S q)
      → (p q : ℕ) (path : List ℕ) → p < point_count s → S p → Leads s c p path q → S q
  spread S step p q [] in_p here h = subst S h here
  spread S step p q (x ∷ rest) in_p here h = spread S step x q rest h.0.0 (step p x in_p here h.0 h.1) h.2

  -- a point reaches what one linked with it reaches
  reaches_along : (p q : ℕ) (path : List ℕ) (e : Option Colour) → Leads s c p path q → Reaches s c q e → Reaches s c p e
  reaches_along p q [] e h r = subst (λ x. Reaches s c x e) (sym h) r
  reaches_along p q (x ∷ rest) e h r = reaches_on s c e p x h.0 h.1 (reaches_along x q rest e h.2 r)

  -- where it is linked by some path
  pub reaches_linked : (p q : ℕ) (e : Option Colour) → AreLinked s c p q → Reaches s c q e → Reaches s c p e
  reaches_linked p q e l r = reaches_along p q l.0 e l.1 r

-- a colouring that keeps the stones along a path keeps the path
pub linked_kept : (s : Size) (c d : Colouring) (S : ℕ → Type 0)
    → ((p q : ℕ) → p < point_count s → S p → IsNeighbour s p q → entry_at c q ≡ entry_at c p → S q)
    → ((p : ℕ) → p < point_count s → S p → entry_at d p ≡ entry_at c p)
    → (p q : ℕ) → p < point_count s → S p → AreLinked s c p q → AreLinked s d p q
linked_kept s c d S step kept p q in_p here l = (l.0, go p l.0 in_p here l.1)
  where
    go : (x : ℕ) (path : List ℕ) → x < point_count s → S x → Leads s c x path q → Leads s d x path q
    go x [] in_x at h = h
    go x (y ∷ rest) in_x at h =
        let next = step x y in_x at h.0 h.1 in
        (h.0, kept y h.0.0 next ∙ h.1 ∙ sym (kept x in_x at), go y rest h.0.0 next h.2)

-- a name is 0 exactly where the point is empty
pub named_bare : (e : Option Colour) (n : ℕ) → IsNamed e n → e ≡ None → n ≡ 0
named_bare None n h is = h
named_bare (Some k) n h is = absurd (none-some k (sym is))

pub named_stone : (e : Option Colour) (n : ℕ) → IsNamed e n → e ≢ None → n ≢ 0
named_stone None n h some = absurd (some refl)
named_stone (Some Black) n h some = λ z. omega arith
named_stone (Some White) n h some = λ z. omega arith

-- a point without a name is empty, one with a name is not
pub bare_named : (e : Option Colour) (n : ℕ) → IsNamed e n → n ≡ 0 → e ≡ None
bare_named None n h is = refl
bare_named (Some Black) n h is = absurd (omega arith)
bare_named (Some White) n h is = absurd (omega arith)

pub stone_named : (e : Option Colour) (n : ℕ) → IsNamed e n → n ≢ 0 → e ≢ None
stone_named e n h some bare = some (named_bare e n h bare)

-- names of chains: adjacent stones of one colour have one name
pub one_name : (s : Size) (c : Colouring) (ns : List ℕ) → AreNames s c ns → (x y : ℕ) → x < point_count s → IsNeighbour s x y
    → entry_at c x ≢ None → entry_at c y ≡ entry_at c x → name_at ns x ≡ name_at ns y
one_name s c ns names x y in_x near stone same =
    (names.linked x y in_x near.0 stone (λ bare. stone (sym same ∙ bare))).1 (linked_on s c x y y near same (linked_self s c y))

-- what names the chains but for the joining of p names them too once all beside p have its name
pub names_whole : (s : Size) (c : Colouring) (ns : List ℕ) (p : ℕ) → p < point_count s → AreNamesBut s c ns p
    → ((q : ℕ) → IsNeighbour s p q → entry_at c q ≡ entry_at c p → name_at ns q ≡ name_at ns p) → entry_at c p ≢ None → AreNames s c ns
names_whole s c ns p in_p n beside stone_p = record {
  named = n.named;
  linked = λ x y in_x in_y stone also. (
    λ same. n.one_chain x y in_x in_y (named_stone _ _ (n.named x) stone) same,
    λ l. sym (spread s c (λ z. (entry_at c z ≢ None) × (name_at ns z ≡ name_at ns x)) (λ z w in_z at near alike.
        ((λ bare. at.0 (sym alike ∙ bare)), sym (step z w in_z at.0 near alike) ∙ at.1)) x y l.0 in_x (stone, refl) l.1).1,
  );
}
  where
    step : (z w : ℕ) → z < point_count s → entry_at c z ≢ None → IsNeighbour s z w → entry_at c w ≡ entry_at c z → name_at ns z ≡ name_at ns w
    step z w in_z stone near alike = elim (cases_eq z p) [
      | inl at ↦ sym (subst (λ x. name_at ns w ≡ name_at ns x) (sym at)
          (beside w (subst (λ x. IsNeighbour s x w) at near) (alike ∙ ap (entry_at c) at)))
      | inr apart ↦ elim (cases_eq w p) [
        | inl at ↦ beside z (near_back s z p in_z (subst (λ x. IsNeighbour s z x) at near)) (sym alike ∙ ap (entry_at c) at) ∙ ap (name_at ns) (sym at)
        | inr away ↦ n.one_name z w in_z near apart away stone alike
      ]
    ]
