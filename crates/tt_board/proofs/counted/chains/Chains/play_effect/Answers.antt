use Rattle.std.proofs.Common.{ℕ, None, ◌≡◌, ◌≢◌, ◌/◌, ◌⊎◌, ◌↔◌, inl, inr, refl, length, Contains, arith, sym, subst, ◌∙◌}
use Rattle.std.proofs.lemmas.Bool.{cases_eq, eqb-true, eqb-false}
use Rattle.tt_board.specs.Near.{IsNeighbour}
use Rattle.tt_board.specs.Reach.{entry_at}
use Rattle.tt_board.specs.Play.{other}
use Rattle.tt_board.specs.inside.Chains.{ChainBoard, IsChainBoard, name_at, root_of, colour_number, Touches, AreNear, IsOneName}
use Rattle.tt_board.proofs.LinkLemmas.{bare_named, named_bare}
use Rattle.tt_board.proofs.LookLemmas.{IsLook, no_capture_look, own_by_capture, own_by_empty, own_by_chain, suicide_look, one_beside}
use Rattle.tt_board.proofs.PlayKindLemmas.{coded}
use Rattle.tt_board.proofs.counted.chains.Chains.play_effect.Goals as goal

pub returns-then-not-is_empty : goal.returns-then-not-is_empty
returns-then-not-is_empty c =
    let b = c.args.self.now in let k = c.args.colour in let p = c.args.p in let weak = c.chains_in_atari-weak.result.items in let near = c.names_beside-near.result in
    let is : IsChainBoard b = subst IsChainBoard c.self.view_is c.self.invariant in
    let at = subst (λ (v : ChainBoard). AreNear v.size v.counts.names p near) c.self.view_is c.names_beside-near.ensures in
    let found = subst (λ (v : ChainBoard). (m : ℕ) → Contains weak m ↔ (IsOneName near.above near.left near.right near.below m × (m / 512 ≡ colour_number (other k))
    × (name_at v.counts.liberties (root_of m) ≡ 1))) c.self.view_is (rw (c.colour_number.ensures, c.other.ensures) at c.chains_in_atari-weak.ensures.found) in
    let all : (m : ℕ) → ((m ≢ 0) × (m ≢ 0) × Touches b.size b.counts.names m p) ↔ ((m ≢ 0) × (m ≢ 0) × Touches b.size b.counts.names m p) = λ m. (λ h. h, λ h. h) in
    let last : (m : ℕ) → Contains weak m ↔ (((m ≢ 0) × (m ≢ 0) × Touches b.size b.counts.names m p) × (m / 512 ≡ colour_number (other k)) × (name_at b.counts.liberties (root_of m) ≡ 1))
    = λ m. let o = one_beside b.size b.counts.names p near (other k) (λ n. name_at b.counts.liberties (root_of n) ≡ 1) at m in (λ has. o.0 ((found m).0 has), λ h. (found m).1 (o.1 h)) in
    let some : length weak ≢ 0 = eqb-false (length weak) 0 (sym c.is_empty.ensures ∙ c.if-not-is_empty.true) in
    let l : IsLook b k p weak _ = no_capture_look b k p is c.requires.on_board c.requires.free _ weak all last c.chains_in_atari-weak.ensures.once
    (own_by_capture b k p is c.requires.on_board c.requires.free _ weak all last 0 (omega (arith, some))) in
    record { fits = is.fits; goes = l.goes; suicide = l.suicide; once = l.once; living = l.living }

pub returns-then-has_empty_or_not_in_atari : goal.returns-then-has_empty_or_not_in_atari
returns-then-has_empty_or_not_in_atari c =
    let b = c.args.self.now in let k = c.args.colour in let p = c.args.p in let weak = c.chains_in_atari-weak.result.items in let near = c.names_beside-near.result in
    let is : IsChainBoard b = subst IsChainBoard c.self.view_is c.self.invariant in
    let at = subst (λ (v : ChainBoard). AreNear v.size v.counts.names p near) c.self.view_is c.names_beside-near.ensures in
    let found = subst (λ (v : ChainBoard). (m : ℕ) → Contains weak m ↔ (IsOneName near.above near.left near.right near.below m × (m / 512 ≡ colour_number (other k))
    × (name_at v.counts.liberties (root_of m) ≡ 1))) c.self.view_is (rw (c.colour_number.ensures, c.other.ensures) at c.chains_in_atari-weak.ensures.found) in
    let all : (m : ℕ) → ((m ≢ 0) × (m ≢ 0) × Touches b.size b.counts.names m p) ↔ ((m ≢ 0) × (m ≢ 0) × Touches b.size b.counts.names m p) = λ m. (λ h. h, λ h. h) in
    let last : (m : ℕ) → Contains weak m ↔ (((m ≢ 0) × (m ≢ 0) × Touches b.size b.counts.names m p) × (m / 512 ≡ colour_number (other k)) × (name_at b.counts.liberties (root_of m) ≡ 1))
    = λ m. let o = one_beside b.size b.counts.names p near (other k) (λ n. name_at b.counts.liberties (root_of n) ≡ 1) at m in (λ has. o.0 ((found m).0 has), λ h. (found m).1 (o.1 h)) in
    let none : length weak ≡ 0 = eqb-true (length weak) 0 (sym c.is_empty.ensures ∙ c.if-not-is_empty.false) in
    let nobody : (m : ℕ) → Contains weak m → ⊥ = λ m has. omega (arith, has.1, none) in
    let o = subst (λ (v : ChainBoard). (m : ℕ) × IsOneName near.above near.left near.right near.below m × ((m ≡ 0) ⊎ ((m / 512 ≡ colour_number k) × (name_at v.counts.liberties (root_of m) ≢ 1))))
    c.self.view_is (rw c.colour_number-2.ensures at (c.has_empty_or_not_in_atari.ensures.some c.if-has_empty_or_not_in_atari.true)) in
    let l : IsLook b k p weak _ = no_capture_look b k p is c.requires.on_board c.requires.free _ weak all last c.chains_in_atari-weak.ensures.once (elim o.2 [
      | inl zero ↦
          let t = (at.touching o.0 (λ e. omega (arith, zero, e))).0 o.1 in
          own_by_empty b k p is c.requires.on_board c.requires.free _ weak all last t.0 t.2.0 (bare_named _ _ (is.named.named t.0) (t.2.1 ∙ zero))
      | inr h ↦
          let w = (one_beside b.size b.counts.names p near k (λ n. name_at b.counts.liberties (root_of n) ≢ 1) at o.0).0 (o.1, h.0, h.1) in
          own_by_chain b k p is c.requires.on_board c.requires.free _ weak all last nobody o.0 w.0 h.0 h.1
    ]) in
    record { fits = is.fits; goes = l.goes; suicide = l.suicide; once = l.once; living = l.living }

pub returns : goal.returns
returns c =
    let b = c.args.self.now in let k = c.args.colour in let p = c.args.p in let weak = c.chains_in_atari-weak.result.items in let near = c.names_beside-near.result in
    let is : IsChainBoard b = subst IsChainBoard c.self.view_is c.self.invariant in
    let at = subst (λ (v : ChainBoard). AreNear v.size v.counts.names p near) c.self.view_is c.names_beside-near.ensures in
    let found = subst (λ (v : ChainBoard). (m : ℕ) → Contains weak m ↔ (IsOneName near.above near.left near.right near.below m × (m / 512 ≡ colour_number (other k))
    × (name_at v.counts.liberties (root_of m) ≡ 1))) c.self.view_is (rw (c.colour_number.ensures, c.other.ensures) at c.chains_in_atari-weak.ensures.found) in
    let all : (m : ℕ) → ((m ≢ 0) × (m ≢ 0) × Touches b.size b.counts.names m p) ↔ ((m ≢ 0) × (m ≢ 0) × Touches b.size b.counts.names m p) = λ m. (λ h. h, λ h. h) in
    let last : (m : ℕ) → Contains weak m ↔ (((m ≢ 0) × (m ≢ 0) × Touches b.size b.counts.names m p) × (m / 512 ≡ colour_number (other k)) × (name_at b.counts.liberties (root_of m) ≡ 1))
    = λ m. let o = one_beside b.size b.counts.names p near (other k) (λ n. name_at b.counts.liberties (root_of n) ≡ 1) at m in (λ has. o.0 ((found m).0 has), λ h. (found m).1 (o.1 h)) in
    let none : length weak ≡ 0 = eqb-true (length weak) 0 (sym c.is_empty.ensures ∙ c.if-not-is_empty.false) in
    let nobody : (m : ℕ) → Contains weak m → ⊥ = λ m has. omega (arith, has.1, none) in
    let mine = c.chains_in_atari.result.items in
    let own = subst (λ (v : ChainBoard). (m : ℕ) → Contains mine m ↔ (IsOneName near.above near.left near.right near.below m × (m / 512 ≡ colour_number k)
    × (name_at v.counts.liberties (root_of m) ≡ 1))) c.self.view_is (rw c.colour_number-3.ensures at c.chains_in_atari.ensures.found) in
    let last_mine : (m : ℕ) → Contains mine m ↔ (((m ≢ 0) × (m ≢ 0) × Touches b.size b.counts.names m p) × (m / 512 ≡ colour_number k) × (name_at b.counts.liberties (root_of m) ≡ 1))
    = λ m. let o = one_beside b.size b.counts.names p near k (λ n. name_at b.counts.liberties (root_of n) ≡ 1) at m in (λ has. o.0 ((own m).0 has), λ h. (own m).1 (o.1 h)) in
    let shut = subst (λ (v : ChainBoard). (m : ℕ) → IsOneName near.above near.left near.right near.below m → m / 512 ≡ colour_number k → name_at v.counts.liberties (root_of m) ≢ 1 → ⊥)
    c.self.view_is (rw c.colour_number-2.ensures at (c.has_empty_or_not_in_atari.ensures.shut c.if-has_empty_or_not_in_atari.false)) in
    let filled : (q : ℕ) → IsNeighbour b.size p q → entry_at b.points q ≢ None = λ q beside bare.
    let zero : name_at b.counts.names q ≡ 0 = named_bare _ _ (is.named.named q) bare in
    c.has_empty_or_not_in_atari.ensures.none c.if-has_empty_or_not_in_atari.false (name_at b.counts.names q)
    ((at.touching (name_at b.counts.names q) (λ e. omega (arith, zero, e))).1 (q, beside.0, (beside, refl))) zero in
    let none_more : (m : ℕ) → ((m ≢ 0) × (m ≢ 0) × Touches b.size b.counts.names m p) → m / 512 ≡ colour_number k → name_at b.counts.liberties (root_of m) ≡ 1
    = λ m near' code. elim (cases_eq (name_at b.counts.liberties (root_of m)) 1) [
      | inl one ↦ one
      | inr several ↦ absurd (shut m ((at.touching m (coded m k code)).1 near'.2) code several)
    ] in
    let l : IsLook b k p mine _ = suicide_look b k p is c.requires.on_board c.requires.free _ weak all last mine last_mine nobody filled none_more c.chains_in_atari.ensures.once in
    record { fits = is.fits; goes = l.goes; suicide = l.suicide; once = l.once; living = l.living }
