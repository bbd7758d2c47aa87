use Rattle.std.proofs.Common.{ℕ, ◌≡◌, ◌≢◌, ◌/◌, ◌⊎◌, inl, inr, refl, arith, subst}
use Rattle.tt_board.specs.declared.counted.play_kind.TheConstants.{OFF_BOARD_NAME}
use Rattle.tt_board.specs.Play.{other}
use Rattle.tt_board.specs.inside.Chains.{ChainBoard, IsChainBoard, name_at, root_of, colour_number, IsOneName}
use Rattle.tt_board.proofs.LinkLemmas.{named_bare}
use Rattle.tt_board.proofs.LookLemmas.{colour_code, put_no_capture, put_single_suicide}
use Rattle.tt_board.proofs.PlayKindLemmas.{coded}
use Rattle.tt_board.proofs.counted.chains.Chains.play_kind_by_names.Goals as goal

-- what the four names say: those beside p, and that no chain of the opponent's has p as its one liberty
pub returns-then-has_empty_or_not_in_atari : goal.returns-then-has_empty_or_not_in_atari
returns-then-has_empty_or_not_in_atari c = λ p in_p free touching.
    let b = c.args.self.now in let k = c.args.colour in let near = c.args.near.now in
    let is : IsChainBoard b = subst IsChainBoard c.self.view_is c.self.invariant in
    let touch = touching.touching in
    let weak = subst (λ (v : ChainBoard). (m : ℕ) → IsOneName near.above near.left near.right near.below m → m / 512 ≡ colour_number (other k) → name_at v.counts.liberties (root_of m) ≢ 1)
    c.self.view_is (rw (c.colour_number.ensures, c.other.ensures) at (c.has_chain_in_atari.ensures c.if-has_chain_in_atari.false)) in
    let o = subst (λ (v : ChainBoard). (m : ℕ) × IsOneName near.above near.left near.right near.below m × ((m ≡ 0) ⊎ ((m / 512 ≡ colour_number k) × (name_at v.counts.liberties (root_of m) ≢ 1))))
    c.self.view_is (rw c.colour_number-2.ensures at (c.has_empty_or_not_in_atari.ensures.some c.if-has_empty_or_not_in_atari.true)) in
    let apart : o.0 ≢ OFF_BOARD_NAME = elim o.2 [ inl zero ↦ λ e. omega (arith, zero, e) | inr h ↦ coded o.0 k h.0 ] in
    put_no_capture b k p is in_p free
    (λ m t code. let there = coded m (other k) code in weak m ((touch m there).1 t) code) o.0 ((touch o.0 apart).0 o.1) o.2

pub returns : goal.returns
returns c = λ p in_p free touching.
    let b = c.args.self.now in let k = c.args.colour in let near = c.args.near.now in
    let is : IsChainBoard b = subst IsChainBoard c.self.view_is c.self.invariant in
    let touch = touching.touching in
    let weak = subst (λ (v : ChainBoard). (m : ℕ) → IsOneName near.above near.left near.right near.below m → m / 512 ≡ colour_number (other k) → name_at v.counts.liberties (root_of m) ≢ 1)
    c.self.view_is (rw (c.colour_number.ensures, c.other.ensures) at (c.has_chain_in_atari.ensures c.if-has_chain_in_atari.false)) in
    let mine : (m : ℕ) → IsOneName near.above near.left near.right near.below m → m / 512 ≢ colour_number k = rw c.colour_number-3.ensures at (c.has_colour.ensures c.if-has_colour.false) in
    put_single_suicide b k p is in_p free
    (λ m t code. let there = coded m (other k) code in weak m ((touch m there).1 t) code)
    (λ q beside.
    let m = name_at b.counts.names q in
    let one = λ (apart : m ≢ OFF_BOARD_NAME). (touch m apart).1 (q, beside.0, (beside, refl)) in (
      (λ bare. let zero : m ≡ 0 = named_bare _ _ (is.named.named q) bare in
          c.has_empty_or_not_in_atari.ensures.none c.if-has_empty_or_not_in_atari.false m (one (λ e. omega (arith, zero, e))) zero),
      (λ own. let code : m / 512 ≡ colour_number k = colour_code _ _ k (is.named.named q) own in mine m (one (coded m k code)) code),
    ))
