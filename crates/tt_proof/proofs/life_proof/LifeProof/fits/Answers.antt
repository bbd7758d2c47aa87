use Rattle.std.proofs.Common.{◌≡◌, ◌↔◌, ◌∙◌, Bool, false, IsTrue, true≢false, sym, subst}
use Rattle.tt_proof.specs.ProofClaim.{ProofClaim}
use Rattle.tt_proof.specs.Footprints.{FitsAt}
use Rattle.tt_proof.proofs.FittingLemmas.{fits_yes, fits_needs, fits_avoids}
use Rattle.tt_proof.proofs.life_proof.LifeProof.fits.Goals as goal

refused : (b : Bool) (P Q : Type 0) → b ≡ false → (IsTrue b ↔ P) → (Q → P) → IsTrue false ↔ Q
refused b P Q e h from = (λ t. absurd (true≢false (sym t)), λ q. absurd (true≢false (sym (h.1 (from q)) ∙ e)))

pub returns-then-not-is_position_of : goal.returns-then-not-is_position_of
returns-then-not-is_position_of c =
    subst (λ (p : ProofClaim). IsTrue false ↔ FitsAt p c.args.line.now.frame c.args.line.now.state) c.self.view_is
    (refused c.is_position_of.result _ _ c.if-not-is_position_of.true c.is_position_of.ensures (λ h. (h.0, h.1.present, h.1.to_move, h.1.passes)))

pub returns-then-not-all_in_history : goal.returns-then-not-all_in_history
returns-then-not-all_in_history c =
    let i = c.self.inside in
    subst (λ (p : ProofClaim). IsTrue false ↔ FitsAt p c.args.line.now.frame c.args.line.now.state) c.self.view_is
    (refused c.all_in_history.result _ _ c.if-not-all_in_history.true c.all_in_history.ensures
    (fits_needs (record { frame = i.snapshot.frame; state = i.snapshot.state; side = i.side; tree = i.measured_tree }) _ _ i.footprint c.self.invariant.0.footprint))

pub returns : goal.returns
returns c =
    let i = c.self.inside in
    let f = c.args.line.now.frame in
    let s = c.args.line.now.state in
    let p : ProofClaim = record { frame = i.snapshot.frame; state = i.snapshot.state; side = i.side; tree = i.measured_tree } in
    subst (λ (q : ProofClaim). IsTrue c.none_in_history.result ↔ FitsAt q f s) c.self.view_is (
      λ e. fits_yes p f s i.footprint c.self.invariant.0.footprint
          (c.is_position_of.ensures.0 c.if-not-is_position_of.false) (c.all_in_history.ensures.0 c.if-not-all_in_history.false) (c.none_in_history.ensures.0 e),
      λ at. c.none_in_history.ensures.1 (fits_avoids p f s i.footprint c.self.invariant.0.footprint at),
    )
