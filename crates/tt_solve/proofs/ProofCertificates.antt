-- Lemmas on the certificate of a proof.
use Rattle.std.proofs.Common.{◌≡◌, ◌≤◌, ◌∙◌, ℕ, List, Option, Some, refl, sym, ap, subst}
use Rattle.tt_game.specs.declared.frame.Frame.{Frame}
use Rattle.tt_game.specs.declared.frame.Side.{Side}
use Rattle.tt_game.specs.declared.turns.Turn.{Turn}
use Rattle.tt_game.specs.Game.{State}
use Rattle.tt_game.specs.Line.{LineWithUndo}
use Rattle.tt_proof.specs.CertificateText.{certificate_text}
use Rattle.tt_proof.specs.ProofClaim.{IsWinningTree, ProofClaim, StandsAt, first_turn_of}
use Rattle.tt_proof.specs.Strategy.{Strategy, depth}
use Rattle.tt_proof.specs.Wins.{WinsOrLives}
use Rattle.tt_parts.specs.SharedWins.{IsWinningSharedCertificate}
use Rattle.tt_proof.proofs.HoldsLemmas.{wins_either}
use Rattle.tt_parts.proofs.OutlineLawLemmas.{certificates_shared}
use Rattle.tt_search.specs.declared.limits.Limits.{Limits}
use Rattle.tt_solve.specs.declared.options.CertKind.TheVariants.{Plain, Shared}
use Rattle.tt_solve.specs.Solutions.{IsCertificateAsked}

-- a proof that stands at the problem wins there
won_there : (p : ProofClaim) (f : Frame) (s : State) → StandsAt p f s → IsWinningTree p.side p.frame p.state p.tree → IsWinningTree p.side f s p.tree
won_there p f s at w = subst (λ (x : State). IsWinningTree p.side f x p.tree) at.1 (subst (λ (x : Frame). IsWinningTree p.side x p.state p.tree) at.0 w)

-- its certificate is one with shared parts
pub plain_shared : (p : ProofClaim) (f : Frame) (s : State) (most : ℕ) (text : List ℕ) → StandsAt p f s → IsWinningTree p.side p.frame p.state p.tree
    → depth p.tree ≤ most → text ≡ certificate_text f.size p.side p.tree → IsWinningSharedCertificate f s p.side (first_turn_of p.tree) most text
plain_shared p f s most text at won low e =
    let w = won_there p f s at won in
    let c = certificates_shared f.size text p.side p.tree (record { in_order = w.in_order; shallow = w.shallow; text = e }) in
    record {
      outline = c.0;
      is = c.1.0;
      wins = subst (λ (v : Strategy). WinsOrLives p.side f v s) (sym c.1.1) (wins_either p.side f p.tree s w.wins);
      shallow = subst (λ (v : Strategy). depth v ≤ most) (sym c.1.1) low;
      fits = c.1.2 p.side f s;
      begins = sym (ap first_turn_of c.1.1);
    }

-- it is a plain one that is asked for
pub plain_asked : (p : ProofClaim) (line : LineWithUndo) (limits : Limits) (text bytes : List ℕ) → StandsAt p line.frame line.state
    → IsWinningTree p.side p.frame p.state p.tree → depth p.tree ≤ limits.depth → text ≡ certificate_text line.frame.size p.side p.tree
    → bytes ≡ text → IsCertificateAsked line limits p.side (first_turn_of p.tree) Plain (Some bytes)
plain_asked p line limits text bytes at won low e same =
    let w = won_there p line.frame line.state at won in
    record { strategy = p.tree; is = record { in_order = w.in_order; shallow = w.shallow; text = same ∙ e }; wins = w.wins; shallow = low; begins = refl }

-- and so is one with shared parts
pub shared_asked : (line : LineWithUndo) (limits : Limits) (side : Side) (first : Option Turn) (most : ℕ) (text bytes : List ℕ) → most ≡ limits.depth
    → IsWinningSharedCertificate line.frame line.state side first most text → bytes ≡ text → IsCertificateAsked line limits side first Shared (Some bytes)
shared_asked line limits side first most text bytes same w e =
    subst (λ (n : ℕ). IsWinningSharedCertificate line.frame line.state side first n bytes) same
    (subst (λ (b : List ℕ). IsWinningSharedCertificate line.frame line.state side first most b) (sym e) w)
