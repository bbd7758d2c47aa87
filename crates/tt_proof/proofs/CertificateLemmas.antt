-- A certificate as a whole.
use Rattle.std.proofs.Common.{◌≡◌, ◌≤◌, ℕ, List, [], ◌∷◌, ◌++◌, ◌∙◌, sym, ap, append_assoc}
use Rattle.std.proofs.lemmas.List.{append-nil}
use Rattle.tt_sgf.specs.declared.size.Size.{Size}
use Rattle.tt_sgf.specs.Bytes.{space}
use Rattle.tt_game.specs.declared.frame.Side.{Side}
use Rattle.tt_game.specs.declared.frame.Side.TheVariants.{Attacker, Defender}
use Rattle.tt_proof.specs.declared.certificate_read.CertFault.{CertFault}
use Rattle.tt_proof.specs.declared.certificate_read.CertFault.TheVariants.{Syntax, TooDeep, NoMemory}
use Rattle.tt_proof.specs.declared.tree.TheConstants.{MOST_DEPTH}
use Rattle.tt_game.specs.laws.SideLaws.{verdict_word_is_prefix_free}
use Rattle.tt_game.specs.Sides.{verdict_word}
use Rattle.tt_proof.specs.Strategy.{Strategy}
use Rattle.tt_proof.specs.CertificateText.{tree_text, side_prefix, IsCertificate, IsTooDeep}
use Rattle.tt_proof.specs.inside.CertificateReading.{TreeAt, DeepAt, FaultAt}
use Rattle.tt_proof.specs.CertificateFaults.{IsCertFault}
use Rattle.tt_proof.proofs.TextLemmas.{tails, same_tree, not_deep}

module _ (size : Size) (some : 1 ≤ size.columns) where
  -- a text that begins with the words of a side tells the side and what follows
  pub side_apart : (a b : Side) (r q : List ℕ) → side_prefix a ++ r ≡ side_prefix b ++ q → (a ≡ b) × (r ≡ q)
  side_apart a b r q e =
      let both = verdict_word_is_prefix_free a b (space ∷ r) (space ∷ q) (sym (append_assoc (verdict_word a) (space ∷ []) r) ∙ e ∙ append_assoc (verdict_word b) (space ∷ []) q) in
      (both.0, tails both.1)

  -- what is said of the rest is said of the whole
  module _ (bytes rest : List ℕ) (s : Side) (at : bytes ≡ side_prefix s ++ rest) where
    -- what follows the words of some side in the bytes is the rest
    rest_of : (side : Side) (q : List ℕ) → bytes ≡ side_prefix side ++ q → rest ≡ q
    rest_of side q e = (side_apart s side rest q (sym at ∙ e)).1

    -- of a certificate, the rest is the text of its tree
    cert_tree : (side : Side) (u : Strategy) → IsCertificate size bytes side u → TreeAt size MOST_DEPTH u rest []
    cert_tree side u c =
        record { in_order = c.in_order; shallow = c.shallow; text = rest_of side (tree_text size u) c.text ∙ sym (append-nil (tree_text size u)) }

    -- where the bytes are too deep, the rest is
    too_deep : IsTooDeep size bytes → DeepAt size MOST_DEPTH rest
    too_deep h = record {
      tree = h.tree;
      beginning = h.beginning;
      follows = h.follows;
      in_order = h.in_order;
      ends = h.ends;
      text = rest_of h.side (h.beginning ++ h.follows) h.text;
    }

    -- where the rest begins with the text of a tree at most `MOST_DEPTH` deep, the bytes aren't too deep
    not_too_deep : (u : Strategy) (y : List ℕ) → TreeAt size MOST_DEPTH u rest y → IsTooDeep size bytes → ⊥
    not_too_deep u y h deep =
        let d = too_deep deep in
        not_deep size some u d.tree MOST_DEPTH d.beginning y d.follows h.shallow (sym h.text ∙ d.text) d.ends

    -- where nothing follows that tree, the bytes are its certificate, and aren't too deep
    pub cert_read : (u : Strategy) (y : List ℕ) → TreeAt size MOST_DEPTH u rest y → y ≡ [] → IsCertificate size bytes s u × (IsTooDeep size bytes → ⊥)
    cert_read u y h e = (
      record {
        in_order = h.in_order;
        shallow = h.shallow;
        text = at ∙ ap (λ w. side_prefix s ++ w) (h.text ∙ ap (λ w. tree_text size u ++ w) e ∙ append-nil (tree_text size u));
      },
      not_too_deep u y h,
    )

    -- where something follows it, they are no certificate
    pub cert_more : (u : Strategy) (y : List ℕ) → TreeAt size MOST_DEPTH u rest y → (y ≡ [] → ⊥) → IsCertFault size bytes Syntax
    cert_more u y h n =
        (λ side v c. let k = cert_tree side v c in n ((same_tree size some u v y [] (sym h.text ∙ k.text)).1), not_too_deep u y h)

    -- a fault of the rest is one of the bytes
    pub cert_fault : (f : CertFault) → FaultAt size MOST_DEPTH rest f → IsCertFault size bytes f
    cert_fault Syntax h = (λ side u c. h.0 u [] (cert_tree side u c), λ deep. h.1 (too_deep deep))
    cert_fault TooDeep h = record {
      side = s;
      tree = h.tree;
      beginning = h.beginning;
      follows = h.follows;
      in_order = h.in_order;
      ends = h.ends;
      text = at ∙ ap (λ w. side_prefix s ++ w) h.text;
    }
    cert_fault NoMemory h = tt

  -- bytes that begin with the words of no side are no certificate
  pub no_side : (bytes : List ℕ) → ((y : List ℕ) → bytes ≡ side_prefix Attacker ++ y → ⊥) →
      ((y : List ℕ) → bytes ≡ side_prefix Defender ++ y → ⊥) → IsCertFault size bytes Syntax
  no_side bytes a d = (λ side u c. no side (tree_text size u) c.text, λ h. no h.side (h.beginning ++ h.follows) h.text)
    where
      -- they don't begin with this side's words
      no : (side : Side) (y : List ℕ) → bytes ≡ side_prefix side ++ y → ⊥
      no Attacker y e = a y e
      no Defender y e = d y e

-- equal certificates are of one side and one strategy
pub same_certificate : (size : Size) (bytes : List ℕ) (s t : Side) (u v : Strategy) → IsCertificate size bytes s u → IsCertificate size bytes t v → (s ≡ t) × (u ≡ v)
same_certificate size bytes s t u v a b =
    let some = size.columns_in.0 in
    let both = side_apart size some s t (tree_text size u) (tree_text size v) (sym a.text ∙ b.text) in
    let one = same_tree size some u v [] [] (append-nil (tree_text size u) ∙ both.1 ∙ sym (append-nil (tree_text size v))) in
    (both.0, one.0)
