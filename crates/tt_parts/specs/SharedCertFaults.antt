-- When a certificate with shared parts is refused.
use Rattle.std.specs.Prelude.{◌≡◌, ℕ, ◌<◌, List, [], ◌++◌}
use Rattle.tt_sgf.specs.declared.size.Size.{Size}
use Rattle.tt_game.specs.declared.frame.Side.{Side}
use Rattle.tt_proof.specs.declared.certificate_read.CertFault.{CertFault}
use Rattle.tt_proof.specs.declared.certificate_read.CertFault.TheVariants.{Syntax, TooDeep, NoMemory}
use Rattle.tt_proof.specs.Strategy.{depth}
use Rattle.tt_proof.specs.CertificateText.{side_prefix}
use Rattle.tt_parts.specs.Outlines.{Outline, RefersBack, IsOutlineInOrder, IsSharedCertTooDeep, unfolded, outline_text}

-- with shared parts: too deep, and no certificate but one whose tree is deeper than that; else no certificate, however deep its tree
abbrev pub IsSharedCertFault : Size → ℕ → List ℕ → CertFault → Type 0
IsSharedCertFault size most_depth bytes Syntax =
    ((side : Side) (o : Outline) → RefersBack [] o → IsOutlineInOrder size o → bytes ≡ side_prefix side ++ outline_text size o → ⊥)
    × (IsSharedCertTooDeep size most_depth bytes → ⊥)
IsSharedCertFault size most_depth bytes TooDeep =
    IsSharedCertTooDeep size most_depth bytes
    × ((side : Side) (o : Outline) → RefersBack [] o → IsOutlineInOrder size o → bytes ≡ side_prefix side ++ outline_text size o
    → most_depth < depth (unfolded [] o))
IsSharedCertFault size most_depth bytes NoMemory = Unit {0}
