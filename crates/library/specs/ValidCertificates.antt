-- When a text is a valid certificate at a line.
use Rattle.std.specs.Prelude.{ℕ, List}
use Rattle.tt_game.specs.declared.frame.Side.{Side}
use Rattle.tt_game.specs.Line.{LineWithUndo}
use Rattle.tt_proof.specs.CertificateText.{IsCertificate}
use Rattle.tt_proof.specs.Strategy.{Strategy}
use Rattle.tt_proof.specs.Wins.{Wins}

-- the bytes are the certificate of a side and a strategy of it that wins where the line stands
pub record IsValidCertificate (line : LineWithUndo) (bytes : List ℕ) : Type 0 where
  pub side : Side
  pub strategy : Strategy
  pub is : IsCertificate line.frame.size bytes side strategy
  pub wins : Wins side line.frame strategy line.state
