use Rattle.std.proofs.Common.{rules, ◌≡◌, ◌↔◌, true, Bool, Option, Some, [], IfSome, IsTrue, refl, subst}
use Rattle.tt_game.specs.declared.frame.Frame.{Frame}
use Rattle.tt_game.specs.declared.frame.Side.{Side}
use Rattle.tt_parts.specs.Outlines.{IsSharedCertificate, outline_of, unfolded}
use Rattle.tt_parts.specs.SharedParts.{IsOutlineAnswer}
use Rattle.tt_proof.specs.Wins.{WinsOrLives}
use Rattle.tt_parts.proofs.OutlineSameLemmas.{winning_fits}
use Rattle.tt_parts.proofs.outline_write.is_winning_cert.Goals as goal

pub returns-in_ok-wins-in-Ok : goal.returns-in_ok-wins-in-Ok
returns-in_ok-wins-in-Ok c = λ e.
    let f = c.args.line.now.frame in
    let at = c.args.line.now.state in
    let o = outline_of c.in-Ok.outline in
    let side : c.in-Ok.side ≡ c.args.s = search rules in
    let won : c.in_ok-wins-in-Ok.wins ≡ Some true = search rules in
    let says : IsOutlineAnswer c.in-Ok.side f o at (Some true) =
    subst (λ (a : Option Bool). IsOutlineAnswer c.in-Ok.side f o at a) won c.in_ok-wins-in-Ok.ensures.parts in
    let exact = subst (λ (a : Option Bool). IfSome a (λ w. IsTrue w ↔ WinsOrLives c.in-Ok.side f (unfolded [] o) at)) won c.in_ok-wins-in-Ok.ensures.exact in
    record {
      outline = o;
      is = subst (λ (x : Side). IsSharedCertificate f.size c.args.bytes.now x o) side
          (subst (λ (g : Frame). IsSharedCertificate g.size c.args.bytes.now c.in-Ok.side o) c.frame.ensures.value c.in-Ok.ensures.certificate);
      wins = subst (λ (x : Side). WinsOrLives x f (unfolded [] o) at) side (exact.0 refl);
      fits = winning_fits c.args.s f o at (subst (λ (x : Side). IsOutlineAnswer x f o at (Some true)) side says);
      shallow = c.in-Ok.ensures.shallow;
      begins = search rules;
    }
