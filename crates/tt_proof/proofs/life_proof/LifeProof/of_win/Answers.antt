use Rattle.tt_proof.proofs.HoldsLemmas.{wins_either}
use Rattle.tt_proof.proofs.life_proof.LifeProof.of_win.Goals as goal

pub invariant_of-result : goal.invariant_of-result
invariant_of-result c =
    let won = c.requires.wins in (
      record {
        won = record {
          wins = wins_either c.args.side c.args.snapshot.frame c.args.measured_tree c.args.snapshot.state won.wins;
          shallow = won.shallow;
          in_order = won.in_order;
        };
        footprint = c.requires.footprint;
      },
      λ _. won,
    )
