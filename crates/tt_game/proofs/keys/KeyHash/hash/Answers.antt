use Rattle.std.proofs.Common.{◌++◌, List, ℕ, take, ap, ◌∙◌}
use Rattle.std.specs.Hash as fed
use Rattle.std.specs.List.{flat_map, fold}
use Rattle.tt_game.specs.contracts.frame.SideHash.TheImpl as side_hash
use Rattle.tt_game.specs.KeyHash.{position_writes}
use Rattle.tt_game.proofs.keys.KeyHash.hash.Goals as goal

pub returns : goal.returns
unfolding position_writes
returns g c =
    let k = c.args.self.now in
    let write = g.H.Hasher.write in
    let words = λ (n : ℕ) (ws : List ℕ). flat_map fed.u64 (take n ws) in
    let used = c.words_in_use-used.result in
    let side = (side_hash.ghosts).hash_input k.to_move in
    let passes = fed.u8 k.passes in
    let start = c.args.state.now in
    let black = words used k.black in
    let stones = black ++ words used k.white in
    let both = fed.fed_then write start c.hash_slice.new.state c.hash_slice-2.new.state black (words used k.white) c.hash_slice.ensures c.hash_slice-2.ensures in
    let moving = fed.fed_then write start c.hash_slice-2.new.state c.hash.new.state stones side both c.hash.ensures in
    let all = fed.fed_then write start c.hash.new.state c.hash-2.new.state (stones ++ side) passes moving c.hash-2.ensures in
    all ∙ ap (λ n. fold write start (words n k.black ++ words n k.white ++ side ++ passes)) c.words_in_use-used.ensures.value
