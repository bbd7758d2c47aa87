-- What equal keys tell: they agree in all fields, so the test by which a table compares them tells keys apart.
use Rattle.std.specs.Prelude.{◌≡◌, true}
use Rattle.std.proofs.Common.{rules, arith, ap, subst}
use Rattle.std.specs.Cmp.{IsEquivalence}
use Rattle.tt_sgf.specs.laws.SizeLaws.{size_is_fixed_by_sides}
use Rattle.tt_game.specs.declared.keys.Key.{Key}
use Rattle.tt_game.specs.declared.frame.Frame.{Frame}
use Rattle.tt_game.specs.Game.{State}
use Rattle.tt_game.specs.Keys.{key_of}
use Rattle.tt_game.specs.KeyHash.{position_writes}
use Rattle.tt_game.specs.SameKey.{same_key}
use Rattle.tt_game.specs.contracts.keys.KeyEq.TheImpl.Laws as key_laws

-- the test is an equivalence
pub same_key_is_equivalence : IsEquivalence same_key
same_key_is_equivalence = (key_laws.lawful).laws

-- keys that agree in all fields are one
pub equal_fields_are_equal_keys : (a b : Key) → a.size ≡ b.size → a.region ≡ b.region → a.targets ≡ b.targets → a.defender ≡ b.defender → a.black ≡ b.black
    → a.white ≡ b.white → a.to_move ≡ b.to_move → a.passes ≡ b.passes → a ≡ b
equal_fields_are_equal_keys a b e f g h j k l m = rw (e, f, g, h, j, k, l, m)

-- keys that pass the test are one
pub same_key_implies_equal : (a b : Key) → same_key a b ≡ true → a ≡ b
same_key_implies_equal a b e =
    let columns : a.size.columns ≡ b.size.columns = grind (arith, e) in
    let rows : a.size.rows ≡ b.size.rows = grind (arith, e) in
    let region : a.region ≡ b.region = search (rules, e) in
    let targets : a.targets ≡ b.targets = search (rules, e) in
    let defender : a.defender ≡ b.defender = search (rules, e) in
    let black : a.black ≡ b.black = search (rules, e) in
    let white : a.white ≡ b.white = search (rules, e) in
    let to_move : a.to_move ≡ b.to_move = search (rules, e) in
    let passes : a.passes ≡ b.passes = search (rules, e) in
    equal_fields_are_equal_keys a b (size_is_fixed_by_sides a.size b.size columns rows) region targets defender black white to_move passes

-- and back
pub equal_implies_same_key : (a b : Key) → a ≡ b → same_key a b ≡ true
equal_implies_same_key a b e = subst (λ c. same_key a c ≡ true) e (same_key_is_equivalence.refl a)

-- positions of one key have boards of one size
pub equal_keys_have_equal_sizes : (f g : Frame) (s t : State) → key_of f s ≡ key_of g t → f.size ≡ g.size
unfolding key_of
equal_keys_have_equal_sizes f g s t e = ap (λ (k : Key). k.size) e

-- keys that pass the test feed a hasher the same
pub same_keys_are_hashed_alike : (a b : Key) → same_key a b ≡ true → position_writes a ≡ position_writes b
same_keys_are_hashed_alike a b e = ap position_writes (same_key_implies_equal a b e)
