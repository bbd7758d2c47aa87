-- How the logic stores a strategy.
use Rattle.std.specs.Prelude.{◌≡◌, refl}
use base.Stored.{Gv, gnil, gcons}
use Rattle.std.specs.Coded.{Coded}
use Rattle.tt_game.specs.declared.turns.Turn.{Turn}
use Rattle.tt_game.specs.contracts.turns.Turn as turn_type
use Rattle.tt_proof.specs.Strategy.{Strategy, Entries, done, pick, reply, none, entry}

abbrev turn_code : Coded Turn
turn_code = turn_type.the_row.coded

abbrev mutual
  pub stored : Strategy → Gv
  stored done = gnil
  stored (pick t u) = gcons gnil (gcons (turn_code.code t) (stored u))
  stored (reply es) = gcons (gcons gnil gnil) (stored_entries es)

  pub stored_entries : Entries → Gv
  stored_entries none = gnil
  stored_entries (entry t u es) = gcons (turn_code.code t) (gcons (stored u) (stored_entries es))

mutual
  -- a strategy is known by how it is stored
  pub stored_once : (x y : Strategy) → stored x ≡ stored y → x ≡ y
  stored_once done done e = refl
  stored_once done (pick _ _) e = cc
  stored_once done (reply _) e = cc
  stored_once (pick _ _) done e = cc
  stored_once (pick t u) (pick r v) e =
      let h : turn_code.code t ≡ turn_code.code r = cc in
      let k : stored u ≡ stored v = cc in
      let i : t ≡ r = turn_code.inj t r h in
      let j : u ≡ v = stored_once u v k in cc
  stored_once (pick _ _) (reply _) e = cc
  stored_once (reply _) done e = cc
  stored_once (reply _) (pick _ _) e = cc
  stored_once (reply es) (reply fs) e =
      let k : stored_entries es ≡ stored_entries fs = cc in
      let j : es ≡ fs = stored_entries_once es fs k in cc

  -- and so are entries
  pub stored_entries_once : (x y : Entries) → stored_entries x ≡ stored_entries y → x ≡ y
  stored_entries_once none none e = refl
  stored_entries_once none (entry _ _ _) e = cc
  stored_entries_once (entry _ _ _) none e = cc
  stored_entries_once (entry t u es) (entry r v fs) e =
      let h : turn_code.code t ≡ turn_code.code r = cc in
      let k : stored u ≡ stored v = cc in
      let m : stored_entries es ≡ stored_entries fs = cc in
      let i : t ≡ r = turn_code.inj t r h in
      let j : u ≡ v = stored_once u v k in
      let n : es ≡ fs = stored_entries_once es fs m in cc

abbrev pub strategy_code : Coded Strategy
strategy_code = record { code = stored; inj = stored_once }
