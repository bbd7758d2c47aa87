-- What strategy a tree is, at each variant.
use Rattle.std.proofs.Common.{◌≡◌, List, [], ◌∷◌, ◌++◌, ◌∙◌, refl, sym, ap, Vec, Global, map}
use Rattle.std.specs.declared.sync.Arc.{Arc}
use Rattle.tt_game.specs.declared.turns.Turn.{Turn}
use Rattle.tt_proof.specs.declared.tree.Tree.{Tree, fold-roll-Tree, Done, Pick, Reply}
use Rattle.tt_proof.specs.declared.tree.Tree.TheVariants.{rolls-Done, rolls-Pick, rolls-Reply}
use Rattle.tt_proof.specs.declared.tree.Tree.TheOpen as layer
use Rattle.tt_proof.specs.Strategy.{Strategy, Entries, done, pick, reply, none, entry, strategy_of, strategy_of_layer, entries_of, entries_of_reply}
use Rattle.tt_proof.specs.StrategyLaws.{StrategyOfEquations}

-- `Done` is nothing more to play
pub strategy_of_done : strategy_of Done ≡ done
unfolding strategy_of
strategy_of_done = ap strategy_of (sym rolls-Done) ∙ fold-roll-Tree Strategy strategy_of_layer layer.Done

-- `Pick` is a turn and what its tree is
pub strategy_of_pick : (t : Turn) (b : Arc Tree Global) → strategy_of (Pick t b) ≡ pick t (strategy_of b.value)
unfolding strategy_of
strategy_of_pick t b = ap strategy_of (sym (rolls-Pick t b)) ∙ fold-roll-Tree Strategy strategy_of_layer (layer.Pick t b)

-- the strategies of a list of trees make the entries of the list
pub entries_map : (es : List (Turn × Tree)) → entries_of (map (λ e. (e.0, strategy_of e.1)) es) ≡ entries_of_reply es
entries_map [] = refl
entries_map (e ∷ es) = ap (λ r. entry e.0 (strategy_of e.1) r) (entries_map es)

-- `Reply` is a reply with the entries of its list
pub strategy_of_reply : (b : Arc (Vec (Turn × Tree) Global) Global) → strategy_of (Reply b) ≡ reply (entries_of_reply b.value.items)
unfolding strategy_of
strategy_of_reply b =
    ap strategy_of (sym (rolls-Reply b)) ∙ fold-roll-Tree Strategy strategy_of_layer (layer.Reply b) ∙ ap reply (entries_map b.value.items)

-- so each form of a tree is the strategy that the law says
pub trees_are_strategies : StrategyOfEquations
trees_are_strategies = record { of_done = strategy_of_done; of_pick = strategy_of_pick; of_reply = strategy_of_reply }

-- the list, and then es
abbrev pub before : List (Turn × Tree) → Entries → Entries
before [] es = es
before (e ∷ list) es = entry e.0 (strategy_of e.1) (before list es)

-- with none behind, these are the entries of the list
pub before_none : (list : List (Turn × Tree)) → before list none ≡ entries_of_reply list
before_none [] = refl
before_none (e ∷ list) = ap (λ r. entry e.0 (strategy_of e.1) r) (before_none list)

-- one more in the list is one more in front of es
pub before_push : (list : List (Turn × Tree)) (e : Turn × Tree) (es : Entries) →
    before (list ++ e ∷ []) es ≡ before list (entry e.0 (strategy_of e.1) es)
before_push [] e es = refl
before_push (x ∷ list) e es = ap (λ r. entry x.0 (strategy_of x.1) r) (before_push list e es)
