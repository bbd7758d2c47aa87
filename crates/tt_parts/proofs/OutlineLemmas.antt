-- What outline a value is, at each variant.
use Rattle.std.proofs.Common.{◌≡◌, Bool, ℕ, List, [], ◌∷◌, ◌∙◌, refl, sym, ap, Vec, Global, map}
use Rattle.std.specs.declared.sync.Arc.{Arc}
use Rattle.tt_game.specs.declared.turns.Turn.{Turn}
use Rattle.tt_parts.specs.declared.outlines.Outline as form
use Rattle.tt_parts.specs.declared.outlines.Outline.TheVariants.{rolls-Done, rolls-Pick, rolls-Reply, rolls-Part}
use Rattle.tt_parts.specs.declared.outlines.Outline.TheOpen as layer
use Rattle.tt_parts.specs.Outlines.{Outline, ended, picked, replied, part, branch, branches_of, branches_of_reply, outline_of, outline_of_layer}

pub outline_of_done : outline_of form.Done ≡ ended
unfolding outline_of
outline_of_done = ap outline_of (sym rolls-Done) ∙ form.fold-roll-Outline Outline outline_of_layer layer.Done

pub outline_of_pick : (n : Bool) (t : Turn) (b : Arc form.Outline Global) → outline_of (form.Pick n t b) ≡ picked n t (outline_of b.value)
unfolding outline_of
outline_of_pick n t b = ap outline_of (sym (rolls-Pick n t b)) ∙ form.fold-roll-Outline Outline outline_of_layer (layer.Pick n t b)

branches_map : (bs : List (Turn × form.Outline)) → branches_of (map (λ b. (b.0, outline_of b.1)) bs) ≡ branches_of_reply bs
branches_map [] = refl
branches_map (b ∷ bs) = ap (λ r. branch b.0 (outline_of b.1) r) (branches_map bs)

pub outline_of_reply : (n : Bool) (b : Arc (Vec (Turn × form.Outline) Global) Global) → outline_of (form.Reply n b) ≡ replied n (branches_of_reply b.value.items)
unfolding outline_of
outline_of_reply n b =
    ap outline_of (sym (rolls-Reply n b)) ∙ form.fold-roll-Outline Outline outline_of_layer (layer.Reply n b) ∙ ap (replied n) (branches_map b.value.items)

pub outline_of_part : (k : ℕ) → outline_of (form.Part k) ≡ part k
unfolding outline_of
outline_of_part k = ap outline_of (sym (rolls-Part k)) ∙ form.fold-roll-Outline Outline outline_of_layer (layer.Part k)
