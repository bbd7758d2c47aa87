-- The values of a property as the code keeps them. For private contracts and proofs.
use Rattle.std.specs.Prelude.{ℕ, ◌∷◌, [], List}
use Rattle.tt_sgf.specs.declared.nodes.values.ValueStorage.{ValueStorage}
use Rattle.tt_sgf.specs.declared.nodes.values.ValueStorage.TheVariants as rows

-- none, the one, or those of the block
abbrev pub row_values : ValueStorage → List (List ℕ)
row_values rows.None = []
row_values (rows.One value) = value ∷ []
row_values (rows.Many values) = values.items
