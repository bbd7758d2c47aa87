-- What is found on the parts of an outline.
use Rattle.tt_game.specs.Game.{State, after}
use Rattle.tt_game.specs.declared.frame.Frame.{Frame}
use Rattle.tt_game.specs.declared.frame.Side.{Side}
use Rattle.tt_game.specs.declared.turns.Turn.{Turn}
use Rattle.tt_parts.specs.declared.outline_replay.ReplayResult.{ReplayResult}
use Rattle.tt_parts.specs.Outlines.{Outline, Branches}
use Rattle.tt_parts.specs.SharedParts.{NamedFootprints, IsReplayOfPick, IsReplayOfBranch, IsReplayOfReply, IsReplayOfBranchesAndRepeats, IsReplayOfOutline}
use Rattle.tt_parts.specs.SharedParts.{IsReplayOfBranches, with_unreached_names, with_unreached_branch_names}

module _ (side : Side) (f : Frame) where
  abbrev pub FindsPick : NamedFootprints → Turn → Outline → State → ReplayResult → NamedFootprints → Type 0
  FindsPick ns t o s r ms = IsReplayOfPick side f s (IsReplayOfOutline side f ns o (after f s t)) (with_unreached_names ns o) r ms t

  abbrev pub FindsBranch : NamedFootprints → Turn → Outline → State → ReplayResult → NamedFootprints → Type 0
  FindsBranch ns t o s r ms = IsReplayOfBranch side f s (IsReplayOfOutline side f ns o (after f s t)) (with_unreached_names ns o) r ms t

  abbrev pub FindsTogether : NamedFootprints → Branches → State → ReplayResult → NamedFootprints → Type 0
  FindsTogether ns bs s = IsReplayOfBranchesAndRepeats side f s (IsReplayOfBranches side f ns bs s)

  abbrev pub FindsReply : NamedFootprints → Branches → State → ReplayResult → NamedFootprints → Type 0
  FindsReply ns bs s r ms = IsReplayOfReply side f s (FindsTogether ns bs s) (with_unreached_branch_names ns bs) r ms bs
