mod ClosingLemmas
mod EnclosedLemmas
mod ReachedLemmas
mod RegionLemmas
mod SetLemmas
mod StandLemmas
mod WallLemmas
