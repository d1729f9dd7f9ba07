mod Blocks
mod CellKinds
mod KeptCells
mod Outcomes
mod Scans
mod Words
