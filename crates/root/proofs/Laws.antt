-- The laws of the root. Assumes nothing.
use Rattle.root.specs.Laws.{Laws}
use Rattle.root.proofs.Nearest as nearest

pub laws : Laws
laws = record { nearest_root = nearest.nearest_root; root_unique = nearest.root_unique }
