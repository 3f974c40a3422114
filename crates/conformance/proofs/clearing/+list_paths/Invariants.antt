use Rattle.conformance.proofs.clearing.+list_paths.Given as goal

abbrev pub decreases-list_paths : goal.decreases-list_paths
decreases-list_paths g l = l.arcs
