use Rattle.conformance.proofs.closing.+list_walks.Given as goal

abbrev pub decreases-list_walks : goal.decreases-list_walks
decreases-list_walks g l = l.steps
