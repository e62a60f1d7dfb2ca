-- Each call asks for one read less.
use Rattle.bundle_tree_rebuild.proofs.ahead.+behind_reads.Given as goal

abbrev pub decreases-behind_reads : goal.decreases-behind_reads
decreases-behind_reads l = l.count
