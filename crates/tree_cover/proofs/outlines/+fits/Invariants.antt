use Rattle.tree_cover.proofs.outlines.+fits.Given as goal

abbrev pub decreases-fits : goal.decreases-fits
decreases-fits l = l.pattern
