use Rattle.brs_parser.proofs.nesting.+nesting.Given as goal

abbrev pub decreases-inside : goal.decreases-inside
decreases-inside l = l.depth
