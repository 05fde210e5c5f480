-- The measure is how many numbers there are.
use Rattle.words.proofs.candidate.+permutation.Given as goal

abbrev pub decreases-permutation : goal.decreases-permutation
decreases-permutation l = l.k
