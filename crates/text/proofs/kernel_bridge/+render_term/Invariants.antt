-- The measure is the length of the run.
use lib.ListN.{length}
use Rattle.text.proofs.kernel_bridge.+render_term.Given as goal

abbrev pub decreases-render_term : goal.decreases-render_term
decreases-render_term l = length l.s.now
