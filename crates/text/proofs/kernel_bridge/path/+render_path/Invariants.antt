-- The measure is the number of lines.
use lib.ListN.{length}
use Rattle.text.proofs.kernel_bridge.path.+render_path.Given as goal

abbrev pub decreases-render_path : goal.decreases-render_path
decreases-render_path l = length l.lines.path.now
