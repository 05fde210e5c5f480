-- The measure is how far the place is.
use Rattle.text.proofs.kernel_bridge.path.+render_step.Given as goal

abbrev pub decreases-render_step : goal.decreases-render_step
decreases-render_step l = l.place
