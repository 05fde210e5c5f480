-- An answer with a path is put.
use Rattle.std.proofs.Math.Path.{sym, ap}
use Rattle.text.proofs.Writing.{put_as}
use Rattle.weigh.specs.Answering.{totals_text}
use Rattle.weigh.proofs.Answering.{path_put}
use Rattle.weigh.proofs.answer.ReturnedText.put.Goals as goal

pub returns : goal.returns
returns c =
    λ t (j, xs, n, sides, walk, total, is).
    put_as (sym is)
    (path_put j c.args.self.now.totals.atleast xs _ n
    (rw (← c.verdict.ensures)
    (c.put_proved.ensures j.left j.right xs _ sides.left_run sides.right_run sides.known.sides.small_left sides.known.sides.small_right walk
    (ap (λ k. totals_text k c.args.self.now.totals.atleast) (sym total)))))
