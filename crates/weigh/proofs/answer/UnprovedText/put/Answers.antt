-- A none is put.
use Rattle.std.proofs.Math.Path.{sym}
use Rattle.text.proofs.Writing.{put_as}
use Rattle.weigh.proofs.Answering.{none_put}
use Rattle.weigh.proofs.answer.UnprovedText.put.Goals as goal

pub returns : goal.returns
returns c = λ t (j, n, sides, is). put_as (sym is) (none_put j _ n _ (c.put_none.ensures j.left j.right sides.left_run sides.right_run))
