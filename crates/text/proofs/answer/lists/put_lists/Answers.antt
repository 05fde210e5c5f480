-- `put_lists` meets its contract.
use mathlib.Core.Path.{refl}
use Rattle.text.specs.Bytes.{ascii}
use Rattle.text.specs.Answer.{yes_no}
use Rattle.text.specs.Words.{word_list}
use Rattle.text.proofs.WordLines.{put_lists}
use Rattle.text.proofs.answer.lists.put_lists.Goals as goal

pub returns : goal.returns
unfolding ascii
returns c =
    λ us vs u v.
    put_lists c.args.same us vs (c.line.ensures (yes_no c.args.same) refl) (c.line-2.ensures (word_list us) (us, u, refl)) (c.line-3.ensures (word_list vs) (vs, v, refl))
