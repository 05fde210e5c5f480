-- `put_item` meets its contract.
use Rattle.text.proofs.Items.{put_letter_item, put_sign_item}
use mathlib.Core.Path.{ap}
use mathlib.Core.List.{[], ◌∷◌}
use Rattle.text.proofs.Writing.{put_as}
use Rattle.text.proofs.put.put_item.Goals as goal

pub returns-then-n-lt-ZERO : goal.returns-then-n-lt-ZERO
returns-then-n-lt-ZERO c = put_letter_item c.args.n c.if-n-lt-ZERO.true c.put_letter.ensures

pub returns-else-n-lt-ZERO : goal.returns-else-n-lt-ZERO
returns-else-n-lt-ZERO c =
    put_sign_item c.args.n c.if-n-lt-ZERO.false (put_as (ap (λ b. b ∷ []) c.sign_of.ensures) c.put_byte.ensures)
