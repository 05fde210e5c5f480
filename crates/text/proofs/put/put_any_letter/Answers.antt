-- `put_any_letter` meets its contract.
use Rattle.std.proofs.Common.{rules}
use Rattle.text.proofs.Items.{put_v, put_c}
use Rattle.text.proofs.put.put_any_letter.Goals as goal

pub returns-then-n-lt-FIXED : goal.returns-then-n-lt-FIXED
returns-then-n-lt-FIXED c = search (put_v, rules)

pub returns-else-n-lt-FIXED : goal.returns-else-n-lt-FIXED
returns-else-n-lt-FIXED c = search (put_c, rules)
