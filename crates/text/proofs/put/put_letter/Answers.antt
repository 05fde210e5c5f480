-- `put_letter` meets its contract.
use Rattle.std.proofs.Common.{rules}
use Rattle.text.proofs.Items.{put_digit}
use Rattle.text.proofs.put.put_letter.Goals as goal

pub returns-then-n-lt10 : goal.returns-then-n-lt10
returns-then-n-lt10 c = search (put_digit, rules)
