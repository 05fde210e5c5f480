-- `limit` meets its contract: the number, or one above the largest.
use Rattle.std.proofs.Common.{Ok, Err, ap, ◌∙◌}
use Rattle.text.specs.declared.job.NumberError.TheVariants.{TooLarge, Malformed}
use Rattle.text.proofs.Layouts.{limit_told}
use Rattle.text.proofs.job.lines.limit.Goals as goal

pub returns-in-Ok : goal.returns-in-Ok
returns-in-Ok c = limit_told c.args.text.now _ (Ok _) c.number.ensures c.in-Ok.is

pub returns-in-Err-TooLarge : goal.returns-in-Err-TooLarge
returns-in-Err-TooLarge c =
    limit_told c.args.text.now _ (Err TooLarge) c.number.ensures (c.in-Err-TooLarge.is ∙ ap Err c.in-Err-TooLarge.field-0-is)

pub returns-in-Err-Malformed : goal.returns-in-Err-Malformed
returns-in-Err-Malformed c =
    limit_told c.args.text.now _ (Err Malformed) c.number.ensures (c.in-Err-Malformed.is ∙ ap Err c.in-Err-Malformed.field-0-is)
