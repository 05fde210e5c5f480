-- `key_line` meets its contract.
use Rattle.std.proofs.Common.{rules}
use Rattle.text.specs.Bytes.{ascii}
use Rattle.catalogue.specs.Texts.{key_name}
use Rattle.catalogue.specs.declared.kind.Key.TheVariants.{Raw, Words}
use Rattle.catalogue.proofs.Reading.{no_value, key_there, key_unknown}
use Rattle.catalogue.proofs.read.key_line.Goals.{then-eq, else-eq+then-eq-2}
use Rattle.catalogue.proofs.read.key_line.Goals as goal

pub returns-in_err-value : goal.returns-in_err-value
unfolding ascii
returns-in_err-value c = rw c.from_residual.ensures (no_value _ c.in_err-value.ensures)

pub returns-else-eq-2 : goal.returns-else-eq-2
unfolding ascii key_name
returns-else-eq-2 c = key_unknown _ c.in_ok-value.ensures (search rules) (search rules)

pub returns : goal.returns
unfolding ascii key_name
returns c =
    elim c.if-eq.branch [ then-eq w ↦ rw w.key-is (key_there _ c.in_ok-value.ensures Raw (search rules)) | else-eq+then-eq-2 w ↦ rw w.key-is (key_there _ c.in_ok-value.ensures Words (search rules)) ]
