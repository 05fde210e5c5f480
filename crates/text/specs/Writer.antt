-- What a writer is once a text is put.
use Rattle.std.specs.Prelude.{ℕ, ◌≡◌, List, length}
use denote.Ref.{at_last}
use Rattle.text.specs.Put.{Put}
use Rattle.text.specs.declared.writer.Writer.{Writer}

-- the same output, with the text from the writer's place on, as far as it fits, and the place after it
pub record Writes (text : List ℕ) (w w' : Writer) : Type 0 where
  pub put : Put text w.buf.now w.at w'.at w'.buf.now
  pub same : w'.buf ≡ at_last w.buf w'.buf.now

-- the second writer has the first one's output, with as many bytes
abbrev pub SameOutput : Writer → Writer → Type 0
SameOutput w r = (r.buf ≡ at_last w.buf r.buf.now) × (length r.buf.now ≡ length w.buf.now)
