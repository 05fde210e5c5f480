-- What a program prints.
use Rattle.std.specs.Prelude.{ℕ, ◌-◌, ◌≤◌, ◌<◌, ◌≡◌, List, length, take}
use Rattle.text.specs.Answer.{refused, printed}
use Rattle.text.specs.Put.{Put}

-- the text is the first r bytes of the output
pub record Prints (text out : List ℕ) (r : ℕ) : Type 0 where
  pub fits : r ≤ length out
  pub front : take r out ≡ text

-- of `printed`: from 100 on the number is that of an answer, which stands in the output; below it is a refusal's, whose text is put there
pub record PrintsReturned (number : ℕ) (out : List ℕ) (r : ℕ) (out' : List ℕ) : Type 0 where
  pub answer : 100 ≤ number → (r ≡ number - 100) × (out' ≡ out)
  pub refusal : number < 100 → Put (printed (refused number)) out 0 r out'
