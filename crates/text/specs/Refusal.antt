-- The numbers of the refusals, and what an entry returns.
use Rattle.std.specs.Prelude.{ℕ, ◌+◌, Result, Ok, Err}
use Rattle.text.specs.declared.refusal.Refusal.{Refusal}
use Rattle.text.specs.declared.refusal.Refusal.TheVariants as is

-- the number of a refusal
abbrev pub number_of : Refusal → ℕ
number_of is.Malformed = 1
number_of is.NoTerm = 2
number_of is.TooLarge = 3
number_of is.TooManyVariables = 4
number_of is.LimitOver = 5
number_of is.SameSides = 6
number_of is.OutOfSlots = 7
number_of is.ShortOutput = 8
number_of is.TooManyRights = 9
number_of is.RightBeforeLeft = 10
number_of is.NoSteps = 11
number_of is.WrongSteps = 12
number_of is.NumberTaken = 13
number_of is.NumberUnknown = 14
number_of is.CatalogueFull = 15
number_of is.WeightOver = 16
number_of is.NoCatalogue = 99

-- 100 plus what was answered, or the refusal's number
abbrev pub number_returned : Result ℕ Refusal → ℕ
number_returned (Ok n) = 100 + n
number_returned (Err e) = number_of e
