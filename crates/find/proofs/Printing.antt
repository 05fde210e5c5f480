-- What a call of FIND leaves is what the program prints.
use Rattle.std.proofs.Common.{◌≡◌, ℕ, List, length, ap, ◌∙◌, arith}
use Rattle.search.specs.Searched.{slots_of}
use Rattle.text.specs.Find.{find}
use Rattle.text.specs.Entry.{FindCall, program}
use Rattle.text.specs.Claims.{find_numbers, CallClaims}
use Rattle.text.specs.Prints.{Prints, PrintsReturned}
use Rattle.text.specs.Theory.Entry.{find_claims}
use Rattle.text.proofs.Programs as programs

module _ {bs out work out' work' : List ℕ} {r : ℕ} (room : length out ≡ 32768) (slots : length work ≡ 16000) (found : FindCall bs out work r out' work') where
  -- 16,000 numbers are 400 slots
  enough : find bs (slots_of (length work)) (length out) ≡ find bs 400 32768
  enough = ap (λ n. find bs (slots_of n) (length out)) slots ∙ ap (find bs 400) room

  claims : CallClaims find_numbers (find bs (slots_of (length work)) (length out)) out r out'
  claims = (find_claims bs out found).call

  pub call_prints : {m : ℕ} {out'' : List ℕ} → PrintsReturned r out' m out'' → Prints (program bs) out'' m
  unfolding program
  call_prints p = rw (← enough) (programs.call_prints claims found.call.number (omega arith) p)
