-- What a call of CHECK leaves is what the program prints.
use Rattle.std.proofs.Common.{◌≡◌, ℕ, List, length, ap, arith}
use Rattle.text.specs.Claims.{CallClaims}
use Rattle.text.specs.Prints.{Prints, PrintsReturned}
use Rattle.text.proofs.Programs as programs
use Rattle.checking.specs.Check.{check, program}
use Rattle.checking.specs.Claims.{check_numbers, CheckCall}
use Rattle.checking.specs.Theory.Entry.{check_claims}

module _ (bs : List ℕ) {out out' : List ℕ} {r : ℕ} (room : length out ≡ 64) (checked : CheckCall bs out r out') where
  enough : check bs (length out) ≡ check bs 64
  enough = ap (check bs) room

  claims : CallClaims check_numbers (check bs (length out)) out r out'
  claims = (check_claims bs out checked).call

  pub call_prints : {m : ℕ} {out'' : List ℕ} → PrintsReturned r out' m out'' → Prints (program bs) out'' m
  unfolding program
  call_prints p = rw (← enough) (programs.call_prints claims checked.number (omega arith) p)
