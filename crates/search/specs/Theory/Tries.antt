-- The search of a job tries its searchable lines.
use Rattle.std.specs.Prelude.{◌≡◌, ◌⊎◌, Bool, true, false, List}
use Rattle.std.proofs.Common.{inl, inr}
use Rattle.terms.specs.Term.{Term, same}
use Rattle.terms.specs.Theory.Reflects.{Reflects}
use Rattle.terms.specs.Theory.TermOrder.{same_reflects}
use Rattle.search.specs.Law.{Law}
use Rattle.search.specs.Line.{Line, Limits, results}
use Rattle.search.specs.Path.{Searchable}
use Rattle.search.specs.Theory.Gives.{Gives}
use Rattle.search.specs.Theory.Results.{results_sound, results_complete}
use Rattle.search.specs.Theory.Frontier.{Tries}

pub tries : (ws : List Law) (m : Limits) → Tries (Searchable ws m) (results ws m)
tries ws m = record { sound = λ t x k. (results_sound ws m t x k).0; complete = λ t x h. go t x h (same x.result t) (same_reflects x.result t) }
  where
    go : (t : Term) (x : Line) → Searchable ws m t x → (b : Bool) → Reflects (x.result ≡ t) b → (x.result ≡ t) ⊎ Gives (results ws m t) x.result
    go t x h true e = inl e
    go t x h false e = inr (results_complete ws m t x h e)
